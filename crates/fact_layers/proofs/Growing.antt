-- Bases with one layer more, and with their first layers only.
use Rattle.std.proofs.Common.{◌≡◌, ◌∙◌, ℕ, zero, suc, ◌+◌, ◌<◌, ◌≤◌, ◌^◌, List, [], ◌∷◌, ◌++◌, length, take, drop, Some, refl, sym, ap, subst, arith, append_assoc, append-nil, inl, inr}
use Rattle.std.specs.Prelude.{slice_get}
use Rattle.std.proofs.lemmas.List.{length-append, length-take-le, take-append-le, take_all, take-append-drop}
use Rattle.std.proofs.lemmas.List.Concat.{flat_map-cons}
use Rattle.std.proofs.lemmas.Grind.{flat_map-append}
use Rattle.std.proofs.lemmas.Option.{slice_get_within}
use Rattle.fact_table.specs.declared.types.Proved.{Proved}
use Rattle.fact_table.specs.Lists.{AreDistinctFacts, facts_of}
use Rattle.fact_layers.specs.Inside.Stacks.{Placed, all_items, IsBase}
use Rattle.fact_layers.proofs.Layered.{items_split, split_len}
use Rattle.fact_layers.proofs.Copied.{distinct_front}
use Rattle.fact_layers.proofs.Parts.{at_left, joined_cases, only_at}

-- the items with one layer more
pub items_more : (layers : List Placed) (one : Placed) → all_items (layers ++ one ∷ []) ≡ all_items layers ++ one.items
items_more layers one = flat_map-append (λ (l : Placed). l.items) layers (one ∷ []) ∙ ap (λ (xs : List Proved). all_items layers ++ xs) (flat_map-cons (λ (l : Placed). l.items) one [] ∙ append-nil one.items)

-- a base with one layer more
pub base_more : (layers : List Placed) (total : ℕ) (one : Placed) → IsBase layers total → one.start ≡ total → length layers < 16 → total + length one.items < 2 ^ 62 → AreDistinctFacts (facts_of (all_items layers ++ one.items)) → IsBase (layers ++ one ∷ []) (total + length one.items)
base_more layers total one h start shallow small distinct =
    let items = items_more layers one in
    let P : List Proved → Type 0 = λ xs. AreDistinctFacts (facts_of xs) in
    record {
      in_place = λ k layer at. elim (joined_cases layers (one ∷ []) k layer at) [
        | inl old ↦ h.in_place k layer old.1 ∙ ap (λ (ls : List Placed). length (all_items ls)) (sym (take-append-le k layers (one ∷ []) (omega (arith, old.0))))
        | inr rest ↦
            let new = only_at one layer rest.0 rest.2 in
            let last : k ≡ length layers = omega (arith, rest.1, new.0) in
            let front : take k (layers ++ one ∷ []) ≡ layers = take-append-le k layers (one ∷ []) (omega (arith, last)) ∙ take_all k layers (omega (arith, last)) in
            ap (λ (l : Placed). l.start) (sym new.1) ∙ start ∙ h.total_is ∙ ap (λ (ls : List Placed). length (all_items ls)) (sym front)
      ];
      total_is = omega (arith, h.total_is, ap length items, length-append (all_items layers) one.items);
      small = small;
      distinct = subst P (sym items) distinct;
      shallow = omega (arith, shallow, length-append layers (one ∷ []));
    }

-- the first of the first
take_first : {X : Type 0} (k n : ℕ) (xs : List X) → k ≤ n → take k (take n xs) ≡ take k xs
take_first zero n xs low = refl
take_first (suc k) zero xs low = absurd (omega (arith, low))
take_first (suc k) (suc n) [] low = refl
take_first (suc k) (suc n) (x ∷ xs) low = ap (λ (ys : List _). x ∷ ys) (take_first k n xs (omega (arith, low)))

-- the first layers of a base
pub base_front : (layers : List Placed) (total first : ℕ) → IsBase layers total → first ≤ length layers → IsBase (take first layers) (length (all_items (take first layers)))
base_front layers total first h within =
    let P : List Proved → Type 0 = λ xs. AreDistinctFacts (facts_of xs) in
    let long : length (take first layers) ≡ first = length-take-le first layers within in
    let whole : (k : ℕ) (layer : Placed) → slice_get (take first layers) k ≡ Some layer → slice_get layers k ≡ Some layer = λ k layer at.
    ap (λ (ls : List Placed). slice_get ls k) (sym (take-append-drop first layers))
    ∙ at_left (take first layers) (drop first layers) k (slice_get_within (take first layers) k layer at) ∙ at in
    record {
      in_place = λ k layer at.
          let low : k < first = omega (arith, long, slice_get_within (take first layers) k layer at) in
          h.in_place k layer (whole k layer at) ∙ ap (λ (ls : List Placed). length (all_items ls)) (sym (take_first k first layers (omega (arith, low))));
      total_is = refl;
      small = omega (arith, h.small, h.total_is, split_len layers first);
      distinct = distinct_front (all_items (take first layers)) (all_items (drop first layers)) (subst P (items_split layers first) h.distinct);
      shallow = omega (arith, long, within, h.shallow);
    }

-- the first layers and one of all other items
pub base_joined : (layers : List Placed) (total first start : ℕ) (top table : List Proved) → IsBase layers total → first ≤ length layers → first < 16 → total + length top < 2 ^ 62 → AreDistinctFacts (facts_of (all_items layers ++ top))
    → table ≡ all_items (drop first layers) ++ top → start ≡ length (all_items (take first layers)) → IsBase (take first layers ++ record { items = table; start = start } ∷ []) (total + length top)
base_joined layers total first start top table h within shallow small distinct is begins =
    let front = all_items (take first layers) in
    let rest = all_items (drop first layers) in
    let whole : all_items layers ++ top ≡ front ++ table = ap (λ (xs : List Proved). xs ++ top) (items_split layers first) ∙ append_assoc front rest top ∙ ap (λ (xs : List Proved). front ++ xs) (sym is) in
    let long : length front + length table ≡ total + length top = omega (arith, h.total_is, split_len layers first, ap length is, length-append rest top) in
    let P : List Proved → Type 0 = λ xs. AreDistinctFacts (facts_of xs) in
    let N : ℕ → Type 0 = λ n. IsBase (take first layers ++ record { items = table; start = start } ∷ []) n in
    subst N long (base_more (take first layers) (length front) (record { items = table; start = start }) (base_front layers total first h within) begins (omega (arith, shallow, length-take-le first layers within)) (omega (arith, long, small)) (subst P whole distinct))

-- and what it lists
pub joined_items : (layers : List Placed) (first start : ℕ) (top table : List Proved) → table ≡ all_items (drop first layers) ++ top → all_items (take first layers ++ record { items = table; start = start } ∷ []) ≡ all_items layers ++ top
joined_items layers first start top table is =
    let front = all_items (take first layers) in
    let rest = all_items (drop first layers) in
    items_more (take first layers) (record { items = table; start = start }) ∙ ap (λ (xs : List Proved). front ++ xs) is ∙ sym (append_assoc front rest top) ∙ ap (λ (xs : List Proved). xs ++ top) (sym (items_split layers first))

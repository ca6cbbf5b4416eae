-- Facts added one after another, and lists of distinct facts that are joined.
use Rattle.std.proofs.Common.{◌≡◌, ◌∙◌, ℕ, ◌+◌, ◌<◌, ◌≤◌, List, [], ◌∷◌, ◌++◌, length, get_or, take, drop, Some, sym, ap, subst, arith, append_assoc, append-nil, inl, inr}
use Rattle.std.specs.Prelude.{slice_get}
use Rattle.std.specs.Option.{option_map}
use Rattle.std.proofs.lemmas.List.{take-append-drop, take_more, map-append, length-map, length-append, length-take-le}
use Rattle.std.proofs.lemmas.Option.{slice_get_within, slice_get-map, get_or_from_slice_get}
use Rattle.fact_table.specs.declared.types.Fact.{Fact}
use Rattle.fact_table.specs.declared.types.Proved.{Proved}
use Rattle.fact_table.specs.Lists.{AreDistinctFacts, IsAbsent, facts_of}
use Rattle.fact_layers.specs.Inside.Stacks.{Placed, all_items}
use Rattle.fact_layers.proofs.Parts.{at_left, at_right, joined_cases, only_at}
use Rattle.fact_layers.proofs.Layered.{front_more, items_split, rest_split, front_len, split_len}

-- the facts of joined lists
pub facts_joined : (a b : List Proved) → facts_of (a ++ b) ≡ facts_of a ++ facts_of b
facts_joined a b = map-append (λ (item : Proved). item.fact) a b

-- the facts of a front are distinct
pub distinct_front : (a b : List Proved) → AreDistinctFacts (facts_of (a ++ b)) → AreDistinctFacts (facts_of a)
distinct_front a b h p q fact here there =
    let low : p < length (facts_of a) = slice_get_within (facts_of a) p fact here in
    let low2 : q < length (facts_of a) = slice_get_within (facts_of a) q fact there in
    let whole = facts_joined a b in
    h p q fact (ap (λ (xs : List Fact). slice_get xs p) whole ∙ at_left (facts_of a) (facts_of b) p low ∙ here) (ap (λ (xs : List Fact). slice_get xs q) whole ∙ at_left (facts_of a) (facts_of b) q low2 ∙ there)

-- and so are those of a rest
pub distinct_rest : (a b : List Proved) → AreDistinctFacts (facts_of (a ++ b)) → AreDistinctFacts (facts_of b)
distinct_rest a b h p q fact here there =
    let whole = facts_joined a b in
    let n = length (facts_of a) in
    let same : n + p ≡ n + q = h (n + p) (n + q) fact (ap (λ (xs : List Fact). slice_get xs (n + p)) whole ∙ at_right (facts_of a) (facts_of b) p ∙ here) (ap (λ (xs : List Fact). slice_get xs (n + q)) whole ∙ at_right (facts_of a) (facts_of b) q ∙ there) in
    omega (arith, same)

-- the next fact of a list is not among those before it
pub next_absent : (old more : List Proved) (n : ℕ) (item : Proved) → AreDistinctFacts (facts_of (old ++ more)) → slice_get more n ≡ Some item → IsAbsent (facts_of (old ++ take n more)) item.fact
next_absent old more n item distinct next p at =
    let low : n < length more = slice_get_within more n item next in
    let front = old ++ take n more in
    let whole : front ++ drop n more ≡ old ++ more = append_assoc old (take n more) (drop n more) ∙ ap (λ (xs : List Proved). old ++ xs) (take-append-drop n more) in
    let under : p < length (facts_of front) = slice_get_within (facts_of front) p item.fact at in
    let here : slice_get (facts_of (old ++ more)) p ≡ Some item.fact = ap (λ (xs : List Proved). slice_get (facts_of xs) p) (sym whole) ∙ ap (λ (xs : List Fact). slice_get xs p) (facts_joined front (drop n more)) ∙ at_left (facts_of front) (facts_of (drop n more)) p under ∙ at in
    let there : slice_get (facts_of (old ++ more)) (length old + n) ≡ Some item.fact = slice_get-map (λ (x : Proved). x.fact) (old ++ more) (length old + n) ∙ ap (option_map (λ (x : Proved). x.fact)) (at_right old more n ∙ next) in
    let same : p ≡ length old + n = distinct p (length old + n) item.fact here there in
    omega (arith, same, under, length-map front (λ (x : Proved). x.fact), length-append old (take n more), length-take-le n more (omega (arith, low)))

-- one fact more was added
pub copied_more : (old more : List Proved) (n : ℕ) (item : Proved) → slice_get more n ≡ Some item → (old ++ take n more) ++ item ∷ [] ≡ old ++ take (n + 1) more
copied_more old more n item next =
    let low : n < length more = slice_get_within more n item next in
    let is : get_or more n item ≡ item = get_or_from_slice_get more n item item next in
    append_assoc old (take n more) (item ∷ []) ∙ ap (λ (xs : List Proved). old ++ xs) (ap (λ (x : Proved). take n more ++ x ∷ []) (sym is) ∙ sym (take_more more n item low))

-- the next layer is distinct from what was copied
pub next_distinct : (layers : List Placed) (old table : List Proved) (k : ℕ) (d : Placed) → k < length layers → table ≡ old ++ all_items (take k layers) → AreDistinctFacts (facts_of (old ++ all_items layers)) → AreDistinctFacts (facts_of (table ++ (get_or layers k d).items))
next_distinct layers old table k d low are h =
    let one = (get_or layers k d).items in
    let rest = all_items (drop (k + 1) layers) in
    let whole : old ++ all_items layers ≡ (table ++ one) ++ rest = ap (λ (xs : List Proved). old ++ xs) (items_split layers k ∙ ap (λ (xs : List Proved). all_items (take k layers) ++ xs) (rest_split layers k d low)) ∙ sym (append_assoc old (all_items (take k layers)) (one ++ rest)) ∙ ap (λ (xs : List Proved). xs ++ (one ++ rest)) (sym are) ∙ sym (append_assoc table one rest) in
    let P : List Proved → Type 0 = λ xs. AreDistinctFacts (facts_of xs) in
    distinct_front (table ++ one) rest (subst P whole h)

-- a layer more was copied
pub layer_copied : (layers : List Placed) (old before after more : List Proved) (k : ℕ) (d : Placed) → k < length layers → before ≡ old ++ all_items (take k layers) → after ≡ before ++ more → more ≡ (get_or layers k d).items → after ≡ old ++ all_items (take (k + 1) layers)
layer_copied layers old before after more k d low was now is =
    now ∙ ap (λ (xs : List Proved). xs ++ more) was ∙ append_assoc old (all_items (take k layers)) more ∙ ap (λ (xs : List Proved). old ++ xs) (ap (λ (xs : List Proved). all_items (take k layers) ++ xs) (is ∙ sym (append-nil (get_or layers k d).items)) ∙ sym (front_more layers k d low))

-- room for the next layer
pub next_room : (layers : List Placed) (k : ℕ) (d : Placed) (was spare : ℕ) → k < length layers → length (all_items layers) ≤ was → was ≡ spare + length (all_items (take k layers)) → length (get_or layers k d).items ≤ spare
next_room layers k d was spare low room is = omega (arith, room, is, front_len layers k d low, split_len layers (k + 1))

-- a rest of the layers, and what comes after them, is distinct
pub rest_distinct : (layers : List Placed) (k : ℕ) (more : List Proved) → AreDistinctFacts (facts_of (all_items layers ++ more)) → AreDistinctFacts (facts_of (all_items (drop k layers) ++ more))
rest_distinct layers k more h =
    let front = all_items (take k layers) in
    let whole : all_items layers ++ more ≡ front ++ (all_items (drop k layers) ++ more) = ap (λ (xs : List Proved). xs ++ more) (items_split layers k) ∙ append_assoc front (all_items (drop k layers)) more in
    let P : List Proved → Type 0 = λ xs. AreDistinctFacts (facts_of xs) in
    distinct_rest front (all_items (drop k layers) ++ more) (subst P whole h)

-- one more fact that is nowhere
pub distinct_more : (a b : List Proved) (item : Proved) → AreDistinctFacts (facts_of (a ++ b)) → IsAbsent (facts_of (a ++ b)) item.fact → AreDistinctFacts (facts_of (a ++ (b ++ item ∷ [])))
distinct_more a b item h absent =
    let xs = facts_of (a ++ b) in
    let are : facts_of (a ++ (b ++ item ∷ [])) ≡ xs ++ item.fact ∷ [] = ap facts_of (sym (append_assoc a b (item ∷ []))) ∙ facts_joined (a ++ b) (item ∷ []) in
    let P : List Fact → Type 0 = λ ys. (p q : ℕ) (fact : Fact) → slice_get ys p ≡ Some fact → slice_get ys q ≡ Some fact → p ≡ q in
    let one = item.fact ∷ [] in
    subst P (sym are) (λ p q fact here there. elim (joined_cases xs one p fact here) [
      | inl at ↦ elim (joined_cases xs one q fact there) [
        | inl too ↦ h p q fact at.1 too.1
        | inr new ↦ absurd (absent p (at.1 ∙ ap Some (sym (only_at item.fact fact new.0 new.2).1)))
      ]
      | inr at ↦ elim (joined_cases xs one q fact there) [
        | inl too ↦ absurd (absent q (too.1 ∙ ap Some (sym (only_at item.fact fact at.0 at.2).1)))
        | inr new ↦ omega (arith, at.1, new.1, (only_at item.fact fact at.0 at.2).0, (only_at item.fact fact new.0 new.2).0)
      ]
    ])

-- a fact that is nowhere is not in the rest
pub absent_rest : (a b : List Proved) (fact : Fact) → IsAbsent (facts_of (a ++ b)) fact → IsAbsent (facts_of b) fact
absent_rest a b fact h p at =
    let n = length (facts_of a) in
    h (n + p) (ap (λ (xs : List Fact). slice_get xs (n + p)) (facts_joined a b) ∙ at_right (facts_of a) (facts_of b) p ∙ at)

-- the first facts over a list are distinct from it
pub distinct_cut : (a b : List Proved) (n : ℕ) → AreDistinctFacts (facts_of (a ++ b)) → AreDistinctFacts (facts_of (a ++ take n b))
distinct_cut a b n h =
    let whole : a ++ b ≡ (a ++ take n b) ++ drop n b = ap (λ (xs : List Proved). a ++ xs) (sym (take-append-drop n b)) ∙ sym (append_assoc a (take n b) (drop n b)) in
    let P : List Proved → Type 0 = λ xs. AreDistinctFacts (facts_of xs) in
    distinct_front (a ++ take n b) (drop n b) (subst P whole h)

-- The items of layers, one after another.
use Rattle.std.proofs.Common.{◌≡◌, ◌∙◌, ℕ, ◌+◌, ◌-◌, ◌<◌, ◌≤◌, List, [], ◌∷◌, ◌++◌, length, get_or, take, drop, Some, refl, sym, ap, subst, arith}
use Rattle.std.specs.Prelude.{slice_get}
use Rattle.std.proofs.lemmas.List.{take-append-drop, drop_more, take_more, length-append, length-map, take_all}
use Rattle.std.proofs.lemmas.List.Concat.{flat_map-cons}
use Rattle.std.proofs.lemmas.Grind.{flat_map-append}
use Rattle.std.proofs.lemmas.Option.{slice_get-get_or, slice_get_within}
use Rattle.fact_table.specs.declared.types.Fact.{Fact}
use Rattle.fact_table.specs.declared.types.Proved.{Proved}
use Rattle.fact_table.specs.Lists.{facts_of, IsAbsent}
use Rattle.fact_table.specs.Places.{IsFoundAt, IsLastBelow, IsClear}
use Rattle.fact_layers.specs.Inside.Stacks.{Placed, all_items, AreLayersInOrder, IsShifted}
use Rattle.fact_layers.proofs.Parts.{IsPart, middle_part, read_part, has_in, part_at, clear_part, last_in_part, clear_join, clear_past}

-- the items of the first layers and of the rest
pub items_split : (layers : List Placed) (k : ℕ) → all_items layers ≡ all_items (take k layers) ++ all_items (drop k layers)
items_split layers k = ap all_items (sym (take-append-drop k layers)) ∙ flat_map-append (λ (l : Placed). l.items) (take k layers) (drop k layers)

-- the items of one layer and of those after it
pub rest_split : (layers : List Placed) (k : ℕ) (d : Placed) → k < length layers → all_items (drop k layers) ≡ (get_or layers k d).items ++ all_items (drop (k + 1) layers)
rest_split layers k d low = ap all_items (drop_more layers k d low) ∙ flat_map-cons (λ (l : Placed). l.items) (get_or layers k d) (drop (k + 1) layers)

-- the items of the first layers, with one layer more
pub front_more : (layers : List Placed) (k : ℕ) (d : Placed) → k < length layers → all_items (take (k + 1) layers) ≡ all_items (take k layers) ++ ((get_or layers k d).items ++ [])
front_more layers k d low = ap all_items (take_more layers k d low) ∙ flat_map-append (λ (l : Placed). l.items) (take k layers) (get_or layers k d ∷ []) ∙ ap (λ (xs : List Proved). all_items (take k layers) ++ xs) (flat_map-cons (λ (l : Placed). l.items) (get_or layers k d) [])

-- how many items the first layers have, with one layer more
pub front_len : (layers : List Placed) (k : ℕ) (d : Placed) → k < length layers → length (all_items (take (k + 1) layers)) ≡ length (all_items (take k layers)) + length (get_or layers k d).items
front_len layers k d low =
    let whole = ap length (front_more layers k d low) ∙ length-append (all_items (take k layers)) ((get_or layers k d).items ++ []) in
    omega (arith, whole, length-append (get_or layers k d).items [])

-- where a layer begins
pub starts_at : (layers : List Placed) (k : ℕ) (d : Placed) → AreLayersInOrder layers → k < length layers → (get_or layers k d).start ≡ length (all_items (take k layers))
starts_at layers k d h low = h k (get_or layers k d) (slice_get-get_or layers k d low)

-- a layer's items are a part of the whole list
pub layer_part : (layers : List Placed) (k : ℕ) (d : Placed) → AreLayersInOrder layers → k < length layers → IsPart (all_items layers) (get_or layers k d).items (get_or layers k d).start
layer_part layers k d h low =
    let one = get_or layers k d in
    let split : all_items layers ≡ all_items (take k layers) ++ (one.items ++ all_items (drop (k + 1) layers)) = items_split layers k ∙ ap (λ (xs : List Proved). all_items (take k layers) ++ xs) (rest_split layers k d low) in
    let P : List Proved → Type 0 = λ xs. IsPart xs one.items (length (all_items (take k layers))) in
    let S : ℕ → Type 0 = λ n. IsPart (all_items layers) one.items n in
    subst S (sym (starts_at layers k d h low)) (subst P (sym split) (middle_part (all_items (take k layers)) one.items (all_items (drop (k + 1) layers))))

-- and so are its facts
pub layer_facts : (layers : List Placed) (k : ℕ) (d : Placed) → AreLayersInOrder layers → k < length layers → IsPart (facts_of (all_items layers)) (facts_of (get_or layers k d).items) (get_or layers k d).start
layer_facts layers k d h low = read_part (λ (item : Proved). item.fact) (all_items layers) (get_or layers k d).items (get_or layers k d).start (layer_part layers k d h low)

-- the next layer begins where a layer's facts end
pub next_start : (layers : List Placed) (k : ℕ) (d : Placed) → AreLayersInOrder layers → k < length layers → (get_or layers k d).start + length (facts_of (get_or layers k d).items) ≡ length (all_items (take (k + 1) layers))
next_start layers k d h low = omega (arith, starts_at layers k d h low, front_len layers k d low, length-map (get_or layers k d).items (λ (item : Proved). item.fact))

-- a layer without the fact
pub find_more : (layers : List Placed) (k : ℕ) (d : Placed) (fact : Fact) → AreLayersInOrder layers → k < length layers → IsAbsent (facts_of (get_or layers k d).items) fact
    → IsClear (λ (f : Fact). f) (facts_of (all_items layers)) fact 0 (length (all_items (take k layers))) → IsClear (λ (f : Fact). f) (facts_of (all_items layers)) fact 0 (length (all_items (take (k + 1) layers)))
find_more layers k d fact h low absent clear =
    let key : Fact → Fact = λ f. f in
    let one = get_or layers k d in
    let part : IsPart (facts_of (all_items layers)) (facts_of one.items) one.start = layer_facts layers k d h low in
    let start = starts_at layers k d h low in
    let next = next_start layers k d h low in
    clear_join key (facts_of (all_items layers)) fact 0 (length (all_items (take k layers))) (length (all_items (take (k + 1) layers))) clear
    (λ q above under has.
    let inside = has_in key (facts_of (all_items layers)) (facts_of one.items) one.start fact q part (omega (arith, above, start)) (omega (arith, under, next)) has in
    absent (q - one.start) (inside.1 ∙ ap Some inside.2))

-- a layer with the fact
pub find_here : (layers : List Placed) (k : ℕ) (d : Placed) (fact : Fact) (p : ℕ) → AreLayersInOrder layers → k < length layers → IsShifted (get_or layers k d).start (IsFoundAt (facts_of (get_or layers k d).items) fact) (Some p) → slice_get (facts_of (all_items layers)) p ≡ Some fact
find_here layers k d fact p h low found =
    let one = get_or layers k d in
    part_at (facts_of (all_items layers)) (facts_of one.items) one.start p fact (layer_facts layers k d h low) found.0 found.1

-- no layer with the fact
pub find_none : (layers : List Placed) (k : ℕ) (fact : Fact) → length layers ≤ k → IsClear (λ (f : Fact). f) (facts_of (all_items layers)) fact 0 (length (all_items (take k layers))) → IsAbsent (facts_of (all_items layers)) fact
find_none layers k fact all clear p at =
    let same : length (all_items (take k layers)) ≡ length (all_items layers) = ap (λ (ls : List Placed). length (all_items ls)) (take_all k layers all) in
    clear p (omega arith) (omega (arith, same, slice_get_within (facts_of (all_items layers)) p fact at, length-map (all_items layers) (λ (item : Proved). item.fact))) (fact, at, refl)

-- nothing is past the last layer
pub last_begins : {K : Type 0} (key : Fact → K) (layers : List Placed) (wanted : K) (below : ℕ) → IsClear key (facts_of (all_items layers)) wanted (length (all_items (take (length layers) layers))) below
last_begins key layers wanted below =
    let all : length (all_items (take (length layers) layers)) ≡ length (all_items layers) = ap (λ (ls : List Placed). length (all_items ls)) (take_all (length layers) layers (omega arith)) in
    clear_past key (facts_of (all_items layers)) wanted (length (all_items (take (length layers) layers))) below (omega (arith, all, length-map (all_items layers) (λ (item : Proved). item.fact)))

-- no layer with such a place
pub last_none : {K : Type 0} (key : Fact → K) (layers : List Placed) (k : ℕ) (wanted : K) (below : ℕ) → k ≤ 0 → IsClear key (facts_of (all_items layers)) wanted (length (all_items (take k layers))) below → IsClear key (facts_of (all_items layers)) wanted 0 below
last_none key layers k wanted below none clear p above under has =
    let zero_is : k ≡ 0 = omega (arith, none) in
    let nothing : length (all_items (take k layers)) ≡ 0 = ap (λ (n : ℕ). length (all_items (take n layers))) zero_is in
    clear p (omega (arith, nothing)) under has

-- a layer without such a place
pub last_more : {K : Type 0} (key : Fact → K) (layers : List Placed) (k : ℕ) (d : Placed) (wanted : K) (below : ℕ) → AreLayersInOrder layers → k < length layers → IsClear key (facts_of (get_or layers k d).items) wanted 0 (below - (get_or layers k d).start)
    → IsClear key (facts_of (all_items layers)) wanted (length (all_items (take (k + 1) layers))) below → IsClear key (facts_of (all_items layers)) wanted (length (all_items (take k layers))) below
last_more key layers k d wanted below h low none after =
    let one = get_or layers k d in
    let xs = facts_of (all_items layers) in
    let P : ℕ → Type 0 = λ n. IsClear key xs wanted n below in
    subst P (starts_at layers k d h low) (clear_part key xs (facts_of one.items) one.start wanted below (layer_facts layers k d h low) none (subst P (sym (next_start layers k d h low)) after))

-- a layer with such a place
pub last_here : {K : Type 0} (key : Fact → K) (layers : List Placed) (k : ℕ) (d : Placed) (wanted : K) (below p : ℕ) → AreLayersInOrder layers → k < length layers → IsShifted (get_or layers k d).start (IsLastBelow key (facts_of (get_or layers k d).items) wanted (below - (get_or layers k d).start)) (Some p)
    → IsClear key (facts_of (all_items layers)) wanted (length (all_items (take (k + 1) layers))) below → IsLastBelow key (facts_of (all_items layers)) wanted below (Some p)
last_here key layers k d wanted below p h low last after =
    let one = get_or layers k d in
    let xs = facts_of (all_items layers) in
    let P : ℕ → Type 0 = λ n. IsClear key xs wanted n below in
    last_in_part key xs (facts_of one.items) one.start wanted below p (layer_facts layers k d h low) last (subst P (sym (next_start layers k d h low)) after)

-- an item of a layer
pub item_here : (layers : List Placed) (k : ℕ) (d : Placed) (p : ℕ) (item : Proved) → AreLayersInOrder layers → k < length layers → (get_or layers k d).start ≤ p → slice_get (get_or layers k d).items (p - (get_or layers k d).start) ≡ Some item → slice_get (all_items layers) p ≡ Some item
item_here layers k d p item h low above at =
    let one = get_or layers k d in
    part_at (all_items layers) one.items one.start p item (layer_part layers k d h low) above at

-- the rest of the layers, from one on
pub rest_len : (layers : List Placed) (k : ℕ) (d : Placed) → k < length layers → length (all_items (drop k layers)) ≡ length (get_or layers k d).items + length (all_items (drop (k + 1) layers))
rest_len layers k d low = ap length (rest_split layers k d low) ∙ length-append (get_or layers k d).items (all_items (drop (k + 1) layers))

-- how many items the first layers and the rest have
pub split_len : (layers : List Placed) (k : ℕ) → length (all_items layers) ≡ length (all_items (take k layers)) + length (all_items (drop k layers))
split_len layers k = ap length (items_split layers k) ∙ length-append (all_items (take k layers)) (all_items (drop k layers))

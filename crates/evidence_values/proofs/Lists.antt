-- What is known of each item of a list.
use Rattle.std.proofs.Common.{◌≡◌, ◌<◌, ◌+◌, ◌^◌, ℕ, List, [], ◌∷◌, length, map, take, get_or, All, subst, arith, length-append}
use Rattle.std.specs.List.{AllByRecursion}
use Rattle.std.proofs.lemmas.List.{length-map}
use Rattle.std.proofs.lemmas.List.Elements.{All-more, All-append, All-from_recursion, recursion_from_All}
use Rattle.el_logic.specs.declared.types.Side.{Side}
use Rattle.el_logic.specs.declared.types.Side.TheVariants as side
use Rattle.ofn_axiom.specs.declared.types.Omitted.{Omitted}
use Rattle.ofn_axiom.specs.declared.types.SideOmitted.{SideOmitted}
use Rattle.evidence_lines.specs.Model.{AreElementNumbers, ArePairNumbers}
use Rattle.evidence_lines.specs.Omitted.{ArePlaceNumbers}
use Rattle.evidence_text.specs.EvidenceText.{of_side, omitted_list}

-- it holds of one item more
pub one_more : {X : Type 0} (P : X → Type 0) (xs : List X) (i : ℕ) (x : X) → i < length xs → x ≡ get_or xs i x
    → All P (take i xs) → P x → All P (take (i + 1) xs)
one_more P xs i x within is held here = All-more P xs i x within held (subst P is here)

-- it holds of each
pub each_one : {X : Type 0} (P : X → Type 0) (xs : List X) → All P xs → AllByRecursion P xs
each_one P xs h = recursion_from_All P xs h

-- elements, and pairs of them, are numbers of 32 bits
pub element_numbers : (xs : List ℕ) → AllByRecursion (λ number. number < 2 ^ 32) xs → AreElementNumbers xs
element_numbers [] h = tt
element_numbers (x ∷ xs) h = (h.0, element_numbers xs h.1)

pub pair_numbers : (ps : List (ℕ × ℕ)) → AllByRecursion (λ pair. (pair.0 < 2 ^ 32) × (pair.1 < 2 ^ 32)) ps → ArePairNumbers ps
pair_numbers [] h = tt
pair_numbers (p ∷ ps) h = (h.0.0, h.0.1, pair_numbers ps h.1)

-- what is left out of both documents is as much as of the one and of the other
pub omitted_count : (o : SideOmitted) → length (omitted_list o) ≡ length o.left + length o.right
omitted_count o =
    let both = length-append (map (of_side side.Left) o.left) (map (of_side side.Right) o.right) in
    omega (arith, both, length-map o.left (of_side side.Left), length-map o.right (of_side side.Right))

-- the places of one document
places_on : (s : Side) (os : List Omitted) → AllByRecursion (λ omitted. (omitted.place.line < 2 ^ 64) × (omitted.place.column < 2 ^ 64)) os
    → AllByRecursion ArePlaceNumbers (map (of_side s) os)
places_on s [] h = tt
places_on s (o ∷ os) h = (record { line = h.0.0; column = h.0.1 }, places_on s os h.1)

-- and of both
pub place_numbers : (o : SideOmitted) → AllByRecursion (λ omitted. (omitted.place.line < 2 ^ 64) × (omitted.place.column < 2 ^ 64)) o.left
    → AllByRecursion (λ omitted. (omitted.place.line < 2 ^ 64) × (omitted.place.column < 2 ^ 64)) o.right
    → AllByRecursion ArePlaceNumbers (omitted_list o)
place_numbers o left right = recursion_from_All ArePlaceNumbers (omitted_list o)
    (All-append ArePlaceNumbers (map (of_side side.Left) o.left) (map (of_side side.Right) o.right)
    (All-from_recursion ArePlaceNumbers (map (of_side side.Left) o.left) (places_on side.Left o.left left))
    (All-from_recursion ArePlaceNumbers (map (of_side side.Right) o.right) (places_on side.Right o.right right)))

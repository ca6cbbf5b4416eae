-- What the steps of a walk along a chain of properties show.
use Rattle.std.proofs.Common.{◌≡◌, ◌<◌, ◌≤◌, ℕ, List, [], ◌∷◌, All, Contains, take, get_or, length, sym, subst, refl, rules, arith}
use Rattle.std.proofs.lemmas.List.Elements.{All-contains, Contains-get_or}
use Rattle.el_logic.specs.Meaning.{IsInterp, AreRelated, AreChained, pairs_of}
use Rattle.el_logic.specs.declared.types.Interp.{Interp}
use Rattle.el_logic.proofs.ModelLaws.{listed}
use Rattle.el_logic.proofs.Walks.{all_passed}

-- what a pair that begins at an element must lead to, for the property to have the chain's pairs
abbrev pub LeadsOn : Interp → ℕ → ℕ → List ℕ → ℕ → ℕ × ℕ → Type 0
LeadsOn i start at rest upper p =
    p.0 ≡ at → (y : ℕ) → AreChained i rest p.1 y → AreRelated i upper start y

-- if each pair leads on, the whole chain does
pub each_leads : (i : Interp) (start at upper role k : ℕ) (rest chain : List ℕ) (pairs : List (ℕ × ℕ)) → chain ≡ role ∷ rest → pairs ≡ pairs_of i role → length pairs ≤ k
    → All (LeadsOn i start at rest upper) (take k pairs) → (y : ℕ) → AreChained i chain at y → AreRelated i upper start y
each_leads i start at upper role k rest chain pairs is own end all y chained =
    let found : AreChained i (role ∷ rest) at y = subst (λ roles. AreChained i roles at y) is chained in
    All-contains (LeadsOn i start at rest upper) pairs (at, found.0) (all_passed (LeadsOn i start at rest upper) pairs k end all)
    (subst (λ ps. Contains ps (at, found.0)) (sym own) found.1) refl y found.2

-- if the whole chain leads on, each pair does
pub pair_leads : (i : Interp) (start at upper role k : ℕ) (rest chain : List ℕ) (pairs : List (ℕ × ℕ)) → chain ≡ role ∷ rest → pairs ≡ pairs_of i role → k < length pairs
    → ((y : ℕ) → AreChained i chain at y → AreRelated i upper start y) → (get_or pairs k (0, 0)).0 ≡ at → (y : ℕ) → AreChained i rest (get_or pairs k (0, 0)).1 y → AreRelated i upper start y
pair_leads i start at upper role k rest chain pairs is own within leads begins y chained =
    leads y (subst (λ roles. AreChained i roles at y) (sym is) (
      (get_or pairs k (0, 0)).1,
      subst (λ ps. Contains ps (at, (get_or pairs k (0, 0)).1)) own
          (subst (λ z. Contains pairs (z, (get_or pairs k (0, 0)).1)) begins (Contains-get_or pairs k (0, 0) within)),
      chained,
    ))

-- pairs of an interpretation begin at elements
pub related_below : (classes roles : ℕ) (i : Interp) (r x y : ℕ) → IsInterp classes roles i → AreRelated i r x y → x < i.size
related_below classes roles i r x y fits related =
    (listed (λ p. (p.0 < i.size) × (p.1 < i.size)) i.roles r (x, y) fits.pairs_below related).0

-- a chain of one property or more begins at an element
pub chained_below : (classes roles : ℕ) (i : Interp) (chain : List ℕ) (x y : ℕ) → IsInterp classes roles i → ¬ (length chain ≡ 0) → AreChained i chain x y → x < i.size
chained_below classes roles i [] x y fits filled chained = absurd (filled refl)
chained_below classes roles i (r ∷ rest) x y fits filled chained = related_below classes roles i r x chained.0 fits chained.1

-- no property has the pairs of the empty composition, which relates each number to itself
pub empty_chain_fails : (classes roles : ℕ) (i : Interp) (chain : List ℕ) (upper : ℕ) → IsInterp classes roles i → length chain ≡ 0
    → ¬ ((x y : ℕ) → AreChained i chain x y → AreRelated i upper x y)
empty_chain_fails classes roles i [] upper fits empty holds =
    let outside : i.size < i.size = related_below classes roles i upper i.size i.size fits (holds i.size i.size refl) in
    absurd (omega (arith, outside))
empty_chain_fails classes roles i (r ∷ rest) upper fits empty holds = absurd (search (rules, empty))

-- a property is transitive exactly if it has the pairs of the chain of itself and itself
pub to_transitive : (i : Interp) (r : ℕ) → ((x y : ℕ) → AreChained i (r ∷ r ∷ []) x y → AreRelated i r x y)
    → (x y z : ℕ) → AreRelated i r x y → AreRelated i r y z → AreRelated i r x z
to_transitive i r holds x y z one two = holds x z (y, one, (z, two, refl))

pub from_transitive : (i : Interp) (r : ℕ) → ((x y z : ℕ) → AreRelated i r x y → AreRelated i r y z → AreRelated i r x z)
    → (x y : ℕ) → AreChained i (r ∷ r ∷ []) x y → AreRelated i r x y
from_transitive i r holds x y chained =
    subst (AreRelated i r x) chained.2.2 (holds x chained.0 chained.2.0 chained.1 chained.2.1)

-- what holds of each pair of a list holds of each two that it relates
pub of_related : (i : Interp) (P : ℕ × ℕ → Type 0) (role k : ℕ) (pairs : List (ℕ × ℕ)) → pairs ≡ pairs_of i role → length pairs ≤ k → All P (take k pairs) → (x y : ℕ) → AreRelated i role x y → P (x, y)
of_related i P role k pairs own end all x y related =
    All-contains P pairs (x, y) (all_passed P pairs k end all) (subst (λ ps. Contains ps (x, y)) (sym own) related)

-- a pair of the list is related
pub pair_related : (i : Interp) (role k : ℕ) (pairs : List (ℕ × ℕ)) → pairs ≡ pairs_of i role → k < length pairs → AreRelated i role (get_or pairs k (0, 0)).0 (get_or pairs k (0, 0)).1
pair_related i role k pairs own within = subst (λ ps. Contains ps (get_or pairs k (0, 0))) own (Contains-get_or pairs k (0, 0) within)

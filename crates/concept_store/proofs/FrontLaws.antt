-- Roles that are fronts of chains, in a reading by tests.
use Rattle.std.proofs.Common.{◌≡◌, ℕ, ◌+◌, ◌-◌, ◌<◌, ◌≤◌, Bool, true, ◌&&◌, nat_lt, List, [], ◌∷◌, ◌++◌, length, take, All, refl, sym, ap, subst, ◌∙◌, ⊎_elim, arith}
use Rattle.std.specs.Prelude.{◌↔◌, if◌then◌else◌}
use Rattle.std.proofs.lemmas.Bool.{and_parts, and_from, lt-ltb, le-ltb, cases_lt}
use Rattle.std.proofs.lemmas.List.Elements.{All-head, All-tail, All-nil, All-cons, All-take}
use Rattle.std.proofs.lemmas.List.{length-take-le}
use Rattle.el_logic.specs.declared.types.Interp.{Interp}
use Rattle.el_logic.specs.declared.types.Axiom.{Axiom}
use Rattle.el_logic.specs.declared.types.Axiom.TheVariants as A
use Rattle.el_logic.specs.Meaning.{IsInterp, AreChained}
use Rattle.concept_store.specs.Trees.{Tree}
use Rattle.concept_store.specs.Nodes.{over, all_over, part_count, parts_within}
use Rattle.concept_store.specs.Roles.{IsOver}
use Rattle.concept_store.specs.Reading.{AreLinked, Reaches, ReadsParts}
use Rattle.concept_store.specs.Inside.Tests.{is_pair, leads, chain_in, front_at, reading_by}
use Rattle.concept_store.proofs.ForestLaws.{IsForest}
use Rattle.concept_store.proofs.TestLaws.{chain_found, chain_finds}
use Rattle.concept_store.proofs.ReadingLaws.{is_related, related_is, related_within}

-- a chain of one property or more leads between elements
chain_within : (classes properties : ℕ) (i : Interp) → IsInterp classes properties i → (chain : List ℕ) → 1 ≤ length chain → (x y : ℕ) → AreChained i chain x y → (x < i.size) × (y < i.size)
chain_within classes properties i is [] filled x y chained = absurd (omega (arith, filled))
chain_within classes properties i is (r ∷ []) filled x y (z, related, same) =
    let within = related_within classes properties i is r x z related in (within.0, subst (λ w. w < i.size) same within.1)
chain_within classes properties i is (r ∷ s ∷ chain) filled x y (z, related, chained) =
    ((related_within classes properties i is r x z related).0, (chain_within classes properties i is (s ∷ chain) (omega arith) z y chained).1)

-- the front that a role of the first axiom stands for
front_here : (first : ℕ) (axiom' : Axiom) (axioms : List Axiom) (k : ℕ) → k < part_count axiom' → front_at first (axiom' ∷ axioms) (first + k) ≡ take (k + 2) (chain_in axiom')
front_here first axiom' axioms k below =
    subst (λ b. (if b then take (((first + k) - first) + 2) (chain_in axiom') else front_at (first + part_count axiom') axioms (first + k)) ≡ take (k + 2) (chain_in axiom'))
    (sym (lt-ltb (first + k) (first + part_count axiom') (omega (arith, below)))) (ap (λ n. take (n + 2) (chain_in axiom')) (less first k))
  where
    less : (first k : ℕ) → (first + k) - first ≡ k
    less first k = omega arith

-- and one past them
front_later : (first : ℕ) (axiom' : Axiom) (axioms : List Axiom) (r : ℕ) → first + part_count axiom' ≤ r → front_at first (axiom' ∷ axioms) r ≡ front_at (first + part_count axiom') axioms r
front_later first axiom' axioms r past =
    subst (λ b. (if b then take ((r - first) + 2) (chain_in axiom') else front_at (first + part_count axiom') axioms r) ≡ front_at (first + part_count axiom') axioms r)
    (sym (le-ltb r (first + part_count axiom') past)) refl

-- roles of LEFT stand for fronts of LEFT
pub front_of_left : (left right : List Axiom) (first r : ℕ) → first ≤ r → r < first + parts_within left → front_at first (left ++ right) r ≡ front_at first left r
front_of_left [] right first r from to = absurd (omega (arith, from, to))
front_of_left (axiom' ∷ left) right first r from to = ⊎_elim
    (λ below. by_first (lt-ltb r (first + part_count axiom') below))
    (λ past. front_later first axiom' (left ++ right) r past ∙ front_of_left left right (first + part_count axiom') r past (omega (arith, to)) ∙ sym (front_later first axiom' left r past))
    (cases_lt r (first + part_count axiom'))
  where
    by_first : nat_lt r (first + part_count axiom') ≡ true → front_at first (axiom' ∷ (left ++ right)) r ≡ front_at first (axiom' ∷ left) r
    by_first here =
        subst (λ b. (if b then take ((r - first) + 2) (chain_in axiom') else front_at (first + part_count axiom') (left ++ right) r)
        ≡ (if b then take ((r - first) + 2) (chain_in axiom') else front_at (first + part_count axiom') left r)) (sym here) refl

-- and those of RIGHT for fronts of RIGHT
pub front_of_right : (left right : List Axiom) (first r : ℕ) → first + parts_within left ≤ r → front_at first (left ++ right) r ≡ front_at (first + parts_within left) right r
front_of_right [] right first r from = ap (λ n. front_at n right r) (none first)
  where
    none : (first : ℕ) → first ≡ first + 0
    none first = omega arith
front_of_right (axiom' ∷ left) right first r from =
    front_later first axiom' (left ++ right) r (omega (arith, from)) ∙ front_of_right left right (first + part_count axiom') r (omega (arith, from))
    ∙ ap (λ n. front_at n right r) (more first (part_count axiom') (parts_within left))
  where
    more : (a b c : ℕ) → (a + b) + c ≡ a + (b + c)
    more a b c = omega arith

module _ (classes properties : ℕ) (i : Interp) (is : IsInterp classes properties i) (trees : List Tree) (forest : IsForest classes trees) (front : ℕ → List ℕ) where
  -- a chain of properties leads in the reading as in the interpretation
  chained : (chain : List ℕ) → All (λ r. r < properties) chain → (x y : ℕ) → Reaches (reading_by trees properties front i) chain x y → AreChained i chain x y
  chained [] small x y reached = reached
  chained (r ∷ chain) small x y (z, linked, reached) = (
    z,
    is_related classes properties i is trees forest front r x z (All-head (λ r. r < properties) r chain small) linked,
    chained chain (All-tail (λ r. r < properties) r chain small) z y reached,
  )

  reaches : (chain : List ℕ) → All (λ r. r < properties) chain → (x y : ℕ) → AreChained i chain x y → Reaches (reading_by trees properties front i) chain x y
  reaches [] small x y same = same
  reaches (r ∷ chain) small x y (z, related, rest) = (
    z,
    related_is classes properties i is trees forest front r x z (All-head (λ r. r < properties) r chain small) related,
    reaches chain (All-tail (λ r. r < properties) r chain small) z y rest,
  )

  -- a role past the properties is the front of a chain that it stands for
  front_linked : (r : ℕ) (chain : List ℕ) → properties ≤ r → front r ≡ chain → 1 ≤ length chain → All (λ s. s < properties) chain → (x y : ℕ)
      → AreLinked (reading_by trees properties front i) r x y ↔ Reaches (reading_by trees properties front i) chain x y
  front_linked r chain past same filled small x y =
      let tested : Bool → Type 0 = λ b. (if b then is_pair i r x y else leads i (front r) x y) ≡ true in (
        (λ linked. reaches chain small x y (chain_found i chain x y
            (subst (λ roles. leads i roles x y ≡ true) same
            (subst tested (le-ltb r properties past)
            (and_parts (nat_lt x i.size && nat_lt y i.size) (if nat_lt r properties then is_pair i r x y else leads i (front r) x y) linked).1)))),
        (λ reached. let led = chained chain small x y reached in let within = chain_within classes properties i is chain filled x y led in
            and_from (nat_lt x i.size && nat_lt y i.size) (if nat_lt r properties then is_pair i r x y else leads i (front r) x y)
            (and_from (nat_lt x i.size) (nat_lt y i.size) (lt-ltb x i.size within.0) (lt-ltb y i.size within.1))
            (subst tested (sym (le-ltb r properties past))
            (subst (λ roles. leads i roles x y ≡ true) (sym same) (chain_finds i chain x y led)))),
      )

  -- the parts of an axiom's chain
  axiom_parts : (first : ℕ) (axiom' : Axiom) → properties ≤ first → IsOver classes properties axiom'
      → ((k : ℕ) → k < part_count axiom' → front (first + k) ≡ take (k + 2) (chain_in axiom')) → ReadsParts (reading_by trees properties front i) (over trees first axiom')
  axiom_parts first (A.SubRole chain role) past names fronts = λ k x y longer.
      front_linked (first + k) (take (k + 2) chain) (omega arith) (fronts k (omega (arith, longer)))
      (subst (λ n. 1 ≤ n) (sym (length-take-le (k + 2) chain (omega (arith, longer)))) (omega arith))
      (All-take (λ s. s < properties) (k + 2) chain (All-tail (λ s. s < properties) role chain names.properties)) x y
  axiom_parts first (A.SubClass low high) past names fronts = tt
  axiom_parts first (A.Equivalent exprs) past names fronts = tt
  axiom_parts first (A.Disjoint exprs) past names fronts = tt
  axiom_parts first (A.EquivalentRoles roles) past names fronts = tt
  axiom_parts first (A.Transitive role) past names fronts = tt
  axiom_parts first (A.Reflexive role) past names fronts = tt
  axiom_parts first (A.Domain role expr) past names fronts = tt

  -- and those of axioms one after the other
  pub all_parts : (axioms : List Axiom) (first : ℕ) → properties ≤ first → All (IsOver classes properties) axioms
      → ((r : ℕ) → first ≤ r → r < first + parts_within axioms → front r ≡ front_at first axioms r) → All (ReadsParts (reading_by trees properties front i)) (all_over trees first axioms)
  all_parts [] first past names fronts = All-nil (ReadsParts (reading_by trees properties front i))
  all_parts (axiom' ∷ axioms) first past names fronts =
      All-cons (ReadsParts (reading_by trees properties front i)) (over trees first axiom') (all_over trees (first + part_count axiom') axioms)
      (axiom_parts first axiom' past (All-head (IsOver classes properties) axiom' axioms names)
      (λ k below. fronts (first + k) (omega arith) (omega (arith, below)) ∙ front_here first axiom' axioms k below))
      (all_parts axioms (first + part_count axiom') (omega (arith, past)) (All-tail (IsOver classes properties) axiom' axioms names)
      (λ r from to. fronts r (omega (arith, from)) (omega (arith, to)) ∙ front_later first axiom' axioms r from))

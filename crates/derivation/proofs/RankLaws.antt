-- Searching among ranks that ascend, and the axiom that a source names.
use Rattle.std.proofs.Common.{◌≡◌, ◌∙◌, ◌<◌, ◌≤◌, ◌↔◌, ℕ, Bool, false, IsTrue, List, Option, Result, Ok, Err, MatchResult, Contains, length, get_or, slice_get, Some, refl, ap, sym, subst, ⊎_elim, arith}
use Rattle.std.proofs.Math.Nat.{eq-or-lt_of_le}
use Rattle.std.proofs.lemmas.Bool.{cases_lt}
use Rattle.std.proofs.lemmas.List.Sorted.{searched}
use Rattle.std.proofs.lemmas.List.{get_or_default}
use Rattle.std.proofs.lemmas.Option.{slice_get-get_or}
use Rattle.std.specs.List.Sorted.{IsBinarySearchResult}
use Rattle.std.specs.Ordering.{nat_cmp}
use Rattle.std.specs.Result.{is_ok}
use Rattle.el_logic.specs.declared.types.Part.{Part}
use Rattle.concept_store.specs.declared.types.NodeAxiom.{NodeAxiom}
use Rattle.fact_table.specs.declared.types.Source.{Source}
use Rattle.el_rules.specs.Theories.{Theory, IsNumbered, IsSourceOf, IsNamed, IsNamedBy}
use Rattle.derivation.specs.Steps.{IsAscending}
use Rattle.derivation.specs.Inside.Answers.{IsTheOne}

-- numbers that ascend don't fall
not_falling : (xs : List ℕ) → IsAscending xs → (i j : ℕ) → i ≤ j → j < length xs → get_or xs i 0 ≤ get_or xs j 0
not_falling xs up i j le within =
    ⊎_elim (λ same. subst (λ k. get_or xs i 0 ≤ get_or xs k 0) same (omega arith)) (λ less. let rises = up i j less within in omega (arith, rises)) (eq-or-lt_of_le le)

-- a number that is below another at each side of a place isn't this other
apart_from : (number x k i : ℕ) → number ≡ x → (k < i → number < x) → (i ≤ k → x < number) → ⊥
apart_from number x k i same before past =
    ⊎_elim (λ here. let less = before here in omega (arith, less, same)) (λ here. let less = past here in omega (arith, less, same)) (cases_lt k i)

-- a test that was failed was not passed
pub is_failed : {passed : Bool} → passed ≡ false → IsTrue passed → ⊥
is_failed isnt is = cc

-- a search finds a number exactly if it is there
pub found : (xs : List ℕ) (x : ℕ) (r : Result ℕ ℕ) → IsBinarySearchResult (λ y. nat_cmp y x) xs r → IsAscending xs
    → MatchResult r (λ _. Contains xs x) (λ _. ¬ (Contains xs x))
found xs x (Ok i) result up =
    let here = searched xs x (Ok i) result (not_falling xs up) in (i, here.0, get_or_default xs i x 0 here.0 ∙ here.1)
found xs x (Err i) result up = λ held.
    let apart = searched xs x (Err i) result (not_falling xs up) in
    let same : get_or xs held.0 0 ≡ x = get_or_default xs held.0 0 x held.1 ∙ held.2 in
    absurd (apart_from (get_or xs held.0 0) x held.0 i same (λ before. apart.1 held.0 before) (λ past. apart.2 held.0 past held.1))

-- the place that a search finds has the number
pub found_at : (xs : List ℕ) (x : ℕ) (r : Result ℕ ℕ) → IsBinarySearchResult (λ y. nat_cmp y x) xs r → IsAscending xs
    → MatchResult r (λ k. slice_get xs k ≡ Some x) (λ _. Unit {0})
found_at xs x (Ok i) result up =
    let here = searched xs x (Ok i) result (not_falling xs up) in slice_get-get_or xs i 0 here.0 ∙ ap Some here.1
found_at xs x (Err i) result up = tt

-- so a test of what it found tells whether it is there
pub found_test : (xs : List ℕ) (x : ℕ) (r : Result ℕ ℕ) → IsBinarySearchResult (λ y. nat_cmp y x) xs r → IsAscending xs → IsTrue (is_ok r) ↔ Contains xs x
found_test xs x (Ok i) result up = ((λ _. found xs x (Ok i) result up), (λ _. refl))
found_test xs x (Err i) result up = ((λ passed. absurd (is_failed refl passed)), (λ held. absurd (found xs x (Err i) result up held)))

-- the one axiom that a source names is the one that it names of the part and the ranks
named_only : (theory : Theory) (part : Part) (ranks : List ℕ) (source : Source) (answer : Option NodeAxiom)
    → IsSourceOf part ranks source → IsTheOne answer (IsNamed theory source) → IsTheOne answer (IsNamedBy theory part ranks source)
named_only theory part ranks source answer of the = λ said. ((λ named. (the said).0 named.1), (λ is. (of, (the said).1 is)))

-- a row that is a source has one of the ranks
pub row_ranks : (part : Part) (ranks : List ℕ) (rank number : ℕ) → IsSourceOf part ranks (Source.Row rank number) → Contains ranks rank
row_ranks Part.Left ranks rank number of = of
row_ranks Part.Right ranks rank number of = of
row_ranks Part.Both ranks rank number of = of

-- a source that names an axiom of a list by its number
pub numbered_named : (theory : Theory) (part : Part) (ranks : List ℕ) (source form : Source) (axioms list : List NodeAxiom) (number : ℕ) (answer : Option NodeAxiom)
    → source ≡ form → axioms ≡ list → IsSourceOf part ranks source
    → (IsTheOne answer (IsNumbered list number) → IsTheOne answer (IsNamed theory form))
    → IsTheOne answer (IsNumbered axioms number) → IsTheOne answer (IsNamedBy theory part ranks source)
numbered_named theory part ranks source form axioms list number answer is same of reads the =
    named_only theory part ranks source answer of
    (subst (λ s. IsTheOne answer (IsNamed theory s)) (sym is)
    (reads (subst (λ l. IsTheOne answer (IsNumbered l number)) same the)))

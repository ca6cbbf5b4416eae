-- Facts that leave a node empty that must have a member.
use Rattle.std.proofs.Common.{IsTrue, false, ◌≡◌, ◌∙◌, ℕ, ◌+◌, ◌≤◌, List, ◌++◌, length, Contains, Some, refl, ap, sym, subst, ⊎_elim, arith}
use Rattle.std.specs.Prelude.{slice_get}
use Rattle.std.specs.Option.{option_map}
use Rattle.std.proofs.lemmas.Bool.{cases_lt}
use Rattle.std.proofs.lemmas.List.{length-map}
use Rattle.concept_store.specs.Roles.{Numbered}
use Rattle.std.proofs.lemmas.Option.{slice_get-map, slice_get_within, same_Some}
use Rattle.fact_table.specs.declared.types.Fact.{Fact}
use Rattle.fact_table.specs.declared.types.Fact.TheVariants.{Sub}
use Rattle.fact_table.specs.declared.types.Proved.{Proved}
use Rattle.fact_table.specs.Lists.{facts_of, IsAbsent}
use Rattle.case_file.specs.Cases.{CaseView, IsMustHave}
use Rattle.saturate.specs.Inside.Clashes.{IsClash, AreLiveWithin, AreLiveNodes}
use Rattle.saturate.proofs.Places.{was_at, place_of}

-- a test that failed did not pass
pub not_passed : IsTrue false → ⊥
not_passed passed = cc

-- as many facts as items
pub facts_length : (items : List Proved) → length (facts_of items) ≡ length items
facts_length items = length-map items (λ (item : Proved). item.fact)

-- the end of a loop over the nodes of a case
pub nodes_end : (case : CaseView) (store : Numbered) (end node : ℕ) → store ≡ case.store → end ≡ length store.nodes → end ≤ node → length case.store.nodes ≤ node
nodes_end case store end node same count past = subst (λ (s : Numbered). length s.nodes ≤ node) same (omega (arith, count, past))

-- no clash at one more place
pub live_more : (case : CaseView) (items : List Proved) (from place : ℕ) (item : Proved) → slice_get items place ≡ Some item → ¬ (IsClash case item.fact)
    → AreLiveWithin case from place (facts_of items) → AreLiveWithin case from (place + 1) (facts_of items)
live_more case items from place item at none live other past below (fact, is, clash) = ⊎_elim
    (λ less. live other past less (fact, is, clash))
    (λ more. let same : other ≡ place = omega arith in
    let here : slice_get (facts_of items) place ≡ Some fact = subst (λ k. slice_get (facts_of items) k ≡ Some fact) same is in
    let said : slice_get (facts_of items) place ≡ Some item.fact = slice_get-map (λ (i : Proved). i.fact) items place ∙ ap (option_map (λ (i : Proved). i.fact)) at in
    none (subst (IsClash case) (sym (same_Some item.fact fact (sym said ∙ here))) clash))
    (cases_lt other place)

-- none in a shorter stretch
pub live_less : (case : CaseView) (facts : List Fact) (from below less : ℕ) → less ≤ below → AreLiveWithin case from below facts → AreLiveWithin case from less facts
live_less case facts from below less fewer live place past under = live place past (omega arith)

-- none in two stretches
pub live_on : (case : CaseView) (facts : List Fact) (from middle below : ℕ) → AreLiveWithin case from middle facts → AreLiveWithin case middle below facts → AreLiveWithin case from below facts
live_on case facts from middle below first second place past under = ⊎_elim
    (λ less. first place past less)
    (λ more. second place more under)
    (cases_lt place middle)

-- the old places stay without one
pub live_stays : (case : CaseView) (facts more : List Fact) (from below : ℕ) → below ≤ length facts → AreLiveWithin case from below facts → AreLiveWithin case from below (facts ++ more)
live_stays case facts more from below within live place past under (fact, at, clash) = live place past under (fact, was_at facts more place fact (omega arith) at, clash)

-- one more node without a clash
pub nodes_more : (case : CaseView) (facts : List Fact) (node : ℕ) → (IsMustHave case node → ¬ (Contains facts (Sub node 1))) → AreLiveNodes case node facts → AreLiveNodes case (node + 1) facts
nodes_more case facts node here live other below must there = ⊎_elim
    (λ less. live other less must there)
    (λ more. let same : other ≡ node = omega arith in
    subst (λ n. IsMustHave case n → ¬ (Contains facts (Sub n 1))) (sym same) here must there)
    (cases_lt other node)

-- a fact at no place is not one of them
pub absent_not : (facts : List Fact) (fact : Fact) → IsAbsent facts fact → ¬ (Contains facts fact)
absent_not facts fact absent there = let at = place_of facts fact there in absent at.0 at.1

-- fewer nodes
pub nodes_less : (case : CaseView) (facts : List Fact) (count less : ℕ) → less ≤ count → AreLiveNodes case count facts → AreLiveNodes case less facts
nodes_less case facts count less fewer live node below = live node (omega arith)

-- no place has a clash, so no fact is one
pub live_facts : (case : CaseView) (facts : List Fact) (node : ℕ) → AreLiveWithin case 0 (length facts) facts → IsMustHave case node → ¬ (Contains facts (Sub node 1))
live_facts case facts node live must there =
    let at = place_of facts (Sub node 1) there in
    live at.0 (omega arith) (slice_get_within facts at.0 (Sub node 1) at.1) (Sub node 1, at.1, (refl, must))

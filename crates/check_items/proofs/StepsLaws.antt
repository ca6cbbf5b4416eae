-- Why the steps of a removed row are the first that are wrong.
use Rattle.std.proofs.Common.{◌≡◌, ℕ, zero, suc, ◌<◌, List, [], ◌∷◌, length, get_or, refl, ap, sym, subst, ◌∙◌, take, All, arith}
use Rattle.std.specs.Prelude.{Result, Ok, Err, Some, slice_get}
use Rattle.std.proofs.lemmas.Option.{slice_get_read}
use Rattle.el_logic.specs.declared.types.Part.{Part}
use Rattle.derivation.specs.declared.types.Step.{Step}
use Rattle.derivation.specs.declared.types.BadStep.{BadStep}
use Rattle.derivation.specs.declared.types.BadStep.TheVariants as Bad
use Rattle.derivation.specs.Steps.{IsAnswer}
use Rattle.case_file.specs.Cases.{CaseView}
use Rattle.evidence_text.specs.declared.types.Removed.{Removed}
use Rattle.valid_evidence.specs.Rows.{ranks_left, ranks_up_to, rank_of_row, steps_by_rank}
use Rattle.valid_evidence.specs.Items.{IsShownEmpty}
use Rattle.check_items.specs.Firsts.{IsFirstWithout}
use Rattle.check_items.specs.Bad.{IsBadPart}
use Rattle.check_items.specs.Inside.Stages.{IsRowAnswer, IsStepsFault, bad_row}

-- steps have one answer
abbrev pub OneAnswer : Type 0
OneAnswer = (case : CaseView) (part : Part) (ranks : List ℕ) (steps : List Step) (one other : Result (Unit {0}) BadStep)
    → IsAnswer case part ranks steps one → IsAnswer case part ranks steps other → one ≡ other

abbrev right : Result (Unit {0}) BadStep
right = Ok tt

abbrev wrong : BadStep → Result (Unit {0}) BadStep
wrong reason = Err reason

ok_is_err : (reason : BadStep) → right ≡ wrong reason → ⊥
ok_is_err reason h = cc

module _ (law : OneAnswer) (case : CaseView) (removed : List Removed) (place : ℕ) (one : Removed) (there : slice_get removed place ≡ Some one)
    (before : All (IsShownEmpty case removed) (take place removed)) where
  first : (reason : BadStep) → IsRowAnswer case removed one (Err reason) → IsFirstWithout (IsShownEmpty case removed) removed one
  first reason bad = record {
    place = place;
    there = there;
    before = before;
    fails = λ good. ok_is_err reason (law case Part.Both (ranks_up_to (ranks_left removed case.order) (rank_of_row case.order one.row))
        (steps_by_rank case.order one.steps) right (wrong reason) good bad);
  }

  -- so they are the first that are wrong
  pub steps_fault : (reason : BadStep) → IsRowAnswer case removed one (Err reason) → IsStepsFault case removed (bad_row one.row reason)
  steps_fault (Bad.Step number) bad = (one, refl, first (Bad.Step number) bad, bad)
  steps_fault Bad.Goal bad = (one, refl, first Bad.Goal bad, bad)

-- what the steps are answered, by the rank and the ranks that were found
pub row_answer : (case : CaseView) (removed : List Removed) (one : Removed) (answer : Result (Unit {0}) BadStep) (ranks : List ℕ) (steps : List Step) (rank : ℕ)
    → ranks ≡ ranks_up_to (ranks_left removed case.order) rank → rank ≡ rank_of_row case.order one.row → steps ≡ steps_by_rank case.order one.steps
    → IsAnswer case Part.Both ranks steps answer → IsRowAnswer case removed one answer
row_answer case removed one answer ranks steps rank ranks_are rank_is steps_are h =
    subst (λ (s : List Step). IsAnswer case Part.Both (ranks_up_to (ranks_left removed case.order) (rank_of_row case.order one.row)) s answer) steps_are
    (subst (λ (r : List ℕ). IsAnswer case Part.Both r steps answer) (ranks_are ∙ ap (ranks_up_to (ranks_left removed case.order)) rank_is) h)

-- an element at a place is one
pub same_there : {X : Type 0} (xs : List X) (place : ℕ) (one other : X) → place < length xs → one ≡ get_or xs place one → slice_get xs place ≡ Some other → one ≡ other
same_there xs place one other inside is there = inner (sym (slice_get_read xs (length xs) place one refl inside is) ∙ there)
  where
    inner : Some one ≡ Some other → one ≡ other
    inner h = cc

-- within a list there is an element
pub one_there : {X : Type 0} (xs : List X) (place : ℕ) → place < length xs → (x : X) × (slice_get xs place ≡ Some x)
one_there [] place inside = absurd (omega (arith, inside))
one_there (x ∷ xs) zero inside = (x, refl)
one_there (x ∷ xs) (suc place) inside = one_there xs place (omega (arith, inside))

-- what the steps of a part are answered, by the steps that were read
pub part_answer : (case other : CaseView) → other ≡ case → (part : Part) (steps given : List Step) → given ≡ steps_by_rank other.order steps
    → (answer : Result (Unit {0}) BadStep) → IsAnswer other part [] given answer → IsAnswer case part [] (steps_by_rank case.order steps) answer
part_answer case other same part steps given is answer h =
    subst (λ (v : CaseView). IsAnswer v part [] (steps_by_rank v.order steps) answer) same (subst (λ (s : List Step). IsAnswer other part [] s answer) is h)

-- why they are wrong
pub part_fault : (case : CaseView) (part : Part) (steps : List Step) (reason : BadStep) → IsAnswer case part [] (steps_by_rank case.order steps) (Err reason)
    → IsBadPart case part steps (bad_row 0 reason)
part_fault case part steps (Bad.Step number) bad = (refl, bad)
part_fault case part steps Bad.Goal bad = (refl, bad)

-- Turns one after another.
use Rattle.std.proofs.Common.{◌≡◌, ℕ, zero, suc, ◌+◌, ◌≤◌, ◌<◌, Bool, true, false, cond, List, [], ◌∷◌, ◌++◌, length, All, refl, sym, ap, ◌∙◌, subst, arith, ⊎_elim, inl, inr}
use Rattle.std.proofs.lemmas.List.{append_assoc, append-nil, length-append}
use Rattle.std.proofs.lemmas.List.Sums.{sum_by-append, sum_by-cons}
use Rattle.accuse_core.specs.declared.journal.Entry.{Entry}
use Rattle.spec_workers.specs.Turns.{IsVerdictOn, IsTested, IsTake, AreTaken, IsFrontTaken, AreFrontsTaken, is_verdict, verdicts_in}
use Rattle.spec_workers.specs.Inside.Steps.{IsTakeStep, IsTurn, IsFrontTurn}
use Rattle.spec_workers.specs.Inside.Stages.{HasTaken, HasFronts}
use Rattle.commit_lock.specs.Passes.{NoneTwice}
use Rattle.spec_workers.proofs.Holds.{tells_nothing, tells_then}
use Rattle.spec_workers.proofs.Pigeons.{few_numbers}

abbrev one_if_verdict : Entry → ℕ
one_if_verdict e = cond {A = ℕ} (is_verdict e.event) 1 0

-- the verdicts of two lists
pub verdicts_of_both : (one other : List Entry) → verdicts_in (one ++ other) ≡ verdicts_in one + verdicts_in other
verdicts_of_both one other = sum_by-append one_if_verdict one other

-- a verdict is one
verdict_is_one : (worker rank seen : ℕ) (told : Entry) → IsVerdictOn worker rank seen told → is_verdict told.event ≡ true
verdict_is_one worker rank seen told verdict =
    ⊎_elim (λ is. ap is_verdict is) (λ is. ap is_verdict is) verdict

-- a request that is no verdict, and its verdict, hold one
pub tested_is_one : (worker rank seen : ℕ) (asked : Entry) (told : List Entry) → is_verdict asked.event ≡ false
    → IsTested worker rank seen asked told → verdicts_in told ≡ 1
tested_is_one worker rank seen asked told request tested =
    let verdict = ap (λ (b : Bool). cond {A = ℕ} b 1 0) (verdict_is_one worker rank seen tested.0 tested.1) in
    let none = ap (λ (b : Bool). cond {A = ℕ} b 1 0) request in
    let all = ap verdicts_in tested.2 ∙ sum_by-cons one_if_verdict asked (tested.0 ∷ []) in
    let last = sum_by-cons one_if_verdict tested.0 [] in
    omega (arith, verdict, none, all, last)

-- one rank more
pub taken_more : (worker rank : ℕ) (ranks : List ℕ) (told more : List Entry) → AreTaken worker ranks told
    → IsTake worker rank more → AreTaken worker (ranks ++ rank ∷ []) (told ++ more)
taken_more worker rank [] told more none take =
    (more, [], ap (λ (l : List Entry). l ++ more) none ∙ sym (append-nil more), take, refl)
taken_more worker rank (r ∷ rs) told more taken take = (
  taken.0,
  taken.1 ++ more,
  ap (λ (l : List Entry). l ++ more) taken.2 ∙ append_assoc taken.0 taken.1 more,
  taken.3,
  taken_more worker rank rs taken.1 more taken.4 take,
)

-- one front more
pub fronts_more : (worker count : ℕ) (told more : List Entry) → AreFrontsTaken worker count told
    → IsFrontTaken worker more → AreFrontsTaken worker (suc count) (told ++ more)
fronts_more worker zero told more none front =
    (more, [], ap (λ (l : List Entry). l ++ more) none ∙ sym (append-nil more), front, refl)
fronts_more worker (suc count) told more taken front = (
  taken.0,
  taken.1 ++ more,
  ap (λ (l : List Entry). l ++ more) taken.2 ∙ append_assoc taken.0 taken.1 more,
  taken.3,
  fronts_more worker count taken.1 more taken.4 front,
)

-- each front has one verdict
pub fronts_count : (worker count : ℕ) (told : List Entry) → AreFrontsTaken worker count told → verdicts_in told ≡ count
fronts_count worker zero told none = ap verdicts_in none
fronts_count worker (suc count) told taken =
    let front = taken.3 in
    let one = tested_is_one worker front.0 front.1 _ taken.0 refl front.2 in
    let rest = fronts_count worker count taken.1 taken.4 in
    let both = ap verdicts_in taken.2 ∙ verdicts_of_both taken.0 taken.1 in
    omega (arith, one, rest, both)

-- nothing is taken yet
pub nothing_taken : (worker budget : ℕ) (drawn : List ℕ) (seen : List Entry) → HasTaken worker budget drawn drawn seen seen 0
nothing_taken worker budget drawn seen = record {
  draws = [];
  told = [];
  drawn = sym (append-nil drawn);
  tells = tells_nothing worker seen;
  taking = record { taken = refl; tests = refl; within = omega arith };
}

-- no front is taken yet
pub no_fronts : (worker : ℕ) (seen : List Entry) → HasFronts worker 0 seen seen
no_fronts worker seen = record { told = []; tells = tells_nothing worker seen; taken = refl }

-- what one step of taking tells is one take, with one verdict if it was tested
step_is_take : (worker rank : ℕ) (tested : Bool) (told : List Entry) → IsTakeStep worker rank tested told
    → IsTake worker rank told × (verdicts_in told ≡ cond {A = ℕ} tested 1 0)
step_is_take worker rank true told step = (inr step, tested_is_one worker rank step.0 _ told refl step.1)
step_is_take worker rank false told step = (inl step, ap verdicts_in step)

-- one rank more is drawn and taken
pub more_taken : (worker later budget rank made next : ℕ) (tested : Bool) (drawn_first drawn_before drawn_after : List ℕ)
    (first before after : List Entry) → later ≡ worker → next ≡ made + cond {A = ℕ} tested 1 0 → next ≤ budget
    → HasTaken worker budget drawn_first drawn_before first before made
    → drawn_after ≡ drawn_before ++ rank ∷ []
    → IsTurn later rank before after tested
    → HasTaken worker budget drawn_first drawn_after first after next
more_taken worker later budget rank made next tested drawn_first drawn_before drawn_after first before after same count few so_far drew step =
    let here = subst (λ (n : ℕ). IsTurn n rank before after tested) same step in
    let take = step_is_take worker rank tested here.told here.step in
    let tests = so_far.taking.tests in
    let one = take.1 in
    let both = verdicts_of_both so_far.told here.told in
    record {
      draws = so_far.draws ++ rank ∷ [];
      told = so_far.told ++ here.told;
      drawn = drew ∙ (ap (λ (l : List ℕ). l ++ rank ∷ []) so_far.drawn ∙ append_assoc drawn_first so_far.draws (rank ∷ []));
      tells = tells_then worker first before after so_far.told here.told so_far.tells here.tells;
      taking = record {
        taken = taken_more worker rank so_far.draws so_far.told here.told so_far.taking.taken take.0;
        tests = omega (arith, count, tests, one, both);
        within = few;
      };
    }

-- the rank at the front is taken once more
pub more_fronts : (worker later count next : ℕ) (first before after : List Entry) → later ≡ worker → next ≡ count + 1
    → HasFronts worker count first before
    → IsFrontTurn later before after true
    → HasFronts worker next first after
more_fronts worker later count next first before after same one so_far step =
    let here = subst (λ (n : ℕ). IsFrontTurn n before after true) same step in
    let is : suc count ≡ next = omega (arith, one) in
    record {
      told = so_far.told ++ here.told;
      tells = tells_then worker first before after so_far.told here.told so_far.tells here.tells;
      taken = subst (λ (n : ℕ). AreFrontsTaken worker n (so_far.told ++ here.told)) is
          (fronts_more worker count so_far.told here.told so_far.taken here.step);
    }

-- a take has one verdict at most
take_is_few : (worker rank : ℕ) (told : List Entry) → IsTake worker rank told → verdicts_in told ≤ 1
take_is_few worker rank told take = ⊎_elim
    (λ over. let none = ap verdicts_in over in omega (arith, none))
    (λ tested. let one = tested_is_one worker rank tested.0 _ told refl tested.1 in omega (arith, one))
    take

-- so there are no more verdicts than ranks taken
takes_are_few : (worker : ℕ) (ranks : List ℕ) (told : List Entry) → AreTaken worker ranks told → verdicts_in told ≤ length ranks
takes_are_few worker [] told none = let count = ap verdicts_in none in omega (arith, count)
takes_are_few worker (rank ∷ ranks) told taken =
    let first = take_is_few worker rank taken.0 taken.3 in
    let rest = takes_are_few worker ranks taken.1 taken.4 in
    let both = ap verdicts_in taken.2 ∙ verdicts_of_both taken.0 taken.1 in
    omega (arith, first, rest, both)

-- and no more tests than ranks, if each was drawn once
pub few_taken : (n worker budget made : ℕ) (drawn_before drawn_after : List ℕ) (before after : List Entry)
    → HasTaken worker budget drawn_before drawn_after before after made
    → NoneTwice drawn_after → All (λ x. x < n) drawn_after → made ≤ n
few_taken n worker budget made drawn_before drawn_after before after taken once below =
    let verdicts = takes_are_few worker taken.draws taken.told taken.taking.taken in
    let tests = taken.taking.tests in
    let all = ap (λ (l : List ℕ). length l) taken.drawn ∙ length-append drawn_before taken.draws in
    let few = few_numbers n drawn_after once below in
    omega (arith, verdicts, tests, all, few)

-- A verdict on the rank at the front decides it.
use Rattle.std.proofs.Common.{◌≡◌, ◌<◌, ◌≤◌, true, false, ⊎_elim, List, length, refl, arith}
use Rattle.std.proofs.lemmas.Bool.{cases_Bool, le-ltb, eq-eqb}
use Rattle.accuse_core.specs.declared.mark.Mark.{Mark}
use Rattle.accuse_core.specs.declared.mark.Mark.TheVariants.{Kept, Removed}
use Rattle.accuse_core.specs.Marks.{is_yes_over, mark_at, number_kept, front_of, with_kept, with_removed, settled}
use Rattle.accuse_core.specs.Events.{on_no, on_yes}
use Rattle.accuse_core.proofs.FrontLaws.{front_rises, front_passes, open_at_front}
use Rattle.accuse_core.proofs.SoundLaws.{waits, noted_inside}

-- the front doesn't go back if the rank there is kept
settled_rises : (marks : List Mark) → front_of marks ≤ front_of (settled marks)
settled_rises marks = ⊎_elim
    (λ (yes_over : is_yes_over (number_kept marks) (mark_at marks (front_of marks)) ≡ true).
    let waiting = waits (number_kept marks) (mark_at marks (front_of marks)) yes_over in
    rw yes_over (front_rises marks (front_of marks) Kept (noted_inside marks (front_of marks) waiting.seen waiting.is) refl))
    (λ (not_over : is_yes_over (number_kept marks) (mark_at marks (front_of marks)) ≡ false). rw not_over (omega arith))
    (cases_Bool (is_yes_over (number_kept marks) (mark_at marks (front_of marks))))

-- a no at the front moves it
pub no_moves : (marks : List Mark) → front_of marks < length marks → front_of marks < front_of (on_no marks (front_of marks)).marks
no_moves marks inside =
    let undecided = open_at_front marks inside in
    let passed = front_passes marks Removed inside refl in
    let later = settled_rises (with_removed marks (front_of marks)) in
    rw undecided (omega arith)

-- so does a yes over all kept ranks
pub yes_moves : (marks : List Mark) → front_of marks < length marks → front_of marks < front_of (on_yes marks (front_of marks) (number_kept marks)).marks
yes_moves marks inside =
    let undecided = open_at_front marks inside in
    let fresh = le-ltb (number_kept marks) (number_kept marks) (omega arith) in
    let here = eq-eqb (front_of marks) (front_of marks) refl in
    let passed = front_passes marks Kept inside refl in
    let later = settled_rises (with_kept marks (front_of marks)) in
    rw (undecided, fresh, here) (omega arith)

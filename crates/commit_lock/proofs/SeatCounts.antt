-- The numbers of seats after a split, after a seat drew its number, and after a join.
use Rattle.std.proofs.Common.{◌≡◌, ◌+◌, ◌<◌, ◌≤◌, ℕ, List, [], ◌∷◌, ◌++◌, set, refl, ◌∙◌, arith}
use Rattle.std.specs.List.{sum_by}
use Rattle.std.proofs.lemmas.List.Sums.{sum_by_push}
use mathlib.Core.Logic.{dite}
use mathlib.Core.Option as maybe
use native.Mathlib.Decide.{ℕ_discrete}
use lib.ListN.{get_elem?}
use Rattle.commit_lock.specs.declared.lock.SeatView.{SeatView}
use Rattle.commit_lock.specs.Entries.{longer}
use Rattle.commit_lock.specs.Inside.LockRule.{stands_for, room, lives_as, Counts}
use Rattle.commit_lock.specs.Inside.LockSteps.{one_less, unnumbered, numbered, joined, spent_seat}
use Rattle.commit_lock.proofs.Sums.{sum_by-set_at}
use Rattle.commit_lock.proofs.Views.{each_changed, each_added}
use Rattle.commit_lock.proofs.SeatNumbers.{lives_as-own, lives_as-other, lives_as-none}

module _ {C E : Type 0} where
  -- the seat's number is below this one
  abbrev IsBelow : ℕ → SeatView C E → Type 0
  IsBelow made view = view.number < made

  -- a seat is split off, and gets one of the rooms
  pub split_counts : (made : ℕ) (views : List (SeatView C E)) (id : ℕ) (view : SeatView C E)
      → get_elem? views id ≡ maybe.some view → 1 ≤ view.room → Counts made views
      → Counts made (set views id (one_less view) ++ unnumbered view ∷ [])
  split_counts made views id view at roomy counts =
      let left : SeatView C E = one_less view in
      let right : SeatView C E = unnumbered view in
      let kept : List (SeatView C E) = set views id left in
      let mine = counts.below id view at in
      let standing = sum_by-set_at stands_for views id view left at in
      let less_room = sum_by-set_at room views id view left at in
      let before = counts.standing in
      let rooms = counts.rooms in
      let same : (n : ℕ) → sum_by (lives_as n) (kept ++ right ∷ []) ≡ sum_by (lives_as n) views = λ n.
      let changed = sum_by-set_at (lives_as n) views id view left at in
      let none = lives_as-none n right refl in
      omega (arith, sum_by_push (lives_as n) kept right) in record {
        apart = λ n. let one = same n in let before = counts.apart n in omega arith;
        drawn = λ n above. same n ∙ counts.drawn n above;
        below = each_added (IsBelow made) kept right mine
            (each_changed (IsBelow made) views id left mine (λ place v apart. counts.below place v));
        standing = omega (arith, sum_by_push stands_for kept right);
        rooms = omega (arith, sum_by_push room kept right);
      }

  -- a seat that was split off gets the next number, and gives its room up
  pub numbered_counts : (made : ℕ) (views : List (SeatView C E)) (id : ℕ) (view : SeatView C E)
      → get_elem? views id ≡ maybe.some view → view.live ≡ 0 → view.stands_for ≡ 0 → view.room ≡ 1
      → Counts made views → Counts (made + 1) (set views id (numbered made view))
  numbered_counts made views id view at dead none_standing one_room counts =
      let after : SeatView C E = numbered made view in record {
        apart = λ n.
            let changed = sum_by-set_at (lives_as n) views id view after at in
            let none = lives_as-none n view dead in
            let before = counts.apart n in
            dite (ℕ_discrete made n)
            (λ is.
            let one = lives_as-own n after refl is in
            let free = counts.drawn n (omega arith) in
            omega arith)
            (λ is_not. let other = lives_as-other n after refl is_not in omega arith);
        drawn = λ n above.
            let changed = sum_by-set_at (lives_as n) views id view after at in
            let none = lives_as-none n view dead in
            let before = counts.drawn n (omega arith) in
            let other = lives_as-other n after refl (λ e. omega arith) in
            omega arith;
        below = each_changed (IsBelow (made + 1)) views id after (omega arith)
            (λ place v apart at_place. let before = counts.below place v at_place in omega arith);
        standing =
            let changed = sum_by-set_at stands_for views id view after at in
            let before = counts.standing in
            omega arith;
        rooms =
            let changed = sum_by-set_at room views id view after at in
            let before = counts.rooms in
            omega arith;
      }

  -- the seat that stays stands for both, and has the rooms of both
  pub joined_counts : (made : ℕ) (views : List (SeatView C E)) (id other_id : ℕ) (view other : SeatView C E)
      → get_elem? views id ≡ maybe.some view
      → get_elem? (set views id (joined longer view other)) other_id ≡ maybe.some other
      → Counts made views
      → Counts made (set (set views id (joined longer view other)) other_id spent_seat)
  joined_counts made views id other_id view other at at_other counts =
      let both : SeatView C E = joined longer view other in
      let kept : List (SeatView C E) = set views id both in
      let mine = counts.below id view at in
      let after : List (SeatView C E) = set kept other_id spent_seat in
      let fewer : (n : ℕ) → sum_by (lives_as n) after ≤ sum_by (lives_as n) views = λ n.
      let one = sum_by-set_at (lives_as n) views id view both at in
      let two = sum_by-set_at (lives_as n) kept other_id other spent_seat at_other in
      let none = lives_as-none {C = C} {E = E} n spent_seat refl in
      omega arith in record {
        apart = λ n. let most = fewer n in let before = counts.apart n in omega arith;
        drawn = λ n above. let most = fewer n in let before = counts.drawn n above in omega arith;
        below = each_changed (IsBelow made) kept other_id spent_seat (omega arith)
            (λ place v apart. each_changed (IsBelow made) views id both mine (λ place v apart. counts.below place v) place v);
        standing =
            let one = sum_by-set_at stands_for views id view both at in
            let two = sum_by-set_at stands_for kept other_id other spent_seat at_other in
            let before = counts.standing in
            omega arith;
        rooms =
            let one = sum_by-set_at room views id view both at in
            let two = sum_by-set_at room kept other_id other spent_seat at_other in
            let before = counts.rooms in
            omega arith;
      }

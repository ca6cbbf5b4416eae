-- The numbers of seats: live ones differ, and all were drawn.
use Rattle.std.proofs.Common.{◌≡◌, ◌≢◌, ◌==◌, ◌*◌, ◌^◌, ◌<◌, ◌≤◌, ℕ, Bool, List, set, cond, refl, ap, ◌∙◌, arith, ne_eqb, eq-eqb}
use mathlib.Core.Option.{some}
use lib.ListN.{get_elem?}
use Rattle.commit_lock.specs.declared.lock.SeatView.{SeatView}
use Rattle.commit_lock.specs.Inside.LockRule.{lives_as, stands_for, room, Counts}
use Rattle.commit_lock.proofs.Sums.{sum_by-set_at, sum_by-at_most, sum_by-two_at_most}
use Rattle.commit_lock.proofs.Views.{each_changed}

module _ {C E : Type 0} where
  -- a live seat counts for its number
  pub lives_as-own : (n : ℕ) (view : SeatView C E) → view.live ≡ 1 → view.number ≡ n
      → lives_as n view ≡ 1
  lives_as-own n view live same =
      ap (λ (x : ℕ). x * cond {A = ℕ} (view.number == n) 1 0) live
      ∙ ap (λ (b : Bool). 1 * cond {A = ℕ} b 1 0) (eq-eqb view.number n same)

  -- and for no other
  pub lives_as-other : (n : ℕ) (view : SeatView C E) → view.live ≡ 1 → view.number ≢ n
      → lives_as n view ≡ 0
  lives_as-other n view live apart =
      ap (λ (x : ℕ). x * cond {A = ℕ} (view.number == n) 1 0) live
      ∙ ap (λ (b : Bool). 1 * cond {A = ℕ} b 1 0) (ne_eqb view.number n apart)

  -- a seat that does not live counts for none
  pub lives_as-none : (n : ℕ) (view : SeatView C E) → view.live ≡ 0 → lives_as n view ≡ 0
  lives_as-none n view dead = ap (λ (x : ℕ). x * cond {A = ℕ} (view.number == n) 1 0) dead ∙ omega arith

  -- what it counts for stays with its number
  pub lives_as-same : (n : ℕ) (view after : SeatView C E) → after.number ≡ view.number
      → after.live ≡ view.live → lives_as n after ≡ lives_as n view
  lives_as-same n view after number live = λ i. live i * cond {A = ℕ} (number i == n) 1 0

  -- two live seats have different numbers
  pub differ : (made : ℕ) (views : List (SeatView C E)) (i j : ℕ) (one other : SeatView C E)
      → Counts made views
      → get_elem? views i ≡ some one → get_elem? views j ≡ some other → i ≢ j → one.live ≡ 1
      → other.live ≡ 1 → one.number ≢ other.number
  differ made views i j one other counts at_i at_j apart live lives same =
      let n : ℕ = other.number in
      let both = sum_by-two_at_most (lives_as n) views i j one other at_i at_j apart in
      let first = lives_as-own n one live same in
      let second = lives_as-own n other lives refl in
      let most = counts.apart n in
      omega arith

  -- a live seat's number was drawn
  pub was_drawn : (made : ℕ) (views : List (SeatView C E)) (i : ℕ) (view : SeatView C E)
      → Counts made views → get_elem? views i ≡ some view
      → view.live ≡ 1 → (n : ℕ) → made ≤ n → view.number ≢ n
  was_drawn made views i view counts at live n above same =
      let part = sum_by-at_most (lives_as n) views i view at in
      let one = lives_as-own n view live same in
      let none = counts.drawn n above in
      omega arith

  -- a step that changes neither numbers nor rooms keeps the counts
  pub same_counts : (made : ℕ) (views : List (SeatView C E)) (id : ℕ) (view after : SeatView C E)
      → get_elem? views id ≡ some view
      → after.number ≡ view.number → after.live ≡ view.live → after.stands_for ≡ view.stands_for
      → after.room ≡ view.room
      → Counts made views → Counts made (set views id after)
  same_counts made views id view after at number live standing roomy counts = record {
    apart = λ n.
        let changed = sum_by-set_at (lives_as n) views id view after at in
        let same = lives_as-same n view after number live in
        let before = counts.apart n in
        omega arith;
    drawn = λ n above.
        let changed = sum_by-set_at (lives_as n) views id view after at in
        let same = lives_as-same n view after number live in
        let before = counts.drawn n above in
        omega arith;
    below =
        let before = counts.below id view at in
        each_changed (λ (v : SeatView C E). v.number < made) views id after (omega arith)
        (λ j v apart. counts.below j v);
    standing =
        let changed = sum_by-set_at stands_for views id view after at in
        let before = counts.standing in
        omega arith;
    rooms =
        let changed = sum_by-set_at room views id view after at in
        let before = counts.rooms in
        omega arith;
  }

  -- so few seats are made that the turn word has room for twice their number
  pub few_made : (made : ℕ) (views : List (SeatView C E)) → Counts made views → made < 2 ^ 32
  few_made made views counts = let all = counts.rooms in omega arith

-- The vectors of the core after each change.
use Rattle.std.proofs.Common.{◌≡◌, ℕ, zero, suc, ◌+◌, ◌<◌, ◌≤◌, ◌^◌, true, false, ⊎_elim, List, [], ◌∷◌, ◌++◌, length, set, refl, ap, sym, ◌∙◌, arith, zero-add, length-set}
use Rattle.std.proofs.lemmas.List.{length-replicate}
use Rattle.std.proofs.lemmas.Bool.{cases_lt}
use Rattle.accuse_core.specs.declared.mark.Mark.{Mark}
use Rattle.accuse_core.specs.declared.mark.Mark.TheVariants.{Open, Yes, Kept, Removed}
use Rattle.accuse_core.specs.Marks.{is_kept, is_removed, is_decided, opening, mark_at, kept_of, front_of, kept_unless_removed, with_block}
use Rattle.accuse_core.specs.Inside.Tracking.{AreTracked}
use Rattle.accuse_core.proofs.RankLaws.{no_ranks, ranks_set_failing, ranks_set_passing, fewer_ranks}
use Rattle.accuse_core.proofs.FrontLaws.{front_rises, front_passes, none_kept_with, none_kept_past, front_at_least, decided_before}
use Rattle.accuse_core.proofs.BlockLaws.{set_same, block_before, block_within, block_length, kept_unless_removed_is_decided}

pub undecided_is_not_kept : (mark : Mark) → is_decided mark ≡ false → is_kept mark ≡ false
undecided_is_not_kept Open undecided = refl
undecided_is_not_kept (Yes seen) undecided = refl
undecided_is_not_kept Kept undecided = cc
undecided_is_not_kept Removed undecided = refl

removed_is_not_kept : (mark : Mark) → is_removed mark ≡ true → is_kept mark ≡ false
removed_is_not_kept Open gone = cc
removed_is_not_kept (Yes seen) gone = cc
removed_is_not_kept Kept gone = cc
removed_is_not_kept Removed gone = refl

removed_stays : (mark : Mark) → is_removed mark ≡ true → kept_unless_removed mark ≡ mark
removed_stays Open gone = cc
removed_stays (Yes seen) gone = cc
removed_stays Kept gone = refl
removed_stays Removed gone = refl

-- of open marks each is open
pub open_at : (ranks rank : ℕ) → mark_at (opening ranks) rank ≡ Open
open_at zero rank = refl
open_at (suc ranks) zero = refl
open_at (suc ranks) (suc rank) = open_at ranks rank

pub opening_tracked : (ranks room : ℕ) → ranks < 2 ^ 32 → ranks ≤ room → AreTracked (opening ranks) (front_of (opening ranks)) [] room
opening_tracked ranks room small enough = record {
  listed = sym (no_ranks is_kept 0 (opening ranks) (λ rank. ap is_kept (open_at ranks rank)));
  ahead = λ rank past. ap is_kept (open_at ranks rank);
  enough = rw length-replicate enough;
  small = rw length-replicate small;
}

-- fewer kept ranks than there is room for, where a rank isn't kept
pub room_for_one : (marks : List Mark) (rank : ℕ) (kept : List ℕ) (room : ℕ) → rank < length marks
    → AreTracked marks rank kept room → length kept < room
room_for_one marks rank kept room inside t =
    let fewer = fewer_ranks is_kept 0 marks rank inside (t.ahead rank (omega arith)) in
    let enough = t.enough in
    rw (t.listed) (omega arith)

-- a mark that isn't kept in the place of one that isn't decided
pub set_tracked : (marks : List Mark) (kept : List ℕ) (room rank : ℕ) (mark : Mark) → rank < length marks
    → is_decided (mark_at marks rank) ≡ false → is_kept mark ≡ false → front_of marks ≤ front_of (set marks rank mark)
    → AreTracked marks (front_of marks) kept room → AreTracked (set marks rank mark) (front_of (set marks rank mark)) kept room
set_tracked marks kept room rank mark inside undecided not_kept further t = record {
  listed = t.listed ∙ sym (ranks_set_failing is_kept 0 marks rank mark (undecided_is_not_kept (mark_at marks rank) undecided) not_kept);
  ahead = none_kept_with marks rank (front_of marks) (front_of (set marks rank mark)) mark inside not_kept further t.ahead;
  enough = rw length-set t.enough;
  small = rw length-set t.small;
}

-- a rank that is kept past all kept ones
pub keep_tracked : (marks : List Mark) (kept : List ℕ) (room more rank : ℕ) → rank < length marks → room ≤ more
    → AreTracked marks rank kept room → AreTracked (set marks rank Kept) (rank + 1) (kept ++ rank ∷ []) more
keep_tracked marks kept room more rank inside above t = let enough = t.enough in record {
  listed = rw (t.listed) (sym (ranks_set_passing is_kept 0 marks rank Kept inside refl t.ahead ∙ ap (λ n. kept_of marks ++ n ∷ []) (zero-add rank)));
  ahead = none_kept_past marks rank (rank + 1) Kept inside (omega arith) t.ahead;
  enough = rw length-set (omega arith);
  small = rw length-set t.small;
}

-- a removed rank is left as it is
pub removed_tracked : (marks : List Mark) (kept : List ℕ) (room rank : ℕ) → AreTracked marks rank kept room → AreTracked marks (rank + 1) kept room
removed_tracked marks kept room rank t = record {
  listed = t.listed;
  ahead = λ other past. t.ahead other (omega arith);
  enough = t.enough;
  small = t.small;
}

pub left_as_removed : (marks : List Mark) (rank : ℕ) → is_removed (mark_at marks rank) ≡ true → marks ≡ set marks rank (kept_unless_removed (mark_at marks rank))
left_as_removed marks rank gone = sym (ap (λ mark. set marks rank mark) (removed_stays (mark_at marks rank) gone) ∙ set_same marks rank)

-- further on
pub tracked_further : (marks : List Mark) (kept : List ℕ) (room first later : ℕ) → first ≤ later → AreTracked marks first kept room → AreTracked marks later kept room
tracked_further marks kept room first later above t = record {
  listed = t.listed;
  ahead = λ other past. t.ahead other (omega arith);
  enough = t.enough;
  small = t.small;
}

-- the front is past a block that begins there
pub front_past_block : (marks : List Mark) (count : ℕ) → front_of marks + count ≤ length marks
    → front_of marks + count ≤ front_of (with_block marks (front_of marks) count)
front_past_block marks count inside = front_at_least (with_block marks (front_of marks) count) (front_of marks + count)
    (rw (block_length marks (front_of marks) count) inside)
    (λ rank before. ⊎_elim
    (λ (low : rank < front_of marks). ap is_decided (block_before marks (front_of marks) count rank low) ∙ decided_before marks rank low)
    (λ (high : front_of marks ≤ rank). ap is_decided (block_within marks (front_of marks) count rank high before (omega arith)) ∙ kept_unless_removed_is_decided (mark_at marks rank))
    (cases_lt rank (front_of marks)))

-- the front is past a rank that was kept there
pub front_past_kept : (marks new : List Mark) (front : ℕ) → front ≡ front_of marks → front < length marks → new ≡ set marks front Kept → front + 1 ≤ front_of new
front_past_kept marks new front is inside made =
    let further = front_passes marks Kept (rw is at inside) refl in
    rw (made, is) (omega arith)

-- and past a block that was kept there
pub front_past_new_block : (marks new : List Mark) (front count : ℕ) → front ≡ front_of marks → front + count ≤ length marks → new ≡ with_block marks front count
    → front + count ≤ front_of new
front_past_new_block marks new front count is inside made = rw (made, is) (front_past_block marks count (rw is at inside))

-- it doesn't go back where a rank is removed
pub front_past_removed : (marks new : List Mark) (front rank : ℕ) → front ≡ front_of marks → rank < length marks → new ≡ set marks rank Removed → front ≤ front_of new
front_past_removed marks new front rank is inside made = rw (made, is) (front_rises marks rank Removed inside refl)

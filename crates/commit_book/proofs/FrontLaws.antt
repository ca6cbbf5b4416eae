-- The front, and kept ranks before it, after marks were put in place of others.
use Rattle.std.proofs.Common.{◌≡◌, ℕ, ◌+◌, ◌<◌, ◌≤◌, true, false, ⊎_elim, List, length, set, refl, sym, subst, ap, ◌∙◌, arith}
use Rattle.std.proofs.Math.ListN.{get_or-eq_default}
use Rattle.std.proofs.lemmas.Bool.{cases_lt, cases_eq}
use Rattle.std.proofs.lemmas.List.{get_or-set_other, get_or-set_same}
use Rattle.std.proofs.lemmas.List.Sums.{prefix_len_passes, prefix_len_stops}
use Rattle.accuse_core.specs.declared.mark.Mark.{Mark}
use Rattle.accuse_core.specs.declared.mark.Mark.TheVariants.{Open, Yes, Kept, Removed}
use Rattle.accuse_core.specs.Marks.{is_decided, is_yes_over, kept_unless_removed, mark_at, number_kept, front_of, with_kept, with_removed, with_note, with_block, settled}
use Rattle.accuse_core.specs.Sound.{AreKeptBeforeFront}
use Rattle.commit_book.specs.Inside.Laws.{KeptLaws, BlockLaws}

-- all ranks before this one are decided
abbrev pub AreDecidedBelow : List Mark → ℕ → Type 0
AreDecidedBelow marks rank = (other : ℕ) → other < rank → is_decided (mark_at marks other) ≡ true

pub decided_below_front : (marks : List Mark) → AreDecidedBelow marks (front_of marks)
decided_below_front marks other before = prefix_len_passes is_decided marks other Open before

-- the rank at the front isn't decided
front_is_open : (marks : List Mark) → is_decided (mark_at marks (front_of marks)) ≡ false
front_is_open marks = ⊎_elim
    (λ (inside : front_of marks < length marks). prefix_len_stops is_decided marks Open inside)
    (λ (past : length marks ≤ front_of marks). ap is_decided (get_or-eq_default marks Open past))
    (cases_lt (front_of marks) (length marks))

-- a rank before which all are decided is not past the front
pub front_from : (marks : List Mark) (rank : ℕ) → AreDecidedBelow marks rank → rank ≤ front_of marks
front_from marks rank decided = ⊎_elim
    (λ (short : front_of marks < rank). absurd (let undecided = front_is_open marks in let closed = decided (front_of marks) short in cc))
    (λ (enough : rank ≤ front_of marks). enough)
    (cases_lt (front_of marks) rank)

-- a rank that isn't decided is not before the front
pub open_from_front : (marks : List Mark) (rank : ℕ) → is_decided (mark_at marks rank) ≡ false → front_of marks ≤ rank
open_from_front marks rank undecided = ⊎_elim
    (λ (before : rank < front_of marks). absurd (let closed = decided_below_front marks rank before in cc))
    (λ (from : front_of marks ≤ rank). from)
    (cases_lt rank (front_of marks))

-- a kept rank is decided
kept_is_decided : (mark : Mark) → mark ≡ Kept → is_decided mark ≡ true
kept_is_decided mark is = ap is_decided is

-- the marks before a rank are decided, if they were, and the one put in place is past them
decided_after_set : (marks : List Mark) (rank : ℕ) (mark : Mark) → front_of marks ≤ rank → AreDecidedBelow (set marks rank mark) (front_of marks)
decided_after_set marks rank mark from other before =
    let differs : other ≡ rank → ⊥ = λ (same : other ≡ rank). omega arith in
    ap is_decided (get_or-set_other marks rank other mark Open differs) ∙ decided_below_front marks other before

-- with one rank more
decided_one_more : (marks : List Mark) (rank : ℕ) → is_decided (mark_at marks rank) ≡ true → AreDecidedBelow marks rank → AreDecidedBelow marks (rank + 1)
decided_one_more marks rank here below other within = ⊎_elim
    (λ (before : other < rank). below other before)
    (λ (from : rank ≤ other). let same : rank ≡ other = omega arith in subst (λ r. is_decided (mark_at marks r) ≡ true) same here)
    (cases_lt other rank)

-- what is decided before a rank is decided before a lower one
decided_fewer : (marks : List Mark) (rank lower : ℕ) → lower ≤ rank → AreDecidedBelow marks rank → AreDecidedBelow marks lower
decided_fewer marks rank lower fewer below other within = below other (omega arith)

-- a rank that waits is a rank
pub waiting_inside : (marks : List Mark) (count rank : ℕ) → is_yes_over count (mark_at marks rank) ≡ true → rank < length marks
waiting_inside marks count rank waits = ⊎_elim
    (λ (inside : rank < length marks). inside)
    (λ (past : length marks ≤ rank).
    let none : is_yes_over count (mark_at marks rank) ≡ false = ap (is_yes_over count) (get_or-eq_default marks Open past) in absurd (cc))
    (cases_lt rank (length marks))

module _ (laws : KeptLaws) where
  -- kept ranks are before the front, if each kept mark has only decided ones up to it
  ahead_from : (marks : List Mark) → ((rank : ℕ) → mark_at marks rank ≡ Kept → AreDecidedBelow marks (rank + 1)) → AreKeptBeforeFront marks
  ahead_from marks decided rank there =
      let enough = front_from marks (rank + 1) (decided rank ((laws.its_mark marks rank).0 there)) in omega arith

  -- a kept mark is before the front
  mark_ahead : (marks : List Mark) (rank : ℕ) → AreKeptBeforeFront marks → mark_at marks rank ≡ Kept → rank < front_of marks
  mark_ahead marks rank ahead its_mark = ahead rank ((laws.its_mark marks rank).1 its_mark)

  -- a mark from the front on leaves the kept ranks before the front, if it isn't kept past the front
  pub set_ahead : (marks : List Mark) (rank : ℕ) (mark : Mark) → AreKeptBeforeFront marks → front_of marks ≤ rank → rank < length marks
      → (mark ≡ Kept → rank ≡ front_of marks) → AreKeptBeforeFront (set marks rank mark)
  set_ahead marks rank mark ahead from inside only = ahead_from (set marks rank mark) (λ other kept. ⊎_elim
      (λ (same : other ≡ rank).
      let put : mark_at (set marks rank mark) rank ≡ mark = get_or-set_same marks rank mark Open inside in
      let is_kept : mark ≡ Kept = sym put ∙ subst (λ r. mark_at (set marks rank mark) r ≡ Kept) same kept in
      let at : rank ≡ front_of marks = only is_kept in
      subst (λ r. AreDecidedBelow (set marks rank mark) (r + 1)) (sym same)
      (decided_one_more (set marks rank mark) rank (kept_is_decided (mark_at (set marks rank mark) rank) (put ∙ is_kept))
      (decided_fewer (set marks rank mark) (front_of marks) rank (omega arith) (decided_after_set marks rank mark from))))
      (λ (differs : other ≡ rank → ⊥).
      let before = mark_ahead marks other ahead (sym (get_or-set_other marks rank other mark Open differs) ∙ kept) in
      decided_fewer (set marks rank mark) (front_of marks) (other + 1) (omega arith) (decided_after_set marks rank mark from))
      (cases_eq other rank))

  pub removed_ahead : (marks : List Mark) (rank : ℕ) → AreKeptBeforeFront marks → rank < length marks → is_decided (mark_at marks rank) ≡ false
      → AreKeptBeforeFront (with_removed marks rank)
  removed_ahead marks rank ahead inside undecided =
      set_ahead marks rank Removed ahead (open_from_front marks rank undecided) inside (λ same. absurd (let s : Removed ≡ Kept = same in cc))

  pub noted_ahead : (marks : List Mark) (rank seen : ℕ) → AreKeptBeforeFront marks → rank < length marks → is_decided (mark_at marks rank) ≡ false
      → AreKeptBeforeFront (with_note marks rank seen)
  noted_ahead marks rank seen ahead inside undecided =
      set_ahead marks rank (Yes seen) ahead (open_from_front marks rank undecided) inside (λ same. absurd (let s : Yes seen ≡ Kept = same in cc))

  pub front_ahead : (marks : List Mark) → AreKeptBeforeFront marks → front_of marks < length marks → AreKeptBeforeFront (with_kept marks (front_of marks))
  front_ahead marks ahead inside = set_ahead marks (front_of marks) Kept ahead (omega arith) inside (λ same. refl)

  pub settled_ahead : (marks : List Mark) → AreKeptBeforeFront marks → is_yes_over (number_kept marks) (mark_at marks (front_of marks)) ≡ true
      → AreKeptBeforeFront (settled marks)
  settled_ahead marks ahead waits = rw waits (front_ahead marks ahead (waiting_inside marks (number_kept marks) (front_of marks) waits))

  kept_unless_removed_decides : (mark : Mark) → is_decided (kept_unless_removed mark) ≡ true
  kept_unless_removed_decides Open = refl
  kept_unless_removed_decides (Yes seen) = refl
  kept_unless_removed_decides Kept = refl
  kept_unless_removed_decides Removed = refl

  -- a block at the front leaves all ranks up to its end decided
  decided_block : BlockLaws → (marks : List Mark) (count : ℕ) → front_of marks + count ≤ length marks
      → AreDecidedBelow (with_block marks (front_of marks) count) (front_of marks + count)
  decided_block block marks count inside other below = ⊎_elim
      (λ (before : other < front_of marks). ap is_decided (block.before marks (front_of marks) count other before) ∙ decided_below_front marks other before)
      (λ (from : front_of marks ≤ other). ap is_decided (block.within marks (front_of marks) count other from below (omega arith)) ∙ kept_unless_removed_decides (mark_at marks other))
      (cases_lt other (front_of marks))

  -- so it leaves the kept ranks before the front
  pub block_ahead : BlockLaws → (marks : List Mark) (count : ℕ) → AreKeptBeforeFront marks → front_of marks + count ≤ length marks
      → AreKeptBeforeFront (with_block marks (front_of marks) count)
  block_ahead block marks count ahead inside = ahead_from (with_block marks (front_of marks) count) (λ rank kept. ⊎_elim
      (λ (within : rank < front_of marks + count).
      decided_fewer (with_block marks (front_of marks) count) (front_of marks + count) (rank + 1) (omega arith) (decided_block block marks count inside))
      (λ (past : front_of marks + count ≤ rank).
      let before = mark_ahead marks rank ahead (sym (block.past marks (front_of marks) count rank past) ∙ kept) in absurd (omega arith))
      (cases_lt rank (front_of marks + count)))

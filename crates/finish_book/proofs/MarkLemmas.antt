-- What a block and a removal do to the marks.
use Rattle.std.proofs.Common.{◌≡◌, ℕ, zero, suc, ◌+◌, ◌<◌, ◌≤◌, ◌⊎◌, ⊎_elim, inl, inr, Bool, true, false, cond, List, [], ◌∷◌, ◌++◌, All, Contains, length, set, refl, ap, sym, subst, ◌∙◌, arith, get_or-set_other, get_or-set_same, get_or, append-nil, add-one}
use Rattle.std.specs.List.Sorted.{IsStrictlyIncreasing}
use Rattle.std.proofs.lemmas.Bool.{cond-true, cond-false, cases_Bool, cases_lt, cases_eq, both_ways}
use Rattle.std.proofs.lemmas.List.Sums.{prefix_len_passes, prefix_len_stops, sum_by-set, sum_by-cons}
use Rattle.std.proofs.lemmas.List.Elements.{All-contains, Contains-append_cases}
use Rattle.accuse_core.specs.declared.mark.Mark.{Mark}
use Rattle.accuse_core.specs.declared.mark.Mark.TheVariants.{Open, Yes, Kept, Removed}
use Rattle.accuse_core.specs.Marks.{is_removed, is_decided, is_yes_over, mark_at, front_of, kept_of, number_kept, with_removed, with_block, block_of, kept_unless_removed, settled}
use Rattle.accuse_core.specs.Sound.{AreKeptBeforeFront}
use Rattle.finish_book.specs.Finishing.{removed_of}
use Rattle.finish_book.proofs.BlockLemmas.{IsWithin, block_within}

-- the mark at a rank, after one was put somewhere
mark_after : (marks : List Mark) (rank : ℕ) (mark : Mark) (other : ℕ) → rank < length marks
    → ((other ≡ rank) × (mark_at (set marks rank mark) other ≡ mark)) ⊎ (mark_at (set marks rank mark) other ≡ mark_at marks other)
mark_after marks rank mark other inside = ⊎_elim
    (λ (same : other ≡ rank). inl (same, subst (λ r. mark_at (set marks rank mark) r ≡ mark) (sym same) (get_or-set_same marks rank mark Open inside)))
    (λ (differs : other ≡ rank → ⊥). inr (get_or-set_other marks rank other mark Open differs))
    (cases_eq other rank)

-- past the last rank nothing is known
none_past : (marks : List Mark) (rank : ℕ) → length marks ≤ rank → mark_at marks rank ≡ Open
none_past [] rank outside = refl
none_past (x ∷ xs) zero outside = absurd (omega arith)
none_past (x ∷ xs) (suc rank) outside = none_past xs rank (omega arith)

not_removed : (mark : Mark) → is_decided mark ≡ false → is_removed mark ≡ false
not_removed Open undecided = refl
not_removed (Yes seen) undecided = refl
not_removed Kept undecided = cc
not_removed Removed undecided = cc

-- the rank at the front is kept, which was not decided
record Settles (marks : List Mark) : Type 0 where
  inside : front_of marks < length marks
  undecided : is_decided (mark_at marks (front_of marks)) ≡ false
  waits : is_yes_over (number_kept marks) (mark_at marks (front_of marks)) ≡ true
  is : settled marks ≡ set marks (front_of marks) Kept

-- if the front is taken anew, nothing changes, or the rank there is kept
settled_cases : (marks : List Mark) → (settled marks ≡ marks) ⊎ Settles marks
settled_cases marks =
    let waits = is_yes_over (number_kept marks) (mark_at marks (front_of marks)) in ⊎_elim
    (λ (holds : waits ≡ true). ⊎_elim
    (λ (inside : front_of marks < length marks). inr (record {
      inside = inside;
      undecided = prefix_len_stops is_decided marks Open inside;
      waits = holds;
      is = cond-true waits (set marks (front_of marks) Kept) marks holds;
    }))
    (λ (outside : length marks ≤ front_of marks). absurd (both_ways waits (ap (is_yes_over (number_kept marks)) (none_past marks (front_of marks) outside)) holds))
    (cases_lt (front_of marks) (length marks)))
    (λ (fails : waits ≡ false). inl (cond-false waits (set marks (front_of marks) Kept) marks fails))
    (cases_Bool waits)

-- a rank that is decided keeps its mark then
decided_settled : (marks : List Mark) (rank : ℕ) → is_decided (mark_at marks rank) ≡ true → mark_at (settled marks) rank ≡ mark_at marks rank
decided_settled marks rank decided = ⊎_elim
    (λ (same : settled marks ≡ marks). ap (λ (l : List Mark). mark_at l rank) same)
    (λ (s : Settles marks). ap (λ (l : List Mark). mark_at l rank) s.is ∙ ⊎_elim
    (λ here. absurd (both_ways (is_decided (mark_at marks rank)) (subst (λ r. is_decided (mark_at marks r) ≡ false) (sym here.0) s.undecided) decided))
    (λ elsewhere. elsewhere)
    (mark_after marks (front_of marks) Kept rank s.inside))
    (settled_cases marks)

-- no rank is removed by it
removed_settled : (marks : List Mark) (rank : ℕ) → mark_at (settled marks) rank ≡ Removed → mark_at marks rank ≡ Removed
removed_settled marks rank removed = ⊎_elim
    (λ (same : settled marks ≡ marks). subst (λ (l : List Mark). mark_at l rank ≡ Removed) same removed)
    (λ (s : Settles marks).
    let there : mark_at (set marks (front_of marks) Kept) rank ≡ Removed = subst (λ (l : List Mark). mark_at l rank ≡ Removed) s.is removed in ⊎_elim
    (λ here. absurd (let kept : Kept ≡ Removed = sym here.1 ∙ there in cc))
    (λ elsewhere. sym elsewhere ∙ there)
    (mark_after marks (front_of marks) Kept rank s.inside))
    (settled_cases marks)

-- 1 for a removed rank
abbrev one_if : Bool → ℕ
one_if b = cond {A = ℕ} b 1 0

-- how the count of removed ranks changes with a mark
count_after : (marks : List Mark) (rank : ℕ) (mark : Mark) → rank < length marks
    → removed_of (set marks rank mark) + one_if (is_removed (mark_at marks rank)) ≡ removed_of marks + one_if (is_removed mark)
count_after marks rank mark inside = sum_by-set (λ (m : Mark). one_if (is_removed m)) marks rank mark Open inside

count_settled : (marks : List Mark) → removed_of (settled marks) ≡ removed_of marks
count_settled marks = ⊎_elim
    (λ (same : settled marks ≡ marks). ap removed_of same)
    (λ (s : Settles marks).
    let count = count_after marks (front_of marks) Kept s.inside in
    let before : one_if (is_removed (mark_at marks (front_of marks))) ≡ 0 = ap one_if (not_removed (mark_at marks (front_of marks)) s.undecided) in
    let same = ap removed_of s.is in
    omega arith)
    (settled_cases marks)

-- a removal counts one more
pub count_removal : (marks : List Mark) (rank : ℕ) → rank < length marks → is_decided (mark_at marks rank) ≡ false
    → removed_of (settled (with_removed marks rank)) ≡ removed_of marks + 1
count_removal marks rank inside undecided =
    let count = count_after marks rank Removed inside in
    let before : one_if (is_removed (mark_at marks rank)) ≡ 0 = ap one_if (not_removed (mark_at marks rank) undecided) in
    let after = count_settled (with_removed marks rank) in
    omega arith

-- the removed rank is decided
pub removal_decides : (marks : List Mark) (rank : ℕ) → rank < length marks → is_decided (mark_at (settled (with_removed marks rank)) rank) ≡ true
removal_decides marks rank inside =
    let here : mark_at (with_removed marks rank) rank ≡ Removed = get_or-set_same marks rank Removed Open inside in
    ap is_decided (decided_settled (with_removed marks rank) rank (ap is_decided here) ∙ here)

same_kind : (mark : Mark) → one_if (is_removed (kept_unless_removed mark)) ≡ one_if (is_removed mark)
same_kind Open = refl
same_kind (Yes seen) = refl
same_kind Kept = refl
same_kind Removed = refl

is_decided_then : (mark : Mark) → is_decided (kept_unless_removed mark) ≡ true
is_decided_then Open = refl
is_decided_then (Yes seen) = refl
is_decided_then Kept = refl
is_decided_then Removed = refl

removed_before : (mark : Mark) → kept_unless_removed mark ≡ Removed → mark ≡ Removed
removed_before Open removed = cc
removed_before (Yes seen) removed = cc
removed_before Kept removed = cc
removed_before Removed removed = refl

-- the count of one mark and more
count_more : (mark : Mark) (marks : List Mark) → removed_of (mark ∷ marks) ≡ one_if (is_removed mark) + removed_of marks
count_more mark marks = sum_by-cons (λ (m : Mark). one_if (is_removed m)) mark marks

-- a block removes none
count_block : (marks : List Mark) (rank count : ℕ) → removed_of (with_block marks rank count) ≡ removed_of marks
count_block [] zero zero = refl
count_block [] zero (suc count) = refl
count_block [] (suc rank) zero = refl
count_block [] (suc rank) (suc count) = refl
count_block (x ∷ xs) zero zero = refl
count_block (x ∷ xs) zero (suc count) =
    let after = count_more (kept_unless_removed x) (with_block xs zero count) in
    let before = count_more x xs in
    after ∙ ap (λ n. n + removed_of (with_block xs zero count)) (same_kind x)
    ∙ ap (λ n. one_if (is_removed x) + n) (count_block xs zero count) ∙ sym before
count_block (x ∷ xs) (suc rank) count =
    let later = count_block xs rank count in
    count_more x (with_block xs rank count) ∙ ap (λ n. one_if (is_removed x) + n) later ∙ sym (count_more x xs)

pub count_kept_block : (marks : List Mark) (rank count : ℕ) → removed_of (settled (with_block marks rank count)) ≡ removed_of marks
count_kept_block marks rank count = count_settled (with_block marks rank count) ∙ count_block marks rank count

-- if all ranks before a bound are decided, the front is not before it
pub front_reaches : (marks : List Mark) (bound : ℕ) → bound ≤ length marks
    → ((rank : ℕ) → rank < bound → is_decided (mark_at marks rank) ≡ true) → bound ≤ front_of marks
front_reaches marks bound inside decided = ⊎_elim
    (λ (low : front_of marks < bound). absurd (both_ways (is_decided (mark_at marks (front_of marks)))
    (prefix_len_stops is_decided marks Open (omega arith)) (decided (front_of marks) low)))
    (λ high. high)
    (cases_lt (front_of marks) bound)

-- numbers that ascend below a bound are no more than it
rises : (ranks : List ℕ) → IsStrictlyIncreasing ranks → (k : ℕ) → k < length ranks → k ≤ get_or ranks k 0
rises ranks ascends zero inside = omega arith
rises ranks ascends (suc k) inside =
    let before = rises ranks ascends k (omega arith) in
    let step : get_or ranks k 0 < get_or ranks (suc k) 0 = subst (λ n. get_or ranks k 0 < get_or ranks n 0) (add-one k) (ascends k (omega arith)) in omega arith

pub ascending_are_few : (ranks : List ℕ) (bound : ℕ) → IsStrictlyIncreasing ranks → All (λ rank. rank < bound) ranks → length ranks ≤ bound
ascending_are_few ranks bound ascends below = ⊎_elim
    (λ (many : bound < length ranks). absurd (
    let low = rises ranks ascends bound many in
    let high = below bound 0 many in omega arith))
    (λ few. few)
    (cases_lt bound (length ranks))

-- what is known of a block that is kept from the front on
module _ (marks : List Mark) (count : ℕ) (inside : front_of marks + count ≤ length marks)
    (within : (rank : ℕ) → front_of marks ≤ rank → rank < front_of marks + count → rank < length marks
    → mark_at (with_block marks (front_of marks) count) rank ≡ kept_unless_removed (mark_at marks rank))
    (before : (rank : ℕ) → rank < front_of marks → mark_at (with_block marks (front_of marks) count) rank ≡ mark_at marks rank)
    (past : (rank : ℕ) → front_of marks + count ≤ rank → mark_at (with_block marks (front_of marks) count) rank ≡ mark_at marks rank) where
  abbrev pub kept : List Mark
  kept = with_block marks (front_of marks) count

  block_decided : (rank : ℕ) → rank < front_of marks + count → is_decided (mark_at kept rank) ≡ true
  block_decided rank low = ⊎_elim
      (λ (early : rank < front_of marks). ap is_decided (before rank early) ∙ prefix_len_passes is_decided marks rank Open early)
      (λ (late : front_of marks ≤ rank). ap is_decided (within rank late low (omega arith)) ∙ is_decided_then (mark_at marks rank))
      (cases_lt rank (front_of marks))

  -- its ranks are decided
  pub run_decided : (rank : ℕ) → rank < front_of marks + count → is_decided (mark_at (settled kept) rank) ≡ true
  run_decided rank low = ap is_decided (decided_settled kept rank (block_decided rank low)) ∙ block_decided rank low

  -- no rank is removed
  pub run_removed : (rank : ℕ) → mark_at (settled kept) rank ≡ Removed → mark_at marks rank ≡ Removed
  run_removed rank removed =
      let there = removed_settled kept rank removed in ⊎_elim
      (λ (early : rank < front_of marks). sym (before rank early) ∙ there)
      (λ (late : front_of marks ≤ rank). ⊎_elim
      (λ (low : rank < front_of marks + count). removed_before (mark_at marks rank) (sym (within rank late low (omega arith)) ∙ there))
      (λ (high : front_of marks + count ≤ rank). sym (past rank high) ∙ there)
      (cases_lt rank (front_of marks + count)))
      (cases_lt rank (front_of marks))

  -- the kept ranks are those before and those of the block, and perhaps one more
  pub run_kept : AreKeptBeforeFront marks → length kept ≡ length marks
      → kept_of kept ≡ kept_of marks ++ block_of marks (front_of marks) count
      → (AreKeptBeforeFront kept → is_yes_over (number_kept kept) (mark_at kept (front_of kept)) ≡ true
      → kept_of (settled kept) ≡ kept_of kept ++ front_of kept ∷ [])
      → (rest : List ℕ) × (kept_of (settled kept) ≡ (kept_of marks ++ block_of marks (front_of marks) count) ++ rest)
  run_kept ahead as_many listed waiting =
      let reaches : front_of marks + count ≤ front_of kept = front_reaches kept (front_of marks + count) (omega arith) block_decided in
      let ahead_too : AreKeptBeforeFront kept = λ rank held. ⊎_elim
      (λ (old : Contains (kept_of marks) rank). let low = ahead rank old in omega arith)
      (λ (new : Contains (block_of marks (front_of marks) count) rank).
      let range = All-contains (IsWithin (front_of marks) count) (block_of marks (front_of marks) count) rank (block_within marks (front_of marks) count) new in
      let high = range.1 in omega arith)
      (Contains-append_cases (kept_of marks) (block_of marks (front_of marks) count) rank (subst (λ (ranks : List ℕ). Contains ranks rank) listed held)) in ⊎_elim
      (λ (same : settled kept ≡ kept). ([], ap kept_of same ∙ listed ∙ sym (append-nil (kept_of marks ++ block_of marks (front_of marks) count))))
      (λ (s : Settles kept). (front_of kept ∷ [], waiting ahead_too s.waits ∙ ap (λ (ranks : List ℕ). ranks ++ front_of kept ∷ []) listed))
      (settled_cases kept)

-- What the events of a round do to a book.
use Rattle.std.proofs.Common.{◌≡◌, ℕ, zero, suc, ◌+◌, ◌<◌, ◌≤◌, ⊎_elim, true, false, List, [], ◌∷◌, ◌++◌, length, refl, ap, sym, subst, ◌∙◌, arith, append-nil, add-zero}
use Rattle.std.proofs.lemmas.Bool.{cond-false, cases_lt}
use Rattle.std.proofs.lemmas.List.Sums.{prefix_len_passes}
use Rattle.accuse_core.specs.declared.mark.Mark.{Mark}
use Rattle.accuse_core.specs.declared.mark.Mark.TheVariants.{Open}
use Rattle.accuse_core.specs.declared.event.Event.{Event}
use Rattle.accuse_core.specs.declared.event.Event.TheVariants.{No, Block}
use Rattle.accuse_core.specs.declared.event.Reply.TheVariants.{Late, Marked}
use Rattle.accuse_core.specs.Marks.{is_decided, is_yes_over, mark_at, front_of, kept_of, number_kept, with_removed, with_block, block_of, kept_unless_removed, settled}
use Rattle.accuse_core.specs.Events.{Stepped, outcome, replies, changes}
use Rattle.accuse_core.specs.Sound.{AreKeptBeforeFront}
use Rattle.commit_book.specs.Books.{BookView, EntersEvent, ranks_of}
use Rattle.finish_book.specs.Finishing.{removed_of}
use Rattle.finish_book.specs.Inside.Rounds.{GoesOn, KeepsRun, RemovesRank, IsRound}
use Rattle.finish_book.proofs.MarkLemmas.{run_decided, run_removed, run_kept, count_kept_block, count_removal, removal_decides, front_reaches}
use Rattle.finish_book.proofs.RoundLemmas.{stays, entered, and_on, at_most}

abbrev KeepsDecided : Type 0
KeepsDecided = (marks : List Mark) (told : Event) (rank : ℕ) → is_decided (mark_at marks rank) ≡ true → mark_at (outcome marks told).marks rank ≡ mark_at marks rank

abbrev KeepsCount : Type 0
KeepsCount = (marks : List Mark) (told : Event) → length (outcome marks told).marks ≡ length marks

-- a block has as many ranks as before
as_long : (marks : List Mark) (rank count : ℕ) → length (with_block marks rank count) ≡ length marks
as_long [] zero zero = refl
as_long [] zero (suc count) = refl
as_long [] (suc rank) zero = refl
as_long [] (suc rank) (suc count) = refl
as_long (x ∷ xs) zero zero = refl
as_long (x ∷ xs) zero (suc count) = ap suc (as_long xs zero count)
as_long (x ∷ xs) (suc rank) count = ap suc (as_long xs rank count)

-- a run of no ranks
pub keeps_none : (book : BookView) (count : ℕ) → count ≡ 0 → KeepsRun count book book
keeps_none book count none = record {
  goes_on = at_most 0 1 (omega arith) (stays book);
  run = λ rank low. prefix_len_passes is_decided book.marks rank Open (omega arith);
  rest = [];
  kept = sym (append-nil (kept_of book.marks ++ block_of book.marks (front_of book.marks) count)
      ∙ ap (λ n. kept_of book.marks ++ block_of book.marks (front_of book.marks) n) none ∙ append-nil (kept_of book.marks));
  removed = λ rank removed. removed;
  as_many = refl;
}

-- a block that is told keeps a run
pub keeps_run : (book ready after : BookView) (count : ℕ) → ready ≡ record book { spare = 1 }
    → EntersEvent (Block 0 (front_of ready.marks) count (number_kept ready.marks)) ready after
    → front_of book.marks + count ≤ length book.marks → AreKeptBeforeFront book.marks → KeepsDecided → KeepsCount
    → ((marks : List Mark) (rank many other : ℕ) → rank ≤ other → other < rank + many → other < length marks → mark_at (with_block marks rank many) other ≡ kept_unless_removed (mark_at marks other))
    → ((marks : List Mark) (rank many other : ℕ) → other < rank → mark_at (with_block marks rank many) other ≡ mark_at marks other)
    → ((marks : List Mark) (rank many other : ℕ) → rank + many ≤ other → mark_at (with_block marks rank many) other ≡ mark_at marks other)
    → ((marks : List Mark) (many : ℕ) → AreKeptBeforeFront marks → kept_of (with_block marks (front_of marks) many) ≡ kept_of marks ++ block_of marks (front_of marks) many)
    → ((marks : List Mark) → AreKeptBeforeFront marks → is_yes_over (number_kept marks) (mark_at marks (front_of marks)) ≡ true → kept_of (settled marks) ≡ kept_of marks ++ front_of marks ∷ [])
    → KeepsRun count book after
keeps_run book ready after count room told inside ahead keep as_many within before past block waiting =
    let marks_are : after.marks ≡ settled (with_block book.marks (front_of book.marks) count) =
    told.marks ∙ ap (λ (b : BookView). settled (with_block b.marks (front_of b.marks) count)) room in
    let front = front_of book.marks in
    let found = run_kept book.marks count inside (within book.marks front count) (before book.marks front count) (past book.marks front count)
    ahead (as_long book.marks front count) (block book.marks count ahead) (waiting (with_block book.marks front count)) in
    record {
      goes_on = entered (Block 0 (front_of ready.marks) count (number_kept ready.marks)) book ready after refl room told keep as_many;
      run = λ rank low. ap (λ (l : List Mark). is_decided (mark_at l rank)) marks_are
          ∙ run_decided book.marks count inside (within book.marks front count) (before book.marks front count) (past book.marks front count) rank low;
      rest = found.0;
      kept = ap kept_of marks_are ∙ found.1;
      removed = λ rank removed. run_removed book.marks count inside (within book.marks front count) (before book.marks front count) (past book.marks front count) rank
          (sym (ap (λ (l : List Mark). mark_at l rank) marks_are) ∙ removed);
      as_many = ap removed_of marks_are ∙ count_kept_block book.marks front count;
    }

-- a no that is told on a rank that is not decided removes it
pub removes_rank : (book ready after : BookView) (rank seen : ℕ) → ready ≡ record book { spare = 1 } → EntersEvent (No 0 rank seen) ready after
    → rank < length book.marks → is_decided (mark_at book.marks rank) ≡ false → KeepsDecided → KeepsCount → RemovesRank rank book after
removes_rank book ready after rank seen room told inside undecided keep as_many =
    let removes : (outcome book.marks (No 0 rank seen)).marks ≡ settled (with_removed book.marks rank) =
    ap (λ (s : Stepped). s.marks) (cond-false (is_decided (mark_at book.marks rank)) (replies book.marks Late) (changes (with_removed book.marks rank) Marked) undecided) in
    let marks_are : after.marks ≡ settled (with_removed book.marks rank) =
    told.marks ∙ ap (λ (b : BookView). (outcome b.marks (No 0 rank seen)).marks) room ∙ removes in
    record {
      goes_on = entered (No 0 rank seen) book ready after refl room told keep as_many;
      removed = ap (λ (l : List Mark). is_decided (mark_at l rank)) marks_are ∙ removal_decides book.marks rank inside;
      one_more = ap removed_of marks_are ∙ count_removal book.marks rank inside undecided;
    }

-- a run that ends with the last rank decides all
pub last_round : (book after : BookView) (count : ℕ) → KeepsRun count book after → front_of book.marks < ranks_of book.case
    → front_of book.marks + count ≡ ranks_of book.case → length book.marks ≡ ranks_of book.case → front_of after.marks ≤ length after.marks → IsRound 1 book after
last_round book after count kept some ends counted within =
    let as_many = kept.goes_on.as_many in
    let reaches : ranks_of book.case ≤ front_of after.marks = front_reaches after.marks (ranks_of book.case) (omega arith)
    (λ rank low. kept.run rank (omega arith)) in
    record {
      more = 0;
      goes_on = at_most 1 (1 + 0) (omega arith) kept.goes_on;
      removed = kept.as_many ∙ sym (add-zero (removed_of book.marks));
      one = omega arith;
      all = λ none. omega arith;
      moved = omega arith;
    }

-- else the rank after it is removed
pub one_round : (book kept after : BookView) (count next : ℕ) → next ≡ front_of book.marks + count → KeepsRun count book kept → RemovesRank next kept after
    → front_of book.marks < ranks_of book.case → length book.marks ≡ ranks_of book.case → IsRound 1 book after
one_round book kept after count next there keeps removes some counted =
    let as_many = keeps.goes_on.as_many in
    let as_many_too = removes.goes_on.as_many in
    let moved : front_of book.marks + 1 ≤ front_of after.marks = front_reaches after.marks (front_of book.marks + 1) (omega arith)
    (λ rank low. ⊎_elim
    (λ (early : rank < front_of book.marks + count). removes.goes_on.decided rank (keeps.run rank early))
    (λ (late : front_of book.marks + count ≤ rank).
    let same : next ≡ rank = omega arith in subst (λ r. is_decided (mark_at after.marks r) ≡ true) same removes.removed)
    (cases_lt rank (front_of book.marks + count))) in
    record {
      more = 1;
      goes_on = and_on 1 1 keeps.goes_on removes.goes_on;
      removed = let here = removes.one_more in let there = keeps.as_many in omega arith;
      one = omega arith;
      all = λ none. absurd (omega arith);
      moved = omega arith;
    }

-- asking for the front before makes one entry more
pub asked_first : (book asked after : BookView) → GoesOn 1 book asked → asked.marks ≡ book.marks → IsRound 1 asked after → IsRound 2 book after
asked_first book asked after on same round = record {
  more = round.more;
  goes_on = at_most (1 + (1 + round.more)) (2 + round.more) (omega arith) (and_on 1 (1 + round.more) on round.goes_on);
  removed = let here = round.removed in let there = ap removed_of same in omega arith;
  one = round.one;
  all = λ none. round.all none ∙ ap ranks_of on.case_is;
  moved = let here = round.moved in let there = ap front_of same in omega arith;
}

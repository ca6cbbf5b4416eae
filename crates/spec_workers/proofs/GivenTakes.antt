-- What is given to test is what the core replied.
use Rattle.std.proofs.Common.{◌≡◌, ℕ, ◌≤◌, ◌<◌, nat_lt, Bool, true, false, List, ◌++◌, All, Contains, length, take, if◌then◌else◌, ◌==◌, refl, sym, ap, ◌∙◌, subst, arith}
use Rattle.std.proofs.lemmas.Bool.{ltb-true, ltb-false}
use Rattle.std.proofs.lemmas.List.Elements.{All-contains_itself, All-weaker, All-take}
use Rattle.case_file.specs.Cases.{CaseView}
use Rattle.accuse_core.specs.declared.mark.Mark.{Mark}
use Rattle.accuse_core.specs.declared.event.Reply.TheVariants.{Over, Seen, Done, Front}
use Rattle.accuse_core.specs.declared.journal.Entry.{Entry}
use Rattle.accuse_core.specs.Marks.{is_decided, mark_at, kept_of, number_kept, front_of}
use Rattle.accuse_core.specs.Events.{replies, on_take, on_take_front}
use Rattle.accuse_core.specs.Sound.{AreKeptBeforeFront}
use Rattle.commit_book.specs.declared.answers.Taken.{Taken}
use Rattle.commit_book.specs.declared.answers.TakeAnswer.{TakeAnswer}
use Rattle.commit_book.specs.declared.answers.TakeAnswer.TheVariants as T
use Rattle.commit_book.specs.declared.answers.FrontAnswer.{FrontAnswer}
use Rattle.commit_book.specs.declared.answers.FrontAnswer.TheVariants as F
use Rattle.commit_book.specs.Books.{BookView, IsTableFor, ranks_of}
use Rattle.commit_book.specs.Answers.{take_reply, front_reply, GivesRank, GivesFront}
use Rattle.spec_workers.specs.Inside.Asked.{marks_after, IsTakenAt, GivesTake, GivesFrontTake, KeepsFirstOf}

-- a rank that may be tested is not decided, and is to be tested against all kept ranks
seen_of : (decided : Bool) (marks : List Mark) (seen : ℕ)
    → Seen seen ≡ (if decided then replies marks Over else replies marks (Seen (number_kept marks))).reply
    → (decided ≡ false) × (seen ≡ number_kept marks)
seen_of true marks seen is = absurd (cc is)
seen_of false marks seen is = (refl, cc is)

-- the rank at the front is not past the last, and is to be tested against all kept ranks
front_seen_of : (over : Bool) (marks : List Mark) (rank seen : ℕ)
    → Front rank seen ≡ (if over then replies marks Done else replies marks (Front (front_of marks) (number_kept marks))).reply
    → (over ≡ false) × (rank ≡ front_of marks) × (seen ≡ number_kept marks)
front_seen_of true marks rank seen is = absurd (cc is)
front_seen_of false marks rank seen is = (refl, cc is, cc is)

-- by whether it is before the front
front_le_by : (marks : List Mark) (rank : ℕ) (test : Bool) → nat_lt rank (front_of marks) ≡ test
    → ((other : ℕ) → other < front_of marks → is_decided (mark_at marks other) ≡ true)
    → is_decided (mark_at marks rank) ≡ false → front_of marks ≤ rank
front_le_by marks rank true is decided undecided =
    absurd (cc (decided rank (ltb-true rank (front_of marks) is), undecided))
front_le_by marks rank false is decided undecided = ltb-false rank (front_of marks) is

-- a rank that is not decided is not before the front
pub front_le : (marks : List Mark) (rank : ℕ)
    → ((other : ℕ) → other < front_of marks → is_decided (mark_at marks other) ≡ true)
    → is_decided (mark_at marks rank) ≡ false → front_of marks ≤ rank
front_le marks rank decided undecided =
    front_le_by marks rank (nat_lt rank (front_of marks)) refl decided undecided

-- what is given of the marks of a book, with its snapshot
pub taken_at : (case : CaseView) (entries : List Entry) (marks : List Mark) (taken : Taken)
    → marks ≡ marks_after case entries → AreKeptBeforeFront marks
    → front_of marks ≤ taken.rank → taken.rank < ranks_of case → taken.seen ≡ number_kept marks
    → IsTableFor case (take taken.seen (kept_of marks)) taken.snapshot
    → IsTakenAt case entries taken
taken_at case entries marks taken same ahead late inside seen table = record {
  inside = inside;
  few = subst (λ (m : List Mark). taken.seen ≤ number_kept m) same (omega (arith, seen));
  snapshot = subst (λ (m : List Mark). IsTableFor case (take taken.seen (kept_of m)) taken.snapshot) same table;
  before = subst (λ (ranks : List ℕ). All (λ old. old < taken.rank) ranks) (sym table.ranks_are)
      (All-take (λ old. old < taken.rank) taken.seen (kept_of marks)
      (All-weaker (Contains (kept_of marks)) (λ old. old < taken.rank)
      (λ old held. let less = ahead old held in omega (arith, less, late))
      (kept_of marks) (All-contains_itself (kept_of marks))));
}

-- an answer that gives a rank to test gives it after these entries
pub given_take : (before after : BookView) (rank : ℕ) (answer : TakeAnswer)
    → before.marks ≡ marks_after after.case after.entries → before.case ≡ after.case
    → AreKeptBeforeFront before.marks
    → ((other : ℕ) → other < front_of before.marks → is_decided (mark_at before.marks other) ≡ true)
    → rank < ranks_of before.case → take_reply answer ≡ (on_take before.marks rank).reply
    → GivesRank before rank answer → GivesTake after.case after.entries rank answer
given_take before after rank T.Over same case ahead decided inside reply given = tt
given_take before after rank (T.Seen taken) same case ahead decided inside reply given =
    let seen = seen_of (is_decided (mark_at before.marks rank)) before.marks taken.seen reply in
    let late = front_le before.marks rank decided seen.0 in
    let of_case = subst (λ (of : CaseView). (rank < ranks_of of)
    × IsTableFor of (take taken.seen (kept_of before.marks)) taken.snapshot) case (inside, given.1) in (
      given.0,
      seen.1 ∙ ap number_kept same,
      taken_at after.case after.entries before.marks taken same ahead
          (omega (arith, late, given.0)) (omega (arith, of_case.0, given.0)) seen.1 of_case.1,
    )

-- an answer that gives the rank at the front gives it after these entries
pub given_front : (before after : BookView) (answer : FrontAnswer)
    → before.marks ≡ marks_after after.case after.entries → before.case ≡ after.case
    → AreKeptBeforeFront before.marks
    → front_of before.marks ≤ length before.marks → length before.marks ≡ ranks_of before.case
    → front_reply answer ≡ (on_take_front before.marks).reply
    → GivesFront before answer → GivesFrontTake after.case after.entries answer
given_front before after F.Done same case ahead within count reply given = tt
given_front before after (F.Front taken) same case ahead within count reply given =
    let seen = front_seen_of (front_of before.marks == length before.marks) before.marks taken.rank taken.seen reply in
    let some = seen.0 in
    let inside : taken.rank < ranks_of before.case = search (arith, some, within, count, seen.1) in
    let of_case = subst (λ (of : CaseView). (taken.rank < ranks_of of)
    × IsTableFor of (take taken.seen (kept_of before.marks)) taken.snapshot) case (inside, given) in
    let rank_is = seen.1 in (
      rank_is ∙ ap front_of same,
      seen.2 ∙ ap number_kept same,
      taken_at after.case after.entries before.marks taken same ahead
          (omega (arith, rank_is)) of_case.0 seen.2 of_case.1,
    )

-- what a book says of the ranks that it kept after a beginning of its entries
pub keeps_first : (book : BookView) → book.marks ≡ marks_after book.case book.entries
    → ((earlier more : List Entry) (seen : ℕ) → book.entries ≡ earlier ++ more
    → seen ≤ number_kept (marks_after book.case earlier)
    → (seen ≤ number_kept book.marks)
    × (take seen (kept_of book.marks) ≡ take seen (kept_of (marks_after book.case earlier))))
    → KeepsFirstOf book.case book.entries
keeps_first book core law earlier begins seen few =
    let is = law earlier begins.0 seen (sym begins.1) few in (
      subst (λ (m : List Mark). seen ≤ number_kept m) core is.0,
      ap (λ (m : List Mark). take seen (kept_of m)) (sym core) ∙ is.1,
    )

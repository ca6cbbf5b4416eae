-- Rounds one after another.
use Rattle.std.proofs.Common.{◌≡◌, ℕ, ◌+◌, ◌-◌, ◌*◌, ◌^◌, ◌<◌, ◌≤◌, ⊎_elim, true, List, [], ◌∷◌, ◌++◌, length, refl, ap, sym, subst, ◌∙◌, arith, append-nil, add-one}
use Rattle.std.proofs.Math.Nat.{mul-le-mul, suc-mul}
use Rattle.std.proofs.lemmas.Bool.{cases_eq}
use Rattle.std.proofs.lemmas.List.{append_assoc, length-append}
use Rattle.std.proofs.lemmas.List.Elements.{All-append, All-nil, All-cons}
use Rattle.accuse_core.specs.declared.mark.Mark.{Mark}
use Rattle.accuse_core.specs.declared.event.Event.{Event}
use Rattle.accuse_core.specs.declared.journal.Entry.{Entry}
use Rattle.accuse_core.specs.Marks.{is_decided, mark_at, front_of}
use Rattle.accuse_core.specs.Events.{outcome}
use Rattle.commit_book.specs.Books.{BookView, EntersEvent, entry_of, ranks_of}
use Rattle.finish_book.specs.Finishing.{IsFinishing, removed_of, removed_since, AreFewEntries, AreFewTests}
use Rattle.finish_book.specs.Inside.Rounds.{GoesOn, IsTurn, IsUnderWay}

-- nothing is entered
pub stays : (book : BookView) → GoesOn 0 book book
stays book = record {
  case_is = refl;
  entries = ([], sym (append-nil book.entries), All-nil (λ (entry : Entry). IsFinishing entry.event));
  few = omega arith;
  as_many = refl;
  decided = λ rank decided. decided;
}

-- an event of the kinds that a finish enters, after room was made for it
pub entered : (event : Event) (before ready after : BookView) → IsFinishing event → ready ≡ record before { spare = 1 } → EntersEvent event ready after
    → ((marks : List Mark) (told : Event) (rank : ℕ) → is_decided (mark_at marks rank) ≡ true → mark_at (outcome marks told).marks rank ≡ mark_at marks rank)
    → ((marks : List Mark) (told : Event) → length (outcome marks told).marks ≡ length marks)
    → GoesOn 1 before after
entered event before ready after kind room told keep count =
    let entries_are : after.entries ≡ before.entries ++ entry_of ready.marks event ∷ [] =
    told.entries ∙ ap (λ (book : BookView). book.entries ++ entry_of ready.marks event ∷ []) room in
    let marks_are : ready.marks ≡ before.marks = ap (λ (book : BookView). book.marks) room in
    record {
      case_is = told.case ∙ ap (λ (book : BookView). book.case) room;
      entries = (
        entry_of ready.marks event ∷ [],
        entries_are,
        All-cons (λ (entry : Entry). IsFinishing entry.event) (entry_of ready.marks event) [] kind (All-nil (λ (entry : Entry). IsFinishing entry.event)),
      );
      few = omega (arith, ap (λ (l : List Entry). length l) entries_are, length-append before.entries (entry_of ready.marks event ∷ []));
      as_many = ap (λ (l : List Mark). length l) told.marks ∙ count ready.marks event ∙ ap (λ (l : List Mark). length l) marks_are;
      decided = λ rank decided.
          let there : is_decided (mark_at ready.marks rank) ≡ true = subst (λ (l : List Mark). is_decided (mark_at l rank) ≡ true) (sym marks_are) decided in
          ap (λ (l : List Mark). is_decided (mark_at l rank)) told.marks ∙ ap is_decided (keep ready.marks event rank there) ∙ there;
    }

-- one after another
pub and_on : {first second third : BookView} (one two : ℕ) → GoesOn one first second → GoesOn two second third → GoesOn (one + two) first third
and_on {first} {second} {third} one two a b = record {
  case_is = b.case_is ∙ a.case_is;
  entries = (
    a.entries.0 ++ b.entries.0,
    b.entries.1 ∙ ap (λ l. l ++ b.entries.0) a.entries.1 ∙ append_assoc first.entries a.entries.0 b.entries.0,
    All-append (λ (entry : Entry). IsFinishing entry.event) a.entries.0 b.entries.0 a.entries.2 b.entries.2,
  );
  few = let here = a.few in let there = b.few in omega arith;
  as_many = b.as_many ∙ a.as_many;
  decided = λ rank decided. b.decided rank (a.decided rank decided);
}

-- more entries may be allowed
pub at_most : {before after : BookView} (few many : ℕ) → few ≤ many → GoesOn few before after → GoesOn many before after
at_most few many less a = record { case_is = a.case_is; entries = a.entries; few = let here = a.few in omega arith; as_many = a.as_many; decided = a.decided }

-- nothing was done yet
pub not_begun : (levels : ℕ) (book : BookView) → IsUnderWay 0 levels 0 book book
not_begun levels book = record {
  ended = 0;
  one = omega arith;
  all = λ ended. absurd (omega arith);
  removed = 0;
  count = omega arith;
  goes_on = stays book;
  tests = omega arith;
  moved = omega arith;
}

-- what a round leaves of the count of tests
one_more : (removed levels : ℕ) → removed * (levels + 1) + (levels + 1) ≡ (removed + 1) * (levels + 1)
one_more removed levels = sym (ap (λ n. n * (levels + 1)) (add-one removed) ∙ suc-mul removed (levels + 1))

-- one more round, or nothing if all are decided
pub one_more_round : (rounds levels made tests : ℕ) (begun before after : BookView) → rounds < ranks_of begun.case
    → front_of before.marks ≤ ranks_of before.case → IsUnderWay rounds levels made begun before → IsTurn (levels + 1) tests before after
    → IsUnderWay (rounds + 1) levels (made + tests) begun after
one_more_round rounds levels made tests begun before after inside within way turn =
    let ranks : ranks_of before.case ≡ ranks_of begun.case = ap ranks_of way.goes_on.case_is in ⊎_elim
    (λ (over : front_of before.marks ≡ ranks_of before.case).
    let nothing = turn.over over in
    subst (λ (book : BookView). IsUnderWay (rounds + 1) levels (made + tests) begun book) (sym nothing.0) (record {
      ended = way.ended;
      one = way.one;
      all = way.all;
      removed = way.removed;
      count = way.count;
      goes_on = way.goes_on;
      tests = let so_far = way.tests in let none = nothing.1 in omega arith;
      moved = omega arith;
    }))
    (λ (left : front_of before.marks ≡ ranks_of before.case → ⊥).
    let round = turn.round (omega arith) in
    let ended : way.ended ≡ 0 = ⊎_elim
    (λ (is_one : way.ended ≡ 1). absurd (left (way.all is_one ∙ sym ranks)))
    (λ (is_not : way.ended ≡ 1 → ⊥). let one = way.one in omega arith)
    (cases_eq way.ended 1) in
    let more = round.0.more in
    let at_most_one = round.0.one in
    record {
      ended = 1 - more;
      one = omega arith;
      all = λ is_one. round.0.all (omega arith) ∙ ranks;
      removed = way.removed + more;
      count = let here = round.0.removed in let there = way.count in omega arith;
      goes_on = at_most (3 * way.removed + 2 * way.ended + (2 + more)) (3 * (way.removed + more) + 2 * (1 - more)) (omega arith)
          (and_on (3 * way.removed + 2 * way.ended) (2 + more) way.goes_on round.0.goes_on);
      tests =
          let so_far : made ≤ way.removed * (levels + 1) = subst (λ n. made ≤ n * (levels + 1)) (omega arith) way.tests in
          let now = round.1 in
          let all : made + tests ≤ (way.removed + 1) * (levels + 1) = let step = one_more way.removed levels in omega arith in
          subst (λ n. made + tests ≤ n * (levels + 1)) (omega arith) all;
      moved = let low = way.moved in let moves = round.0.moved in omega arith;
    })
    (cases_eq (front_of before.marks) (ranks_of before.case))

-- in the end the front is asked for once more, and there is none
module _ (rounds levels tests : ℕ) (begun book after : BookView) (way : IsUnderWay rounds levels tests begun book)
    (asked : GoesOn 1 book after) (marks_are : after.marks ≡ book.marks) where
  same_count : removed_of after.marks ≡ removed_of begun.marks + way.removed
  same_count = ap removed_of marks_are ∙ way.count

  pub few_entries : AreFewEntries begun after
  few_entries = let count = same_count in let ended = way.one in let one = way.goes_on.few in let two = asked.few in record {
    grown = omega arith;
    few = omega arith;
  }

  pub few_tests : ((other : ℕ) → ranks_of begun.case ≤ 2 ^ other → levels ≤ other) → AreFewTests tests begun after
  few_tests least other enough =
      let count = same_count in let ended = way.one in let made = way.tests in let low = least other enough in
      let bound : (way.removed + way.ended) * (levels + 1) ≤ (removed_since begun after + 1) * (other + 1) = mul-le-mul (omega arith) (omega arith) in
      omega arith

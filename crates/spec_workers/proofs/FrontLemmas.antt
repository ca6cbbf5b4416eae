-- The front never goes back, and a verdict on the rank that was at it moves it.
use Rattle.std.proofs.Common.{◌≡◌, ℕ, ◌<◌, ◌≤◌, true, List, [], ◌∷◌, ◌++◌, Contains, length, refl, sym, ap, ◌∙◌, subst, arith, ⊎_elim}
use Rattle.std.proofs.lemmas.Bool.{cases_lt}
use Rattle.conflict_logic.proofs.SetLemmas.{IsStrictlyIncreasing-unique}
use Rattle.commit_lock.specs.Entries.{IsBeginning}
use Rattle.accuse_core.specs.declared.mark.Mark.{Mark}
use Rattle.accuse_core.specs.declared.mark.Mark.TheVariants.{Open, Yes, Kept, Removed}
use Rattle.accuse_core.specs.declared.event.Event.{Event}
use Rattle.accuse_core.specs.declared.event.Event.TheVariants as E
use Rattle.accuse_core.specs.declared.journal.Entry.{Entry}
use Rattle.accuse_core.specs.Marks.{is_decided, is_kept, mark_at, opening, kept_of, number_kept, front_of}
use Rattle.accuse_core.specs.Events.{outcome, on_no, on_yes}
use Rattle.accuse_core.specs.Journal.{after, events_of, replayed}
use Rattle.accuse_core.specs.Sound.{AreKeptBeforeFront}
use Rattle.accuse_core.proofs.FrontLaws.{decided_before, front_within, front_at_least}
use Rattle.accuse_core.proofs.StayLaws.{decided_stays}
use Rattle.accuse_core.proofs.MarkLaws.{into_kept, out_of_kept}
use Rattle.accuse_core.proofs.RankLaws.{ranks_ascend}
use Rattle.accuse_core.proofs.VerdictLaws.{no_moves, yes_moves}
use Rattle.accuse_core.proofs.JournalLaws.{replayed_grows, replayed_length}
use Rattle.case_file.specs.Cases.{CaseView}
use Rattle.commit_book.specs.declared.answers.Taken.{Taken}
use Rattle.commit_book.specs.Books.{BookView, IsBook, EntersEvent, entry_of, ranks_of}
use Rattle.spec_workers.specs.Turns.{IsVerdictOn}
use Rattle.spec_workers.specs.Inside.Fronts.{IsOfFront, IsPast}

-- a decided rank keeps its mark through all events
stays : (marks : List Mark) (events : List Event) (rank : ℕ) → is_decided (mark_at marks rank) ≡ true
    → mark_at (after marks events) rank ≡ mark_at marks rank
stays marks [] rank decided = refl
stays marks (event ∷ events) rank decided =
    let once = decided_stays marks event rank decided in
    stays (outcome marks event).marks events rank (ap is_decided once ∙ decided) ∙ once

-- a kept rank is decided
kept_is_decided : (mark : Mark) → is_kept mark ≡ true → is_decided mark ≡ true
kept_is_decided Open kept = kept
kept_is_decided (Yes seen) kept = kept
kept_is_decided Kept kept = kept
kept_is_decided Removed kept = refl

-- a verdict on the rank at the front, over all kept ranks, moves the front
verdict_moves : (marks : List Mark) (worker rank seen : ℕ) (told : Entry) → IsVerdictOn worker rank seen told
    → front_of marks ≡ rank → number_kept marks ≡ seen → front_of marks < length marks
    → rank < front_of (outcome marks told.event).marks
verdict_moves marks worker rank seen told verdict same count some = ⊎_elim
    (λ (no : told.event ≡ E.No worker rank seen).
    subst (λ (e : Event). rank < front_of (outcome marks e).marks) (sym no)
    (subst (λ (r : ℕ). r < front_of (on_no marks r).marks) same (no_moves marks some)))
    (λ (yes : told.event ≡ E.Yes worker rank seen).
    subst (λ (e : Event). rank < front_of (outcome marks e).marks) (sym yes)
    (subst (λ (r : ℕ). r < front_of (on_yes marks r seen).marks) same
    (subst (λ (k : ℕ). front_of marks < front_of (on_yes marks (front_of marks) k).marks) count (yes_moves marks some))))
    verdict

-- the marks after a journal are those after its beginning, and then the rest
after_rest : (marks : List Mark) (earlier more : List Entry)
    → after marks (events_of (earlier ++ more)) ≡ after (after marks (events_of earlier)) (events_of more)
after_rest marks [] more = refl
after_rest marks (entry ∷ earlier) more = after_rest (outcome marks entry.event).marks earlier more

-- the front is among the ranks
pub front_at_most : (n : ℕ) (entries : List Entry) → front_of (replayed n entries) ≤ n
front_at_most n entries =
    let within = front_within (replayed n entries) in
    let ranks = replayed_length n entries in
    omega (arith, within, ranks)

module _ (n : ℕ) (earlier entries : List Entry) (begins : IsBeginning earlier entries) where
  abbrev then : List Mark
  then = replayed n earlier

  abbrev now : List Mark
  now = replayed n entries

  -- what is decided after the beginning of a journal stays so
  stays_more : (rank : ℕ) → is_decided (mark_at then rank) ≡ true → mark_at now rank ≡ mark_at then rank
  stays_more rank decided =
      ap (λ (l : List Entry). mark_at (replayed n l) rank) (sym begins.1)
      ∙ (ap (λ (m : List Mark). mark_at m rank) (after_rest (opening n) earlier begins.0)
      ∙ stays then (events_of begins.0) rank decided)

  -- so the front doesn't go back
  pub front_after_more : front_of then ≤ front_of now
  front_after_more =
      let within = front_at_most n earlier in
      let ranks = replayed_length n entries in
      front_at_least now (front_of then) (omega (arith, within, ranks))
      (λ rank below.
      let decided = decided_before then rank below in
      ap is_decided (stays_more rank decided) ∙ decided)

  -- a rank that was kept still is
  still_kept : (rank : ℕ) → Contains (kept_of then) rank → Contains (kept_of now) rank
  still_kept rank held =
      let kept = out_of_kept then rank held in
      into_kept now rank (ap is_kept (stays_more rank (kept_is_decided (mark_at then rank) kept)) ∙ kept)

  -- if the front is where it was, no rank was kept since
  same_kept : AreKeptBeforeFront now → front_of now ≡ front_of then → number_kept now ≡ number_kept then
  same_kept ahead same =
      let was_kept : (rank : ℕ) → Contains (kept_of now) rank → Contains (kept_of then) rank =
      λ rank held.
      let low = ahead rank held in
      let decided = decided_before then rank (omega (arith, low, same)) in
      into_kept then rank (ap is_kept (sym (stays_more rank decided)) ∙ out_of_kept now rank held) in
      ap length (IsStrictlyIncreasing-unique (kept_of now) (kept_of then) (ranks_ascend is_kept 0 now) (ranks_ascend is_kept 0 then) was_kept still_kept)

-- a verdict on the rank that was at the front, over the ranks that were kept then, comes late, or it moves the front
pub told_moves : (n : ℕ) (earlier entries : List Entry) (worker rank seen : ℕ) (told : Entry)
    → IsBeginning earlier entries → IsVerdictOn worker rank seen told
    → rank ≡ front_of (replayed n earlier) → seen ≡ number_kept (replayed n earlier)
    → rank < n → AreKeptBeforeFront (replayed n entries)
    → rank < front_of (replayed n (entries ++ told ∷ []))
told_moves n earlier entries worker rank seen told begins verdict at_front all inside ahead =
    let now = replayed n entries in
    let grown = front_after_more n earlier entries begins in
    ⊎_elim
    (λ (past : rank < front_of now).
    let on = front_after_more n entries (entries ++ told ∷ []) (told ∷ [], refl) in
    omega (arith, past, on))
    (λ (low : front_of now ≤ rank).
    let same : front_of now ≡ rank = omega (arith, low, grown, at_front) in
    let ranks = replayed_length n entries in
    let some : front_of now < length now = omega (arith, same, inside, ranks) in
    let count : number_kept now ≡ seen = same_kept n earlier entries begins ahead (same ∙ at_front) ∙ sym all in
    subst (λ (m : List Mark). rank < front_of m) (sym (replayed_grows n entries told))
    (verdict_moves now worker rank seen told verdict same count some))
    (cases_lt rank (front_of now))

-- the same of a book in which the verdict was entered
pub verdict_told_moves : (before ready told : BookView) (worker : ℕ) (taken : Taken) (event : Event)
    → ready.case ≡ before.case → ready.entries ≡ before.entries → EntersEvent event ready told
    → IsVerdictOn worker taken.rank taken.seen (entry_of ready.marks event)
    → IsBook before → AreKeptBeforeFront before.marks → taken.rank < ranks_of before.case
    → (earlier : List Entry) → IsBeginning earlier before.entries → IsOfFront before.case earlier taken
    → IsPast told.case told.entries taken.rank
verdict_told_moves before ready told worker taken event same_case same_entries enters verdict book ahead inside earlier begins front =
    let entry = entry_of ready.marks event in
    let entries = enters.entries ∙ ap (λ (l : List Entry). l ++ entry ∷ []) same_entries in
    let moved = told_moves (ranks_of before.case) earlier before.entries worker taken.rank taken.seen entry begins verdict
    front.0 front.1 inside (subst AreKeptBeforeFront book.core ahead) in
    subst (λ (l : List Entry). IsPast told.case l taken.rank) (sym entries)
    (subst (λ (of : CaseView). IsPast of (before.entries ++ entry ∷ []) taken.rank) (sym (enters.case ∙ same_case)) moved)

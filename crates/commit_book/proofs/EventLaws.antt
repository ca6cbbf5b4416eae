-- What each event leaves, before the front is taken anew, and how the journal grows by it.
use Rattle.std.proofs.Common.{◌≡◌, ℕ, ◌<◌, false, List, [], ◌∷◌, ◌++◌, length, set, take, Contains, refl, sym, subst, ap, ◌∙◌, arith}
use Rattle.std.proofs.lemmas.List.{append-nil}
use Rattle.el_logic.specs.declared.types.Part.{Part}
use Rattle.case_file.specs.Cases.{CaseView}
use Rattle.case_file.specs.Incoherence.{IsIncoherentFor}
use Rattle.closed_model.specs.ClosedTables.{TableView, IsClosedTable}
use Rattle.derivation.specs.declared.types.Step.{Step}
use Rattle.derivation.specs.Steps.{IsGoodDerivation}
use Rattle.accuse_core.specs.declared.mark.Mark.{Mark}
use Rattle.accuse_core.specs.declared.mark.Mark.TheVariants.{Yes, Kept, Removed}
use Rattle.accuse_core.specs.declared.event.Event.{Event}
use Rattle.accuse_core.specs.declared.journal.Entry.{Entry}
use Rattle.accuse_core.specs.Marks.{is_decided, with_kept, with_removed, with_note, mark_at, kept_of, front_of}
use Rattle.accuse_core.specs.Events.{outcome, IsAllowed}
use Rattle.accuse_core.specs.Journal.{replayed}
use Rattle.accuse_core.specs.Sound.{AreKeptBeforeFront}
use Rattle.commit_book.specs.declared.held.Held.{Held}
use Rattle.commit_book.specs.declared.held.Held.TheVariants.{Nothing, Note, Why}
use Rattle.commit_book.specs.Books.{ranks_of, IsTableFor, entry_of}
use Rattle.commit_book.specs.Inside.Holdings.{IsNoteFor, AreBacked, IsSettled, IsKept}
use Rattle.commit_book.specs.Inside.Laws.{Laws}
use Rattle.commit_book.proofs.FrontLaws.{open_from_front}
use Rattle.commit_book.proofs.BackLaws.{backed_more, backed_set, why_from_seen}

-- ranks that are kept are before one that isn't decided
kept_below : (marks : List Mark) (rank : ℕ) → AreKeptBeforeFront marks → is_decided (mark_at marks rank) ≡ false
    → (other : ℕ) → Contains (kept_of marks) other → other < rank
kept_below marks rank ahead undecided other there =
    let before = ahead other there in
    let from = open_from_front marks rank undecided in
    omega arith

module _ (case : CaseView) (laws : Laws case) where
  -- a longer journal, with what is held and the table after the event
  pub kept_after : (marks : List Mark) (entries : List Entry) (held later : List Held) (table new : TableView) (event : Event)
      → IsKept case marks entries held table → IsAllowed (IsIncoherentFor case Part.Both) marks event
      → length later ≡ length held → IsSettled case (outcome marks event).marks later new
      → IsKept case (outcome marks event).marks (entries ++ entry_of marks event ∷ []) later new
  kept_after marks entries held later table new event kept allowed count whole =
      let ranks = ranks_of case in
      let core = kept.core in
      let at : replayed ranks entries ≡ marks = sym core in
      record {
        case_is = kept.case_is;
        journal = laws.journal.grows ranks entries (entry_of marks event) kept.journal
            (subst (λ m. IsAllowed (IsIncoherentFor case Part.Both) m event) core allowed)
            (ap (λ m. (outcome m event).reply) core);
        core = ap (λ m. (outcome m event).marks) core ∙ sym (laws.journal.replays ranks entries (entry_of marks event));
        ranks = laws.journal.count marks event ∙ kept.ranks;
        count = count ∙ kept.count ∙ sym (laws.journal.count marks event);
        settled = whole;
      }

  -- an event that leaves the marks leaves what is held
  pub kept_same : (marks : List Mark) (entries : List Entry) (held : List Held) (table : TableView) (event : Event)
      → IsKept case marks entries held table → IsAllowed (IsIncoherentFor case Part.Both) marks event → (outcome marks event).marks ≡ marks
      → IsKept case (outcome marks event).marks (entries ++ entry_of marks event ∷ []) held table
  kept_same marks entries held table event kept allowed same =
      kept_after marks entries held held table table event kept allowed refl (subst (λ m. IsSettled case m held table) (sym same) kept.settled)

  -- a rank is removed
  pub removed_settled : (marks : List Mark) (held : List Held) (table : TableView) (rank seen : ℕ) (steps : List Step)
      → AreKeptBeforeFront marks → IsSettled case marks held table → length held ≡ length marks → rank < length marks
      → is_decided (mark_at marks rank) ≡ false
      → IsGoodDerivation case Part.Both (take seen (kept_of marks) ++ rank ∷ []) steps
      → IsSettled case (with_removed marks rank) (set held rank (Why steps)) table
  removed_settled marks held table rank seen steps ahead whole count inside undecided good =
      let kept : kept_of (with_removed marks rank) ≡ kept_of marks = laws.kept.removed marks rank undecided in
      let none : kept_of marks ++ [] ≡ kept_of (with_removed marks rank) = append-nil (kept_of marks) ∙ sym kept in
      let here = why_from_seen case laws.verdict (kept_of marks) seen rank steps (kept_below marks rank ahead undecided) good in
      record {
        backed = subst (λ (ranks : List ℕ). AreBacked case ranks (with_removed marks rank) (set held rank (Why steps))) none
            (backed_set case laws.verdict (kept_of marks) [] marks held rank Removed (Why steps) inside (omega arith)
            (backed_more case laws.verdict (kept_of marks) [] rank Removed (Why steps) here) whole.backed);
        is_for = record { case_is = whole.is_for.case_is; ranks_are = whole.is_for.ranks_are ∙ sym kept };
        closed = whole.closed;
      }

  -- a yes is noted
  pub noted_settled : (marks : List Mark) (held : List Held) (table noted : TableView) (rank seen : ℕ)
      → IsSettled case marks held table → length held ≡ length marks → rank < length marks
      → is_decided (mark_at marks rank) ≡ false → IsNoteFor case (kept_of marks) seen rank noted
      → IsSettled case (with_note marks rank seen) (set held rank (Note noted)) table
  noted_settled marks held table noted rank seen whole count inside undecided note =
      let kept : kept_of (with_note marks rank seen) ≡ kept_of marks = laws.kept.noted marks rank seen undecided in
      let none : kept_of marks ++ [] ≡ kept_of (with_note marks rank seen) = append-nil (kept_of marks) ∙ sym kept in
      record {
        backed = subst (λ (ranks : List ℕ). AreBacked case ranks (with_note marks rank seen) (set held rank (Note noted))) none
            (backed_set case laws.verdict (kept_of marks) [] marks held rank (Yes seen) (Note noted) inside (omega arith)
            (backed_more case laws.verdict (kept_of marks) [] rank (Yes seen) (Note noted) note) whole.backed);
        is_for = record { case_is = whole.is_for.case_is; ranks_are = whole.is_for.ranks_are ∙ sym kept };
        closed = whole.closed;
      }

  -- the rank at the front is kept
  pub front_settled : (marks : List Mark) (held : List Held) (table new : TableView)
      → AreKeptBeforeFront marks → IsSettled case marks held table → length held ≡ length marks → front_of marks < length marks
      → IsTableFor case (kept_of marks ++ front_of marks ∷ []) new → IsClosedTable new
      → IsSettled case (with_kept marks (front_of marks)) (set held (front_of marks) Nothing) new
  front_settled marks held table new ahead whole count inside is_for closed =
      let front = front_of marks in
      let kept : kept_of (with_kept marks front) ≡ kept_of marks ++ front ∷ [] = laws.kept.front marks ahead inside in
      record {
        backed = subst (λ (ranks : List ℕ). AreBacked case ranks (with_kept marks front) (set held front Nothing)) (sym kept)
            (backed_set case laws.verdict (kept_of marks) (front ∷ []) marks held front Kept Nothing inside (omega arith) tt whole.backed);
        is_for = record { case_is = is_for.case_is; ranks_are = is_for.ranks_are ∙ sym kept };
        closed = closed;
      }

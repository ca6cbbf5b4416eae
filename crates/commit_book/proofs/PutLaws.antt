-- Each call: its event is allowed, what it puts leaves the marks backed, and the book keeps what it
-- keeps.
use Rattle.std.proofs.Common.{◌≡◌, ℕ, ◌+◌, ◌<◌, ◌≤◌, true, false, ⊎_elim, List, [], ◌∷◌, ◌++◌, length, set, take, Contains, refl, sym, subst, ap, ◌∙◌, arith}
use Rattle.std.specs.Prelude.{Option, Some}
use Rattle.std.proofs.Math.Seq.{take-length}
use Rattle.std.proofs.lemmas.Bool.{cases_Bool}
use Rattle.std.proofs.lemmas.List.Elements.{Contains-push_cases}
use Rattle.std.proofs.lemmas.List.Sums.{prefix_len-le-length}
use Rattle.el_logic.specs.declared.types.Part.{Part}
use Rattle.case_file.specs.Cases.{CaseView}
use Rattle.case_file.specs.Incoherence.{IsIncoherentFor}
use Rattle.closed_model.specs.ClosedTables.{TableView, IsClosedTable}
use Rattle.derivation.specs.declared.types.Step.{Step}
use Rattle.derivation.specs.Steps.{IsGoodDerivation}
use Rattle.accuse_core.specs.declared.mark.Mark.{Mark}
use Rattle.accuse_core.specs.declared.event.Event.{Event}
use Rattle.accuse_core.specs.declared.event.Event.TheVariants as E
use Rattle.accuse_core.specs.declared.event.Reply.TheVariants as R
use Rattle.accuse_core.specs.declared.journal.Entry.{Entry}
use Rattle.accuse_core.specs.Marks.{is_decided, with_kept, with_removed, with_note, with_block, block_of, mark_at, kept_of, number_kept, front_of}
use Rattle.accuse_core.specs.Events.{outcome, on_take, on_no, on_yes, on_block, IsFittingVerdict, IsAllowed}
use Rattle.accuse_core.specs.Sound.{AreKeptBeforeFront}
use Rattle.commit_book.specs.declared.held.Held.{Held}
use Rattle.commit_book.specs.declared.held.Held.TheVariants.{Nothing, Note, Why}
use Rattle.commit_book.specs.Books.{IsTableFor, entry_of}
use Rattle.commit_book.specs.Inside.Holdings.{IsSettled, IsNearlySettled, IsKept, IsReady}
use Rattle.commit_book.specs.Inside.Laws.{Laws}
use Rattle.commit_book.proofs.FrontLaws.{removed_ahead, noted_ahead, front_ahead, block_ahead}
use Rattle.commit_book.proofs.BackLaws.{contains_take}
use Rattle.commit_book.proofs.SettleLaws.{nearly_settled}
use Rattle.commit_book.proofs.EventLaws.{kept_after, kept_same, removed_settled, noted_settled, front_settled}
use Rattle.commit_book.proofs.TellLaws.{no_marked, yes_kept, yes_noted, HasLostNotes, block_settled}

-- who asks for a rank is told that it is over, or how many are kept
pub take_over : (marks : List Mark) (rank : ℕ) → ((seen : ℕ) → (on_take marks rank).reply ≡ R.Seen seen → ⊥) → (on_take marks rank).reply ≡ R.Over
take_over marks rank not_seen = ⊎_elim
    (λ (over : is_decided (mark_at marks rank) ≡ true). rw over refl)
    (λ (undecided : is_decided (mark_at marks rank) ≡ false). absurd (not_seen (number_kept marks) (rw undecided refl)))
    (cases_Bool (is_decided (mark_at marks rank)))

pub take_seen : (marks : List Mark) (rank seen : ℕ) → (on_take marks rank).reply ≡ R.Seen seen → seen ≡ number_kept marks
take_seen marks rank seen reply = ⊎_elim
    (λ (over : is_decided (mark_at marks rank) ≡ true). let is : (on_take marks rank).reply ≡ R.Over = rw over refl in absurd (cc))
    (λ (undecided : is_decided (mark_at marks rank) ≡ false). let is : (on_take marks rank).reply ≡ R.Seen (number_kept marks) = rw undecided refl in cc)
    (cases_Bool (is_decided (mark_at marks rank)))

-- the share is a table for the kept ranks that are said to be seen
pub snapshot_for : (case : CaseView) (kept : List ℕ) (table share : TableView) (room seen : ℕ) (next : Option TableView)
    → IsTableFor case kept table → IsReady table room next → next ≡ Some share → seen ≡ length kept → IsTableFor case (take seen kept) share
snapshot_for case kept table share room seen next is_for ready is_next all =
    let ready_share = subst (IsReady table room) is_next ready in
    let same : share ≡ table = ready_share.0 in
    record {
      case_is = ap (λ (t : TableView). t.case) same ∙ is_for.case_is;
      ranks_are = ap (λ (t : TableView). t.ranks) same ∙ is_for.ranks_are ∙ sym (ap (λ n. take n kept) all ∙ take-length kept);
    }

module _ (case : CaseView) (laws : Laws case) where
  -- the first kept ranks, and a rank, are ranks of the case
  ranks_inside : (marks : List Mark) (entries : List Entry) (held : List Held) (table : TableView) (rank seen : ℕ) → AreKeptBeforeFront marks
      → IsKept case marks entries held table → rank < length marks
      → (other : ℕ) → Contains (take seen (kept_of marks) ++ rank ∷ []) other → other < length case.order
  ranks_inside marks entries held table rank seen ahead kept inside other there =
      let count = kept.ranks in
      ⊎_elim
      (λ (first : Contains (take seen (kept_of marks)) other).
      let before = ahead other (contains_take seen (kept_of marks) other first) in
      omega (arith, prefix_len-le-length is_decided marks))
      (λ (last : rank ≡ other). omega arith)
      (Contains-push_cases (take seen (kept_of marks)) rank other there)

  pub no_allowed : (marks : List Mark) (entries : List Entry) (held : List Held) (table : TableView) (worker rank seen : ℕ) (steps : List Step)
      → AreKeptBeforeFront marks → IsKept case marks entries held table → IsFittingVerdict marks rank seen
      → IsGoodDerivation case Part.Both (take seen (kept_of marks) ++ rank ∷ []) steps
      → IsAllowed (IsIncoherentFor case Part.Both) marks (E.No worker rank seen)
  no_allowed marks entries held table worker rank seen steps ahead kept fits good = record {
    fits = fits;
    verdict = laws.verdict.no (take seen (kept_of marks) ++ rank ∷ []) steps (ranks_inside marks entries held table rank seen ahead kept fits.0) good;
  }

  -- ranks of which there is a closed table are coherent
  coherent : (table : TableView) (ranks : List ℕ) → IsTableFor case ranks table → IsClosedTable table → ¬ (IsIncoherentFor case Part.Both ranks)
  coherent table ranks is_for closed =
      subst (λ (of : List ℕ). ¬ (IsIncoherentFor case Part.Both of)) is_for.ranks_are (laws.verdict.yes table is_for.case_is closed)

  pub yes_allowed : (marks : List Mark) (worker rank seen : ℕ) (table : TableView) → IsFittingVerdict marks rank seen
      → IsTableFor case (take seen (kept_of marks) ++ rank ∷ []) table → IsClosedTable table
      → IsAllowed (IsIncoherentFor case Part.Both) marks (E.Yes worker rank seen)
  yes_allowed marks worker rank seen table fits is_for closed =
      record { fits = fits; verdict = coherent table (take seen (kept_of marks) ++ rank ∷ []) is_for closed }

  pub block_allowed : (marks : List Mark) (worker count : ℕ) (table : TableView) → 1 ≤ count → front_of marks + count ≤ length marks
      → IsTableFor case (kept_of marks ++ block_of marks (front_of marks) count) table → IsClosedTable table
      → IsAllowed (IsIncoherentFor case Part.Both) marks (E.Block worker (front_of marks) count (number_kept marks))
  block_allowed marks worker count table some inside is_for closed =
      record { fits = (refl, refl, some, inside); verdict = coherent table (kept_of marks ++ block_of marks (front_of marks) count) is_for closed }

  -- the same of values that are known to be these
  pub after_call : (marks later : List Mark) (entries more : List Entry) (held new_held : List Held) (table new : TableView) (event : Event) (of : CaseView)
      → IsKept case marks entries held table → IsAllowed (IsIncoherentFor case Part.Both) marks event
      → later ≡ (outcome marks event).marks → more ≡ entries ++ entry_of marks event ∷ [] → of ≡ case
      → length new_held ≡ length held → IsSettled of later new_held new → IsKept case later more new_held new
  after_call marks later entries more held new_held table new event of kept allowed later_is more_is same count whole =
      rw (later_is, more_is) (kept_after case laws marks entries held new_held table new event kept allowed count
      (subst (λ (m : List Mark). IsSettled case m new_held new) later_is (subst (λ (o : CaseView). IsSettled o later new_held new) same whole)))

  pub after_same : (marks later : List Mark) (entries more : List Entry) (held : List Held) (table : TableView) (event : Event)
      → IsKept case marks entries held table → IsAllowed (IsIncoherentFor case Part.Both) marks event
      → (outcome marks event).marks ≡ marks → later ≡ (outcome marks event).marks → more ≡ entries ++ entry_of marks event ∷ []
      → IsKept case later more held table
  after_same marks later entries more held table event kept allowed same later_is more_is =
      rw (later_is, more_is) (kept_same case laws marks entries held table event kept allowed same)

  -- marks that the core has taken anew, and a table that is of the case
  near : (marks later : List Mark) (held : List Held) (table : TableView) → table.case ≡ case → later ≡ marks
      → IsNearlySettled case marks held table → IsNearlySettled table.case later held table
  near marks later held table same is settled =
      subst (λ (of : CaseView). IsNearlySettled of later held table) (sym same) (subst (λ (m : List Mark). IsNearlySettled case m held table) (sym is) settled)

  pub no_put : (marks later : List Mark) (entries : List Entry) (held : List Held) (table : TableView) (rank seen : ℕ) (steps : List Step)
      → AreKeptBeforeFront marks → IsKept case marks entries held table → IsFittingVerdict marks rank seen
      → IsGoodDerivation case Part.Both (take seen (kept_of marks) ++ rank ∷ []) steps
      → (on_no marks rank).reply ≡ R.Marked → later ≡ (on_no marks rank).marks
      → IsNearlySettled table.case later (set held rank (Why steps)) table
  no_put marks later entries held table rank seen steps ahead kept fits good reply later_is =
      let marked = no_marked marks rank reply in
      near _ later (set held rank (Why steps)) table kept.settled.is_for.case_is (later_is ∙ marked.marks_are)
      (nearly_settled case laws (with_removed marks rank) (set held rank (Why steps)) table
      (removed_ahead laws.kept marks rank ahead fits.0 marked.undecided)
      (removed_settled case laws marks held table rank seen steps ahead kept.settled kept.count fits.0 marked.undecided good))

  pub yes_put : (marks later : List Mark) (entries : List Entry) (held : List Held) (table new : TableView) (rank seen : ℕ)
      → AreKeptBeforeFront marks → IsKept case marks entries held table → IsFittingVerdict marks rank seen
      → IsTableFor case (take seen (kept_of marks) ++ rank ∷ []) new → IsClosedTable new
      → (on_yes marks rank seen).reply ≡ R.Kept → later ≡ (on_yes marks rank seen).marks
      → IsNearlySettled new.case later (set held rank Nothing) new
  yes_put marks later entries held table new rank seen ahead kept fits is_for closed reply later_is =
      let yes = yes_kept marks rank seen reply in
      let front : rank ≡ front_of marks = yes.at in
      let most : number_kept marks ≤ seen = yes.all in
      let few : seen ≤ number_kept marks = fits.1 in
      let all : seen ≡ number_kept marks = omega arith in
      let inside : front_of marks < length marks = subst (λ r. r < length marks) front fits.0 in
      let ranks : take seen (kept_of marks) ++ rank ∷ [] ≡ kept_of marks ++ front_of marks ∷ [] =
      ap (λ n. take n (kept_of marks) ++ rank ∷ []) all ∙ ap (λ (kept : List ℕ). kept ++ rank ∷ []) (take-length (kept_of marks)) ∙ ap (λ r. kept_of marks ++ r ∷ []) front in
      near _ later (set held rank Nothing) new is_for.case_is (later_is ∙ yes.marks_are)
      (nearly_settled case laws (with_kept marks rank) (set held rank Nothing) new
      (subst (λ r. AreKeptBeforeFront (with_kept marks r)) (sym front) (front_ahead laws.kept marks ahead inside))
      (subst (λ r. IsSettled case (with_kept marks r) (set held r Nothing) new) (sym front)
      (front_settled case laws marks held table new ahead kept.settled kept.count inside
      (record { case_is = is_for.case_is; ranks_are = is_for.ranks_are ∙ ranks }) closed)))

  pub note_put : (marks later : List Mark) (entries : List Entry) (held : List Held) (table noted : TableView) (rank seen : ℕ)
      → AreKeptBeforeFront marks → IsKept case marks entries held table → IsFittingVerdict marks rank seen
      → IsTableFor case (take seen (kept_of marks) ++ rank ∷ []) noted → IsClosedTable noted
      → (on_yes marks rank seen).reply ≡ R.Noted → later ≡ (on_yes marks rank seen).marks
      → IsNearlySettled table.case later (set held rank (Note noted)) table
  note_put marks later entries held table noted rank seen ahead kept fits is_for closed reply later_is =
      let yes = yes_noted marks rank seen reply in
      near _ later (set held rank (Note noted)) table kept.settled.is_for.case_is (later_is ∙ yes.marks_are)
      (nearly_settled case laws (with_note marks rank seen) (set held rank (Note noted)) table
      (noted_ahead laws.kept marks rank seen ahead fits.0 yes.undecided)
      (noted_settled case laws marks held table noted rank seen kept.settled kept.count fits.0 yes.undecided
      (record { few = fits.1; is_for = is_for; closed = closed })))

  pub block_put : (marks later : List Mark) (entries : List Entry) (held new_held : List Held) (table new : TableView) (count : ℕ)
      → AreKeptBeforeFront marks → IsKept case marks entries held table → front_of marks + count ≤ length marks
      → HasLostNotes held new_held (front_of marks) count
      → IsTableFor case (kept_of marks ++ block_of marks (front_of marks) count) new → IsClosedTable new
      → later ≡ (on_block marks (front_of marks) count).marks
      → IsNearlySettled new.case later new_held new
  block_put marks later entries held new_held table new count ahead kept inside lost is_for closed later_is =
      near _ later new_held new is_for.case_is later_is
      (nearly_settled case laws (with_block marks (front_of marks) count) new_held new
      (block_ahead laws.kept laws.block marks count ahead inside)
      (block_settled case laws marks held new_held table new count ahead kept.settled inside lost is_for closed))

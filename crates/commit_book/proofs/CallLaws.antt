-- Each call over the book as it was found, whose fields are those inside.
use Rattle.std.proofs.Common.{◌≡◌, ℕ, ◌+◌, ◌<◌, ◌≤◌, List, [], ◌∷◌, ◌++◌, length, set, take, sym, subst, ap, ◌∙◌}
use Rattle.el_logic.specs.declared.types.Part.{Part}
use Rattle.case_file.specs.Cases.{CaseView}
use Rattle.case_file.specs.Incoherence.{IsIncoherentFor}
use Rattle.closed_model.specs.ClosedTables.{TableView, IsClosedTable}
use Rattle.derivation.specs.declared.types.Step.{Step}
use Rattle.derivation.specs.Steps.{IsGoodDerivation}
use Rattle.accuse_core.specs.declared.mark.Mark.{Mark}
use Rattle.accuse_core.specs.declared.event.Event.{Event}
use Rattle.accuse_core.specs.declared.event.Event.TheVariants as E
use Rattle.accuse_core.specs.declared.event.Reply.TheVariants as R
use Rattle.accuse_core.specs.declared.journal.Entry.{Entry}
use Rattle.accuse_core.specs.Marks.{kept_of, block_of, front_of, number_kept}
use Rattle.accuse_core.specs.Events.{outcome, on_take, on_no, on_yes, on_block, IsFittingVerdict, IsAllowed}
use Rattle.accuse_core.specs.Sound.{AreKeptBeforeFront}
use Rattle.commit_book.specs.declared.held.Held.{Held}
use Rattle.commit_book.specs.declared.held.Held.TheVariants.{Nothing, Note, Why}
use Rattle.commit_book.specs.Books.{BookView, IsTableFor, entry_of}
use Rattle.commit_book.specs.Inside.Holdings.{IsSettled, IsNearlySettled, IsKept}
use Rattle.commit_book.specs.Inside.Laws.{Laws}
use Rattle.commit_book.proofs.TellLaws.{no_late, yes_lost, HasLostNotes}
use Rattle.commit_book.proofs.PutLaws.{no_allowed, yes_allowed, block_allowed, after_call, after_same, no_put, yes_put, note_put, block_put}

-- what a call knows when it begins
pub record IsCalled (inside book : BookView) (held : List Held) (table : TableView) : Type 0 where
  pub same : inside ≡ book
  pub laws : Laws book.case
  pub ahead : AreKeptBeforeFront book.marks
  pub kept : IsKept inside.case inside.marks inside.entries held table

pub called : (inside book : BookView) (held : List Held) (table : TableView) → inside ≡ book → Laws book.case → AreKeptBeforeFront book.marks
    → IsKept inside.case inside.marks inside.entries held table → IsCalled inside book held table
called inside book held table same laws ahead kept = record { same = same; laws = laws; ahead = ahead; kept = kept }

laws_of : {inside book : BookView} {held : List Held} {table : TableView} → IsCalled inside book held table → Laws inside.case
laws_of call = subst (λ (b : BookView). Laws b.case) (sym call.same) call.laws

ahead_of : {inside book : BookView} {held : List Held} {table : TableView} → IsCalled inside book held table → AreKeptBeforeFront inside.marks
ahead_of call = subst (λ (b : BookView). AreKeptBeforeFront b.marks) (sym call.same) call.ahead

-- the journal with an event and its reply
abbrev pub with_entry : BookView → Event → List Entry
with_entry inside event = inside.entries ++ entry_of inside.marks event ∷ []

-- what a call asks of the book, over its fields
fits_inside : {inside book : BookView} → inside ≡ book → (rank seen : ℕ) → IsFittingVerdict book.marks rank seen → IsFittingVerdict inside.marks rank seen
fits_inside same rank seen fits = subst (λ (b : BookView). IsFittingVerdict b.marks rank seen) (sym same) fits

good_inside : {inside book : BookView} → inside ≡ book → (rank seen : ℕ) (steps : List Step)
    → IsGoodDerivation book.case Part.Both (take seen (kept_of book.marks) ++ rank ∷ []) steps
    → IsGoodDerivation inside.case Part.Both (take seen (kept_of inside.marks) ++ rank ∷ []) steps
good_inside same rank seen steps good =
    subst (λ (b : BookView). IsGoodDerivation b.case Part.Both (take seen (kept_of b.marks) ++ rank ∷ []) steps) (sym same) good

table_inside : {inside book : BookView} → inside ≡ book → (rank seen : ℕ) (given : TableView)
    → IsTableFor book.case (take seen (kept_of book.marks) ++ rank ∷ []) given
    → IsTableFor inside.case (take seen (kept_of inside.marks) ++ rank ∷ []) given
table_inside same rank seen given is_for =
    subst (λ (b : BookView). IsTableFor b.case (take seen (kept_of b.marks) ++ rank ∷ []) given) (sym same) is_for

block_inside : {inside book : BookView} → inside ≡ book → (count : ℕ) (given : TableView)
    → IsTableFor book.case (kept_of book.marks ++ block_of book.marks (front_of book.marks) count) given
    → IsTableFor inside.case (kept_of inside.marks ++ block_of inside.marks (front_of inside.marks) count) given
block_inside same count given is_for =
    subst (λ (b : BookView). IsTableFor b.case (kept_of b.marks ++ block_of b.marks (front_of b.marks) count) given) (sym same) is_for

module _ {inside book : BookView} {held : List Held} {table : TableView} (call : IsCalled inside book held table) where
  -- asking for a rank
  pub take_keeps : (worker rank : ℕ) (later : List Mark) (entries : List Entry) → rank < length book.marks
      → later ≡ (on_take inside.marks rank).marks → entries ≡ with_entry inside (E.Take worker rank) → IsKept inside.case later entries held table
  take_keeps worker rank later entries inside_ranks marks_are entries_are =
      let fits = subst (λ (b : BookView). rank < length b.marks) (sym call.same) inside_ranks in
      after_same inside.case (laws_of call) inside.marks later inside.entries entries held table (E.Take worker rank) call.kept
      (record { fits = fits; verdict = tt }) ((laws_of call).kept.asking inside.marks rank) marks_are entries_are

  -- a no that is marked, and one that comes too late
  pub no_puts : (rank seen : ℕ) (steps : List Step) (later : List Mark) → IsFittingVerdict book.marks rank seen
      → IsGoodDerivation book.case Part.Both (take seen (kept_of book.marks) ++ rank ∷ []) steps
      → R.Marked ≡ (on_no inside.marks rank).reply → later ≡ (on_no inside.marks rank).marks
      → IsNearlySettled table.case later (set held rank (Why steps)) table
  no_puts rank seen steps later fits good reply marks_are =
      no_put inside.case (laws_of call) inside.marks later inside.entries held table rank seen steps (ahead_of call) call.kept
      (fits_inside call.same rank seen fits) (good_inside call.same rank seen steps good) (sym reply) marks_are

  no_is_allowed : (worker rank seen : ℕ) (steps : List Step) → IsFittingVerdict book.marks rank seen
      → IsGoodDerivation book.case Part.Both (take seen (kept_of book.marks) ++ rank ∷ []) steps
      → IsAllowed (IsIncoherentFor inside.case Part.Both) inside.marks (E.No worker rank seen)
  no_is_allowed worker rank seen steps fits good =
      no_allowed inside.case (laws_of call) inside.marks inside.entries held table worker rank seen steps (ahead_of call) call.kept
      (fits_inside call.same rank seen fits) (good_inside call.same rank seen steps good)

  pub no_keeps : (worker rank seen : ℕ) (steps : List Step) (later : List Mark) (entries : List Entry) (new_held : List Held) (new : TableView)
      → IsFittingVerdict book.marks rank seen → IsGoodDerivation book.case Part.Both (take seen (kept_of book.marks) ++ rank ∷ []) steps
      → later ≡ (on_no inside.marks rank).marks → entries ≡ with_entry inside (E.No worker rank seen)
      → length new_held ≡ length held → IsSettled table.case later new_held new → IsKept inside.case later entries new_held new
  no_keeps worker rank seen steps later entries new_held new fits good marks_are entries_are count whole =
      after_call inside.case (laws_of call) inside.marks later inside.entries entries held new_held table new (E.No worker rank seen) table.case call.kept
      (no_is_allowed worker rank seen steps fits good) marks_are entries_are call.kept.settled.is_for.case_is count whole

  pub no_stays : (worker rank seen : ℕ) (steps : List Step) (later : List Mark) (entries : List Entry)
      → IsFittingVerdict book.marks rank seen → IsGoodDerivation book.case Part.Both (take seen (kept_of book.marks) ++ rank ∷ []) steps
      → ((on_no inside.marks rank).reply ≡ R.Marked → ⊥) → later ≡ (on_no inside.marks rank).marks
      → entries ≡ with_entry inside (E.No worker rank seen) → IsKept inside.case later entries held table
  no_stays worker rank seen steps later entries fits good not_marked marks_are entries_are =
      after_same inside.case (laws_of call) inside.marks later inside.entries entries held table (E.No worker rank seen) call.kept
      (no_is_allowed worker rank seen steps fits good) (no_late inside.marks rank not_marked) marks_are entries_are

  -- a yes that is kept, one that is noted, and any other
  pub yes_puts : (rank seen : ℕ) (given : TableView) (later : List Mark) → IsFittingVerdict book.marks rank seen
      → IsTableFor book.case (take seen (kept_of book.marks) ++ rank ∷ []) given → IsClosedTable given
      → R.Kept ≡ (on_yes inside.marks rank seen).reply → later ≡ (on_yes inside.marks rank seen).marks
      → IsNearlySettled given.case later (set held rank Nothing) given
  yes_puts rank seen given later fits is_for closed reply marks_are =
      yes_put inside.case (laws_of call) inside.marks later inside.entries held table given rank seen (ahead_of call) call.kept
      (fits_inside call.same rank seen fits) (table_inside call.same rank seen given is_for) closed (sym reply) marks_are

  pub yes_notes : (rank seen : ℕ) (given : TableView) (later : List Mark) → IsFittingVerdict book.marks rank seen
      → IsTableFor book.case (take seen (kept_of book.marks) ++ rank ∷ []) given → IsClosedTable given
      → R.Noted ≡ (on_yes inside.marks rank seen).reply → later ≡ (on_yes inside.marks rank seen).marks
      → IsNearlySettled table.case later (set held rank (Note given)) table
  yes_notes rank seen given later fits is_for closed reply marks_are =
      note_put inside.case (laws_of call) inside.marks later inside.entries held table given rank seen (ahead_of call) call.kept
      (fits_inside call.same rank seen fits) (table_inside call.same rank seen given is_for) closed (sym reply) marks_are

  yes_is_allowed : (worker rank seen : ℕ) (given : TableView) → IsFittingVerdict book.marks rank seen
      → IsTableFor book.case (take seen (kept_of book.marks) ++ rank ∷ []) given → IsClosedTable given
      → IsAllowed (IsIncoherentFor inside.case Part.Both) inside.marks (E.Yes worker rank seen)
  yes_is_allowed worker rank seen given fits is_for closed =
      yes_allowed inside.case (laws_of call) inside.marks worker rank seen given
      (fits_inside call.same rank seen fits) (table_inside call.same rank seen given is_for) closed

  -- the table that the new one is of the case of, is the one given, or the old one
  yes_leaves : (worker rank seen : ℕ) (given : TableView) (later : List Mark) (entries : List Entry) (new_held : List Held) (new : TableView) (of : CaseView)
      → of ≡ inside.case → IsFittingVerdict book.marks rank seen → IsTableFor book.case (take seen (kept_of book.marks) ++ rank ∷ []) given
      → IsClosedTable given → later ≡ (on_yes inside.marks rank seen).marks → entries ≡ with_entry inside (E.Yes worker rank seen)
      → length new_held ≡ length held → IsSettled of later new_held new → IsKept inside.case later entries new_held new
  yes_leaves worker rank seen given later entries new_held new of of_is fits is_for closed marks_are entries_are count whole =
      after_call inside.case (laws_of call) inside.marks later inside.entries entries held new_held table new (E.Yes worker rank seen) of call.kept
      (yes_is_allowed worker rank seen given fits is_for closed) marks_are entries_are of_is count whole

  pub yes_keeps : (worker rank seen : ℕ) (given : TableView) (later : List Mark) (entries : List Entry) (new_held : List Held) (new : TableView)
      → IsFittingVerdict book.marks rank seen → IsTableFor book.case (take seen (kept_of book.marks) ++ rank ∷ []) given
      → IsClosedTable given → later ≡ (on_yes inside.marks rank seen).marks → entries ≡ with_entry inside (E.Yes worker rank seen)
      → length new_held ≡ length held → IsSettled given.case later new_held new → IsKept inside.case later entries new_held new
  yes_keeps worker rank seen given later entries new_held new fits is_for closed marks_are entries_are count whole =
      yes_leaves worker rank seen given later entries new_held new given.case (table_inside call.same rank seen given is_for).case_is
      fits is_for closed marks_are entries_are count whole

  pub notes_keep : (worker rank seen : ℕ) (given : TableView) (later : List Mark) (entries : List Entry) (new_held : List Held) (new : TableView)
      → IsFittingVerdict book.marks rank seen → IsTableFor book.case (take seen (kept_of book.marks) ++ rank ∷ []) given
      → IsClosedTable given → later ≡ (on_yes inside.marks rank seen).marks → entries ≡ with_entry inside (E.Yes worker rank seen)
      → length new_held ≡ length held → IsSettled table.case later new_held new → IsKept inside.case later entries new_held new
  notes_keep worker rank seen given later entries new_held new fits is_for closed marks_are entries_are count whole =
      yes_leaves worker rank seen given later entries new_held new table.case call.kept.settled.is_for.case_is
      fits is_for closed marks_are entries_are count whole

  pub yes_stays : (worker rank seen : ℕ) (given : TableView) (later : List Mark) (entries : List Entry)
      → IsFittingVerdict book.marks rank seen → IsTableFor book.case (take seen (kept_of book.marks) ++ rank ∷ []) given → IsClosedTable given
      → ((on_yes inside.marks rank seen).reply ≡ R.Kept → ⊥) → ((on_yes inside.marks rank seen).reply ≡ R.Noted → ⊥)
      → later ≡ (on_yes inside.marks rank seen).marks → entries ≡ with_entry inside (E.Yes worker rank seen)
      → IsKept inside.case later entries held table
  yes_stays worker rank seen given later entries fits is_for closed not_kept not_noted marks_are entries_are =
      after_same inside.case (laws_of call) inside.marks later inside.entries entries held table (E.Yes worker rank seen) call.kept
      (yes_is_allowed worker rank seen given fits is_for closed) (yes_lost inside.marks rank seen not_kept not_noted) marks_are entries_are

  -- a block at the front
  pub block_puts : (front count : ℕ) (given : TableView) (later : List Mark) (new_held : List Held) → front ≡ front_of inside.marks
      → front_of book.marks + count ≤ length book.marks → HasLostNotes held new_held front count
      → IsTableFor book.case (kept_of book.marks ++ block_of book.marks (front_of book.marks) count) given → IsClosedTable given
      → later ≡ (on_block inside.marks front count).marks → IsNearlySettled given.case later new_held given
  block_puts front count given later new_held front_is fits lost is_for closed marks_are =
      block_put inside.case (laws_of call) inside.marks later inside.entries held new_held table given count (ahead_of call) call.kept
      (subst (λ (b : BookView). front_of b.marks + count ≤ length b.marks) (sym call.same) fits)
      (subst (λ r. HasLostNotes held new_held r count) front_is lost)
      (block_inside call.same count given is_for) closed (marks_are ∙ ap (λ r. (on_block inside.marks r count).marks) front_is)

  pub block_keeps : (worker front count seen : ℕ) (given : TableView) (later : List Mark) (entries : List Entry) (new_held : List Held) (new : TableView)
      → front ≡ front_of inside.marks → seen ≡ number_kept inside.marks → 1 ≤ count → front_of book.marks + count ≤ length book.marks
      → IsTableFor book.case (kept_of book.marks ++ block_of book.marks (front_of book.marks) count) given → IsClosedTable given
      → later ≡ (on_block inside.marks front count).marks → entries ≡ with_entry inside (E.Block worker front count seen)
      → length new_held ≡ length held → IsSettled given.case later new_held new → IsKept inside.case later entries new_held new
  block_keeps worker front count seen given later entries new_held new front_is seen_is some fits is_for closed marks_are entries_are length_is whole =
      let event = E.Block worker (front_of inside.marks) count (number_kept inside.marks) in
      let same : E.Block worker front count seen ≡ event =
      ap (λ r. E.Block worker r count seen) front_is ∙ ap (λ n. E.Block worker (front_of inside.marks) count n) seen_is in
      let table_is = block_inside call.same count given is_for in
      after_call inside.case (laws_of call) inside.marks later inside.entries entries held new_held table new event given.case call.kept
      (block_allowed inside.case (laws_of call) inside.marks worker count given some
      (subst (λ (b : BookView). front_of b.marks + count ≤ length b.marks) (sym call.same) fits) table_is closed)
      (marks_are ∙ ap (λ e. (outcome inside.marks e).marks) same) (entries_are ∙ ap (with_entry inside) same) table_is.case_is length_is whole

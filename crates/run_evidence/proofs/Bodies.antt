-- The evidence of a book is valid and has a text, and so has that of a refusal.
use Rattle.std.proofs.Common.{◌≡◌, ◌≤◌, ◌<◌, ◌+◌, ◌^◌, ℕ, List, [], ◌∷◌, ◌++◌, length, map, sym, ap, subst, ◌∙◌, arith, All, Contains}
use Rattle.std.specs.Prelude.{Option, Some, None, nat_lt, IsSomeAnd}
use Rattle.std.specs.List.{AllByRecursion, range_with_len}
use Rattle.std.proofs.lemmas.List.Elements.{All-nil, All-cons, All-head, All-tail, All-append, All-filter, All-contains_itself, All-weaker}
use Rattle.el_logic.specs.declared.types.Interp.{Interp}
use Rattle.el_logic.specs.declared.types.Part.{Part}
use Rattle.derivation.specs.declared.types.Step.{Step}
use Rattle.derivation.specs.Steps.{IsGoodDerivation}
use Rattle.accuse_core.specs.declared.mark.Mark.{Mark}
use Rattle.accuse_core.specs.declared.mark.Mark.TheVariants.{Open, Yes, Kept, Removed as RemovedMark}
use Rattle.accuse_core.specs.declared.journal.Entry.{Entry}
use Rattle.accuse_core.specs.Marks.{mark_at, kept_of, opening}
use Rattle.accuse_core.specs.Journal.{replayed, AreReplied}
use Rattle.accuse_core.specs.Seen.{EntriesSeen}
use Rattle.case_file.specs.Cases.{CaseView}
use Rattle.closed_model.specs.Models.{IsModelFor, HasOrderedLists}
use Rattle.closed_model.specs.ClosedTables.{TableView}
use Rattle.commit_book.specs.Books.{BookView, IsBook, why_at, kept_before, IsWhyOf}
use Rattle.case_load.specs.declared.texts.Loaded.{Loaded}
use Rattle.repaired_table.specs.Repaired.{repaired_text}
use Rattle.evidence_lines.specs.Steps.{HasStepLine}
use Rattle.evidence_text.specs.declared.types.Removed.{Removed}
use Rattle.evidence_text.specs.declared.types.Evidence.{Evidence}
use Rattle.evidence_text.specs.EvidenceText.{HasBodyText, HasText, InOrder, omitted_list}
use Rattle.evidence_lines.specs.declared.types.Kind.{Kind}
use Rattle.evidence_lines.specs.Names.{HasNodeLine, HasRoleLine}
use Rattle.evidence_lines.specs.Omitted.{omitted_before}
use Rattle.ofn_axiom.specs.declared.types.SideOmitted.{SideOmitted}
use Rattle.el_logic.specs.Meaning.{Holds}
use Rattle.case_file.specs.Incoherence.{axioms_for}
use Rattle.evidence_lines.specs.declared.types.Kind.TheVariants as kind
use Rattle.evidence_text.specs.declared.types.Body.TheVariants as body
use Rattle.valid_evidence.specs.Rows.{rank_of_row, ranks_up_to, steps_by_rank}
use Rattle.valid_evidence.specs.Items.{case_loaded, IsRowOfTable, IsShownEmpty}
use Rattle.valid_evidence.specs.Shown.{rows_ranked}
use Rattle.valid_evidence.specs.Valid.{HasLists, IsValidDiagnosis, IsDiagnosisBody, IsValidEvidence, IsRefusalBody, IsValidRefusal}
use Rattle.run_evidence.specs.Tellable.{IsTellable}
use Rattle.run_evidence.specs.Inside.RowNumbers.{HasRanksBelow, step_by_row, removed_row}
use Rattle.run_evidence.proofs.Ranks.{row_again, steps_again}
use Rattle.run_evidence.proofs.Taken.{removed_of, why_of, each_removed, removed_ascend}
use Rattle.run_evidence.specs.Inside.DecidedBooks.{IsDecidedBook}
use Rattle.run_evidence.proofs.Marks.{removed, marks_are, left_are, kept_below, rows_are}
use Rattle.run_evidence.proofs.StepLines.{steps_below, steps_lines}
use Rattle.run_evidence.proofs.Lines.{nodes_lines, roles_lines, class_lines, property_lines, entries_lines}

-- the derivation that a removed rank has
why_good : (case : CaseView) (kept : List ℕ) (rank : ℕ) (mark : Mark) (why : Option (List Step)) (steps : List Step) → IsWhyOf case kept rank mark why → why ≡ Some steps
    → IsGoodDerivation case Part.Both (kept_before kept rank ++ rank ∷ []) steps
why_good case kept rank Open why steps is some = let bad : None ≡ Some steps = sym is ∙ some in cc
why_good case kept rank (Yes seen) why steps is some = let bad : None ≡ Some steps = sym is ∙ some in cc
why_good case kept rank Kept why steps is some = let bad : None ≡ Some steps = sym is ∙ some in cc
why_good case kept rank RemovedMark why steps is some = subst (λ (o : Option (List Step)). IsSomeAnd o (IsGoodDerivation case Part.Both (kept_before kept rank ++ rank ∷ []))) some is

module _ (case : CaseView) (marks : List Mark) (whys : List (Option (List Step))) (book : IsDecidedBook case marks whys) where
  abbrev gone : List Removed
  gone = removed case marks whys book

  -- why the row with an index is removed
  shown : (index : ℕ) → index < length case.order → (steps : List Step) → why_of case.order whys index ≡ Some steps
      → IsGoodDerivation case Part.Both (kept_before (kept_of marks) (rank_of_row case.order (index + 1)) ++ rank_of_row case.order (index + 1) ∷ []) steps
  shown index inside steps some =
      let rank = rank_of_row case.order (index + 1) in
      why_good case (kept_of marks) rank (mark_at marks rank) (why_at whys rank) steps (book.each rank) some

  -- these ranks are those of the case
  ranks_below : (rank : ℕ) → rank < length case.order → All (λ r. r < length case.order) (kept_before (kept_of marks) rank ++ rank ∷ [])
  ranks_below rank inside =
      All-append (λ r. r < length case.order) (kept_before (kept_of marks) rank) (rank ∷ [])
      (All-filter (λ other. nat_lt other rank) (λ r. r < length case.order) (kept_of marks)
      (All-weaker (Contains (kept_of marks)) (λ r. r < length case.order) (kept_below case marks whys book) (kept_of marks) (All-contains_itself (kept_of marks))))
      (All-cons (λ r. r < length case.order) rank [] inside (All-nil (λ r. r < length case.order)))

  -- a derivation that the book has names ranks of the case
  pub why_below : (index : ℕ) → index < length case.order → (steps : List Step) → why_of case.order whys index ≡ Some steps
      → All (λ step. HasRanksBelow (length case.order) step.source) steps
  why_below index inside steps some =
      let rank = rank_of_row case.order (index + 1) in
      let own = row_again case.order book.once index inside in
      steps_below case Part.Both (kept_before (kept_of marks) rank ++ rank ∷ []) (ranks_below rank own.0) steps (shown index inside steps some).good

  -- each removed row is shown empty
  rows_shown : All (IsShownEmpty case gone) gone
  rows_shown = each_removed case.order whys (IsShownEmpty case gone) 0 (length case.order) (λ index low high steps some. one index (omega arith) steps some)
    where
      one : (index : ℕ) → index < length case.order → (steps : List Step) → why_of case.order whys index ≡ Some steps → IsShownEmpty case gone (removed_row case.order index steps)
      one index inside steps some =
          let rank = rank_of_row case.order (index + 1) in
          subst (λ (kept : List ℕ). IsGoodDerivation case Part.Both (ranks_up_to kept rank) (steps_by_rank case.order (map (step_by_row case.order) steps))) (sym (left_are case marks whys book))
          (subst (IsGoodDerivation case Part.Both (ranks_up_to (kept_of marks) rank)) (sym (steps_again case.order book.once steps (why_below index inside steps some)))
          (shown index inside steps some))

  module _ (few : All (λ axioms. length axioms ≤ 2) case.over) where
    -- its steps have lines
    rows_lines : All (λ r. AllByRecursion HasStepLine r.steps) gone
    rows_lines = each_removed case.order whys (λ r. AllByRecursion HasStepLine r.steps) 0 (length case.order) (λ index low high steps some. one index (omega arith) steps some)
      where
        one : (index : ℕ) → index < length case.order → (steps : List Step) → why_of case.order whys index ≡ Some steps → AllByRecursion HasStepLine (map (step_by_row case.order) steps)
        one index inside steps some =
            let rank = rank_of_row case.order (index + 1) in
            let own = row_again case.order book.once index inside in
            steps_lines case Part.Both (kept_before (kept_of marks) rank ++ rank ∷ []) (ranks_below rank own.0) few steps (shown index inside steps some).good

    each_by_recursion : (P : Removed → Type 0) (rows : List Removed) → All P rows → AllByRecursion P rows
    each_by_recursion P [] h = tt
    each_by_recursion P (r ∷ rows) h = (All-head P r rows h, each_by_recursion P rows (All-tail P r rows h))

    pub body_text : (model : Interp) (journal : EntriesSeen) → case.classes + 2 ≤ 2 ^ 32 → case.properties ≤ 2 ^ 32 → IsModelFor case (kept_of marks) model → HasOrderedLists model
        → AreReplied (opening (length case.order)) journal.entries → HasBodyText kind.Diagnosis (body.Diagnosis gone model journal)
    body_text model journal classes properties is ordered replied = (
      removed_ascend case.order whys (length case.order),
      each_by_recursion (λ r. AllByRecursion HasStepLine r.steps) gone rows_lines,
      class_lines 0 model.classes (omega (arith, is.fits.each_class)) ordered.members,
      property_lines 0 model.roles (omega (arith, is.fits.each_role)) ordered.pairs,
      entries_lines (opening (length case.order)) journal.entries replied,
    )

-- what the rows, the model and the journal show
pub body_valid : (loaded : Loaded) (marks : List Mark) (whys : List (Option (List Step))) (book : IsDecidedBook (case_loaded loaded) marks whys) (model : Interp) (entries : List Entry)
    → length (case_loaded loaded).order ≡ length loaded.table.rows → IsModelFor (case_loaded loaded) (kept_of marks) model
    → AreReplied (opening (length (case_loaded loaded).order)) entries → marks ≡ replayed (length (case_loaded loaded).order) entries
    → IsValidDiagnosis loaded (repaired_text loaded.table (rows_ranked (case_loaded loaded).order (kept_of marks))) (gone (case_loaded loaded) marks whys book) model entries
body_valid loaded marks whys book model entries rows is replied core =
    let case = case_loaded loaded in
    record {
      rows = each_removed case.order whys (IsRowOfTable loaded) 0 (length case.order) (λ index low high steps some. (omega arith, omega (arith, rows, high)));
      output = ap (repaired_text loaded.table) (rows_are case marks whys book (length loaded.table.rows) rows);
      shown = rows_shown case marks whys book;
      form = is.fits;
      axioms = subst (λ (kept : List ℕ). All (Holds model) (axioms_for case Part.Both kept)) (sym (left_are case marks whys book)) is.holds;
      classes = is.members;
      journal = replied;
      decided = sym core ∙ marks_are case marks whys book;
    }

-- lists that evidence has, and its body, make a text
pub whole_text : (loaded : Loaded) (e : Evidence) → IsTellable loaded → HasLists loaded e → HasBodyText e.kind e.body → HasText e
whole_text loaded e tellable lists body = record {
  omitted = subst (λ (o : SideOmitted). InOrder omitted_before None (omitted_list o)) (sym lists.omitted) tellable.omitted;
  nodes = subst (AllByRecursion HasNodeLine) (sym lists.nodes) (nodes_lines loaded.names.classes.names tellable.iris.classes (case_loaded loaded).store.nodes);
  roles = subst (AllByRecursion HasRoleLine) (sym lists.roles) (roles_lines loaded.names.roles.names tellable.iris.roles (case_loaded loaded).store.roles);
  body = body;
}

-- the evidence of a book
module _ (loaded : Loaded) (tellable : IsTellable loaded) (marks : List Mark) (whys : List (Option (List Step))) (book : IsDecidedBook (case_loaded loaded) marks whys)
    (model : Interp) (journal : EntriesSeen) (e : Evidence) (rows : List Removed)
    (are : rows ≡ gone (case_loaded loaded) marks whys book) (of_kind : e.kind ≡ kind.Diagnosis) (of_body : e.body ≡ body.Diagnosis rows model journal) (lists : HasLists loaded e)
    (is : IsModelFor (case_loaded loaded) (kept_of marks) model) (replied : AreReplied (opening (length (case_loaded loaded).order)) journal.entries) where
  body_is : e.body ≡ body.Diagnosis (gone (case_loaded loaded) marks whys book) model journal
  body_is = of_body ∙ ap (λ (rs : List Removed). body.Diagnosis rs model journal) are

  pub book_valid : marks ≡ replayed (length (case_loaded loaded).order) journal.entries
      → IsValidEvidence loaded (repaired_text loaded.table (rows_ranked (case_loaded loaded).order (kept_of marks))) e
  book_valid core = record {
    kind = of_kind;
    lists = lists;
    body = subst (IsDiagnosisBody loaded (repaired_text loaded.table (rows_ranked (case_loaded loaded).order (kept_of marks)))) (sym body_is)
        (body_valid loaded marks whys book model journal.entries tellable.rows is replied core);
  }

  pub book_text : (case_loaded loaded).classes + 2 ≤ 2 ^ 32 → (case_loaded loaded).properties ≤ 2 ^ 32 → HasOrderedLists model → HasText e
  book_text classes properties ordered =
      whole_text loaded e tellable lists
      (subst (λ (k : Kind). HasBodyText k e.body) (sym of_kind)
      (subst (HasBodyText kind.Diagnosis) (sym body_is) (body_text (case_loaded loaded) marks whys book tellable.few model journal classes properties is ordered replied)))

-- the evidence of a refusal
module _ (loaded : Loaded) (tellable : IsTellable loaded) (part : Part) (steps : List Step) (e : Evidence)
    (of_kind : e.kind ≡ kind.Refusal part) (of_body : e.body ≡ body.Refusal (map (step_by_row (case_loaded loaded).order) steps)) (lists : HasLists loaded e)
    (good : IsGoodDerivation (case_loaded loaded) part [] steps) where
  no_ranks : All (λ rank. rank < length (case_loaded loaded).order) []
  no_ranks = All-nil (λ rank. rank < length (case_loaded loaded).order)

  pub refusal_valid : IsValidRefusal loaded part e
  refusal_valid = record {
    kind = of_kind;
    lists = lists;
    body = subst (IsRefusalBody (case_loaded loaded) part) (sym of_body)
        (subst (IsGoodDerivation (case_loaded loaded) part [])
        (sym (steps_again (case_loaded loaded).order tellable.order steps (steps_below (case_loaded loaded) part [] no_ranks steps good.good))) good);
  }

  pub refusal_text : HasText e
  refusal_text =
      whole_text loaded e tellable lists
      (subst (λ (k : Kind). HasBodyText k e.body) (sym of_kind)
      (subst (HasBodyText (kind.Refusal part)) (sym of_body) (steps_lines (case_loaded loaded) part [] no_ranks tellable.few steps good.good)))

-- what is made of a book, and its parts
module _ (loaded : Loaded) (tellable : IsTellable loaded) (view : BookView) (is_book : IsBook view) (case_is : view.case ≡ case_loaded loaded)
    (decided : IsDecidedBook (case_loaded loaded) view.marks view.whys) (table : TableView) (table_is : table ≡ view.table)
    (model : Interp) (of_table : IsModelFor table.case table.ranks model) (journal : EntriesSeen) (entries : List Entry) (copied : journal.entries ≡ entries) (told : entries ≡ view.entries)
    (rows : List Removed) (found : rows ≡ removed_of view.case.order view.whys (range_with_len 0 (length view.case.order)))
    (e : Evidence) (of_kind : e.kind ≡ kind.Diagnosis) (of_body : e.body ≡ body.Diagnosis rows model journal) (lists : HasLists loaded e) where
  own_rows : rows ≡ gone (case_loaded loaded) view.marks view.whys decided
  own_rows = found ∙ ap (λ (c : CaseView). removed_of c.order view.whys (range_with_len 0 (length c.order))) case_is

  own_model : IsModelFor (case_loaded loaded) (kept_of view.marks) model
  own_model =
      subst (λ (c : CaseView). IsModelFor c (kept_of view.marks) model) (ap (λ (t : TableView). t.case) table_is ∙ is_book.table.case_is ∙ case_is)
      (subst (λ (ranks : List ℕ). IsModelFor table.case ranks model) (ap (λ (t : TableView). t.ranks) table_is ∙ is_book.table.ranks_are) of_table)

  own_entries : journal.entries ≡ view.entries
  own_entries = copied ∙ told

  own_replied : AreReplied (opening (length (case_loaded loaded).order)) journal.entries
  own_replied =
      subst (λ (c : CaseView). AreReplied (opening (length c.order)) journal.entries) case_is
      (subst (AreReplied (opening (length view.case.order))) (sym own_entries) is_book.journal.replied)

  own_core : view.marks ≡ replayed (length (case_loaded loaded).order) journal.entries
  own_core = is_book.core ∙ ap (λ (c : CaseView). replayed (length c.order) view.entries) case_is
      ∙ ap (replayed (length (case_loaded loaded).order)) (sym own_entries)

  pub of_book_valid : IsValidEvidence loaded (repaired_text loaded.table (rows_ranked (case_loaded loaded).order (kept_of view.marks))) e
  of_book_valid = book_valid loaded tellable view.marks view.whys decided model journal e rows own_rows of_kind of_body lists own_model own_replied own_core

  pub of_book_text : (case_loaded loaded).classes + 2 ≤ 2 ^ 32 → (case_loaded loaded).properties ≤ 2 ^ 32 → HasOrderedLists model → HasText e
  of_book_text = book_text loaded tellable view.marks view.whys decided model journal e rows own_rows of_kind of_body lists own_model own_replied

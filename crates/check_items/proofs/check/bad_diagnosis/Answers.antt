use Rattle.std.proofs.Common.{◌≡◌, ◌∙◌, ℕ, Bool, List, All, length, ap, subst}
use Rattle.std.specs.Prelude.{Option, MatchOption}
use Rattle.std.proofs.lemmas.Result.{IfOk-weaker}
use Rattle.accuse_core.specs.Journal.{replayed}
use Rattle.sssom_rows.specs.declared.table.Row.{Row}
use Rattle.case_file.specs.Cases.{CaseView, IsCase}
use Rattle.closed_model.specs.Models.{IsModelFor}
use Rattle.valid_evidence.specs.Rows.{rows_left, ranks_left}
use Rattle.valid_evidence.specs.Items.{case_loaded, IsOutOf, IsShownEmpty, IsRepliedJournal}
use Rattle.valid_evidence.specs.Valid.{IsValidDiagnosis}
use Rattle.check_items.specs.declared.item.BadItem.{BadItem}
use Rattle.check_items.specs.Bad.{HasRows, HasModel, IsBadDiagnosis}
use Rattle.check_items.specs.Inside.Tables.{AreRowsOf, AreTablesOf, marks_by}
use Rattle.check_items.specs.Inside.Stages.{IsStepsFault, IsModelBad, IsJournalFault}
use Rattle.check_items.proofs.TableLaws.{length-rows_left}
use Rattle.check_items.proofs.WholeLaws.{match_weaker, out_is, steps_bad, model_bad, journal_bad, all_hold}
use Rattle.check_items.proofs.check.bad_diagnosis.Goals as goal

pub is_out-requires : goal.is_out-requires
is_out-requires c =
    let removed = c.args.removed.now in
    let case = case_loaded c.args.loaded.now in
    let tables = subst (λ (v : CaseView). AreTablesOf v removed c.in_ok-tables.tables) c.deref-case.ensures c.in_ok-tables.ensures in
    ap (λ (keep : List Bool). length keep) (c.as_slice-2.ensures.value ∙ tables.keep) ∙ length-rows_left removed (length case.order) ∙ c.requires.rows

pub returns-in-Some-2 : goal.returns-in-Some-2
returns-in-Some-2 c =
    let loaded = c.args.loaded.now in
    let removed = c.args.removed.now in
    let out = c.args.out.now in
    let model = c.args.model.now in
    let entries = c.args.entries.now in
    let case = case_loaded loaded in
    let other = c.deref-case.result.now in
    let tables = subst (λ (v : CaseView). AreTablesOf v removed c.in_ok-tables.tables) c.deref-case.ensures c.in_ok-tables.ensures in
    let rows : HasRows loaded removed = subst (λ (rs : List Row). AreRowsOf (length rs) removed) c.as_slice.ensures c.in-None.ensures in
    let written : IsOutOf loaded out removed =
    c.in_ok-same.ensures.0 c.if-not-same.false ∙ out_is loaded out removed model entries c.requires c.as_slice-2.result.now (c.as_slice-2.ensures.value ∙ tables.keep) in
    steps_bad loaded out removed model entries (rows, written) c.in-Some-2.item
    (subst (λ (v : CaseView). IsStepsFault v removed c.in-Some-2.item) c.deref-case.ensures
    (subst (λ (f : Option BadItem). MatchOption f (All (IsShownEmpty other removed) removed) (IsStepsFault other removed)) c.in-Some-2.is c.in_ok-item.ensures))

pub returns-in-Some-3 : goal.returns-in-Some-3
returns-in-Some-3 c =
    let loaded = c.args.loaded.now in
    let removed = c.args.removed.now in
    let out = c.args.out.now in
    let model = c.args.model.now in
    let entries = c.args.entries.now in
    let case = case_loaded loaded in
    let other = c.deref-case.result.now in
    let tables = subst (λ (v : CaseView). AreTablesOf v removed c.in_ok-tables.tables) c.deref-case.ensures c.in_ok-tables.ensures in
    let rows : HasRows loaded removed = subst (λ (rs : List Row). AreRowsOf (length rs) removed) c.as_slice.ensures c.in-None.ensures in
    let written : IsOutOf loaded out removed =
    c.in_ok-same.ensures.0 c.if-not-same.false ∙ out_is loaded out removed model entries c.requires c.as_slice-2.result.now (c.as_slice-2.ensures.value ∙ tables.keep) in
    let shown : All (IsShownEmpty case removed) removed =
    subst (λ (v : CaseView). All (IsShownEmpty v removed) removed) c.deref-case.ensures
    (subst (λ (f : Option BadItem). MatchOption f (All (IsShownEmpty other removed) removed) (IsStepsFault other removed)) c.in-None-2.is c.in_ok-item.ensures) in
    model_bad loaded out removed model entries ((rows, written), shown) c.in-Some-3.item
    (subst (λ (v : CaseView). IsModelBad v (ranks_left removed case.order) model c.in-Some-3.item) c.deref-case.ensures
    (subst (λ (ranks : List ℕ). IsModelBad other ranks model c.in-Some-3.item) (c.as_slice-3.ensures.value ∙ tables.kept)
    (subst (λ (f : Option BadItem). MatchOption f (IsModelFor other c.as_slice-3.result.now model) (IsModelBad other c.as_slice-3.result.now model)) c.in-Some-3.is c.in_ok-item-2.ensures)))

pub bad_journal-requires : goal.bad_journal-requires
bad_journal-requires c =
    ap (λ (keep : List Bool). length keep) (c.as_slice-4.ensures.value ∙ c.in_ok-tables.ensures.keep) ∙ length-rows_left c.args.removed.now (length c.deref-case.result.now.order)

pub returns : goal.returns
returns c =
    let loaded = c.args.loaded.now in
    let removed = c.args.removed.now in
    let out = c.args.out.now in
    let model = c.args.model.now in
    let entries = c.args.entries.now in
    let case = case_loaded loaded in
    let other = c.deref-case.result.now in
    let made = subst IsCase c.deref-case.ensures c.store-case.ensures.case in
    let tables = subst (λ (v : CaseView). AreTablesOf v removed c.in_ok-tables.tables) c.deref-case.ensures c.in_ok-tables.ensures in
    let rows : HasRows loaded removed = subst (λ (rs : List Row). AreRowsOf (length rs) removed) c.as_slice.ensures c.in-None.ensures in
    let written : IsOutOf loaded out removed =
    c.in_ok-same.ensures.0 c.if-not-same.false ∙ out_is loaded out removed model entries c.requires c.as_slice-2.result.now (c.as_slice-2.ensures.value ∙ tables.keep) in
    let shown : All (IsShownEmpty case removed) removed =
    subst (λ (v : CaseView). All (IsShownEmpty v removed) removed) c.deref-case.ensures
    (subst (λ (f : Option BadItem). MatchOption f (All (IsShownEmpty other removed) removed) (IsStepsFault other removed)) c.in-None-2.is c.in_ok-item.ensures) in
    let is_model : IsModelFor case (ranks_left removed case.order) model =
    subst (λ (v : CaseView). IsModelFor v (ranks_left removed case.order) model) c.deref-case.ensures
    (subst (λ (ranks : List ℕ). IsModelFor other ranks model) (c.as_slice-3.ensures.value ∙ tables.kept)
    (subst (λ (f : Option BadItem). MatchOption f (IsModelFor other c.as_slice-3.result.now model) (IsModelBad other c.as_slice-3.result.now model)) c.in-None-3.is c.in_ok-item-2.ensures)) in
    let before : HasModel loaded out removed model = (((rows, written), shown), is_model) in
    let keep = rows_left removed (length case.order) in
    IfOk-weaker c.bad_journal.result
    (λ (found : Option BadItem). MatchOption found (IsRepliedJournal other entries × (replayed (length other.order) entries ≡ marks_by c.as_slice-4.result.now other.order))
    (IsJournalFault other c.as_slice-4.result.now entries))
    (λ (found : Option BadItem). MatchOption found (IsValidDiagnosis loaded out removed model entries) (IsBadDiagnosis loaded out removed model entries))
    (λ found h.
    match_weaker (IsRepliedJournal case entries × (replayed (length case.order) entries ≡ marks_by keep case.order)) (IsValidDiagnosis loaded out removed model entries)
    (IsJournalFault case keep entries) (IsBadDiagnosis loaded out removed model entries) found
    (λ good. all_hold loaded out removed model entries before made good)
    (λ bad wrong. journal_bad loaded out removed model entries before made bad wrong)
    (subst (λ (v : CaseView). MatchOption found (IsRepliedJournal v entries × (replayed (length v.order) entries ≡ marks_by keep v.order)) (IsJournalFault v keep entries)) c.deref-case.ensures
    (subst (λ (k : List Bool). MatchOption found (IsRepliedJournal other entries × (replayed (length other.order) entries ≡ marks_by k other.order)) (IsJournalFault other k entries))
    (c.as_slice-4.ensures.value ∙ tables.keep) h)))
    c.bad_journal.ensures

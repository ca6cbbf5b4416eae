-- What is read of files that are told, and what is kept of it, is one.
use Rattle.std.proofs.Common.{◌≡◌, ℕ, Bool, List, length, ◌∙◌, ap, subst}
use Rattle.std.specs.Prelude.{Some, ◌+◌}
use Rattle.text_names.specs.declared.limits.Limits.{Limits}
use Rattle.io_edge.specs.Outside.{Files, FolderSeen}
use Rattle.conflict_logic.specs.Repair.{IsRepair}
use Rattle.ofn_axiom.specs.declared.types.SideOmitted.{SideOmitted}
use Rattle.sssom_rows.specs.declared.table.Table.{Table}
use Rattle.case_file.specs.Cases.{CaseView}
use Rattle.case_load.specs.Loads.{SayTheSame}
use Rattle.diagnosis.specs.Rows.{keep_of}
use Rattle.repaired_table.specs.Repaired.{repaired_text}
use Rattle.status_lines.specs.Lines.{summary_text}
use Rattle.repair_run.specs.declared.request.Request.{Request}
use Rattle.repair_run.specs.Outcomes.{Outcome, AreIncoherentWith, AreLoaded, case_in, inputs_named, keep_in, kept_count, omitted_count, out_text, summary_of}
use Rattle.repair_run.proofs.FaultLaws.{OneAnswer, one_loaded}
use Rattle.repair_run.proofs.KeepLaws.{same_keep}

module _ (laws : OneAnswer) (folder : FolderSeen) (files : Files) (asked : Request) (limits : Limits) (one other : Outcome (AreLoaded folder asked limits)) (told : folder.files ≡ Some files) where
  same : SayTheSame one.loaded other.loaded
  same = one_loaded laws folder folder files told (inputs_named asked.names) asked.mode limits one.loaded other.loaded one.read other.read

  kept : keep_in one.loaded one.kept ≡ keep_in other.loaded other.kept
  kept =
      let case = case_in other.loaded in
      let repair = subst (λ (c : CaseView). IsRepair (AreIncoherentWith c) (length c.order) one.kept) same.case one.repair in
      ap (λ (c : CaseView). keep_of c.order one.kept) same.case
      ∙ same_keep case.order (AreIncoherentWith case) (length case.order) one.kept other.kept repair other.repair

  pub same_out : out_text one ≡ out_text other
  same_out = ap (λ (t : Table). repaired_text t (keep_in one.loaded one.kept)) same.same_table ∙ ap (repaired_text other.loaded.table) kept

  pub same_summary : summary_of one ≡ summary_of other
  same_summary =
      ap (λ (t : Table). summary_text (length t.rows) (kept_count (keep_in one.loaded one.kept)) one.loaded.inert (omitted_count one.loaded)) same.same_table
      ∙ ap (λ (k : List Bool). summary_text (length other.loaded.table.rows) (kept_count k) one.loaded.inert (omitted_count one.loaded)) kept
      ∙ ap (λ (n : ℕ). summary_text (length other.loaded.table.rows) (kept_count (keep_in other.loaded other.kept)) n (omitted_count one.loaded)) same.inert
      ∙ ap (λ (o : SideOmitted). summary_text (length other.loaded.table.rows) (kept_count (keep_in other.loaded other.kept)) other.loaded.inert (length o.left + length o.right)) same.omitted

-- Loaded cases that say the same have the same valid evidence.
use Rattle.std.proofs.Common.{◌≡◌, ◌≤◌, ℕ, List, map, length, ◌∙◌, ap, subst}
use Rattle.std.specs.Prelude.{All}
use Rattle.el_logic.specs.declared.types.Interp.{Interp}
use Rattle.el_logic.specs.declared.types.Part.{Part}
use Rattle.accuse_core.specs.declared.journal.Entry.{Entry}
use Rattle.ofn_axiom.specs.declared.types.Names.{Names}
use Rattle.sssom_rows.specs.declared.table.Table.{Table}
use Rattle.case_file.specs.Cases.{CaseView}
use Rattle.case_load.specs.Loads.{SayTheSame}
use Rattle.case_load.specs.declared.texts.Loaded.{Loaded}
use Rattle.repaired_table.specs.Repaired.{repaired_text}
use Rattle.evidence_text.specs.declared.types.Removed.{Removed}
use Rattle.evidence_text.specs.declared.types.Body.{Body}
use Rattle.evidence_text.specs.declared.types.Body.TheVariants as body
use Rattle.evidence_text.specs.declared.types.Evidence.{Evidence}
use Rattle.valid_evidence.specs.Rows.{rows_left}
use Rattle.valid_evidence.specs.Items.{case_loaded, line_of_node, line_of_role, IsShownEmpty, HasModelForm, HoldInModel, HaveMembers, IsRepliedJournal, EndsDecided}
use Rattle.valid_evidence.specs.Valid.{HasLists, IsDiagnosisBody, IsRefusalBody, IsValidDiagnosis, IsValidEvidence, IsValidRefusal}
use Rattle.command_words.specs.declared.types.CheckWords.{CheckWords}
use Rattle.command_words.specs.declared.types.CheckWords.TheVariants as check
use Rattle.check_run.specs.declared.reading.CheckTexts.{CheckTexts}
use Rattle.check_run.specs.Verdicts.{IsValidFor}

module _ (one other : Loaded) (same : SayTheSame one other) where
  -- the lists
  same_lists : (e : Evidence) → HasLists one e → HasLists other e
  same_lists e h = record {
    omitted = h.omitted ∙ same.omitted;
    nodes = h.nodes ∙ ap (λ (n : Names). map (line_of_node n.classes.names) (case_loaded one).store.nodes) same.names
        ∙ ap (λ (c : CaseView). map (line_of_node other.names.classes.names) c.store.nodes) same.case;
    roles = h.roles ∙ ap (λ (n : Names). map (line_of_role n.roles.names) (case_loaded one).store.roles) same.names
        ∙ ap (λ (c : CaseView). map (line_of_role other.names.roles.names) c.store.roles) same.case;
  }

  -- a diagnosis
  same_diagnosis : (out : List ℕ) (removed : List Removed) (model : Interp) (entries : List Entry) → IsValidDiagnosis one out removed model entries
      → IsValidDiagnosis other out removed model entries
  same_diagnosis out removed model entries v = record {
    rows = subst (λ (t : Table). All (λ (r : Removed). (1 ≤ r.row) × (r.row ≤ length t.rows)) removed) same.same_table v.rows;
    output = subst (λ (t : Table). out ≡ repaired_text t (rows_left removed (length t.rows))) same.same_table v.output;
    shown = subst (λ (c : CaseView). All (IsShownEmpty c removed) removed) same.case v.shown;
    form = subst (λ (c : CaseView). HasModelForm c model) same.case v.form;
    axioms = subst (λ (c : CaseView). HoldInModel c removed model) same.case v.axioms;
    classes = subst (λ (c : CaseView). HaveMembers c model) same.case v.classes;
    journal = subst (λ (c : CaseView). IsRepliedJournal c entries) same.case v.journal;
    decided = subst (λ (c : CaseView). EndsDecided c removed entries) same.case v.decided;
  }

  same_body : (out : List ℕ) (b : Body) → IsDiagnosisBody one out b → IsDiagnosisBody other out b
  same_body out (body.Diagnosis removed model journal) v = same_diagnosis out removed model journal.entries v
  same_body out (body.Refusal steps) v = absurd v

  same_evidence : (out : List ℕ) (e : Evidence) → IsValidEvidence one out e → IsValidEvidence other out e
  same_evidence out e v = record { kind = v.kind; lists = same_lists e v.lists; body = same_body out e.body v.body }

  -- a refusal
  same_refusal : (part : Part) (e : Evidence) → IsValidRefusal one part e → IsValidRefusal other part e
  same_refusal part e v = record {
    kind = v.kind;
    lists = same_lists e v.lists;
    body = subst (λ (c : CaseView). IsRefusalBody c part e.body) same.case v.body;
  }

  -- the evidence of a command
  pub same_valid : (command : CheckWords) (texts : CheckTexts) → IsValidFor command one texts → IsValidFor command other texts
  same_valid (check.Repair el_part names) texts v = (v.0, v.1, same_evidence texts.out v.0 v.2)
  same_valid (check.Refusal el_part left right evidence) texts v = (v.0, v.1, v.2, same_refusal v.0 v.1 v.3)

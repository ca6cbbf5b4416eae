-- What the stages of a check say of the whole diagnosis.
use Rattle.std.proofs.Common.{◌≡◌, ℕ, Bool, List, length, ap, sym, subst, ◌∙◌, inr}
use Rattle.std.specs.Prelude.{Option, Some, None, MatchOption}
use Rattle.el_logic.specs.declared.types.Interp.{Interp}
use Rattle.el_logic.specs.declared.types.Part.{Part}
use Rattle.derivation.specs.declared.types.Step.{Step}
use Rattle.accuse_core.specs.Seen.{EntriesSeen}
use Rattle.accuse_core.specs.declared.journal.Entry.{Entry}
use Rattle.accuse_core.specs.Journal.{replayed}
use Rattle.case_file.specs.Cases.{IsCase}
use Rattle.case_load.specs.declared.texts.Loaded.{Loaded}
use Rattle.repaired_table.specs.Repaired.{repaired_text}
use Rattle.evidence_lines.specs.declared.types.Kind.TheVariants as kind
use Rattle.evidence_text.specs.declared.types.Removed.{Removed}
use Rattle.evidence_text.specs.declared.types.Body.{Body}
use Rattle.evidence_text.specs.declared.types.Body.TheVariants as body
use Rattle.evidence_text.specs.declared.types.Evidence.{Evidence}
use Rattle.valid_evidence.specs.Rows.{rows_left, ranks_left}
use Rattle.valid_evidence.specs.Items.{case_loaded, IsRepliedJournal, IsPartShownEmpty}
use Rattle.valid_evidence.specs.Valid.{HasLists, IsValidDiagnosis, IsDiagnosisBody, IsRefusalBody}
use Rattle.check_items.specs.declared.item.BadItem.{BadItem}
use Rattle.check_items.specs.declared.item.BadItem.TheVariants as item
use Rattle.check_items.specs.Bad.{HasOut, HasShown, HasModel, IsBadDiagnosis, IsBadBody, HasDiagnosis, IsOfDiagnosis, IsItemAnswer, HasRefusal, IsOfRefusal, IsBadPart, IsBadPartBody, IsRefusalAnswer}
use Rattle.check_items.specs.Inside.Plain.{IsPlain}
use Rattle.check_items.specs.Inside.Tables.{marks_by}
use Rattle.check_items.specs.Inside.Stages.{IsStepsFault, IsModelBad, IsJournalFault}
use Rattle.check_items.proofs.TableLaws.{marks_are_decided, case_has_rows}

-- both cases of an option say more
pub match_weaker : {X : Type 0} (A B : Type 0) (P Q : X → Type 0) (found : Option X) → (A → B) → ((x : X) → P x → Q x) → MatchOption found A P → MatchOption found B Q
match_weaker A B P Q None more each h = more h
match_weaker A B P Q (Some x) more each h = each x h

module _ (loaded : Loaded) (out : List ℕ) (removed : List Removed) (model : Interp) (entries : List Entry) where
  -- the text of the rows that are left, by the truth values that were made
  pub out_is : IsPlain loaded → (keep : List Bool) → keep ≡ rows_left removed (length (case_loaded loaded).order) → repaired_text loaded.table keep
      ≡ repaired_text loaded.table (rows_left removed (length loaded.table.rows))
  out_is plain keep is = ap (repaired_text loaded.table) (is ∙ ap (rows_left removed) plain.rows)

  -- steps that are wrong are the first item that fails, if the items before them hold
  pub steps_bad : HasOut loaded out removed → (bad : BadItem) → IsStepsFault (case_loaded loaded) removed bad → IsBadDiagnosis loaded out removed model entries bad
  steps_bad before (item.Step row number) h = (before, h)
  steps_bad before (item.Goal row) h = (before, h)
  steps_bad before _ h = absurd h

  -- so is a model that is wrong
  pub model_bad : HasShown loaded out removed → (bad : BadItem) → IsModelBad (case_loaded loaded) (ranks_left removed (case_loaded loaded).order) model bad
      → IsBadDiagnosis loaded out removed model entries bad
  model_bad before item.Form h = (before, h)
  model_bad before (item.Axiom source) h = (before, h)
  model_bad before (item.Class node) h = (before, h)
  model_bad before _ h = absurd h

  -- and a journal
  pub journal_bad : HasModel loaded out removed model → IsCase (case_loaded loaded) → (bad : BadItem)
      → IsJournalFault (case_loaded loaded) (rows_left removed (length (case_loaded loaded).order)) entries bad → IsBadDiagnosis loaded out removed model entries bad
  journal_bad before is (item.Journal number) h = (before, h)
  journal_bad before is item.End h =
      ((before, h.0), (λ same. h.1 (same ∙ sym (marks_are_decided removed (case_loaded loaded).order (length (case_loaded loaded).order) (case_has_rows (case_loaded loaded) is)))))
  journal_bad before is _ h = absurd h

  -- if all holds, the diagnosis is valid
  pub all_hold : HasModel loaded out removed model → IsCase (case_loaded loaded)
      → IsRepliedJournal (case_loaded loaded) entries
      × (replayed (length (case_loaded loaded).order) entries ≡ marks_by (rows_left removed (length (case_loaded loaded).order)) (case_loaded loaded).order)
      → IsValidDiagnosis loaded out removed model entries
  all_hold before is h = record {
    rows = before.0.0.0;
    output = before.0.0.1;
    shown = before.0.1;
    form = before.1.fits;
    axioms = before.1.holds;
    classes = before.1.members;
    journal = h.0;
    decided = h.1 ∙ marks_are_decided removed (case_loaded loaded).order (length (case_loaded loaded).order) (case_has_rows (case_loaded loaded) is);
  }

-- what a whole diagnosis is answered
pub diagnosis_answer : (loaded : Loaded) (out : List ℕ) (e : Evidence) (removed given : List Removed) (model : Interp) (journal : EntriesSeen) (entries : List Entry)
    → e.kind ≡ kind.Diagnosis → e.body ≡ body.Diagnosis removed model journal → given ≡ removed → entries ≡ journal.entries → HasLists loaded e → (found : Option BadItem)
    → MatchOption found (IsValidDiagnosis loaded out given model entries) (IsBadDiagnosis loaded out given model entries) → IsItemAnswer loaded out e found
diagnosis_answer loaded out e removed given model journal entries kind_is body_is rows_are entries_are lists found h =
    answer found (subst (λ (rs : List Removed). MatchOption found (IsValidDiagnosis loaded out rs model journal.entries) (IsBadDiagnosis loaded out rs model journal.entries)) rows_are
    (subst (λ (es : List Entry). MatchOption found (IsValidDiagnosis loaded out given model es) (IsBadDiagnosis loaded out given model es)) entries_are h))
  where
    of_it : IsOfDiagnosis e
    of_it = (kind_is, subst HasDiagnosis (sym body_is) tt)

    answer : (found : Option BadItem) → MatchOption found (IsValidDiagnosis loaded out removed model journal.entries) (IsBadDiagnosis loaded out removed model journal.entries)
        → IsItemAnswer loaded out e found
    answer None v = record { kind = kind_is; lists = lists; body = subst (IsDiagnosisBody loaded out) (sym body_is) v }
    answer (Some item.Kind) wrong = absurd wrong
    answer (Some bad) wrong = (of_it, inr (lists, subst (λ (b : Body). IsBadBody loaded out b bad) (sym body_is) wrong))

-- what a whole refusal is answered
pub refusal_answer : (loaded : Loaded) (e : Evidence) (part : Part) (steps given : List Step) → e.kind ≡ kind.Refusal part → e.body ≡ body.Refusal steps → given ≡ steps
    → HasLists loaded e → (found : Option BadItem)
    → MatchOption found (IsPartShownEmpty (case_loaded loaded) part given) (IsBadPart (case_loaded loaded) part given) → IsRefusalAnswer loaded e found
refusal_answer loaded e part steps given kind_is body_is steps_are lists found h =
    answer found (subst (λ (ss : List Step). MatchOption found (IsPartShownEmpty (case_loaded loaded) part ss) (IsBadPart (case_loaded loaded) part ss)) steps_are h)
  where
    of_it : IsOfRefusal part e
    of_it = (kind_is, subst HasRefusal (sym body_is) tt)

    answer : (found : Option BadItem) → MatchOption found (IsPartShownEmpty (case_loaded loaded) part steps) (IsBadPart (case_loaded loaded) part steps) → IsRefusalAnswer loaded e found
    answer None v = (part, record { kind = kind_is; lists = lists; body = subst (IsRefusalBody (case_loaded loaded) part) (sym body_is) v })
    answer (Some item.Kind) wrong = absurd wrong
    answer (Some bad) wrong = (part, of_it, inr (lists, subst (λ (b : Body). IsBadPartBody (case_loaded loaded) part b bad) (sym body_is) wrong))

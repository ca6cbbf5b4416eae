-- What is chosen and what is written of it, from the steps to the case.
use Rattle.std.proofs.Common.{◌≡◌, ◌+◌, ℕ, Bool, List, [], length, sym, ◌∙◌, ap, subst, arith}
use Rattle.std.specs.Prelude.{◌<◌, ◌≤◌, ◌^◌, Some}
use Rattle.std.specs.List.{range_with_len}
use Rattle.std.proofs.lemmas.List.{length-map}
use Rattle.std.proofs.lemmas.List.FromFn.{length-range_with_len}
use Rattle.el_logic.specs.declared.types.Part.{Part}
use Rattle.conflict_logic.specs.Repair.{IsRepair}
use Rattle.rank_order.specs.Order.{IsRanking}
use Rattle.case_file.specs.Cases.{CaseView}
use Rattle.case_file.specs.Incoherence.{IsIncoherentFor, name_of}
use Rattle.saturate.specs.Decisions.{IsFirstEmptyFor, IsFirstIncoherentPart}
use Rattle.case_load.specs.Loads.{IsCaseOf}
use Rattle.case_load.specs.declared.texts.Loaded.{Loaded}
use Rattle.case_load.specs.declared.documents.Documents.{Documents}
use Rattle.ofn_axiom.specs.declared.types.Names.{Names}
use Rattle.sssom_rows.specs.declared.table.Row.{Row}
use Rattle.sssom_rows.specs.declared.table.Table.{Table}
use Rattle.text_names.specs.declared.limits.Limits.{Limits}
use Rattle.diagnosis.specs.declared.rows.KeptRows.{KeptRows}
use Rattle.diagnosis.specs.Rows.{has_rank_of, keep_of}
use Rattle.diagnosis.specs.Shares.{IsShared}
use Rattle.status_lines.specs.Lines.{summary_text}
use Rattle.repaired_table.specs.Repaired.{repaired_text}
use Rattle.accuse_core.specs.Marks.{front_of, kept_of}
use Rattle.accuse_core.specs.declared.journal.Entry.{Entry}
use Rattle.evidence_text.specs.declared.types.Body.{Body}
use Rattle.evidence_text.specs.declared.types.Body.TheVariants as body
use Rattle.run_evidence.specs.Journals.{HasJournal}
use Rattle.commit_book.specs.Books.{BookView, ranks_of}
use Rattle.run_evidence.specs.Tellable.{IsTellable}
use Rattle.repair_run.specs.Outcomes.{case_in, iri_of_class, keep_in, kept_count, omitted_count, out_text_of, summary_line, AreIncoherentWith, HasShares}
use Rattle.repair_run.specs.Inside.Choices.{IsPlain, IsKept, IsDecidedFor, IsChoice, IsFound}
use Rattle.repair_run.proofs.FamilyLaws.{same_repair}
use Rattle.repair_run.proofs.StartLaws.{ExcusingNone, coherent_part, first_part}

-- the case of what is loaded is plain
pub loaded_is_plain : ((confidences rows : List ℕ) → IsRanking confidences rows → length rows ≡ length confidences)
    → (limits : Limits) (documents : Documents) (table : Table) (loaded : Loaded) → IsCaseOf limits documents table loaded → IsTellable loaded → IsPlain loaded
loaded_is_plain count limits documents table loaded made tellable = record {
  excused = ap (λ (c : CaseView). c.excused) made.case;
  classes = ap (λ (c : CaseView). c.classes) made.case ∙ ap (λ (n : List (List ℕ)). length n) (sym (ap (λ (n : Names). n.classes.names) made.names));
  rows = ap (λ (c : CaseView). length c.order) made.case ∙ count _ made.order made.ranking ∙ length-map table.rows (λ (row : Row). row.confidence)
      ∙ ap (λ (t : Table). length t.rows) (sym made.same_table);
  tellable = tellable;
}

module _ (law : ExcusingNone) (loaded : Loaded) (plain : IsPlain loaded) where
  -- what is found of the case is found of its classes
  pub found : (part : Part) (node : ℕ) (iri : List ℕ) → IsFirstIncoherentPart (case_in loaded) part → IsFirstEmptyFor (case_in loaded) part [] node
      → iri_of_class loaded.names.classes.names (name_of node) ≡ Some iri → IsFound loaded part iri
  found part node iri p f named = record {
    class = name_of node;
    first = first_part (case_in loaded) plain.excused law part node p f;
    named = named;
  }

  -- what the diagnosis keeps
  pub kept : (ranks : List ℕ) → ((part : Part) → ¬ (IsIncoherentFor (case_in loaded) part []))
      → IsRepair (IsIncoherentFor (case_in loaded) Part.Both) (length (case_in loaded).order) ranks → IsKept loaded ranks
  kept ranks coherent repair = record {
    coherent = coherent_part (case_in loaded) plain.excused law Part.Both (coherent Part.Both);
    repair = same_repair (IsIncoherentFor (case_in loaded) Part.Both) (AreIncoherentWith (case_in loaded))
        (λ some. (law (case_in loaded) Part.Both some plain.excused).0) (λ some. (law (case_in loaded) Part.Both some plain.excused).1)
        (length (case_in loaded).order) ranks repair;
  }

  -- the book in which every rank is decided
  pub decided_for : (base : CaseView) (book : BookView) → base ≡ case_in loaded → book.case ≡ base → ((part : Part) → ¬ (IsIncoherentFor (case_in loaded) part []))
      → front_of book.marks ≡ ranks_of base → IsRepair (IsIncoherentFor base Part.Both) (ranks_of base) (kept_of book.marks) → IsShared (ranks_of base) book.entries → IsDecidedFor loaded book
  decided_for base book base_is case_is coherent decided repair shared = record {
    case = case_is ∙ base_is;
    decided = decided ∙ ap ranks_of (sym case_is);
    is_kept = kept (kept_of book.marks) coherent (subst (λ (c : CaseView). IsRepair (IsIncoherentFor c Part.Both) (ranks_of c) (kept_of book.marks)) base_is repair);
    shared = subst (λ (c : CaseView). IsShared (ranks_of c) book.entries) base_is shared;
  }

-- the rows of a book of this case
pub choice : (loaded : Loaded) (ranks : List ℕ) (case : CaseView) (rows : KeptRows) → IsPlain loaded → case ≡ case_in loaded
    → rows.keep.items ≡ keep_of case.order ranks → rows.kept ≡ kept_count rows.keep.items → rows.kept + rows.removed ≡ length case.order → IsChoice loaded ranks rows
choice loaded ranks case rows plain same marks count_is all =
    let order : length case.order ≡ length loaded.table.rows = ap (λ (c : CaseView). length c.order) same ∙ plain.rows in
    record {
      keep = marks ∙ ap (λ (c : CaseView). keep_of c.order ranks) same;
      counted = count_is;
      within = omega arith;
      each = ap length marks ∙ length-map (range_with_len 0 (length case.order)) (has_rank_of case.order ranks)
          ∙ length-range_with_len 0 (length case.order) ∙ order;
    }

-- what is written of a choice
module _ (loaded : Loaded) (ranks : List ℕ) (rows : KeptRows) (choice : IsChoice loaded ranks rows) where
  pub written_text : (text : List ℕ) (keep : List Bool) → keep ≡ rows.keep.items → text ≡ repaired_text loaded.table keep → text ≡ out_text_of loaded ranks
  written_text text keep same is = is ∙ ap (repaired_text loaded.table) (same ∙ choice.keep)

  pub written_line : (line : List ℕ) (count omitted : ℕ) → count ≡ length loaded.table.rows → omitted ≡ omitted_count loaded
      → line ≡ summary_text count rows.kept loaded.inert omitted → line ≡ summary_line loaded ranks
  written_line line count omitted counted left is =
      is ∙ ap (λ (n : ℕ). summary_text n rows.kept loaded.inert omitted) counted
      ∙ ap (λ (n : ℕ). summary_text (length loaded.table.rows) n loaded.inert omitted) (choice.counted ∙ ap kept_count choice.keep)
      ∙ ap (λ (n : ℕ). summary_text (length loaded.table.rows) (kept_count (keep_in loaded ranks)) loaded.inert n) left

-- evidence with the journal of a book has its shares
pub shares_in : (n : ℕ) (entries : List Entry) (b : Body) → HasJournal entries b → IsShared n entries → HasShares n b
shares_in n entries (body.Diagnosis removed model journal) is shared = subst (IsShared n) (sym is) shared
shares_in n entries (body.Refusal steps) is shared = absurd is

-- a file within the limits is short
pub short_file : (most : ℕ) (bytes : List ℕ) → most < 2 ^ 31 → length bytes ≤ most → length bytes < 2 ^ 63
short_file most bytes few within = omega (arith, few, within)

-- What valid evidence of a loaded case shows.
use Rattle.std.proofs.Common.{◌≡◌, ℕ, ◌<◌, List, [], Contains, length, ap, sym, subst, ◌∙◌, arith, get_or}
use Rattle.std.proofs.lemmas.List.{length-map, append-nil}
use Rattle.std.proofs.lemmas.List.Elements.{All-nil}
use Rattle.text_names.specs.declared.limits.Limits.{Limits}
use Rattle.conflict_logic.specs.Sets.{IsClosedUnderAdding}
use Rattle.conflict_logic.specs.Certificate.{IsCertified}
use Rattle.conflict_logic.specs.Repair.{IsRepair}
use Rattle.el_logic.specs.declared.types.Axiom.{Axiom}
use Rattle.el_logic.specs.declared.types.Part.{Part}
use Rattle.el_logic.specs.Incoherent.{IsIncoherent, axioms_of_part}
use Rattle.rank_order.specs.Order.{IsRanking}
use Rattle.sssom_rows.specs.declared.table.Row.{Row}
use Rattle.sssom_rows.specs.declared.table.Table.{Table}
use Rattle.case_file.specs.Cases.{CaseView, IsCase}
use Rattle.case_load.specs.Loads.{IsCaseOf}
use Rattle.case_load.specs.declared.documents.Documents.{Documents}
use Rattle.case_load.specs.declared.texts.Loaded.{Loaded}
use Rattle.repaired_table.specs.Repaired.{repaired_text}
use Rattle.evidence_text.specs.declared.types.Body.{Body}
use Rattle.evidence_text.specs.declared.types.Body.TheVariants as body
use Rattle.valid_evidence.specs.Rows.{IsOnce, ranks_left, steps_by_rank}
use Rattle.valid_evidence.specs.Items.{case_loaded}
use Rattle.valid_evidence.specs.Valid.{IsDiagnosisBody, IsRefusalBody}
use Rattle.valid_evidence.specs.Shown.{AreIncoherentWith, IsRepairedOut}
use Rattle.valid_evidence.proofs.RowLaws.{KeptHaveMark, rows_are_ranked}
use Rattle.valid_evidence.proofs.ShownLaws.{ExcusingNone, GoodShow, MoreRowsStay, is_closed, certified}

-- a ranking has as many rows as there are confidences
abbrev pub Counts : Type 0
Counts = (confidences rows : List ℕ) → IsRanking confidences rows → length rows ≡ length confidences

-- and none twice
abbrev pub Once : Type 0
Once = (confidences rows : List ℕ) (one other : ℕ) → IsRanking confidences rows → one < length rows → other < length rows
    → get_or rows one 0 ≡ get_or rows other 0 → one ≡ other

-- a certificate of the case is a repair
abbrev pub Certifies : CaseView → Type 0
Certifies case = (count : ℕ) (kept : List ℕ) → IsClosedUnderAdding (AreIncoherentWith case)
    → IsCertified (AreIncoherentWith case) count kept → IsRepair (AreIncoherentWith case) count kept

module _ (limits : Limits) (documents : Documents) (table : Table) (loaded : Loaded) (made : IsCaseOf limits documents table loaded) (is : IsCase (case_loaded loaded)) where
  abbrev pub case : CaseView
  case = case_loaded loaded

  order_is : case.order ≡ made.order
  order_is = ap (λ (c : CaseView). c.order) made.case

  -- a loaded case excuses no class
  excuses_none : case.excused ≡ []
  excuses_none = ap (λ (c : CaseView). c.excused) made.case

  -- it has a rank for each row of the table
  counted : Counts → length case.order ≡ length loaded.table.rows
  counted counts =
      ap length order_is ∙ counts _ made.order made.ranking ∙ length-map table.rows (λ (row : Row). row.confidence)
      ∙ ap (λ (t : Table). length t.rows) (sym made.same_table)

  -- and each row once
  each_once : Once → IsOnce case.order
  each_once once = subst IsOnce (sym order_is) (λ one other low high same. once _ made.order one other made.ranking low high same)

  -- what the body of valid evidence shows
  pub repaired : Counts → Once → ExcusingNone → GoodShow → MoreRowsStay → KeptHaveMark → Certifies case
      → (out : List ℕ) (b : Body) → IsDiagnosisBody loaded out b → IsRepairedOut loaded out
  repaired counts once excusing good more law certifies out (body.Refusal steps) v = absurd v
  repaired counts once excusing good more law certifies out (body.Diagnosis removed model journal) v = record {
    kept = ranks_left removed case.order;
    repair = certifies (length case.order) (ranks_left removed case.order) (is_closed excusing good more law case is excuses_none)
        (certified excusing good more law case is excuses_none (each_once once) removed v.shown model v.form v.axioms v.classes);
    text = v.output ∙ ap (repaired_text loaded.table) (rows_are_ranked law removed case.order (length loaded.table.rows) (counted counts) each);
  }
    where
      each : (index : ℕ) → index < length loaded.table.rows → Contains case.order index
      each index inside = let ranks = is.given.ranks in let many = counted counts in is.given.each_row index (omega arith)

  -- what the body of valid evidence of a refusal shows
  pub refused : ExcusingNone → GoodShow → (part : Part) (b : Body) → IsRefusalBody case part b
      → IsIncoherent case.classes case.properties (axioms_of_part case.left case.right part)
  refused excusing good part (body.Diagnosis removed model journal) v = absurd v
  refused excusing good part (body.Refusal steps) v =
      subst (λ (axioms : List Axiom). IsIncoherent case.classes case.properties axioms) (append-nil (axioms_of_part case.left case.right part))
      ((excusing case part [] excuses_none).0 (good case part [] (steps_by_rank case.order steps) is (All-nil (λ rank. rank < length case.order)) v))

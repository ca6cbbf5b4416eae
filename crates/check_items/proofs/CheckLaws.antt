-- What is known of a loaded case, and what the stages of a check say of the whole.
use Rattle.std.proofs.Common.{◌≡◌, ℕ, ◌<◌, List, length, get_or, ap, sym, subst, ◌∙◌}
use Rattle.std.proofs.lemmas.List.{length-map}
use Rattle.text_names.specs.declared.limits.Limits.{Limits}
use Rattle.rank_order.specs.Order.{IsRanking}
use Rattle.ofn_axiom.specs.declared.types.Names.{Names}
use Rattle.sssom_rows.specs.declared.table.Row.{Row}
use Rattle.sssom_rows.specs.declared.table.Table.{Table}
use Rattle.case_file.specs.Cases.{CaseView}
use Rattle.case_load.specs.Loads.{IsCaseOf}
use Rattle.case_load.specs.declared.documents.Documents.{Documents}
use Rattle.case_load.specs.declared.texts.Loaded.{Loaded}
use Rattle.valid_evidence.specs.Rows.{IsOnce}
use Rattle.check_items.specs.Inside.Plain.{IsPlain}

-- a ranking has as many rows as there are confidences
abbrev pub Counts : Type 0
Counts = (confidences rows : List ℕ) → IsRanking confidences rows → length rows ≡ length confidences

-- and none twice
abbrev pub Once : Type 0
Once = (confidences rows : List ℕ) (one other : ℕ) → IsRanking confidences rows → one < length rows → other < length rows
    → get_or rows one 0 ≡ get_or rows other 0 → one ≡ other

-- a case that was made is plain
pub made_is_plain : Counts → Once → (limits : Limits) (documents : Documents) (table : Table) (loaded : Loaded) → IsCaseOf limits documents table loaded → IsPlain loaded
made_is_plain counts once limits documents table loaded made = record {
  excused = ap (λ (c : CaseView). c.excused) made.case;
  classes = ap (λ (c : CaseView). c.classes) made.case ∙ ap (λ (n : Names). length n.classes.names) (sym made.names);
  properties = ap (λ (c : CaseView). c.properties) made.case ∙ ap (λ (n : Names). length n.roles.names) (sym made.names);
  rows = ap (λ (c : CaseView). length c.order) made.case ∙ counts _ made.order made.ranking ∙ length-map table.rows (λ (row : Row). row.confidence)
      ∙ ap (λ (t : Table). length t.rows) (sym made.same_table);
  once = subst IsOnce (sym (ap (λ (c : CaseView). c.order) made.case)) (λ one other low high same. once _ made.order one other made.ranking low high same);
}

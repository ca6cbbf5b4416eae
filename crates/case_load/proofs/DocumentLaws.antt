-- Documents whose texts are short are over the names of both.
use Rattle.std.proofs.Common.{◌<◌, ◌≤◌, ℕ, ◌^◌, Bool, true, false, cond, List, length, take, drop, ap, arith, length-append}
use Rattle.std.specs.Prelude.{Some, None, bytes_eq, unwrap_or}
use Rattle.std.proofs.lemmas.List.{length-drop}
use Rattle.std.proofs.lemmas.List.Elements.{All-weaker}
use Rattle.byte_words.specs.Fronts.{without_mark, byte_order_mark}
use Rattle.text_names.specs.Names.{Numbering}
use Rattle.el_logic.specs.declared.types.Axiom.{Axiom}
use Rattle.concept_store.specs.Roles.{AreOver, IsOver}
use Rattle.ofn_axiom.specs.declared.types.Document.{Document}
use Rattle.ofn_axiom.specs.declared.types.Mode.{Mode}
use Rattle.ofn_axiom.specs.declared.types.Names.{Names}
use Rattle.ofn_axiom.specs.Documents.{IsReading}
use Rattle.ofn_axiom.specs.Taking.{IsTableBefore, IsNamesBefore}
use Rattle.case_load.proofs.OverNames.{axiom_over_more}

-- the law on readings
abbrev pub ReadingsAreOver : Type 0
ReadingsAreOver = (text : List ℕ) (mode : Mode) (depth : ℕ) (old new : Names) (document : Document) → length text < 2 ^ 31 → IsReading text mode depth old new document →
    AreOver (length new.classes.names) (length new.roles.names) document.axioms

-- a text that is short is so without its mark
short_unmarked : (text : List ℕ) → length text < 2 ^ 31 → length (without_mark text) < 2 ^ 31
short_unmarked text short = by (bytes_eq (take 3 text) byte_order_mark)
  where
    by : (b : Bool) → length (unwrap_or (cond b (Some (drop 3 text)) None) text) < 2 ^ 31
    by true = omega (arith, length-drop 3 text, short)
    by false = short

-- a text, whether it has a mark or not
pub document_over : ReadingsAreOver → (text : List ℕ) (mode : Mode) (depth : ℕ) (old new : Names) (document : Document) → length text < 2 ^ 31 → IsReading (without_mark text) mode depth old new document →
    AreOver (length new.classes.names) (length new.roles.names) document.axioms
document_over law text mode depth old new document short is = law (without_mark text) mode depth old new document (short_unmarked text short) is

-- a later table has no fewer names
more_names : (old new : Numbering) → IsTableBefore old new → length old.names ≤ length new.names
more_names old new before = omega (arith, ap length before.names, length-append old.names before.more)

-- axioms over some names are over later ones
pub axioms_over_later : (old new : Names) (axioms : List Axiom) → IsNamesBefore old new → AreOver (length old.classes.names) (length old.roles.names) axioms → AreOver (length new.classes.names) (length new.roles.names) axioms
axioms_over_later old new axioms before over = record {
  few = over.few;
  each = All-weaker (IsOver (length old.classes.names) (length old.roles.names)) (IsOver (length new.classes.names) (length new.roles.names))
      (axiom_over_more (length old.classes.names) (length old.roles.names) (length new.classes.names) (length new.roles.names) (more_names old.classes new.classes before.classes) (more_names old.roles new.roles before.roles))
      axioms over.each;
}

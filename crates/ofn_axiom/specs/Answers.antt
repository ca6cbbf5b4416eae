-- The one answer of a document.
use Rattle.std.specs.Prelude.{ℕ, List}
use Rattle.ofn_axiom.specs.declared.fault.DocFault.{DocFault}
use Rattle.ofn_axiom.specs.declared.types.Document.{Document}
use Rattle.ofn_axiom.specs.declared.types.Names.{Names}
use Rattle.ofn_axiom.specs.declared.types.Mode.{Mode}
use Rattle.ofn_axiom.specs.Documents.{IsReading, IsDocFault}

-- the text has a reading or a first fault
pub data HasDocAnswer (text : List ℕ) (mode : Mode) (depth : ℕ) (old : Names) : Type 0 where
  is_read : (document : Document) (new : Names) → IsReading text mode depth old new document →
      HasDocAnswer text mode depth old
  is_refused : (found : DocFault) → IsDocFault text mode depth old found →
      HasDocAnswer text mode depth old

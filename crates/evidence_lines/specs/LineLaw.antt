-- What lines of one kind are.
use Rattle.std.specs.Prelude.{◌≡◌, Option, Some}
use Rattle.line_fields.specs.Lines.{Fields, IsLine}

-- Lines are read as what they spell and as nothing else: for values that have a line, and whose
-- numbers and names are those of values.
pub record AreLinesOf {X : Type 0} (read : Fields → Option X) (spell : X → Fields)
    (HasLine IsValue : X → Type 0) : Type 0 where
  pub back : (fields : Fields) (x : X) → read fields ≡ Some x →
      (fields ≡ spell x) × HasLine x × IsValue x
  pub again : (x : X) → HasLine x → IsValue x → read (spell x) ≡ Some x
  pub line : (x : X) → HasLine x → IsValue x → IsLine (spell x)

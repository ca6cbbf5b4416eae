-- What only the code of this crate and its proofs cite.
use Rattle.std.specs.Prelude.{◌≡◌, ℕ, false, List, Option, Some}
use Rattle.csv.specs.Writing.{writer_setup, fields_written, has_written, text_written}
use Rattle.csv.specs.declared.writer.Writer.{Writer}
use Rattle.repaired_table.specs.Repaired.{tab_writer}

-- a writer between records has written this text
pub record HasWritten {W : Type 0} (contents : W → Option (List ℕ)) (writer : Writer W) (text : List ℕ) : Type 0 where
  pub setup : writer_setup writer ≡ tab_writer
  pub ended : fields_written writer ≡ 0
  pub clean : has_written writer ≡ false
  pub written : text_written contents writer ≡ Some text

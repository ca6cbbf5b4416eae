-- The lines for a number, by what they say.
use Rattle.std.specs.Prelude.{ℕ, List}
use Rattle.case_maker.specs.declared.lines.Line.{Line}
use Rattle.case_maker.specs.declared.lines.Line.TheVariants.{Disjoint, Successor, SubClass, Rows}
use Rattle.case_maker.specs.MadeCase.{disjoint_line, successor_line, subclass_line, rows_of}

abbrev pub line_of : Line → ℕ → List ℕ
line_of Disjoint i = disjoint_line i
line_of Successor i = successor_line i
line_of SubClass i = subclass_line i
line_of Rows i = rows_of i

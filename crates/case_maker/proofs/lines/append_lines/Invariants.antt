use Rattle.std.proofs.Common.{◌≡◌, ◌++◌}
use Rattle.case_maker.specs.MadeCase.{lines_for}
use Rattle.case_maker.specs.Inside.Lines.{line_of}
use Rattle.case_maker.proofs.lines.append_lines.Given as goal

abbrev pub invariant-loop-before : goal.invariant-loop-before
invariant-loop-before l = l.text ≡ l.fn.text ++ lines_for (line_of l.line) l.before

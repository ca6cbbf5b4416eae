use Rattle.case_maker.specs.Inside.Lines.{line_of}
use Rattle.case_maker.proofs.LineLaws.{lines_step}
use Rattle.case_maker.proofs.lines.append_lines.Goals as goal

pub loop-before-preserved : goal.loop-before-preserved
loop-before-preserved c =
    lines_step c.args.text.now _ _ (line_of c.args.line) c.loop-before.before c.loop-before.invariant c.in_ok-append_line.ensures

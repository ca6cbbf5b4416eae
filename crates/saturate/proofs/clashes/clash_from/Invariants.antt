use Rattle.rule_steps.specs.Growing.{facts_in}
use Rattle.saturate.specs.Inside.Clashes.{AreLiveWithin}
use Rattle.saturate.proofs.clashes.clash_from.Given as goal

abbrev pub invariant-loop-place : goal.invariant-loop-place
invariant-loop-place l = AreLiveWithin l.case l.from l.place (facts_in l.layers)

use Rattle.std.proofs.Common.{sym, ◌∙◌}
use Rattle.evidence_lines.proofs.FrontLaws.{pair_more}
use Rattle.evidence_lines.proofs.model.pairs_in.Goals as goal

pub loop-field-preserved : goal.loop-field-preserved
loop-field-preserved c =
    rw c.in_ok-push.ensures.ok (pair_more c.loop-field.pairs c.loop-field.before c.loop-field.rest c.in-Some.field.now c.in-Some.after c.in-Some-pair_of.pair.1
    c.in-Some-pair_of.pair.0 _ c.in-Some.ensures c.in-Some-pair_of.ensures (sym c.if-not-pair_follows.false ∙ c.pair_follows.ensures) c.loop-field.invariant)

use Rattle.std.proofs.Common.{◌≤◌, subst, arith}
use Rattle.std.proofs.lemmas.List.{take_all}
use Rattle.std.proofs.lemmas.List.Elements.{All-more}
use Rattle.evidence_text.specs.declared.types.Removed.{Removed}
use Rattle.check_items.specs.Inside.Tables.{AreRowsOf}
use Rattle.check_items.proofs.rows.first_unknown.Goals as goal

pub loop-one-preserved : goal.loop-one-preserved
loop-one-preserved c =
    All-more (λ (r : Removed). (1 ≤ r.row) × (r.row ≤ c.args.rows)) c.args.removed.now c.loop-one.one-index c.one-item.result c.loop-one-test.true
    c.loop-one.invariant (subst (λ (r : Removed). (1 ≤ r.row) × (r.row ≤ c.args.rows)) c.one-item.is (omega (arith, c.if-one-eq0.false), omega (arith, c.if-one-rows.false)))

pub returns : goal.returns
returns c = subst (AreRowsOf c.args.rows) (take_all c.loop-one.one-index c.args.removed.now (omega (arith, c.loop-one-test.false))) c.loop-one.invariant

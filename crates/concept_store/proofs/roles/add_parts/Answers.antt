use Rattle.std.proofs.Common.{arith}
use Rattle.concept_store.proofs.RoleLaws.{next_part, full}
use Rattle.concept_store.proofs.roles.add_parts.Goals as goal

pub returns-then-len-most-clause-fault : goal.returns-then-len-most-clause-fault
returns-then-len-most-clause-fault c =
    full c.args.roles.now.items c.loop-k.roles.items c.args.side c.args.number c.loop-k.k c.args.count c.args.most c.loop-k.invariant.roles c.loop-k-test.true (omega (arith, c.if-len-most.true, c.len.ensures))

pub loop-k-preserved : goal.loop-k-preserved
loop-k-preserved c = record {
  roles = next_part c.args.roles.now.items c.loop-k.roles.items c.push.new.self.items c.args.side c.args.number c.loop-k.k c.loop-k.invariant.roles c.in_ok-push.ensures.items;
  room = omega (arith, c.in_ok-push.ensures.len, c.if-len-most.false, c.len.ensures);
}

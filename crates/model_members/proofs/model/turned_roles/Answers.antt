use Rattle.std.proofs.Common.{All, sym, subst}
use Rattle.std.specs.List.{AllPairs}
use Rattle.std.proofs.lemmas.List.Elements.{All-nil, All-push}
use Rattle.closed_model.specs.Models.{ComesBefore}
use Rattle.model_members.specs.Lists.{AreTurned}
use Rattle.model_members.proofs.KeyLaws.{made_none, made_next, made_all, turned_none}
use Rattle.model_members.proofs.model.turned_roles.Goals as goal

pub loop-list-init : goal.loop-list-init
loop-list-init c = record {
  same = made_none AreTurned c.in_ok-turned.turned.items c.in_ok-turned.ensures.items turned_none;
  ascending = subst (All (AllPairs ComesBefore)) (sym c.in_ok-turned.ensures.items) (All-nil (AllPairs ComesBefore));
}

pub loop-list-preserved : goal.loop-list-preserved
loop-list-preserved c = record {
  same = made_next AreTurned c.args.lists.now c.loop-list.turned.items c.push.new.self.items c.loop-list.list-index c.list-item.result c.as_slice.result.now c.in_ok-pairs.pairs
      c.loop-list-test.true c.list-item.is c.as_slice.ensures c.in_ok-push.ensures.items c.in_ok-pairs.ensures.same c.loop-list.invariant.same;
  ascending = subst (All (AllPairs ComesBefore)) (sym c.in_ok-push.ensures.items)
      (All-push (AllPairs ComesBefore) c.loop-list.turned.items c.in_ok-pairs.pairs c.loop-list.invariant.ascending c.in_ok-pairs.ensures.ascending);
}

pub returns-clause-same : goal.returns-clause-same
returns-clause-same c =
    made_all AreTurned c.args.lists.now c.loop-list.turned.items c.from_vec.result c.loop-list.list-index c.loop-list-test.false c.from_vec.ensures c.loop-list.invariant.same

pub returns-clause-ascending : goal.returns-clause-ascending
returns-clause-ascending c = subst (All (AllPairs ComesBefore)) (sym c.from_vec.ensures) c.loop-list.invariant.ascending

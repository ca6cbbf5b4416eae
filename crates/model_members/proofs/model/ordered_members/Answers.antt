use Rattle.std.proofs.Common.{All, sym, subst}
use Rattle.std.specs.List.Sorted.{IsStrictlyIncreasing}
use Rattle.std.proofs.lemmas.List.Elements.{All-nil, All-push}
use Rattle.closed_model.specs.Models.{HaveTheSame}
use Rattle.model_members.proofs.KeyLaws.{made_none, made_next, made_all}
use Rattle.model_members.proofs.model.ordered_members.Goals as goal

pub loop-list-init : goal.loop-list-init
loop-list-init c = record {
  same = made_none HaveTheSame c.in_ok-ordered.ordered.items c.in_ok-ordered.ensures.items (λ x. ((λ there. there), (λ there. there)));
  ascending = subst (All IsStrictlyIncreasing) (sym c.in_ok-ordered.ensures.items) (All-nil IsStrictlyIncreasing);
}

pub loop-list-preserved : goal.loop-list-preserved
loop-list-preserved c = record {
  same = made_next HaveTheSame c.args.lists.now c.loop-list.ordered.items c.push.new.self.items c.loop-list.list-index c.list-item.result c.as_slice.result.now c.in_ok-numbers.numbers
      c.loop-list-test.true c.list-item.is c.as_slice.ensures c.in_ok-push.ensures.items c.in_ok-numbers.ensures.same c.loop-list.invariant.same;
  ascending = subst (All IsStrictlyIncreasing) (sym c.in_ok-push.ensures.items)
      (All-push IsStrictlyIncreasing c.loop-list.ordered.items c.in_ok-numbers.numbers c.loop-list.invariant.ascending c.in_ok-numbers.ensures.ascending);
}

pub returns-clause-same : goal.returns-clause-same
returns-clause-same c =
    made_all HaveTheSame c.args.lists.now c.loop-list.ordered.items c.from_vec.result c.loop-list.list-index c.loop-list-test.false c.from_vec.ensures c.loop-list.invariant.same

pub returns-clause-ascending : goal.returns-clause-ascending
returns-clause-ascending c = subst (All IsStrictlyIncreasing) (sym c.from_vec.ensures) c.loop-list.invariant.ascending

use Rattle.std.proofs.Common.{refl, arith}
use Rattle.std.proofs.lemmas.List.{same_lists}
use Rattle.check_items.proofs.lists.are_same_omitted.Goals as goal

pub returns : goal.returns
returns c = (
  (λ _. same_lists c.args.one.now c.args.other.now (omega (arith, c.if-one-other.false))
      (λ k d inside. c.loop-place.invariant k d (omega (arith, inside, c.loop-place-test.false, c.loop-place.auto.place-end)))),
  (λ _. refl),
)

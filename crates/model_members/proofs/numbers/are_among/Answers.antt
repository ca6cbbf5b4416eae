use Rattle.std.proofs.Common.{◌∙◌, All, Contains, get_or, sym, subst, rules}
use Rattle.std.proofs.lemmas.List.{take_all}
use Rattle.std.proofs.lemmas.List.Elements.{All-contains, All-more, Contains-get_or}
use Rattle.model_members.proofs.numbers.are_among.Goals as goal

pub returns-then-not-has_number : goal.returns-then-not-has_number
returns-then-not-has_number c = (
  (λ no. search rules),
  (λ each. sym c.if-not-has_number.true
      ∙ c.has_number.ensures.there.1 (each (get_or c.args.numbers.now c.loop-x.x-index 0) (Contains-get_or c.args.numbers.now c.loop-x.x-index 0 c.loop-x-test.true))),
)

pub loop-x-preserved : goal.loop-x-preserved
loop-x-preserved c =
    All-more (Contains c.args.others.now) c.args.numbers.now c.loop-x.x-index 0 c.loop-x-test.true c.loop-x.invariant
    (c.has_number.ensures.there.0 c.if-not-has_number.false)

pub returns : goal.returns
returns c = (
  (λ yes x there. All-contains (Contains c.args.others.now) c.args.numbers.now x
      (subst (All (Contains c.args.others.now)) (take_all c.loop-x.x-index c.args.numbers.now c.loop-x-test.false) c.loop-x.invariant) there),
  (λ each. search rules),
)

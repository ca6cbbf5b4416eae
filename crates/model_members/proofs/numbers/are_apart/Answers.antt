use Rattle.std.proofs.Common.{◌∙◌, ℕ, All, Contains, get_or, sym, subst, rules, true≢false}
use Rattle.std.proofs.lemmas.List.{take_all}
use Rattle.std.proofs.lemmas.List.Elements.{All-contains, All-more, Contains-get_or}
use Rattle.model_members.proofs.numbers.are_apart.Goals as goal

pub returns-then-has_number : goal.returns-then-has_number
returns-then-has_number c = (
  (λ no. search rules),
  (λ each. absurd (each (get_or c.args.numbers.now c.loop-x.x-index 0) (Contains-get_or c.args.numbers.now c.loop-x.x-index 0 c.loop-x-test.true)
      (c.has_number.ensures.there.0 c.if-has_number.true))),
)

pub loop-x-preserved : goal.loop-x-preserved
loop-x-preserved c =
    All-more (λ x. ¬ (Contains c.args.others.now x)) c.args.numbers.now c.loop-x.x-index 0 c.loop-x-test.true c.loop-x.invariant
    (λ there. true≢false (sym (c.has_number.ensures.there.1 there) ∙ c.if-has_number.false))

pub returns : goal.returns
returns c =
    let Absent : ℕ → Type 0 = λ x. ¬ (Contains c.args.others.now x) in (
      (λ yes x there. All-contains Absent c.args.numbers.now x
          (subst (All Absent) (take_all c.loop-x.x-index c.args.numbers.now c.loop-x-test.false) c.loop-x.invariant) there),
      (λ each. search rules),
    )

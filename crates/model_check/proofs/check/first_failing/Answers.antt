use Rattle.std.proofs.Common.{◌≡◌, ◌∙◌, ◌+◌, length, All, refl, sym, ap, subst, arith, true≢false}
use Rattle.std.proofs.lemmas.List.{take_all}
use Rattle.std.proofs.lemmas.List.Elements.{All-more}
use Rattle.std.proofs.lemmas.Option.{slice_get_read}
use Rattle.el_logic.specs.Meaning.{Holds}
use Rattle.case_tables.specs.Keyed.{numbered_from}
use Rattle.model_check.specs.Faults.{IsFirstFailing}
use Rattle.model_check.specs.Inside.Lists.{source_at}
use Rattle.model_check.proofs.FailLaws.{fails_at}
use Rattle.model_check.proofs.check.first_failing.Goals as goal

pub returns-then-not-holds : goal.returns-then-not-holds
returns-then-not-holds c =
    let axioms = c.args.axioms.now in
    let index = c.loop-axiom.axiom-index in
    let name = source_at c.args.origin in
    let number : c.loop-axiom.number + 1 ≡ 1 + index = omega (arith, c.loop-axiom.invariant.number) in
    let is : c.source_at.result ≡ name (1 + index) = c.source_at.ensures ∙ ap name number in
    subst (IsFirstFailing c.args.lists.now.ordered (numbered_from name 1 axioms)) (sym is)
    (fails_at c.args.lists.now.ordered name 1 axioms index c.axiom-item.result c.loop-axiom.invariant.hold
    (slice_get_read axioms (length axioms) index c.axiom-item.result refl c.loop-axiom-test.true c.axiom-item.is)
    (λ holds. true≢false (sym (c.in_ok-holds.ensures.1 holds) ∙ c.if-not-holds.true)))

pub loop-axiom-preserved : goal.loop-axiom-preserved
loop-axiom-preserved c = record {
  number = ap (λ n. n + 1) c.loop-axiom.invariant.number;
  hold = All-more (Holds c.args.lists.now.ordered) c.args.axioms.now c.loop-axiom.axiom-index c.axiom-item.result c.loop-axiom-test.true c.loop-axiom.invariant.hold
      (subst (Holds c.args.lists.now.ordered) c.axiom-item.is (c.in_ok-holds.ensures.0 c.if-not-holds.false));
}

pub returns : goal.returns
returns c = subst (All (Holds c.args.lists.now.ordered)) (take_all c.loop-axiom.axiom-index c.args.axioms.now (omega (arith, c.loop-axiom-test.false))) c.loop-axiom.invariant.hold

use Rattle.std.proofs.Common.{ℕ, List, get_or, take, sym, subst}
use Rattle.std.specs.List.{AllPairs}
use Rattle.std.proofs.lemmas.List.{take_more, take_all}
use Rattle.el_logic.specs.Meaning.{pairs_of}
use Rattle.closed_model.specs.Models.{ComesBefore}
use Rattle.model_members.proofs.PropertyLaws.{LedBy, led_start, led_more, same_by}
use Rattle.model_members.proofs.properties.led.Goals as goal

pub loop-role-init : goal.loop-role-init
loop-role-init c = record {
  ascending = subst (AllPairs ComesBefore) (sym c.in_ok-all.ensures) c.requires.ascending;
  led = led_start c.args.lists.now.ordered c.args.first.now c.in_ok-all.all (same_by c.in_ok-all.all c.args.first.now c.in_ok-all.ensures);
}

pub loop-role-preserved : goal.loop-role-preserved
loop-role-preserved c =
    let i = c.args.lists.now.ordered in
    let first = c.args.first.now in
    let chain = c.args.chain.now in
    let index = c.loop-role.role-index in
    let role = get_or chain index 0 in
    let more = c.in_ok-further.further in
    record {
      ascending = c.in_ok-further.ensures.ascending;
      led = subst (LedBy i first more) (sym (take_more chain index 0 c.loop-role-test.true))
          (led_more i first c.as_slice.result.now c.pairs.result.now more (take index chain) role
          (subst (λ (all : List (ℕ × ℕ)). LedBy i first all (take index chain)) (sym c.as_slice.ensures) c.loop-role.invariant.led)
          (same_by c.pairs.result.now (pairs_of i role) c.pairs.ensures.list) c.in_ok-further.ensures.same);
    }

pub returns-clause-same : goal.returns-clause-same
returns-clause-same c =
    subst (LedBy c.args.lists.now.ordered c.args.first.now c.loop-role.all) (take_all c.loop-role.role-index c.args.chain.now c.loop-role-test.false) c.loop-role.invariant.led

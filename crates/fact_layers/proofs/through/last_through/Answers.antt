use Rattle.std.proofs.Common.{arith, ◌≡◌, ◌+◌, ◌-◌, ◌<◌, ℕ, length, take, subst}
use Rattle.fact_table.specs.Groups.{group_at}
use Rattle.fact_table.specs.Lists.{facts_of}
use Rattle.fact_table.specs.Places.{IsClear}
use Rattle.fact_layers.specs.Inside.Stacks.{all_items}
use Rattle.fact_layers.proofs.Layered.{last_more, last_here, last_begins, last_none}
use Rattle.fact_layers.proofs.through.last_through.Goals as goal

pub returns-in-Some : goal.returns-in-Some
returns-in-Some c =
    let layers = c.args.layers.now in
    let k = c.loop-left.left - 1 in
    let again : c.loop-left.left ≡ k + 1 = omega (arith, c.loop-left-test.true) in
    let low : k < length layers = omega (arith, again, c.loop-left.invariant.within) in
    let C : ℕ → Type 0 = λ n. IsClear (group_at c.args.side) (facts_of (all_items layers)) c.args.group (length (all_items (take n layers))) c.args.below in
    last_here (group_at c.args.side) layers k c.index-layers-left.result c.args.group c.args.below c.in-Some.place c.requires low (rw (← c.index-layers-left.is) c.in-Some.ensures) (subst C again c.loop-left.invariant.clear)

pub loop-left-preserved : goal.loop-left-preserved
loop-left-preserved c =
    let layers = c.args.layers.now in
    let k = c.loop-left.left - 1 in
    let again : c.loop-left.left ≡ k + 1 = omega (arith, c.loop-left-test.true) in
    let low : k < length layers = omega (arith, again, c.loop-left.invariant.within) in
    let C : ℕ → Type 0 = λ n. IsClear (group_at c.args.side) (facts_of (all_items layers)) c.args.group (length (all_items (take n layers))) c.args.below in
    record {
      within = omega (arith, low);
      clear = last_more (group_at c.args.side) layers k c.index-layers-left.result c.args.group c.args.below c.requires low (rw (← c.index-layers-left.is) c.in-None.ensures) (subst C again c.loop-left.invariant.clear);
    }

pub loop-left-init : goal.loop-left-init
loop-left-init c = record { within = omega arith; clear = last_begins (group_at c.args.side) c.args.layers.now c.args.group c.args.below }

pub returns : goal.returns
returns c = last_none (group_at c.args.side) c.args.layers.now c.loop-left.left c.args.group c.args.below c.loop-left-test.false c.loop-left.invariant.clear

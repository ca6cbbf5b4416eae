use Rattle.std.proofs.Common.{arith, ◌≡◌, ◌+◌, ◌-◌, ◌<◌, ◌≤◌, ℕ, length, take, subst}
use Rattle.fact_layers.specs.Inside.Stacks.{all_items}
use Rattle.fact_layers.proofs.Layered.{starts_at, front_len, item_here}
use Rattle.fact_layers.proofs.through.at_through.Goals as goal

pub at-requires-clause-below : goal.at-requires-clause-below
at-requires-clause-below c =
    let layers = c.args.layers.now in
    let one = c.index-layers-left.result in
    let k = c.loop-left.left - 1 in
    let again : c.loop-left.left ≡ k + 1 = omega (arith, c.loop-left-test.true) in
    let low : k < length layers = omega (arith, again, c.loop-left.invariant.within) in
    let start : one.start ≡ length (all_items (take k layers)) = rw c.index-layers-left.is (starts_at layers k one c.requires.in_place low) in
    let next : length (all_items (take (k + 1) layers)) ≡ length (all_items (take k layers)) + length one.items = rw c.index-layers-left.is (front_len layers k one low) in
    let C : ℕ → Type 0 = λ n. c.args.place < length (all_items (take n layers)) in
    let under : c.args.place < length (all_items (take (k + 1) layers)) = subst C again c.loop-left.invariant.low in
    omega (arith, start, next, under)

pub returns-then-start-place : goal.returns-then-start-place
returns-then-start-place c =
    let layers = c.args.layers.now in
    let one = c.index-layers-left.result in
    let k = c.loop-left.left - 1 in
    let low : k < length layers = omega (arith, c.loop-left-test.true, c.loop-left.invariant.within) in
    let above : one.start ≤ c.args.place = omega (arith, c.start.ensures.start, c.if-start-place.true) in
    item_here layers k one c.args.place c.at.result c.requires.in_place low (rw (← c.index-layers-left.is) above) (rw (← c.index-layers-left.is) c.at.ensures)

pub loop-left-preserved : goal.loop-left-preserved
loop-left-preserved c =
    let layers = c.args.layers.now in
    let one = c.index-layers-left.result in
    let k = c.loop-left.left - 1 in
    let low : k < length layers = omega (arith, c.loop-left-test.true, c.loop-left.invariant.within) in
    let start : one.start ≡ length (all_items (take k layers)) = rw c.index-layers-left.is (starts_at layers k one c.requires.in_place low) in
    record { within = omega (arith, low); low = omega (arith, start, c.start.ensures.start, c.if-start-place.false) }

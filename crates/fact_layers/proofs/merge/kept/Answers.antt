use Rattle.std.proofs.Common.{arith, ◌≡◌, ◌+◌, ◌-◌, ◌<◌, length}
use Rattle.fact_layers.proofs.Layered.{rest_len, split_len}
use Rattle.fact_layers.proofs.merge.kept.Goals as goal

pub overflow_add-size : goal.overflow_add-size
overflow_add-size c =
    let layers = c.args.layers.now in
    let k = c.loop-first.first - 1 in
    let low : k < length layers = omega (arith, c.loop-first-test.true, c.loop-first.invariant.within) in
    let again : k + 1 ≡ c.loop-first.first = omega (arith, c.loop-first-test.true) in
    let rest = rw (again, ← c.index-layers-first.is) at (rest_len layers k c.index-layers-first.result low) in
    omega (arith, c.loop-first.invariant.size, rest, split_len layers k, c.requires, c.len-len.ensures)

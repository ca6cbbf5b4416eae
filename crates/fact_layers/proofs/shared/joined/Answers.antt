use Rattle.std.proofs.Common.{◌≡◌, ◌+◌, ◌-◌, length, take, drop, arith}
use Rattle.std.proofs.lemmas.List.{length-append}
use Rattle.fact_layers.specs.Inside.Stacks.{all_items}
use Rattle.fact_layers.proofs.Layered.{split_len}
use Rattle.fact_layers.proofs.Growing.{base_joined, joined_items}
use Rattle.fact_layers.proofs.shared.joined.Goals as goal

pub overflow_sub-whole : goal.overflow_sub-whole
overflow_sub-whole c = omega (arith, c.len.ensures.count, c.requires.size, c.requires.base.total_is, split_len c.args.layers.now c.args.first)

pub push_layer-requires : goal.push_layer-requires
push_layer-requires c =
    let long : length c.in_ok-table.table.list ≡ length (all_items (drop c.args.first c.args.layers.now)) + length c.args.top.now.list = rw c.in_ok-table.ensures (length-append (all_items (drop c.args.first c.args.layers.now)) c.args.top.now.list) in
    record { small = omega (arith, long, c.len.ensures.count, c.requires.size, c.requires.small, c.requires.base.total_is, split_len c.args.layers.now c.args.first) }

pub invariant_of-result : goal.invariant_of-result
invariant_of-result c =
    let layers = c.args.layers.now in
    let start : (c.args.total + c.len.result) - c.args.size ≡ length (all_items (take c.args.first layers)) = omega (arith, c.len.ensures.count, c.requires.size, c.requires.base.total_is, split_len layers c.args.first) in
    rw (c.in-Ok.ensures.ok, c.in_ok-shared.ensures, c.len.ensures.count)
    (rw c.len.ensures.count at (base_joined layers c.args.total c.args.first ((c.args.total + c.len.result) - c.args.size) c.args.top.now.list c.in_ok-table.table.list c.requires.base c.requires.within c.requires.first c.requires.small c.requires.distinct c.in_ok-table.ensures start))

pub returns-in-Ok : goal.returns-in-Ok
returns-in-Ok c =
    rw (c.in-Ok.ensures.ok, c.in_ok-shared.ensures) (joined_items c.args.layers.now c.args.first ((c.args.total + c.len.result) - c.args.size) c.args.top.now.list c.in_ok-table.table.list c.in_ok-table.ensures)

use Rattle.std.proofs.Common.{◌-◌, ◌≤◌, ◌++◌, length, drop, take}
use Rattle.std.proofs.lemmas.List.{take_rest}
use Rattle.fact_table.specs.Lists.{facts_of, AreDistinctFacts}
use Rattle.fact_layers.specs.Inside.Stacks.{all_items}
use Rattle.fact_layers.proofs.Copied.{next_distinct, next_room}
use Rattle.fact_layers.proofs.merge.copy_layers.Goals as goal

pub copy_all-requires-clause-room : goal.copy_all-requires-clause-room
copy_all-requires-clause-room c =
    let rest = take (length c.args.layers.now - c.args.first) (drop c.args.first c.args.layers.now) in
    let room : length (all_items rest) ≤ c.args.table.now.spare = rw take_rest c.requires.room in
    rw (c.table.ensures, c.layer-item.is) (next_room rest c.loop-layer.layer-index c.layer-item.result c.args.table.now.spare c.loop-layer.table.spare c.loop-layer-test.true room c.loop-layer.invariant.spare)

pub copy_all-requires-clause-distinct : goal.copy_all-requires-clause-distinct
copy_all-requires-clause-distinct c =
    let rest = take (length c.args.layers.now - c.args.first) (drop c.args.first c.args.layers.now) in
    let all : AreDistinctFacts (facts_of (c.args.table.now.list ++ all_items rest)) = rw take_rest c.requires.distinct in
    let mine : AreDistinctFacts (facts_of (c.loop-layer.table.list ++ c.table.result.now.list)) = rw (c.table.ensures, c.layer-item.is) (next_distinct rest c.args.table.now.list c.loop-layer.table.list c.loop-layer.layer-index c.layer-item.result c.loop-layer-test.true c.loop-layer.invariant.list all) in
    mine

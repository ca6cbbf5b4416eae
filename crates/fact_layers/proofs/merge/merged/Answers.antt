use Rattle.std.proofs.Common.{◌≡◌, ◌∙◌, ◌++◌, [], List, drop, ap, rules}
use Rattle.fact_table.specs.declared.types.Proved.{Proved}
use Rattle.fact_table.specs.Lists.{facts_of, AreDistinctFacts}
use Rattle.fact_layers.specs.Inside.Stacks.{all_items}
use Rattle.fact_layers.proofs.Copied.{distinct_front, rest_distinct}
use Rattle.fact_layers.proofs.merge.merged.Goals as goal

pub copy_layers-requires-clause-distinct : goal.copy_layers-requires-clause-distinct
copy_layers-requires-clause-distinct c =
    let nil : c.reserve.new.self.list ≡ [] = search rules in
    let rest = all_items (drop c.args.first c.args.layers.now) in
    let mine : AreDistinctFacts (facts_of (c.reserve.new.self.list ++ rest)) = rw nil (distinct_front rest c.args.top.now.list (rest_distinct c.args.layers.now c.args.first c.args.top.now.list c.requires.distinct)) in
    mine

pub copy_all-requires-clause-distinct : goal.copy_all-requires-clause-distinct
copy_all-requires-clause-distinct c =
    let nil : c.reserve.new.self.list ≡ [] = search rules in
    let rest = all_items (drop c.args.first c.args.layers.now) in
    let are : c.copy_layers.new.table.list ≡ rest = c.copy_layers.ensures.list ∙ ap (λ (xs : List Proved). xs ++ rest) nil in
    let mine : AreDistinctFacts (facts_of (c.copy_layers.new.table.list ++ c.args.top.now.list)) = rw are (rest_distinct c.args.layers.now c.args.first c.args.top.now.list c.requires.distinct) in
    mine

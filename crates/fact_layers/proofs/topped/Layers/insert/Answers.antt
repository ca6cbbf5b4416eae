use Rattle.std.proofs.Common.{◌++◌, rules}
use Rattle.fact_table.specs.Lists.{IsAbsent, facts_of}
use Rattle.fact_layers.proofs.Copied.{distinct_more, absent_rest}
use Rattle.fact_layers.proofs.topped.Layers.insert.Goals as goal

pub insert-requires-clause-absent : goal.insert-requires-clause-absent
insert-requires-clause-absent c =
    let l = c.self.inside in
    let absent : IsAbsent (facts_of (l.base ++ l.top.list)) c.args.item.fact = search rules in
    absent_rest l.base l.top.list c.args.item.fact absent

pub invariant_of-self : goal.invariant_of-self
invariant_of-self c =
    let l = c.self.inside in
    let absent : IsAbsent (facts_of (l.base ++ l.top.list)) c.args.item.fact = search rules in
    rw c.insert.ensures.list (distinct_more l.base l.top.list c.args.item c.self.invariant absent)

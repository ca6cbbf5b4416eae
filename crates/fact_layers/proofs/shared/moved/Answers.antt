use Rattle.std.proofs.Common.{refl}
use Rattle.fact_layers.specs.Inside.Stacks.{Placed}
use Rattle.fact_layers.proofs.Growing.{base_more}
use Rattle.fact_layers.proofs.shared.moved.Goals as goal

pub invariant_of-result : goal.invariant_of-result
invariant_of-result c =
    let one : Placed = record { items = c.args.top.list; start = c.args.total } in
    rw (c.in-Ok.ensures.ok, c.len-len.ensures.count) (base_more c.args.layers.items c.args.total one c.requires.base refl c.requires.shallow c.requires.small c.requires.distinct)

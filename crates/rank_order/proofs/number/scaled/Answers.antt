use Rattle.std.proofs.Common.{◌+◌, ⊎_elim}
use Rattle.rank_order.proofs.PowerLaws.{scaled_none, scaled_by_zeros, below}
use Rattle.rank_order.proofs.number.scaled.Goals as goal

pub returns-in-Some-clause-units : goal.returns-in-Some-clause-units
returns-in-Some-clause-units c =
    (scaled_by_zeros c.args.number.significant c.args.number.zeros c.args.up c.args.down c.in-Some.zeros c.with_zeros.result c.in-Some.ensures.0 c.in-Some.ensures.1 c.with_zeros.ensures).0

pub returns-in-Some-clause-none : goal.returns-in-Some-clause-none
returns-in-Some-clause-none c =
    (scaled_by_zeros c.args.number.significant c.args.number.zeros c.args.up c.args.down c.in-Some.zeros c.with_zeros.result c.in-Some.ensures.0 c.in-Some.ensures.1 c.with_zeros.ensures).1

pub returns-in-None-clause-none : goal.returns-in-None-clause-none
returns-in-None-clause-none c = λ units.
    let n = c.args.number in
    scaled_none n.significant n.zeros c.args.up c.args.down units
    (⊎_elim (λ none. absurd (c.if-number-eq0.false none)) (λ last. last) c.requires.short.last) (below c.args.down (n.zeros + c.args.up) c.in-None.ensures)

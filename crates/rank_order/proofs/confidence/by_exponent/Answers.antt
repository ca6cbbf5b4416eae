use Rattle.std.proofs.Common.{⊎_elim, sym, arith}
use Rattle.rank_order.specs.Inside.Scale.{value_of}
use Rattle.rank_order.proofs.PowerLaws.{far_none, none_at}
use Rattle.rank_order.proofs.confidence.by_exponent.Goals as goal

pub returns-else-number-eq0-clause-none : goal.returns-else-number-eq0-clause-none
returns-else-number-eq0-clause-none c =
    let n = c.args.number in
    far_none n.significant n.zeros c.args.places c.args.lowers c.args.exponent.now (omega arith)
    (⊎_elim (λ none. absurd (c.if-number-eq0.false none)) (λ last. last) c.requires.short.last) c.requires.zeros c.requires.places c.in_default.ensures

pub returns-else-lowers-clause-none : goal.returns-else-lowers-clause-none
returns-else-lowers-clause-none c =
    none_at c.scaled-else-lowers.result (value_of c.args.number) c.in-Some.size c.args.places c.args.lowers c.args.exponent.now c.if-lowers.false (sym c.in-Some.ensures.1) c.scaled-else-lowers.ensures.none

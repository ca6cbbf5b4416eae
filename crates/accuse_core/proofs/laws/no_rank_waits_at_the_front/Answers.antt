use Rattle.accuse_core.proofs.JournalLaws.{allowed_at_rest}
use Rattle.accuse_core.proofs.laws.no_rank_waits_at_the_front.Goals as goal

pub returns : goal.returns
returns g c = λ ranks events nothing allowed. (allowed_at_rest (g.F.Family.incoherent c.args.family.now) nothing ranks events allowed).rest

use Rattle.std.proofs.lemmas.Bool.{false≢true}
use Rattle.model_members.proofs.PairLaws.{pair_missed}
use Rattle.model_members.proofs.pairs.has_pair.Goals as goal

pub returns-in-Err : goal.returns-in-Err
returns-in-Err c = (
  (λ yes. absurd (false≢true yes)),
  (λ there. absurd (pair_missed c.args.pairs.now c.args.from c.args.to c.in-Err.field-0 c.requires c.in-Err.ensures.position there)),
)

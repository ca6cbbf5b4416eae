use Rattle.std.proofs.lemmas.Bool.{eqb-true, eq-eqb}
use Rattle.std.proofs.Common.{length}
use Rattle.model_members.proofs.NumberLaws.{all_there, as_many}
use Rattle.model_members.proofs.numbers.are_whole.Goals as goal

pub returns : goal.returns
returns c = (
  (λ yes. all_there c.args.size c.args.numbers.now c.requires (eqb-true (length c.args.numbers.now) c.args.size yes)),
  (λ each. eq-eqb (length c.args.numbers.now) c.args.size (as_many c.args.size c.args.numbers.now c.requires each)),
)

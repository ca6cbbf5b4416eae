use Rattle.std.proofs.Common.{refl}
use Rattle.accuse_core.specs.declared.mark.Mark.TheVariants.{Yes, Removed}
use Rattle.accuse_core.proofs.GrowthLaws.{front_grows, block_adds, set_adds_nothing, waiting_grows}
use Rattle.accuse_core.proofs.laws.kept_ranks_only_grow.Goals as goal

pub returns-clause-front : goal.returns-clause-front
returns-clause-front c = front_grows

pub returns-clause-block : goal.returns-clause-block
returns-clause-block c = block_adds

pub returns-clause-removed : goal.returns-clause-removed
returns-clause-removed c = λ marks rank undecided. set_adds_nothing marks rank Removed undecided refl

pub returns-clause-noted : goal.returns-clause-noted
returns-clause-noted c = λ marks rank seen undecided. set_adds_nothing marks rank (Yes seen) undecided refl

pub returns-clause-waiting : goal.returns-clause-waiting
returns-clause-waiting c = waiting_grows

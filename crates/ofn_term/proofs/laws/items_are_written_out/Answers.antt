use Rattle.std.proofs.Common.{refl}
use Rattle.ofn_term.specs.Writing.{pieces}
use Rattle.ofn_term.proofs.OneList.{no_more_items}
use Rattle.ofn_term.proofs.Pushing.{pieces-first_atom, pieces-first_group}
use Rattle.ofn_term.proofs.laws.items_are_written_out.Goals as goal

pub returns-clause-none : goal.returns-clause-none
unfolding pieces
returns-clause-none c = refl

pub returns-clause-atom : goal.returns-clause-atom
returns-clause-atom c = pieces-first_atom

pub returns-clause-group : goal.returns-clause-group
returns-clause-group c = pieces-first_group

pub returns-clause-few : goal.returns-clause-few
returns-clause-few c = no_more_items

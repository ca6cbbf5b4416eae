use Rattle.ofn_axiom.proofs.DirectLaws.{direct_read, direct_says}
use Rattle.ofn_axiom.proofs.laws.direct_items_are_what_they_say.Goals as goal

pub returns : goal.returns
returns c = record { read = direct_read; says = direct_says }

use Rattle.ofn_axiom.proofs.DocumentLaws.{text_read, text_says}
use Rattle.ofn_axiom.proofs.laws.documents_are_what_they_say.Goals as goal

pub returns : goal.returns
returns c = record { read = text_read; says = text_says }

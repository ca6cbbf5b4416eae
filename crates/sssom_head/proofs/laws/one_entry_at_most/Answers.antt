use Rattle.sssom_head.proofs.HeaderLaws.{one_entry}
use Rattle.sssom_head.proofs.laws.one_entry_at_most.Goals as goal

pub returns : goal.returns
returns c = one_entry

use Rattle.std.proofs.lemmas.List.{take_rest}
use Rattle.accuse_core.proofs.FrontLaws.{front_goes_on}
use Rattle.accuse_core.proofs.marks.front_after.Goals as goal

pub returns : goal.returns
returns c = rw (c.decided_len.ensures, take_rest) (front_goes_on c.args.marks.now c.args.rank c.requires)

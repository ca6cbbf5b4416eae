use Rattle.std.proofs.Common.{arith, ◌≤◌, ◌+◌}
use Rattle.accuse_core.specs.Marks.{front_of}
use Rattle.accuse_core.proofs.TrackLaws.{front_past_new_block}
use Rattle.accuse_core.proofs.machine.Core.block.Goals as goal

pub settle-self-inside-requires : goal.settle-self-inside-requires
settle-self-inside-requires c =
    let further : c.args.rank + c.args.count ≤ front_of c.keep_block.new.self =
    front_past_new_block _ _ _ _ c.requires.front c.requires.inside (rw c.self.view_is at c.keep_block.ensures) in
    omega arith

use Rattle.std.proofs.Common.{arith, ◌<◌, length}
use Rattle.std.specs.Vec.{vec_capacity}
use Rattle.accuse_core.proofs.TrackLaws.{room_for_one, keep_tracked}
use Rattle.accuse_core.proofs.marks.keep.Goals as goal

pub list-requires : goal.list-requires
list-requires c =
    let some : length c.args.kept.now.items < vec_capacity c.args.kept.now = room_for_one _ _ _ _ c.requires.inside c.requires.tracked in
    omega arith

pub returns-clause-tracked : goal.returns-clause-tracked
returns-clause-tracked c = rw (c.list.ensures.items) (keep_tracked _ _ _ _ _ c.requires.inside c.list.ensures.room c.requires.tracked)

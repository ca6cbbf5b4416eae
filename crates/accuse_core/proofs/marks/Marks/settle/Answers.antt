use Rattle.std.proofs.Common.{arith, ◌≤◌, ◌+◌}
use Rattle.accuse_core.specs.Marks.{front_of}
use Rattle.accuse_core.proofs.TrackLaws.{front_past_kept}
use Rattle.accuse_core.proofs.marks.Marks.settle.Goals as goal

pub front_from-requires : goal.front_from-requires
front_from-requires c =
    let further : c.front_from-front.result + 1 ≤ front_of c.keep_front.new.self =
    front_past_kept c.args.self.now _ _ c.front_from-front.ensures (c.waits.ensures.inside c.if-not-waits.false) c.keep_front.ensures in
    omega arith

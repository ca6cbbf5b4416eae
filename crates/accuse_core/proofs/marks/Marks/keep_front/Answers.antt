use Rattle.accuse_core.proofs.TrackLaws.{tracked_further, front_past_kept}
use Rattle.accuse_core.proofs.marks.Marks.keep_front.Goals as goal

pub invariant_of-self : goal.invariant_of-self
invariant_of-self c = tracked_further _ _ _ _ _
    (front_past_kept c.args.self.now _ c.args.front c.requires.front c.requires.inside (rw c.self.view_is at c.keep.ensures.marked))
    c.keep.ensures.tracked

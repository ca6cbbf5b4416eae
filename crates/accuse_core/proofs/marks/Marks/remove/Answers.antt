use Rattle.std.proofs.Common.{refl}
use Rattle.accuse_core.specs.declared.mark.Mark.TheVariants.{Removed}
use Rattle.accuse_core.proofs.FrontLaws.{front_rises}
use Rattle.accuse_core.proofs.TrackLaws.{set_tracked}
use Rattle.accuse_core.proofs.marks.Marks.remove.Goals as goal

pub invariant_of-self : goal.invariant_of-self
invariant_of-self c = rw c.self.view_is
    (set_tracked _ _ _ c.args.rank Removed c.requires.inside c.requires.open refl
    (front_rises _ c.args.rank Removed c.requires.inside refl) (rw c.self.view_is at c.self.invariant))

use Rattle.std.proofs.Common.{refl}
use Rattle.accuse_core.specs.declared.mark.Mark.TheVariants.{Yes}
use Rattle.accuse_core.proofs.FrontLaws.{front_stays}
use Rattle.accuse_core.proofs.TrackLaws.{set_tracked}
use Rattle.accuse_core.proofs.marks.Marks.note.Goals as goal

pub invariant_of-self : goal.invariant_of-self
invariant_of-self c = rw c.self.view_is
    (set_tracked _ _ _ c.args.rank (Yes c.args.seen) c.requires.inside c.requires.open refl
    (front_stays _ c.args.rank (Yes c.args.seen) c.requires.open refl) (rw c.self.view_is at c.self.invariant))

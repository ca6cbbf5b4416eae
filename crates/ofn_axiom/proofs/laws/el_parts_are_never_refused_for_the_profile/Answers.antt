use Rattle.ofn_axiom.proofs.PlainLaws.{never_outside}
use Rattle.ofn_axiom.proofs.laws.el_parts_are_never_refused_for_the_profile.Goals as goal

pub returns : goal.returns
returns c = never_outside

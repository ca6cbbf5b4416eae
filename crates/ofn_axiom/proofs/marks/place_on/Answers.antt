use Rattle.ofn_axiom.proofs.MarkLaws.{mark_goes_on}
use Rattle.ofn_axiom.proofs.marks.place_on.Goals as goal

pub returns-in-Ok-clause-place : goal.returns-in-Ok-clause-place
returns-in-Ok-clause-place c =
    (mark_goes_on c.args.text.now c.args.mark.now c.args.at c.onward-place.result c.requires.mark c.requires.after c.requires.within c.in-Ok.ensures.cases.1 (rw c.place_of.ensures at c.onward-place.ensures)).0

pub returns-in-Ok-clause-mark : goal.returns-in-Ok-clause-mark
returns-in-Ok-clause-mark c =
    (mark_goes_on c.args.text.now c.args.mark.now c.args.at c.onward-place.result c.requires.mark c.requires.after c.requires.within c.in-Ok.ensures.cases.1 (rw c.place_of.ensures at c.onward-place.ensures)).1

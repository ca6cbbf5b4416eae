use Rattle.std.proofs.Common.{subst}
use Rattle.conflict_logic.specs.Repair.{IsRepair}
use Rattle.accuse_core.specs.Marks.{opening, kept_of}
use Rattle.accuse_core.specs.Journal.{after}
use Rattle.accuse_core.proofs.JournalLaws.{allowed_at_rest, certified}
use Rattle.accuse_core.proofs.laws.kept_ranks_are_the_repair.Goals as goal

pub returns-clause-before_front : goal.returns-clause-before_front
returns-clause-before_front g c = λ ranks events closed nothing allowed.
    let incoherent = g.F.Family.incoherent c.args.family.now in
    let r = allowed_at_rest incoherent nothing ranks events allowed in
    c.certified_ranks_are_a_repair.ensures _ _ closed (certified incoherent _ r.watched)

pub returns-clause-all_decided : goal.returns-clause-all_decided
returns-clause-all_decided g c = λ ranks events closed nothing allowed decided.
    let incoherent = g.F.Family.incoherent c.args.family.now in
    let r = allowed_at_rest incoherent nothing ranks events allowed in
    subst (λ count. IsRepair incoherent count (kept_of (after (opening ranks) events))) decided
    (c.certified_ranks_are_a_repair.ensures _ _ closed (certified incoherent _ r.watched))

use Rattle.accuse_core.proofs.JournalLaws.{allowed_at_rest, certified, sound}
use Rattle.accuse_core.proofs.laws.allowed_events_leave_sound_marks.Goals as goal

pub returns : goal.returns
returns g c = λ ranks events closed nothing allowed.
    let incoherent = g.F.Family.incoherent c.args.family.now in
    let r = allowed_at_rest incoherent nothing ranks events allowed in
    sound incoherent _ r.watched
    (c.certified_ranks_are_a_repair.ensures _ _ closed (certified incoherent _ r.watched))
    (λ rank. c.refuted_by_spared_is_not_spared.ensures rank closed nothing)

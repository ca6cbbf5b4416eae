use Rattle.std.proofs.Common.{rules, ◌∙◌, ap}
use Rattle.commit_lock.proofs.DrawSteps.{joins, reads_by, fair_after}
use Rattle.commit_lock.proofs.draw_word.DrawWord.join.Goals as goal

pub join_seat-requires : goal.join_seat-requires
join_seat-requires c =
    let pass = c.args.pass.now in
    (c.requires.word.0, c.requires.word.1, c.args.other.no_slot, search rules, joins _ _ _ _ _ _ pass.live)

pub load-requires : goal.load-requires
load-requires c =
    let no_slot = ap (λ me. me.1) c.join_seat.ensures.2 ∙ c.args.pass.now.no_slot in
    (c.join_seat.ensures.0 ∙ c.requires.word.0, search rules, reads_by _ _ _ _ 0 0 _ no_slot)

pub returns-clause-none_twice : goal.returns-clause-none_twice
returns-clause-none_twice c = (fair_after _ _ c.load.ensures.2).none_twice

pub returns-clause-whole : goal.returns-clause-whole
returns-clause-whole c = (fair_after _ _ c.load.ensures.2).whole

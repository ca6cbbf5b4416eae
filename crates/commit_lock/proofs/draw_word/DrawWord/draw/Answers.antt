use Rattle.std.proofs.Common.{rules, sym, subst, ℕ, All, ◌<◌}
use Rattle.commit_lock.proofs.DrawSteps.{draws_by, fair_after}
use Rattle.commit_lock.proofs.draw_word.DrawWord.draw.Goals as goal

pub fetch_add-found-requires : goal.fetch_add-found-requires
fetch_add-found-requires c =
    let pass = c.args.pass.now in
    let drawn = pass.token.me.0.drawn in
    let not_over = subst (λ (n : ℕ). All (λ x. x < n) drawn) (sym c.args.self.now.key_is) c.requires.not_over in
    (c.requires.word, search rules, draws_by _ _ _ _ 1 0 pass.token.me (search rules) pass.live pass.no_slot not_over)

pub returns-then-found-ranks-clause-none_twice : goal.returns-then-found-ranks-clause-none_twice
returns-then-found-ranks-clause-none_twice c = (fair_after _ _ c.fetch_add-found.ensures.2).none_twice

pub returns-then-found-ranks-clause-whole : goal.returns-then-found-ranks-clause-whole
returns-then-found-ranks-clause-whole c = (fair_after _ _ c.fetch_add-found.ensures.2).whole

pub returns-else-found-ranks-clause-none_twice : goal.returns-else-found-ranks-clause-none_twice
returns-else-found-ranks-clause-none_twice c = (fair_after _ _ c.fetch_add-found.ensures.2).none_twice

pub returns-else-found-ranks-clause-whole : goal.returns-else-found-ranks-clause-whole
returns-else-found-ranks-clause-whole c = (fair_after _ _ c.fetch_add-found.ensures.2).whole

use Rattle.std.proofs.Common.{ℕ, List, sym, subst}
use Rattle.el_logic.specs.Meaning.{pairs_of}
use Rattle.model_members.proofs.PropertyLaws.{LedBy, led_within, same_by, through}
use Rattle.model_members.proofs.properties.is_led_within.Goals as goal

pub returns : goal.returns
returns c =
    let i = c.args.lists.now.ordered in
    let between = c.args.between.now in
    through c.joins_are_among.ensures (led_within i c.args.first c.args.last between c.as_slice.result.now c.pairs-2.result.now c.args.wanted.now
    (subst (λ (all : List (ℕ × ℕ)). LedBy i (pairs_of i c.args.first) all between) (sym c.as_slice.ensures)
    (subst (λ (first : List (ℕ × ℕ)). LedBy i first c.in_ok-all.all between) c.pairs.ensures.list c.in_ok-all.ensures.same))
    (same_by c.pairs-2.result.now (pairs_of i c.args.last) c.pairs-2.ensures.list))

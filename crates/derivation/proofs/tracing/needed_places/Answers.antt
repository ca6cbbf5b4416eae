use Rattle.std.proofs.Common.{◌∙◌, ◌++◌, ◌∷◌, [], refl, sym, ap, subst}
use Rattle.derivation.proofs.RankLaws.{is_failed}
use Rattle.derivation.proofs.Gathering.{IsGathered, popped, none_pending, some_pending, gathered_start, gathered_next, all_gathered}
use Rattle.derivation.proofs.tracing.needed_places.Goals as goal

pub loop-place-init : goal.loop-place-init
loop-place-init g c =
    let items = g.F.FactsByPlace.facts c.args.facts.now in
    subst (λ places. IsGathered items c.args.goal places c.add_premises.new.places)
    (sym (c.in_ok-push.ensures.items ∙ ap (λ places. places ++ c.args.goal ∷ []) c.new-places.ensures.items))
    (gathered_start items c.args.goal c.requires.earlier c.at.result c.new-pending.result c.add_premises.new.places c.at.ensures
    (λ q pending. none_pending c.new-pending.result q c.new-pending.ensures.len pending) c.in_ok-add_premises.ensures)

pub loop-place-preserved : goal.loop-place-preserved
loop-place-preserved g c =
    let items = g.F.FactsByPlace.facts c.args.facts.now in
    subst (λ places. IsGathered items c.args.goal places c.add_premises-in-Some.new.places) (sym c.in_ok-push-2.ensures.items)
    (gathered_next items c.args.goal c.requires.earlier c.loop-place.places.items c.loop-place.pending c.pop_last.new.self c.add_premises-in-Some.new.places
    c.in-Some.place c.at-in-Some.result c.loop-place.invariant
    (popped c.loop-place.pending c.pop_last.new.self c.in-Some.place c.in-Some.ensures.removal c.in-Some.ensures.all_below)
    c.at-in-Some.ensures c.in_ok-add_premises-2.ensures)

pub returns : goal.returns
returns g c =
    all_gathered (g.F.FactsByPlace.facts c.args.facts.now) c.args.goal c.requires.earlier c.loop-place.places.items c.loop-place.pending c.loop-place.invariant
    (λ q pending. is_failed refl (c.in_default.ensures.variant.1 (some_pending c.loop-place.pending q pending)))

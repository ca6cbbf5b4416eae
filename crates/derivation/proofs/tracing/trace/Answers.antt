use Rattle.std.proofs.Common.{◌≡◌, ◌∙◌, ◌+◌, ℕ, Some, Contains, length, slice_get, get_or, sym, ap, subst, arith, length-append, [], ◌∷◌}
use Rattle.std.proofs.lemmas.Option.{slice_get-get_or}
use Rattle.derivation.specs.declared.types.Step.{Step}
use Rattle.derivation.specs.Traces.{TellsItem, TellsPlace}
use Rattle.derivation.proofs.Traced.{AreReady, turned_places, held_at, told_next}
use Rattle.derivation.proofs.tracing.trace.Goals as goal

pub step_of-requires-clause-held : goal.step_of-requires-clause-held
step_of-requires-clause-held g c =
    let items = g.F.FactsByPlace.facts c.args.facts.now in
    let ready = turned_places items c.args.goal c.in_ok-places.places.items c.reverse.new.self.items c.in_ok-places.ensures c.reverse.ensures.items in
    let place = get_or c.deref-place-items.result.now c.loop-place.place-index 0 in
    λ premise names. subst (λ places. Contains places premise) (sym c.as_slice.ensures.value)
    (ready.premises place c.at.result premise
    (subst (λ places. Contains places place) c.deref-place-items.ensures.value (held_at c.deref-place-items.result.now c.loop-place.place-index 0 c.loop-place-test.true))
    c.at.ensures names)

pub loop-place-preserved : goal.loop-place-preserved
loop-place-preserved g c =
    let items = g.F.FactsByPlace.facts c.args.facts.now in
    let places = c.deref-place-items.result.now in
    let place = get_or places c.loop-place.place-index 0 in
    let told : TellsItem places c.at.result c.step_of.result =
    subst (λ places. TellsItem places c.at.result c.step_of.result) (c.as_slice.ensures.value ∙ sym c.deref-place-items.ensures.value) c.step_of.ensures in
    record {
      count = ap length c.in_ok-push.ensures.ok ∙ length-append c.loop-place.steps (c.step_of.result ∷ []) ∙ ap (λ n. n + 1) c.loop-place.invariant.count;
      each = subst (λ steps. (k : ℕ) (step : Step) → slice_get steps k ≡ Some step → TellsPlace items places k step) (sym c.in_ok-push.ensures.ok)
          (told_next items places c.loop-place.steps c.step_of.result place c.at.result c.loop-place.invariant.each
          (subst (λ k. slice_get places k ≡ Some place) (sym c.loop-place.invariant.count) (slice_get-get_or places c.loop-place.place-index 0 c.loop-place-test.true))
          c.at.ensures told);
    }

pub returns : goal.returns
returns g c =
    let items = g.F.FactsByPlace.facts c.args.facts.now in
    let ready = subst (λ places. AreReady items c.args.goal places) (sym c.deref-place-items.ensures.value)
    (turned_places items c.args.goal c.in_ok-places.places.items c.reverse.new.self.items c.in_ok-places.ensures c.reverse.ensures.items) in
    record {
      places = c.deref-place-items.result.now;
      ascending = ready.ascending;
      count = omega (arith, c.loop-place.invariant.count, c.loop-place-test.false);
      last = ready.last;
      each = c.loop-place.invariant.each;
    }

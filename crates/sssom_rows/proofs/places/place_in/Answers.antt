use Rattle.std.proofs.Common.{◌≡◌, ◌∙◌, Some, true, false, sym, rules}
use Rattle.std.specs.Prelude.{bytes_eq, slice_get}
use Rattle.sssom_rows.proofs.FieldLaws.{place_here, place_later}
use Rattle.sssom_rows.proofs.places.place_in.Goals as goal

pub returns-then-eq : goal.returns-then-eq
returns-then-eq c =
    let here : Some c.in-Some.found.now ≡ slice_get c.args.names.now c.loop-place.place = first_of (search rules, cc c.in-Some.ensures) in
    let same : bytes_eq c.args.name.now c.in-Some.found.now ≡ true = first_of (search rules, cc (c.eq.ensures, c.if-eq.true)) in
    sym (place_here c.args.name.now c.loop-place.place c.args.names.now c.loop-place.place c.in-Some.found.now here same) ∙ c.loop-place.invariant

pub loop-place-preserved : goal.loop-place-preserved
loop-place-preserved c =
    let here : Some c.in-Some.found.now ≡ slice_get c.args.names.now c.loop-place.place = first_of (search rules, cc c.in-Some.ensures) in
    let other : bytes_eq c.args.name.now c.in-Some.found.now ≡ false = first_of (search rules, cc (c.eq.ensures, c.if-eq.false)) in
    sym (place_later c.args.name.now c.loop-place.place c.args.names.now c.loop-place.place c.in-Some.found.now here other) ∙ c.loop-place.invariant

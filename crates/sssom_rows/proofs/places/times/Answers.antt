use Rattle.std.proofs.Common.{◌≡◌, Some, true, false, rules, arith}
use Rattle.std.specs.Prelude.{bytes_eq, slice_get}
use Rattle.sssom_rows.proofs.FieldLaws.{times_here, times_later}
use Rattle.sssom_rows.proofs.places.times.Goals as goal
use Rattle.sssom_rows.proofs.places.times.Goals.{then-eq, else-eq}

pub loop-place-preserved : goal.loop-place-preserved
loop-place-preserved c =
    let here : Some c.in-Some.found.now ≡ slice_get c.args.names.now c.loop-place.place = first_of (search rules, cc c.in-Some.ensures) in
    let held = c.loop-place.invariant in
    elim c.if-eq.branch [
      | then-eq w ↦
          let same : bytes_eq c.args.name.now c.in-Some.found.now ≡ true = first_of (search rules, cc (c.eq.ensures, w.if-eq.true)) in
          let one = times_here c.args.name.now c.args.names.now c.loop-place.place c.in-Some.found.now here same in
          record { few = omega (arith, w.count-is, held.few); same = omega (arith, w.count-is, one, held.same) }
      | else-eq w ↦
          let other : bytes_eq c.args.name.now c.in-Some.found.now ≡ false = first_of (search rules, cc (c.eq.ensures, w.if-eq.false)) in
          let none = times_later c.args.name.now c.args.names.now c.loop-place.place c.in-Some.found.now here other in
          record { few = omega (arith, w.count-is, held.few); same = omega (arith, w.count-is, none, held.same) }
    ]

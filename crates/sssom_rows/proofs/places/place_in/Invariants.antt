use Rattle.std.proofs.Common.{◌≡◌, drop}
use Rattle.sssom_rows.specs.Inside.Places.{place_from, place_in}
use Rattle.sssom_rows.proofs.places.place_in.Given as goal

abbrev pub invariant-loop-place : goal.invariant-loop-place
invariant-loop-place l = place_from l.name l.place (drop l.place l.names) ≡ place_in l.name l.names

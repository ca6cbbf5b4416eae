use Rattle.std.proofs.Common.{◌≡◌, ◌≤◌, ◌+◌, drop}
use Rattle.sssom_rows.specs.Columns.{times}
use Rattle.sssom_rows.proofs.places.times.Given as goal

abbrev pub invariant-loop-place : goal.invariant-loop-place
invariant-loop-place l = record { few : l.count ≤ l.place; same : l.count + times l.name (drop l.place l.names) ≡ times l.name l.names }

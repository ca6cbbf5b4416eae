use Rattle.std.proofs.Common.{◌≡◌, drop}
use Rattle.sssom_rows.specs.Ids.{has_scheme}
use Rattle.sssom_rows.proofs.ids.has_scheme.Given as goal

abbrev pub invariant-loop-place : goal.invariant-loop-place
invariant-loop-place l = has_scheme (drop l.place l.id) ≡ has_scheme l.id

use Rattle.std.proofs.Common.{◌≡◌, ◌+◌, ◌++◌, take}
use Rattle.fact_layers.proofs.merge.copy_all.Given as goal

abbrev pub invariant-loop-place : goal.invariant-loop-place
invariant-loop-place l = record { list : l.table.list ≡ l.initial.table.list ++ take l.place l.more.list; spare : l.initial.table.spare ≡ l.table.spare + l.place }

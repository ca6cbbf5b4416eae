use Rattle.std.proofs.Common.{◌≡◌}
use Rattle.std.specs.Prelude.{replicate}
use Rattle.commit_book.specs.declared.held.Held.TheVariants.{Nothing}
use Rattle.commit_book.proofs.held.nothing_held.Given as goal

-- nothing for each rank so far
abbrev pub invariant-loop : goal.invariant-loop
invariant-loop l = l.held.items ≡ replicate l.counter Nothing

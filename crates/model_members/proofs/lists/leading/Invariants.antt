use Rattle.std.proofs.Common.{ℕ, Contains, take}
use Rattle.std.specs.List.Sorted.{IsStrictlyIncreasing}
use Rattle.model_members.specs.Inside.Pairs.{Lead}
use Rattle.model_members.specs.Inside.Sets.{AreListed}
use Rattle.model_members.proofs.lists.leading.Given as goal

-- those of the numbers so far, if they ascend
abbrev pub invariant-loop-x : goal.invariant-loop-x
invariant-loop-x l =
    IsStrictlyIncreasing l.numbers → AreListed (λ x. Contains (take l.x-index l.numbers) x × ((y : ℕ) × Lead l.pairs x y × Contains l.ends y)) l.kept.items

use Rattle.std.proofs.Common.{◌≡◌, ◌<◌, ℕ, get_or}
use Rattle.ofn_axiom.specs.declared.types.Omitted.{Omitted}
use Rattle.check_items.proofs.lists.are_same_omitted.Given as goal

abbrev pub invariant-loop-place : goal.invariant-loop-place
invariant-loop-place l = (k : ℕ) (d : Omitted) → k < l.place → get_or l.one k d ≡ get_or l.other k d

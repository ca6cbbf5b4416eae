use Rattle.std.proofs.Common.{All, Contains, take}
use Rattle.model_members.proofs.lists.leads_into.Given as goal

-- no step so far ends at one of them
abbrev pub invariant-loop-to : goal.invariant-loop-to
invariant-loop-to l = All (λ p. ¬ (Contains l.ends p.1)) (take l.to-index l.to-items)

use Rattle.std.proofs.Common.{◌<◌, All, take}
use Rattle.el_logic.proofs.evaluate.pairs_are_within.Given as goal

-- those so far are within the domain
abbrev pub invariant-loop-list : goal.invariant-loop-list
invariant-loop-list l = All (All (λ p. (p.0 < l.fn.i.size) × (p.1 < l.fn.i.size))) (take l.list-index l.list-items)

use Rattle.std.proofs.Common.{◌<◌, All, take}
use Rattle.el_logic.proofs.evaluate.are_pairs_of_elements.Given as goal

-- those so far are within the domain
abbrev pub invariant-loop-from : goal.invariant-loop-from
invariant-loop-from l = All (λ p. (p.0 < l.fn.size) × (p.1 < l.fn.size)) (take l.from-index l.fn.pairs)

use Rattle.std.proofs.Common.{All, take}
use Rattle.el_logic.specs.Meaning.{IsMember}
use Rattle.el_logic.proofs.evaluate.has_domain.Given as goal

-- each pair so far begins at a member
abbrev pub invariant-loop-from : goal.invariant-loop-from
invariant-loop-from l = All (λ p. IsMember l.fn.i p.0 l.fn.class) (take l.from-index l.from-items)

use Rattle.std.proofs.Common.{Contains, take}
use Rattle.el_logic.specs.declared.types.Expr.{Expr}
use Rattle.el_logic.specs.Meaning.{IsMember, AreApart}
use Rattle.model_members.specs.Inside.Sets.{IsSetOf}
use Rattle.model_members.proofs.classes.are_disjoint.Given as goal

-- the operands so far are apart, and their members are taken
abbrev pub invariant-loop-operand : goal.invariant-loop-operand
invariant-loop-operand l = record {
  apart : AreApart l.fn.lists.ordered (take l.operand-index l.fn.operands);
  taken : IsSetOf l.fn.lists.ordered.size (λ x. (e : Expr) × Contains (take l.operand-index l.fn.operands) e × IsMember l.fn.lists.ordered x e) l.taken;
}

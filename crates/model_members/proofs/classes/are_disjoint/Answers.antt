use Rattle.std.proofs.Common.{◌∙◌, ◌+◌, [], ℕ, List, Contains, take, drop, sym, subst, rules}
use Rattle.std.proofs.lemmas.Bool.{false≢true}
use Rattle.std.proofs.lemmas.List.{take_all}
use Rattle.el_logic.specs.declared.types.Expr.{Expr}
use Rattle.el_logic.specs.Meaning.{IsMember, AreApart}
use Rattle.model_members.specs.Inside.Sets.{IsSetOf}
use Rattle.model_members.proofs.ClassLaws.{set_none, take_next, split_at, apart_more, apart_at, taken_more, disjoint_from_taken}
use Rattle.model_members.proofs.classes.are_disjoint.Goals as goal

nothing_taken : (i : _) (x : ℕ) → ¬ ((e : Expr) × Contains [] e × IsMember i x e)
nothing_taken i x (e, there, member) = absurd (search (rules, there.1))

pub loop-operand-init : goal.loop-operand-init
loop-operand-init c = record {
  apart = tt;
  taken = set_none c.args.lists.now.ordered.size (λ x. (e : Expr) × Contains [] e × IsMember c.args.lists.now.ordered x e) c.new.result c.new.ensures (nothing_taken c.args.lists.now.ordered);
}

pub is_apart-requires-clause-inhabited : goal.is_apart-requires-clause-inhabited
is_apart-requires-clause-inhabited c = c.requires.fits.inhabited

pub returns-then-not-is_apart : goal.returns-then-not-is_apart
returns-then-not-is_apart c =
    let i = c.args.lists.now.ordered in
    let operands = c.args.operands.now in
    let index = c.loop-operand.operand-index in
    let next = c.operand-item.result in (
      (λ yes. absurd (false≢true yes)),
      (λ holds. sym c.if-not-is_apart.true ∙ c.is_apart.ensures.1 (λ x has too.
          let (e, there, member) = (c.loop-operand.invariant.taken.same x).0 has in
          apart_at i (take index operands) (drop (index + 1) operands) e next
          (subst (AreApart i) (split_at operands index next c.loop-operand-test.true c.operand-item.is) holds) there x member ((c.in_ok-next.ensures.same x).0 too))),
    )

pub loop-operand-preserved : goal.loop-operand-preserved
loop-operand-preserved c =
    let i = c.args.lists.now.ordered in
    let operands = c.args.operands.now in
    let index = c.loop-operand.operand-index in
    let next = c.operand-item.result in
    let done = take index operands in
    let longer = take_next operands index next c.loop-operand-test.true c.operand-item.is in
    let set = c.in_ok-next.next in
    record {
      apart = subst (AreApart i) (sym longer) (apart_more i done next c.loop-operand.invariant.apart
          (disjoint_from_taken i done next c.loop-operand.taken set c.loop-operand.invariant.taken c.in_ok-next.ensures (c.is_apart.ensures.0 c.if-not-is_apart.false)));
      taken = subst (λ (es : List Expr). IsSetOf i.size (λ x. (e : Expr) × Contains es e × IsMember i x e) c.in_ok-both.both) (sym longer)
          (taken_more i done next c.loop-operand.taken set c.in_ok-both.both c.loop-operand.invariant.taken c.in_ok-next.ensures
          (c.in_ok-both.ensures i.size c.loop-operand.invariant.taken.ordered c.in_ok-next.ensures.ordered));
    }

pub returns : goal.returns
returns c = (
  (λ yes. subst (AreApart c.args.lists.now.ordered) (take_all c.loop-operand.operand-index c.args.operands.now c.loop-operand-test.false) c.loop-operand.invariant.apart),
  (λ holds. search rules),
)

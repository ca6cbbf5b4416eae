use Rattle.std.proofs.Common.{◌∙◌, ℕ, Contains, IsTrue, ap, sym, subst}
use Rattle.std.specs.Prelude.{◌↔◌}
use Rattle.std.proofs.lemmas.Result.{IfOk-weaker}
use Rattle.el_logic.specs.Meaning.{IsMember, IsWithin}
use Rattle.model_members.specs.declared.sets.Members.TheVariants.{Listed}
use Rattle.model_members.specs.Inside.Sets.{IsSet, IsSetOf}
use Rattle.model_members.proofs.classes.is_class_within.Goals as goal

pub returns-in-Whole : goal.returns-in-Whole
returns-in-Whole c = (
  (λ yes x member. (c.in_ok-other-in-Whole.ensures.same x).0 (c.is_within.ensures.0 yes x ((c.in_ok-set.ensures.same x).1 member))),
  (λ within. c.is_within.ensures.1 (λ x has. (c.in_ok-other-in-Whole.ensures.same x).1 (within x ((c.in_ok-set.ensures.same x).0 has)))),
)

pub are_members-requires-clause-elements : goal.are_members-requires-clause-elements
are_members-requires-clause-elements c =
    subst (IsSet c.args.lists.now.ordered.size) (c.in-Listed.is ∙ ap Listed (sym c.as_slice.ensures)) c.in_ok-set.ensures.ordered

pub returns : goal.returns
returns c =
    let i = c.args.lists.now.ordered in
    let lower = c.args.lower.now in
    let upper = c.args.upper.now in
    let numbers = c.as_slice.result.now in
    let set : IsSetOf i.size (λ x. IsMember i x lower) (Listed numbers) =
    subst (IsSetOf i.size (λ x. IsMember i x lower)) (c.in-Listed.is ∙ ap Listed (sym c.as_slice.ensures)) c.in_ok-set.ensures in
    IfOk-weaker c.are_members.result (λ yes. IsTrue yes ↔ ((x : ℕ) → Contains numbers x → IsMember i x upper)) (λ yes. IsTrue yes ↔ IsWithin i lower upper)
    (λ yes told. (
      (λ is x member. told.0 is x ((set.same x).1 member)),
      (λ within. told.1 (λ x there. within x ((set.same x).0 there))),
    ))
    c.are_members.ensures

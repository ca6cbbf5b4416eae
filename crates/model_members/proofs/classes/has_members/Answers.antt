use Rattle.std.proofs.Common.{◌∙◌, sym}
use Rattle.std.proofs.lemmas.Bool.{false≢true}
use Rattle.model_members.proofs.classes.has_members.Goals as goal

pub returns-then-not-is_within : goal.returns-then-not-is_within
returns-then-not-is_within c = (
  (λ yes. absurd (false≢true yes)),
  (λ same. sym c.if-not-is_within.true ∙ c.is_within.ensures.1 (λ x has. (c.in_ok-other.ensures.same x).1 ((same x).0 has))),
)

pub returns : goal.returns
returns c = (
  (λ yes x. (
    (λ has. (c.in_ok-other.ensures.same x).0 (c.is_within.ensures.0 c.if-not-is_within.false x has)),
    (λ member. c.is_within-2.ensures.0 yes x ((c.in_ok-other.ensures.same x).1 member)),
  )),
  (λ same. c.is_within-2.ensures.1 (λ x has. (same x).1 ((c.in_ok-other.ensures.same x).0 has))),
)

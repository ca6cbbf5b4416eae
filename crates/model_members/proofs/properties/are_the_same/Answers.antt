use Rattle.std.proofs.Common.{◌∙◌, sym}
use Rattle.std.proofs.lemmas.Bool.{false≢true}
use Rattle.model_members.proofs.properties.are_the_same.Goals as goal

pub returns-then-not-are_pairs_among : goal.returns-then-not-are_pairs_among
returns-then-not-are_pairs_among c = (
  (λ yes. absurd (false≢true yes)),
  (λ same. sym c.if-not-are_pairs_among.true ∙ c.are_pairs_among.ensures.1 (λ x y led. (same x y).1 led)),
)

pub returns : goal.returns
returns c = (
  (λ yes x y. (
    (λ led. c.are_pairs_among-2.ensures.0 yes x y led),
    (λ led. c.are_pairs_among.ensures.0 c.if-not-are_pairs_among.false x y led),
  )),
  (λ told. c.are_pairs_among-2.ensures.1 (λ x y led. (told x y).0 led)),
)

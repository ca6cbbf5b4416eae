use Rattle.std.proofs.Common.{◌∙◌, length, ap, sym, arith}
use Rattle.el_logic.proofs.evaluate.is_interpretation.Goals as goal

pub returns : goal.returns
returns c = (
  (λ yes. record {
    inhabited = omega (arith, c.if-i-eq0.false);
    each_class = ap length (sym c.as_slice.ensures) ∙ c.if-as_slice-classes.false;
    each_role = ap length (sym c.as_slice-2.ensures) ∙ c.if-as_slice-roles.false;
    members_below = c.members_are_within.ensures.0 c.if-not-members_are_within.false;
    pairs_below = c.pairs_are_within.ensures.0 yes;
  }),
  (λ fits. c.pairs_are_within.ensures.1 fits.pairs_below),
)

use Rattle.std.proofs.Common.{ℕ, List, Contains, sym, subst}
use Rattle.model_members.proofs.among.are_members.Goals as goal

pub returns-in-Some : goal.returns-in-Some
returns-in-Some c = (
  (λ yes x there. (c.in-Some.ensures.same x).0 (c.are_among.ensures.0 yes x there)),
  (λ each. c.are_among.ensures.1 (λ x there. (c.in-Some.ensures.same x).1 (each x there))),
)

pub returns-in_ok-kept-in-None : goal.returns-in_ok-kept-in-None
returns-in_ok-kept-in-None c =
    let kept = c.in_ok-kept-in-None.ensures c.requires.elements in (
      (λ yes x there. ((kept.same x).0 (subst (λ (xs : List ℕ). Contains xs x) c.as_slice.ensures (c.are_among-in-None.ensures.0 yes x there))).1),
      (λ each. c.are_among-in-None.ensures.1 (λ x there. subst (λ (xs : List ℕ). Contains xs x) (sym c.as_slice.ensures) ((kept.same x).1 (there, each x there)))),
    )

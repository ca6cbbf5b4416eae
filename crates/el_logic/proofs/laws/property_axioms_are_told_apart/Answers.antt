use Rattle.std.proofs.Common.{◌≡◌, ℕ, [], ◌∷◌, All, refl, ap, subst, ◌∙◌, arith, ⊎_elim}
use Rattle.el_logic.specs.declared.types.Expr.TheVariants.{Name}
use Rattle.el_logic.specs.declared.types.Axiom.TheVariants.{EquivalentRoles}
use Rattle.el_logic.specs.Meaning.{IsMember, AreRelated, Holds}
use Rattle.el_logic.specs.Cases.{one_element, three_elements}
use Rattle.el_logic.proofs.Small.{in_none, in_one, in_two, one_holds, first_of_two, second_of_two, all_of}
use Rattle.el_logic.proofs.laws.property_axioms_are_told_apart.Goals as goal

nothing : (x y : ℕ) → AreRelated one_element 1 x y → ⊥
nothing x y h = in_none (x, y) h

itself : AreRelated one_element 0 0 0
itself = one_holds (0, 0)

firsts : (x y : ℕ) → AreRelated one_element 0 x y → 0 ≡ x
firsts x y h = let P : ℕ × ℕ → ℕ = λ p. p.0 in ap P (in_one (0, 0) (x, y) h)

seconds : (x y : ℕ) → AreRelated one_element 0 x y → 0 ≡ y
seconds x y h = let P : ℕ × ℕ → ℕ = λ p. p.1 in ap P (in_one (0, 0) (x, y) h)

at_zero : (x y : ℕ) → 0 ≡ x → 0 ≡ y → AreRelated one_element 0 x y
at_zero x y e f = subst (λ a. AreRelated one_element 0 a y) e (subst (λ b. AreRelated one_element 0 0 b) f itself)

differ : Holds one_element (EquivalentRoles (0 ∷ 1 ∷ [])) → ⊥
differ holds =
    nothing 0 0 (all_of (λ s. (x y : ℕ) → AreRelated one_element 0 x y → AreRelated one_element s x y) (0 ∷ 1 ∷ []) 1
    (all_of (λ r. All (λ s. (x y : ℕ) → AreRelated one_element r x y → AreRelated one_element s x y) (0 ∷ 1 ∷ [])) (0 ∷ 1 ∷ []) 0 holds (first_of_two 0 1))
    (second_of_two 0 1) 0 0 itself)

no_step : AreRelated three_elements 0 0 2 → ⊥
no_step h = ⊎_elim (λ e. one_is_two (ap (λ (p : ℕ × ℕ). p.1) e)) (λ e. one_is_zero (ap (λ (p : ℕ × ℕ). p.0) e)) (in_two (0, 1) (1, 2) (0, 2) h)
  where
    one_is_two : let a : ℕ = 1 in a ≡ 2 → ⊥
    one_is_two e = omega arith

    one_is_zero : let a : ℕ = 1 in a ≡ 0 → ⊥
    one_is_zero e = omega arith

pub returns : goal.returns
returns c = (
  (λ x y h. absurd (nothing x h.0 h.1)),
  (λ holds. nothing 0 0 (holds 0 0 (0, itself, refl))),
  (λ x y h. let k = h.2 in at_zero x y (firsts x h.0 h.1) (seconds h.0 k.0 k.1 ∙ k.2)),
  differ,
  (λ x y z h k. at_zero x z (firsts x y h) (seconds y z k)),
  (λ holds. no_step (holds 0 1 2 (first_of_two (0, 1) (1, 2)) (second_of_two (0, 1) (1, 2)))),
  (λ x l. let e : 0 ≡ x = omega arith in at_zero x x e e),
  (λ holds. nothing 0 0 (holds 0 (omega arith))),
  (λ x y h. subst (λ a. IsMember one_element a (Name 0)) (firsts x y h) (one_holds 0)),
  λ holds. in_none 0 (holds 0 0 itself),
)

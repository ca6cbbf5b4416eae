use Rattle.std.proofs.Common.{◌≡◌, ℕ, ◌<◌, [], ◌∷◌, All, lit<, refl, subst, arith}
use Rattle.std.proofs.lemmas.List.Elements.{All-nil, All-cons}
use Rattle.el_logic.specs.declared.types.Expr.TheVariants.{Top, Name}
use Rattle.el_logic.specs.declared.types.Axiom.TheVariants.{Equivalent, Disjoint}
use Rattle.el_logic.specs.Meaning.{IsInterp, IsMember, IsWithin, Holds}
use Rattle.el_logic.specs.Cases.{one_element}
use Rattle.el_logic.proofs.Small.{in_none, in_one, one_holds, first_of_two, second_of_two, all_of}
use Rattle.el_logic.proofs.laws.class_axioms_are_told_apart.Goals as goal

Below : ℕ → Type 0
Below x = x < 1

BothBelow : ℕ × ℕ → Type 0
BothBelow p = (p.0 < 1) × (p.1 < 1)

zero_below : 0 < 1
zero_below = lit< tt

fits : IsInterp 2 2 one_element
unfolding Below BothBelow
fits = record {
  inhabited = omega arith;
  each_class = refl;
  each_role = refl;
  members_below = All-cons (All Below) (0 ∷ []) ([] ∷ []) (All-cons Below 0 [] zero_below (All-nil Below)) (All-cons (All Below) [] [] (All-nil Below) (All-nil (All Below)));
  pairs_below = All-cons (All BothBelow) ((0, 0) ∷ []) ([] ∷ []) (All-cons BothBelow (0, 0) [] (zero_below, zero_below) (All-nil BothBelow)) (All-cons (All BothBelow) [] [] (All-nil BothBelow) (All-nil (All BothBelow)));
}

none : (x : ℕ) → IsMember one_element x (Name 1) → ⊥
none x h = in_none x h

only : IsMember one_element 0 (Name 0)
only = one_holds 0

is_zero : (x : ℕ) → IsMember one_element x (Name 0) → x < 1
is_zero x h = let e : 0 ≡ x = in_one 0 x h in omega arith

zero_is : (x : ℕ) → x < 1 → IsMember one_element x (Name 0)
zero_is x l = let e : 0 ≡ x = omega arith in subst (λ y. IsMember one_element y (Name 0)) e only

same : Holds one_element (Equivalent (Name 0 ∷ Top ∷ []))
same =
    All-cons (λ c. All (λ d. IsWithin one_element c d) (Name 0 ∷ Top ∷ [])) (Name 0) (Top ∷ [])
    (All-cons (λ d. IsWithin one_element (Name 0) d) (Name 0) (Top ∷ []) (λ x h. h) (All-cons (λ d. IsWithin one_element (Name 0) d) Top [] is_zero (All-nil _)))
    (All-cons (λ c. All (λ d. IsWithin one_element c d) (Name 0 ∷ Top ∷ [])) Top []
    (All-cons (λ d. IsWithin one_element Top d) (Name 0) (Top ∷ []) zero_is (All-cons (λ d. IsWithin one_element Top d) Top [] (λ x h. h) (All-nil _))) (All-nil _))

differ : Holds one_element (Equivalent (Name 0 ∷ Name 1 ∷ [])) → ⊥
differ holds =
    none 0 (all_of (λ d. IsWithin one_element (Name 0) d) (Name 0 ∷ Name 1 ∷ []) (Name 1)
    (all_of (λ c. All (λ d. IsWithin one_element c d) (Name 0 ∷ Name 1 ∷ [])) (Name 0 ∷ Name 1 ∷ []) (Name 0) holds (first_of_two (Name 0) (Name 1)))
    (second_of_two (Name 0) (Name 1)) 0 only)

apart : Holds one_element (Disjoint (Name 0 ∷ Name 1 ∷ []))
apart = (All-cons (λ d. (x : ℕ) → IsMember one_element x (Name 0) → IsMember one_element x d → ⊥) (Name 1) [] (λ x h k. none x k) (All-nil _), (All-nil _, tt))

not_apart : Holds one_element (Disjoint (Name 0 ∷ Name 0 ∷ [])) → ⊥
not_apart holds = all_of (λ d. (x : ℕ) → IsMember one_element x (Name 0) → IsMember one_element x d → ⊥) (Name 0 ∷ []) (Name 0) holds.0 (one_holds (Name 0)) 0 only only

pub returns : goal.returns
returns c = (fits, (λ x h. absurd (none x h)), (λ holds. none 0 (holds 0 only)), same, differ, apart, not_apart)

-- What holds among the three elements of `steps`.
use Rattle.std.proofs.Common.{◌≡◌, ℕ, ◌<◌, ◌≤◌, [], ◌∷◌, All, Contains, lit<, refl, sym, subst, ◌∙◌, ap, ⊎_elim, arith}
use Rattle.std.proofs.lemmas.Bool.{cases_lt}
use Rattle.std.proofs.lemmas.List.Elements.{All-nil, All-cons}
use Rattle.el_logic.specs.declared.types.Expr.{Expr}
use Rattle.el_logic.specs.declared.types.Expr.TheVariants.{Name}
use Rattle.el_logic.specs.declared.types.Axiom.TheVariants.{SubClass, Equivalent, Disjoint, SubRole, EquivalentRoles, Transitive, Reflexive, Domain}
use Rattle.el_logic.specs.Meaning.{IsMember, IsWithin, AreRelated, Holds}
use Rattle.el_logic.specs.Cases.{steps}
use Rattle.el_logic.proofs.ModelLaws.{class_within, role_within}
use Rattle.el_logic.proofs.Small.{in_one, one_holds, first_of_two, second_of_two, first_of_three, second_of_three, third_of_three, all_of, all_of_two}

-- a smaller number is another one
pub less : (a b : ℕ) → a < b → a ≡ b → ⊥
less a b l e = omega (arith, l, e)

-- the ends of a pair that is known
pub first_is : (a b x y : ℕ) → let p : ℕ × ℕ = (a, b) in p ≡ (x, y) → a ≡ x
first_is a b x y e = let P : ℕ × ℕ → ℕ = λ p. p.0 in ap P e

pub second_is : (a b x y : ℕ) → let p : ℕ × ℕ = (a, b) in p ≡ (x, y) → b ≡ y
second_is a b x y e = let P : ℕ × ℕ → ℕ = λ p. p.1 in ap P e

-- one pair relates only its ends
pub only : (a b x y : ℕ) → Contains {X = ℕ × ℕ} ((a, b) ∷ []) (x, y) → (a ≡ x) × (b ≡ y)
only a b x y h = let e = in_one (a, b) (x, y) h in (first_is a b x y e, second_is a b x y e)

-- related ends may be renamed
pub renamed : (r a b x y : ℕ) → a ≡ x → b ≡ y → AreRelated steps r a b → AreRelated steps r x y
renamed r a b x y e f h = subst (λ c. AreRelated steps r c y) e (subst (λ d. AreRelated steps r a d) f h)

-- class 1 is not within class 0
pub one_not_in_zero : Contains {X = ℕ} (0 ∷ []) 1 → ⊥
one_not_in_zero h = less 0 1 (lit< tt) (in_one 0 1 h)

-- element 2 doesn't follow by property 0
pub two_not_next : Contains {X = ℕ × ℕ} ((0, 1) ∷ []) (0, 2) → ⊥
two_not_next h = less 1 2 (lit< tt) (only 0 1 0 2 h).1

pub sub_class : Holds steps (SubClass (Name 0) (Name 1))
sub_class x h = subst (λ y. Contains {X = ℕ} (0 ∷ 1 ∷ []) y) (in_one 0 x h) (first_of_two 0 1)

pub not_super_class : ¬ (Holds steps (SubClass (Name 1) (Name 0)))
not_super_class holds = one_not_in_zero (holds 1 (second_of_two 0 1))

pub equivalent : Holds steps (Equivalent (Name 0 ∷ Name 3 ∷ []))
equivalent = all_of_two (λ c. All (IsWithin steps c) (Name 0 ∷ Name 3 ∷ [])) (Name 0) (Name 3) (to_both (Name 0) (λ x h. h) (λ x h. h)) (to_both (Name 3) (λ x h. h) (λ x h. h))
  where
    to_both : (c : Expr) → IsWithin steps c (Name 0) → IsWithin steps c (Name 3) → All (IsWithin steps c) (Name 0 ∷ Name 3 ∷ [])
    to_both c = all_of_two (IsWithin steps c) (Name 0) (Name 3)

pub not_equivalent : ¬ (Holds steps (Equivalent (Name 0 ∷ Name 1 ∷ [])))
not_equivalent holds = one_not_in_zero
    (class_within steps (Name 0 ∷ Name 1 ∷ []) (Name 1) (Name 0) holds (second_of_two (Name 0) (Name 1)) (first_of_two (Name 0) (Name 1)) 1 (second_of_two 0 1))

pub not_equivalent_exchanged : ¬ (Holds steps (Equivalent (Name 1 ∷ Name 0 ∷ [])))
not_equivalent_exchanged holds = one_not_in_zero
    (class_within steps (Name 1 ∷ Name 0 ∷ []) (Name 1) (Name 0) holds (first_of_two (Name 1) (Name 0)) (second_of_two (Name 1) (Name 0)) 1 (second_of_two 0 1))

pub not_equivalent_three : ¬ (Holds steps (Equivalent (Name 0 ∷ Name 3 ∷ Name 1 ∷ [])))
not_equivalent_three holds = one_not_in_zero
    (class_within steps (Name 0 ∷ Name 3 ∷ Name 1 ∷ []) (Name 1) (Name 0) holds (third_of_three (Name 0) (Name 3) (Name 1)) (first_of_three (Name 0) (Name 3) (Name 1)) 1 (second_of_two 0 1))

-- no element belongs to both classes
abbrev Apart : Expr → Expr → Type 0
Apart c d = (x : ℕ) → IsMember steps x c → ¬ (IsMember steps x d)

pub disjoint : Holds steps (Disjoint (Name 0 ∷ Name 2 ∷ []))
disjoint = (All-cons (Apart (Name 0)) (Name 2) [] (λ x h k. less 0 2 (lit< tt) (in_one 0 x h ∙ sym (in_one 2 x k))) (All-nil (Apart (Name 0))), (All-nil (Apart (Name 2)), tt))

pub not_disjoint : ¬ (Holds steps (Disjoint (Name 1 ∷ Name 0 ∷ [])))
not_disjoint holds = all_of (Apart (Name 1)) (Name 0 ∷ []) (Name 0) holds.0 (one_holds (Name 0)) 0 (first_of_two 0 1) (one_holds 0)

pub not_disjoint_three : ¬ (Holds steps (Disjoint (Name 0 ∷ Name 2 ∷ Name 1 ∷ [])))
not_disjoint_three holds = all_of (Apart (Name 0)) (Name 2 ∷ Name 1 ∷ []) (Name 1) holds.0 (second_of_two (Name 2) (Name 1)) 0 (one_holds 0) (first_of_two 0 1)

pub sub_role : Holds steps (SubRole (0 ∷ []) 3)
sub_role x y h = let k = only 0 1 x h.0 h.1 in renamed 3 0 1 x y k.0 (k.1 ∙ h.2) (first_of_two (0, 1) (0, 2))

pub not_super_role : ¬ (Holds steps (SubRole (3 ∷ []) 0))
not_super_role holds = two_not_next (holds 0 2 (2, second_of_two (0, 1) (0, 2), refl))

pub chain : Holds steps (SubRole (0 ∷ 1 ∷ []) 2)
chain x y h =
    let rest = h.2 in let first = only 0 1 x h.0 h.1 in let second = only 1 2 h.0 rest.0 rest.1 in
    renamed 2 0 2 x y first.0 (second.1 ∙ rest.2) (one_holds (0, 2))

pub not_chain : ¬ (Holds steps (SubRole (0 ∷ 1 ∷ []) 0))
not_chain holds = two_not_next (holds 0 2 (1, one_holds (0, 1), (2, one_holds (1, 2), refl)))

-- nothing follows by property 1 and then 0
pub chain_exchanged : Holds steps (SubRole (1 ∷ 0 ∷ []) 0)
chain_exchanged x y h =
    let rest = h.2 in let first = only 1 2 x h.0 h.1 in let second = only 0 1 h.0 rest.0 rest.1 in
    absurd (less 0 2 (lit< tt) (second.0 ∙ sym first.1))

-- each pair of the first is one of the second
abbrev HasPairs : ℕ → ℕ → Type 0
HasPairs r s = (x y : ℕ) → AreRelated steps r x y → AreRelated steps s x y

pub equivalent_roles : Holds steps (EquivalentRoles (0 ∷ 4 ∷ []))
equivalent_roles = all_of_two (λ r. All (HasPairs r) (0 ∷ 4 ∷ [])) 0 4 (to_both 0 (λ x y h. h) (λ x y h. h)) (to_both 4 (λ x y h. h) (λ x y h. h))
  where
    to_both : (r : ℕ) → HasPairs r 0 → HasPairs r 4 → All (HasPairs r) (0 ∷ 4 ∷ [])
    to_both r = all_of_two (HasPairs r) 0 4

pub not_equivalent_roles : ¬ (Holds steps (EquivalentRoles (0 ∷ 3 ∷ [])))
not_equivalent_roles holds = two_not_next (role_within steps (0 ∷ 3 ∷ []) 3 0 holds (second_of_two 0 3) (first_of_two 0 3) 0 2 (second_of_two (0, 1) (0, 2)))

pub not_equivalent_roles_exchanged : ¬ (Holds steps (EquivalentRoles (3 ∷ 0 ∷ [])))
not_equivalent_roles_exchanged holds = two_not_next (role_within steps (3 ∷ 0 ∷ []) 3 0 holds (first_of_two 3 0) (second_of_two 3 0) 0 2 (second_of_two (0, 1) (0, 2)))

-- each step of property 7 goes up, and none above 2
abbrev GoesUp : ℕ × ℕ → Type 0
GoesUp p = (p.0 < p.1) × (p.1 < 3)

goes_up : (x y : ℕ) → AreRelated steps 7 x y → (x < y) × (y < 3)
goes_up x y h = all_of GoesUp ((0, 1) ∷ (1, 2) ∷ (0, 2) ∷ []) (x, y)
    (All-cons GoesUp (0, 1) ((1, 2) ∷ (0, 2) ∷ []) (lit< tt, lit< tt)
    (All-cons GoesUp (1, 2) ((0, 2) ∷ []) (lit< tt, lit< tt) (All-cons GoesUp (0, 2) [] (lit< tt, lit< tt) (All-nil GoesUp)))) h

pub transitive : Holds steps (Transitive 7)
transitive x y z h k =
    let low = goes_up x y h in let high = goes_up y z k in
    renamed 7 0 2 x z (omega arith) (omega arith) (third_of_three (0, 1) (1, 2) (0, 2))

pub reflexive : Holds steps (Reflexive 5)
reflexive x l = ⊎_elim
    (λ (zero : x < 1). let e : 0 ≡ x = omega arith in renamed 5 0 0 x x e e (first_of_three (0, 0) (1, 1) (2, 2)))
    (λ (more : 1 ≤ x). ⊎_elim
    (λ (one : x < 2). let e : 1 ≡ x = omega arith in renamed 5 1 1 x x e e (second_of_three (0, 0) (1, 1) (2, 2)))
    (λ (two : 2 ≤ x). let e : 2 ≡ x = omega arith in renamed 5 2 2 x x e e (third_of_three (0, 0) (1, 1) (2, 2)))
    (cases_lt x 2))
    (cases_lt x 1)

pub not_reflexive : ¬ (Holds steps (Reflexive 6))
not_reflexive holds = less 0 1 (lit< tt) (only 0 0 1 1 (holds 1 (lit< tt))).0

pub domain : Holds steps (Domain 0 (Name 0))
domain x y h = subst (λ a. IsMember steps a (Name 0)) (only 0 1 x y h).0 (one_holds 0)

-- property 1 leads to class 2, not from it
pub not_domain : ¬ (Holds steps (Domain 1 (Name 2)))
not_domain holds = less 1 2 (lit< tt) (sym (in_one 2 1 (holds 1 2 (one_holds (1, 2)))))

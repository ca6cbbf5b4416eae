-- What expressions and axioms mean in an interpretation: the direct semantics of OWL 2, over finite
-- domains.
use Rattle.std.specs.Prelude.{◌≡◌, ℕ, ◌<◌, ◌≤◌, List, [], ◌∷◌, length, slice_index_or, All, Contains, ⊤}
use Rattle.el_logic.specs.declared.types.Expr.{Expr, Row_of-Expr, end_of-Expr, more_of-Expr}
use Rattle.el_logic.specs.declared.types.Expr.TheVariants.{Top, Bottom, Name, And', Exists'}
use Rattle.el_logic.specs.declared.types.Axiom.{Axiom}
use Rattle.el_logic.specs.declared.types.Axiom.TheVariants.{SubClass, Equivalent, Disjoint, SubRole, EquivalentRoles, Transitive, Reflexive, Domain}
use Rattle.el_logic.specs.declared.types.Interp.{Interp}

-- the members of a class name, and the pairs of a property name
abbrev pub members_of : Interp → ℕ → List ℕ
members_of i c = slice_index_or i.classes c []

abbrev pub pairs_of : Interp → ℕ → List (ℕ × ℕ)
pairs_of i r = slice_index_or i.roles r []

-- the domain is not empty, each name has its list, and every element is one of the domain
pub record IsInterp (classes roles : ℕ) (i : Interp) : Type 0 where
  pub inhabited : 1 ≤ i.size
  pub each_class : length i.classes ≡ classes
  pub each_role : length i.roles ≡ roles
  pub members_below : All (All (λ x. x < i.size)) i.classes
  pub pairs_below : All (All (λ p. (p.0 < i.size) × (p.1 < i.size))) i.roles

abbrev mutual
  -- the element x belongs to the expression
  pub IsMember : Interp → ℕ → Expr → Type 0
  IsMember i x Top = x < i.size
  IsMember i x Bottom = ⊥
  IsMember i x (Name c) = Contains (members_of i c) x
  IsMember i x (And' _ es) = (x < i.size) × IsInEach i x es
  IsMember i x (Exists' r _ (more_of-Expr e _)) =
      (y : ℕ) × Contains (pairs_of i r) (x, y) × IsMember i y e

  -- and to each operand of an intersection
  pub IsInEach : {n : _} → Interp → ℕ → Row_of-Expr n → Type 0
  IsInEach i x end_of-Expr = ⊤
  IsInEach i x (more_of-Expr e es) = IsMember i x e × IsInEach i x es

-- every element of the first is one of the second
abbrev pub IsWithin : Interp → Expr → Expr → Type 0
IsWithin i c d = (x : ℕ) → IsMember i x c → IsMember i x d

-- r relates the first to the second
abbrev pub AreRelated : Interp → ℕ → ℕ → ℕ → Type 0
AreRelated i r x y = Contains (pairs_of i r) (x, y)

-- the composition of the properties relates the first to the second
abbrev pub AreChained : Interp → List ℕ → ℕ → ℕ → Type 0
AreChained i [] x y = x ≡ y
AreChained i (r ∷ chain) x y = (z : ℕ) × AreRelated i r x z × AreChained i chain z y

-- no element belongs to both
abbrev pub AreDisjoint : Interp → Expr → Expr → Type 0
AreDisjoint i c d = (x : ℕ) → IsMember i x c → ¬ (IsMember i x d)

-- no element belongs to operands at two positions
abbrev pub AreApart : Interp → List Expr → Type 0
AreApart i [] = ⊤
AreApart i (c ∷ cs) = All (AreDisjoint i c) cs × AreApart i cs

abbrev pub Holds : Interp → Axiom → Type 0
Holds i (SubClass c d) = IsWithin i c d
Holds i (Equivalent cs) = All (λ c. All (λ d. IsWithin i c d) cs) cs
Holds i (Disjoint cs) = AreApart i cs
Holds i (SubRole chain s) = (x y : ℕ) → AreChained i chain x y → AreRelated i s x y
Holds i (EquivalentRoles rs) =
    All (λ r. All (λ s. (x y : ℕ) → AreRelated i r x y → AreRelated i s x y) rs) rs
Holds i (Transitive r) = (x y z : ℕ) → AreRelated i r x y → AreRelated i r y z → AreRelated i r x z
Holds i (Reflexive r) = (x : ℕ) → x < i.size → AreRelated i r x x
Holds i (Domain r c) = (x y : ℕ) → AreRelated i r x y → IsMember i x c

-- What nodes, roles and axioms over them mean.
use Rattle.std.specs.Prelude.{◌≡◌, ℕ, ◌+◌, ◌<◌, ◌↔◌, Bool, IsTrue, List, [], ◌∷◌, length, take, All, Contains, ⊤}
use Rattle.el_logic.specs.declared.types.Axiom.{Axiom}
use Rattle.el_logic.specs.declared.types.Interp.{Interp}
use Rattle.el_logic.specs.Meaning.{IsInterp, Holds, AreRelated, members_of}
use Rattle.concept_store.specs.declared.types.Node.TheVariants.{Top, Bottom, Class, And, Exists}
use Rattle.concept_store.specs.declared.types.Node.{Node}
use Rattle.concept_store.specs.declared.types.NodeAxiom.{NodeAxiom}
use Rattle.concept_store.specs.declared.types.NodeAxiom.TheVariants.{SubClass, Equivalent, Disjoint, SubRole, EquivalentRoles, Transitive, Reflexive, Domain}
use Rattle.concept_store.specs.Nodes.{IsNode}

-- which of the numbers below a size are in each node, and which two of them each role relates
pub record Reading : Type 0 where
  pub size : ℕ
  pub member : ℕ → ℕ → Bool
  pub pair : ℕ → ℕ → ℕ → Bool

abbrev pub IsIn : Reading → ℕ → ℕ → Type 0
IsIn m n x = IsTrue (m.member n x)

abbrev pub AreLinked : Reading → ℕ → ℕ → ℕ → Type 0
AreLinked m r x y = IsTrue (m.pair r x y)

-- each node has the elements that it says
pub record IsReading (nodes : List Node) (m : Reading) : Type 0 where
  pub inside : (n x : ℕ) → IsIn m n x → x < m.size
  pub linked_inside : (r x y : ℕ) → AreLinked m r x y → (x < m.size) × (y < m.size)
  pub top : (n x : ℕ) → IsNode nodes n Top → x < m.size → IsIn m n x
  pub bottom : (n x : ℕ) → IsNode nodes n Bottom → ¬ (IsIn m n x)
  pub both : (n c d x : ℕ) → IsNode nodes n (And c d) → IsIn m n x ↔ (IsIn m c x × IsIn m d x)
  pub some : (n r c x : ℕ) → IsNode nodes n (Exists r c) →
      IsIn m n x ↔ ((y : ℕ) × AreLinked m r x y × IsIn m c y)

abbrev pub IsWithin : Reading → ℕ → ℕ → Type 0
IsWithin m c d = (x : ℕ) → IsIn m c x → IsIn m d x

abbrev pub IsRoleWithin : Reading → ℕ → ℕ → Type 0
IsRoleWithin m r s = (x y : ℕ) → AreLinked m r x y → AreLinked m s x y

-- the chain of roles leads from the first to the second
abbrev pub Reaches : Reading → List ℕ → ℕ → ℕ → Type 0
Reaches m [] x y = x ≡ y
Reaches m (r ∷ chain) x y = (z : ℕ) × AreLinked m r x z × Reaches m chain z y

-- no element is in nodes at two places
abbrev pub AreApart : Reading → List ℕ → Type 0
AreApart m [] = ⊤
AreApart m (c ∷ cs) = All (λ d. (x : ℕ) → IsIn m c x → ¬ (IsIn m d x)) cs × AreApart m cs

abbrev pub HoldsIn : Reading → NodeAxiom → Type 0
HoldsIn m (SubClass c d) = IsWithin m c d
HoldsIn m (Equivalent cs) = All (λ c. All (λ d. IsWithin m c d) cs) cs
HoldsIn m (Disjoint cs) = AreApart m cs
HoldsIn m (SubRole chain s first) = (x y : ℕ) → Reaches m chain x y → AreLinked m s x y
HoldsIn m (EquivalentRoles rs) = All (λ r. All (λ s. IsRoleWithin m r s) rs) rs
HoldsIn m (Transitive r) = (x y z : ℕ) → AreLinked m r x y → AreLinked m r y z → AreLinked m r x z
HoldsIn m (Reflexive r) = (x : ℕ) → x < m.size → AreLinked m r x x
HoldsIn m (Domain r c) = (x y : ℕ) → AreLinked m r x y → IsIn m c x

-- each part of a chain is the composition of the roles that it has of it
abbrev pub ReadsParts : Reading → NodeAxiom → Type 0
ReadsParts m (SubRole chain s first) = (k x y : ℕ) → k + 2 < length chain →
    AreLinked m (first + k) x y ↔ Reaches m (take (k + 2) chain) x y
ReadsParts m _ = ⊤

-- the reading has the elements, classes and properties of the interpretation
pub record IsReadingOf (nodes : List Node) (properties : ℕ) (i : Interp) (m : Reading) : Type 0 where
  pub reading : IsReading nodes m
  pub size : m.size ≡ i.size
  pub classes : (n k x : ℕ) → IsNode nodes n (Class k) → IsIn m n x ↔ Contains (members_of i k) x
  pub roles : (r x y : ℕ) → r < properties → AreLinked m r x y ↔ AreRelated i r x y

-- axioms hold in an interpretation exactly where axioms over nodes hold in its reading
abbrev pub MeansTheSameIn : ℕ → ℕ → List Node → List Axiom → List NodeAxiom → Type 0
MeansTheSameIn classes properties nodes axioms over = (i : Interp) (m : Reading)
    → IsInterp classes properties i → IsReadingOf nodes properties i m
    → All (Holds i) axioms ↔ All (HoldsIn m) over

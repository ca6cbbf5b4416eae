-- What an axiom over nodes and roles says of them.
use Rattle.std.specs.Prelude.{◌≡◌, ◌≢◌, ℕ, ◌+◌, List, [], ◌∷◌, Some, slice_get, Contains, ◌⊎◌}
use Rattle.concept_store.specs.declared.types.NodeAxiom.{NodeAxiom}
use Rattle.concept_store.specs.declared.types.NodeAxiom.TheVariants.{SubClass, Equivalent, Disjoint, SubRole, EquivalentRoles, Transitive, Reflexive, Domain}

-- node c is within node d
abbrev pub Includes : NodeAxiom → ℕ → ℕ → Type 0
Includes (SubClass a b) c d = (a ≡ c) × (b ≡ d)
Includes (Equivalent cs) c d = Contains cs c × Contains cs d
Includes _ c d = ⊥

-- c and d are operands of a disjointness at two different positions
abbrev pub Separates : NodeAxiom → ℕ → ℕ → Type 0
Separates (Disjoint cs) c d =
    (i j : ℕ) × (i ≢ j) × (slice_get cs i ≡ Some c) × (slice_get cs j ≡ Some d)
Separates _ c d = ⊥

-- role r is within role s
abbrev pub IncludesRole : NodeAxiom → ℕ → ℕ → Type 0
IncludesRole (SubRole chain into first) r s = (chain ≡ r ∷ []) × (into ≡ s)
IncludesRole (EquivalentRoles rs) r s = Contains rs r × Contains rs s
IncludesRole _ r s = ⊥

-- a chain of which a front was passed, as one role, and `rest` is to come joins r and s to t: the
-- front and each next role lead to the part of the chain that ends with it, the last role to the
-- role that the whole chain is within
abbrev pub JoinsAlong : ℕ → List ℕ → ℕ → ℕ → ℕ → ℕ → ℕ → Type 0
JoinsAlong front [] part into r s t = ⊥
JoinsAlong front (next ∷ []) part into r s t = (front ≡ r) × (next ≡ s) × (into ≡ t)
JoinsAlong front (next ∷ more ∷ rest) part into r s t =
    ((front ≡ r) × (next ≡ s) × (part ≡ t)) ⊎ JoinsAlong part (more ∷ rest) (part + 1) into r s t

-- role r and then role s are within role t
abbrev pub Joins : NodeAxiom → ℕ → ℕ → ℕ → Type 0
Joins (Transitive q) r s t = (q ≡ r) × (q ≡ s) × (q ≡ t)
Joins (SubRole [] into first) r s t = ⊥
Joins (SubRole (role ∷ rest) into first) r s t = JoinsAlong role rest first into r s t
Joins _ r s t = ⊥

-- every element is related to itself by role r
abbrev pub MakesReflexive : NodeAxiom → ℕ → Type 0
MakesReflexive (Reflexive q) r = q ≡ r
MakesReflexive _ r = ⊥

-- what role r leads from is in node c
abbrev pub HasDomain : NodeAxiom → ℕ → ℕ → Type 0
HasDomain (Domain q d) r c = (q ≡ r) × (d ≡ c)
HasDomain _ r c = ⊥

-- The axioms that rows have.
use Rattle.std.specs.Prelude.{ℕ, List, [], ◌∷◌, All, slice_index_or, ⊤}
use Rattle.concept_store.specs.declared.types.NodeAxiom.{NodeAxiom}
use Rattle.concept_store.specs.declared.types.NodeAxiom.TheVariants.{SubClass, SubRole}

-- an inclusion of nodes, or of one role in another
abbrev pub IsInclusion : NodeAxiom → Type 0
IsInclusion (SubClass low high) = ⊤
IsInclusion (SubRole (role ∷ []) into first) = ⊤
IsInclusion _ = ⊥

-- each axiom of each row is one
abbrev pub HaveRowsInclusions : List (List NodeAxiom) → Type 0
HaveRowsInclusions over = (rank : ℕ) → All IsInclusion (slice_index_or over rank [])

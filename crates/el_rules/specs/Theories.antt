-- The axioms of a case over its nodes, and how a reason names one of them.
use Rattle.std.specs.Prelude.{◌≡◌, ℕ, ◌+◌, List, [], Some, slice_get, slice_index_or, Contains, ⊤}
use Rattle.el_logic.specs.declared.types.Part.{Part}
use Rattle.concept_store.specs.declared.types.NodeAxiom.{NodeAxiom}
use Rattle.fact_table.specs.declared.types.Source.{Source}

-- the axioms of both documents and of the row with each rank
pub record Theory : Type 0 where
  pub left : List NodeAxiom
  pub right : List NodeAxiom
  pub rows : List (List NodeAxiom)

-- the axiom with this number, from 1
abbrev pub IsNumbered : List NodeAxiom → ℕ → NodeAxiom → Type 0
IsNumbered axioms number said = (k : ℕ) × (number ≡ k + 1) × (slice_get axioms k ≡ Some said)

-- the axiom that a source names
abbrev pub IsNamed : Theory → Source → NodeAxiom → Type 0
IsNamed theory (Source.Left number) said = IsNumbered theory.left number said
IsNamed theory (Source.Right number) said = IsNumbered theory.right number said
IsNamed theory (Source.Row rank number) said =
    IsNumbered (slice_index_or theory.rows rank []) number said
IsNamed theory Source.Nothing said = ⊥

-- the source is a document of the part, or a row with one of these ranks
abbrev pub IsSourceOf : Part → List ℕ → Source → Type 0
IsSourceOf Part.Right ranks (Source.Left number) = ⊥
IsSourceOf Part.Left ranks (Source.Right number) = ⊥
IsSourceOf part ranks (Source.Left number) = ⊤
IsSourceOf part ranks (Source.Right number) = ⊤
IsSourceOf part ranks (Source.Row rank number) = Contains ranks rank
IsSourceOf part ranks Source.Nothing = ⊥

-- the axiom that a source names, if it is of the part or of the ranks
abbrev pub IsNamedBy : Theory → Part → List ℕ → Source → NodeAxiom → Type 0
IsNamedBy theory part ranks source said =
    IsSourceOf part ranks source × IsNamed theory source said

-- an axiom of the part or of the ranks
abbrev pub IsStated : Theory → Part → List ℕ → NodeAxiom → Type 0
IsStated theory part ranks said = (source : Source) × IsNamedBy theory part ranks source said

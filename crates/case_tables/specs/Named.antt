-- The axioms of a case that a source names.
use Rattle.std.specs.Prelude.{if◌then◌else◌, ◌≡◌, ℕ, ◌<◌, Some, length, slice_get, ⊤}
use Rattle.concept_store.specs.declared.types.Node.{Node}
use Rattle.concept_store.specs.declared.types.Node.TheVariants.{And}
use Rattle.concept_store.specs.declared.types.NodeAxiom.{NodeAxiom}
use Rattle.concept_store.specs.declared.types.NodeAxiom.TheVariants.{Disjoint}
use Rattle.fact_table.specs.declared.types.Source.{Source}
use Rattle.el_rules.specs.Theories.{IsNamed}
use Rattle.case_tables.specs.declared.types.Whole.{Whole}
use Rattle.case_file.specs.Cases.{CaseView, theory_of}

-- a row that the source names has a rank of the case
abbrev pub HasRank : CaseView → Source → Type 0
HasRank case (Source.Row rank number) = rank < length case.order
HasRank case _ = ⊤

-- the axiom of the case that a source names
abbrev pub IsNamedIn : CaseView → Source → NodeAxiom → Type 0
IsNamedIn case source said = IsNamed (theory_of case) source said × HasRank case source

-- the node is the operand of a disjointness at this position
abbrev pub IsOperandAt : NodeAxiom → ℕ → ℕ → Type 0
IsOperandAt (Disjoint nodes) position node = slice_get nodes position ≡ Some node
IsOperandAt _ position node = ⊥

-- the intersection of which the node is a part at the entry's side
abbrev pub intersection_of : ℕ → Whole → Node
intersection_of node whole = if whole.is_left then And node whole.other else And whole.other node

-- What facts are derived from: the nodes of a case, and the axioms of it that count.
use Rattle.std.specs.Prelude.{◌≤◌, ℕ, List, Option, Some, None, ⊤}
use Rattle.el_logic.specs.declared.types.Part.{Part}
use Rattle.concept_store.specs.declared.types.Node.{Node}
use Rattle.concept_store.specs.declared.types.NodeAxiom.{NodeAxiom}
use Rattle.fact_table.specs.declared.types.Source.{Source}
use Rattle.el_rules.specs.Theories.{IsNamed, IsSourceOf}
use Rattle.case_file.specs.Cases.{CaseView, theory_of}

-- a case, the part of its documents whose axioms count, and the ranks of the rows that count
pub record GroundsView : Type 0 where
  pub case : CaseView
  pub part : Part
  pub ranks : List ℕ

abbrev pub nodes_of : GroundsView → List Node
nodes_of grounds = grounds.case.store.nodes

-- axioms of this source count
abbrev pub IsCounting : GroundsView → Source → Type 0
IsCounting grounds source = IsSourceOf grounds.part grounds.ranks source

-- the source is a row with this rank or a later one; if no rank is given, any source
abbrev pub IsSince : Option ℕ → Source → Type 0
IsSince None source = ⊤
IsSince (Some first) (Source.Row rank number) = first ≤ rank
IsSince (Some first) _ = ⊥

-- an axiom that counts and is of such a source
abbrev pub IsCountedSince : Option ℕ → GroundsView → NodeAxiom → Type 0
IsCountedSince first grounds said = (source : Source)
    × ((IsSince first source × IsCounting grounds source)
    × IsNamed (theory_of grounds.case) source said)

-- an axiom that counts
abbrev pub IsCounted : GroundsView → NodeAxiom → Type 0
IsCounted grounds said = (source : Source)
    × (IsCounting grounds source × IsNamed (theory_of grounds.case) source said)

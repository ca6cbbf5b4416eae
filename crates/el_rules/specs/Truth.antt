-- What facts mean in a reading of the nodes.
use Rattle.std.specs.Prelude.{ℕ, List}
use Rattle.concept_store.specs.Nodes.{IsNode}
use Rattle.concept_store.specs.Reading.{Reading, IsReading, IsIn, AreLinked, IsWithin, HoldsIn, ReadsParts}
use Rattle.concept_store.specs.declared.types.Node.{Node}
use Rattle.concept_store.specs.declared.types.Node.TheVariants.{Top, Bottom}
use Rattle.concept_store.specs.declared.types.NodeAxiom.{NodeAxiom}
use Rattle.fact_table.specs.declared.types.Fact.{Fact}
use Rattle.fact_table.specs.declared.types.Fact.TheVariants.{Sub, Link}

-- the fact is true: each member of the first node is one of the second, or leads by the role to one
abbrev pub IsTrueIn : Reading → Fact → Type 0
IsTrueIn m (Sub a b) = IsWithin m a b
IsTrueIn m (Link a r b) = (x : ℕ) → IsIn m a x → (y : ℕ) × AreLinked m r x y × IsIn m b y

-- a reading of nodes in which the named axioms hold. Node 0 is owl:Thing, node 1 owl:Nothing, and
-- the parts of chains are the compositions that they stand for.
pub record IsModelOf (nodes : List Node) (Named : NodeAxiom → Type 0) (m : Reading) : Type 0 where
  pub reading : IsReading nodes m
  pub thing : IsNode nodes 0 Top
  pub nothing : IsNode nodes 1 Bottom
  pub holds : (said : NodeAxiom) → Named said → HoldsIn m said
  pub parts : (said : NodeAxiom) → Named said → ReadsParts m said

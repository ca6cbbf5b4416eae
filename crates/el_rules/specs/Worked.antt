-- A small case to try the rules in.
use Rattle.std.specs.Prelude.{List, [], ◌∷◌, Contains}
use Rattle.concept_store.specs.declared.types.Node.{Node}
use Rattle.concept_store.specs.declared.types.Node.TheVariants.{Top, Bottom, Class, And, Exists}
use Rattle.concept_store.specs.declared.types.NodeAxiom.{NodeAxiom}
use Rattle.fact_table.specs.declared.types.Fact.{Fact}
use Rattle.fact_table.specs.declared.types.Rule.{Rule}
use Rattle.el_rules.specs.Rules.{Gives}

-- two class names, nodes 2 and 3; their intersection, node 4; what role 0 leads from into the
-- first, node 5
abbrev pub few_nodes : List Node
few_nodes = Top ∷ Bottom ∷ Class 0 ∷ Class 1 ∷ And 2 3 ∷ Exists 0 2 ∷ []

-- the rule gives the fact by this axiom alone from one first and one second premise
abbrev pub GivesBy : NodeAxiom → Fact → Fact → Rule → Fact → Type 0
GivesBy said one two rule fact =
    Gives few_nodes (Contains (said ∷ [])) (Contains (one ∷ [])) (Contains (two ∷ [])) rule fact

-- the rule gives the fact from such premises, by no axiom
abbrev pub GivesFrom : Fact → Fact → Rule → Fact → Type 0
GivesFrom one two rule fact =
    Gives few_nodes (Contains []) (Contains (one ∷ [])) (Contains (two ∷ [])) rule fact

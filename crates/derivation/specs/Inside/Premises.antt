-- What a rule gives from at most two facts and one axiom.
use Rattle.std.specs.Prelude.{List, Option}
use Rattle.concept_store.specs.declared.types.Node.{Node}
use Rattle.concept_store.specs.declared.types.NodeAxiom.{NodeAxiom}
use Rattle.fact_table.specs.declared.types.Fact.{Fact}
use Rattle.fact_table.specs.declared.types.Rule.{Rule}
use Rattle.el_rules.specs.Rules.{Gives}
use Rattle.derivation.specs.Inside.Answers.{Is}

-- the rule gives the fact from a first and a second premise and an axiom, if there are any
abbrev pub GivesFrom : List Node → Option NodeAxiom → Option Fact → Option Fact → Rule → Fact
    → Type 0
GivesFrom nodes said one two rule fact = Gives nodes (Is said) (Is one) (Is two) rule fact

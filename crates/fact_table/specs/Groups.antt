-- The nodes and groups of facts.
use Rattle.std.specs.Prelude.{ℕ}
use Rattle.fact_table.specs.declared.types.Fact.{Fact}
use Rattle.fact_table.specs.declared.types.Fact.TheVariants.{Sub, Link}
use Rattle.fact_table.specs.declared.types.FactSide.{FactSide}
use Rattle.fact_table.specs.declared.types.FactSide.TheVariants.{From, Into}
use Rattle.fact_table.specs.declared.types.FactGroup.{FactGroup}
use Rattle.fact_table.specs.declared.types.FactGroup.TheVariants.{Subs, Links}

-- the node of a fact at one side
abbrev pub node_at : FactSide → Fact → ℕ
node_at From (Sub a b) = a
node_at From (Link a r b) = a
node_at Into (Sub a b) = b
node_at Into (Link a r b) = b

-- the group of a fact at one side: its kind, its node there and the role of a link
abbrev pub group_at : FactSide → Fact → FactGroup
group_at From (Sub a b) = Subs a
group_at From (Link a r b) = Links a r
group_at Into (Sub a b) = Subs b
group_at Into (Link a r b) = Links b r

-- Which node stands for a class expression.
use Rattle.std.specs.Prelude.{ℕ, List}
use Rattle.concept_store.specs.declared.types.Node.{Node}
use Rattle.concept_store.specs.declared.types.Node.TheVariants.{Top, Bottom, Class, And, Exists}
use Rattle.concept_store.specs.Trees.{Tree, thing, nothing, name, both, some}
use Rattle.concept_store.specs.Nodes.{IsNode}

-- node n stands for the tree: it has the numbers of nodes that stand for the parts
abbrev pub StandsFor : List Node → ℕ → Tree → Type 0
StandsFor nodes n thing = IsNode nodes n Top
StandsFor nodes n nothing = IsNode nodes n Bottom
StandsFor nodes n (name class) = IsNode nodes n (Class class)
StandsFor nodes n (both one other) =
    (c d : ℕ) × StandsFor nodes c one × StandsFor nodes d other × IsNode nodes n (And c d)
StandsFor nodes n (some role filler) =
    (c : ℕ) × StandsFor nodes c filler × IsNode nodes n (Exists role c)

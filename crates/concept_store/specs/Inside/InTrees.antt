-- The members of a tree.
use Rattle.std.specs.Prelude.{ℕ, ◌<◌, Contains}
use Rattle.el_logic.specs.declared.types.Interp.{Interp}
use Rattle.el_logic.specs.Meaning.{members_of, AreRelated}
use Rattle.concept_store.specs.Trees.{Tree, thing, nothing, name, both, some}

abbrev pub InTree : Interp → ℕ → Tree → Type 0
InTree i x thing = x < i.size
InTree i x nothing = ⊥
InTree i x (name class) = Contains (members_of i class) x
InTree i x (both one other) = InTree i x one × InTree i x other
InTree i x (some role filler) = (y : ℕ) × AreRelated i role x y × InTree i y filler

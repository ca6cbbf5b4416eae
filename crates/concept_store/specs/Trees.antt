-- Class expressions with intersections of two, and the order in which their compound parts are met.
use Rattle.std.specs.Prelude.{ℕ, ◌<◌, ◌==◌, Bool, true, false, ◌&&◌, if◌then◌else◌, List, [], ◌∷◌, ◌++◌, fold, ⊤}
use Rattle.std.specs.List.{list_any, position_or_len}
use Rattle.el_logic.specs.declared.types.Expr.{Expr, Row_of-Expr, end_of-Expr, more_of-Expr}
use Rattle.el_logic.specs.declared.types.Expr.TheVariants.{Top, Bottom, Name, And', Exists'}

-- a class expression in which each intersection is of two
pub data Tree : Type 0 where
  thing : Tree
  nothing : Tree
  name : ℕ → Tree
  both : Tree → Tree → Tree
  some : ℕ → Tree → Tree

abbrev mutual
  -- the tree of an expression: an intersection is folded from the left
  pub tree_of : Expr → Tree
  tree_of Top = thing
  tree_of Bottom = nothing
  tree_of (Name class) = name class
  tree_of (And' _ operands) = intersection_of operands
  tree_of (Exists' role _ (more_of-Expr filler _)) = some role (tree_of filler)

  -- an intersection of one is that one, and one of none is owl:Thing
  pub intersection_of : {n : _} → Row_of-Expr n → Tree
  intersection_of end_of-Expr = thing
  intersection_of (more_of-Expr operand operands) = folded (tree_of operand) operands

  pub folded : {n : _} → Tree → Row_of-Expr n → Tree
  folded tree end_of-Expr = tree
  folded tree (more_of-Expr operand operands) = folded (both tree (tree_of operand)) operands

-- the compound parts of a tree, each after its own parts, and the tree itself last
abbrev pub compounds : Tree → List Tree
compounds (both one other) = compounds one ++ compounds other ++ both one other ∷ []
compounds (some role filler) = compounds filler ++ some role filler ∷ []
compounds _ = []

-- the names in a tree are among this number of classes and of properties
abbrev pub IsTreeOver : ℕ → ℕ → Tree → Type 0
IsTreeOver classes roles (name class) = class < classes
IsTreeOver classes roles (both one other) = IsTreeOver classes roles one × IsTreeOver classes roles other
IsTreeOver classes roles (some role filler) = (role < roles) × IsTreeOver classes roles filler
IsTreeOver classes roles _ = ⊤

abbrev pub same_tree : Tree → Tree → Bool
same_tree thing thing = true
same_tree nothing nothing = true
same_tree (name a) (name b) = a == b
same_tree (both a b) (both c d) = same_tree a c && same_tree b d
same_tree (some r a) (some s b) = (r == s) && same_tree a b
same_tree _ _ = false

-- the number of a tree in a list of trees: its place
abbrev pub place_of : Tree → List Tree → ℕ
place_of tree trees = position_or_len (same_tree tree) trees

-- the trees, and one more unless it is among them
abbrev pub with_tree : List Tree → Tree → List Tree
with_tree trees tree = if list_any (same_tree tree) trees then trees else trees ++ tree ∷ []

abbrev pub with_trees : List Tree → List Tree → List Tree
with_trees trees more = fold with_tree trees more

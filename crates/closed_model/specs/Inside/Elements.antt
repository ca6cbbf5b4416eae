-- The nodes that may have a member, as elements.
use Rattle.std.specs.Prelude.{◌≡◌, ℕ, zero, suc, ◌+◌, if◌then◌else◌, List, [], ◌∷◌, ◌++◌, Option, Some, None, slice_get}
use Rattle.fact_table.specs.declared.types.Fact.{Fact}
use Rattle.fact_table.specs.declared.types.Fact.TheVariants.{Sub}
use Rattle.el_rules.specs.Closing.{has_fact}

-- the element that a node is, if it may have a member: this one
abbrev pub number_of : List Fact → ℕ → ℕ → Option ℕ
number_of facts node element = if has_fact facts (Sub node 1) then None else Some element

-- how many of the first nodes may have a member
abbrev pub live_count : List Fact → ℕ → ℕ
live_count facts zero = 0
live_count facts (suc node) =
    if has_fact facts (Sub node 1) then live_count facts node else live_count facts node + 1

-- the elements that the first nodes are
abbrev pub numbers_of : List Fact → ℕ → List (Option ℕ)
numbers_of facts zero = []
numbers_of facts (suc node) =
    numbers_of facts node ++ number_of facts node (live_count facts node) ∷ []

-- each live node is the element at its place, and no other node is one
pub record AreNumbered (live : List ℕ) (numbers : List (Option ℕ)) : Type 0 where
  pub there : (x node : ℕ) → slice_get live x ≡ Some node → slice_get numbers node ≡ Some (Some x)
  pub back : (node x : ℕ) → slice_get numbers node ≡ Some (Some x) → slice_get live x ≡ Some node

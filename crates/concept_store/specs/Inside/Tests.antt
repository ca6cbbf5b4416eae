-- A reading of an interpretation, by tests over its lists.
use Rattle.std.specs.Prelude.{ℕ, ◌+◌, ◌-◌, Bool, false, ◌&&◌, ◌==◌, nat_lt, if◌then◌else◌, List, [], ◌∷◌, take, Option, Some, None, slice_get}
use Rattle.std.specs.List.{list_any}
use Rattle.el_logic.specs.declared.types.Axiom.{Axiom}
use Rattle.el_logic.specs.declared.types.Axiom.TheVariants as A
use Rattle.el_logic.specs.declared.types.Interp.{Interp}
use Rattle.el_logic.specs.Meaning.{members_of, pairs_of}
use Rattle.concept_store.specs.Trees.{Tree, thing, nothing, name, both, some}
use Rattle.concept_store.specs.Nodes.{part_count}
use Rattle.concept_store.specs.Reading.{Reading}

-- the element is a member of the tree
abbrev pub is_in_tree : Interp → ℕ → Tree → Bool
is_in_tree i x thing = nat_lt x i.size
is_in_tree i x nothing = false
is_in_tree i x (name class) = list_any (λ y. x == y) (members_of i class)
is_in_tree i x (both one other) = is_in_tree i x one && is_in_tree i x other
is_in_tree i x (some role filler) = list_any (λ p. (p.0 == x) && is_in_tree i p.1 filler) (pairs_of i role)

abbrev pub is_in_tree_at : Interp → ℕ → Option Tree → Bool
is_in_tree_at i x None = false
is_in_tree_at i x (Some tree) = is_in_tree i x tree

-- the property relates the two
abbrev pub is_pair : Interp → ℕ → ℕ → ℕ → Bool
is_pair i role x y = list_any (λ p. (p.0 == x) && (p.1 == y)) (pairs_of i role)

-- the chain of properties leads from the first to the second
abbrev pub leads : Interp → List ℕ → ℕ → ℕ → Bool
leads i [] x y = x == y
leads i (role ∷ chain) x y = list_any (λ p. (p.0 == x) && leads i chain p.1 y) (pairs_of i role)

abbrev pub chain_in : Axiom → List ℕ
chain_in (A.SubRole chain role) = chain
chain_in _ = []

-- the front of a chain that a role stands for; the parts of these axioms have numbers from `first` on
abbrev pub front_at : ℕ → List Axiom → ℕ → List ℕ
front_at first [] role = []
front_at first (axiom' ∷ axioms) role =
    if nat_lt role (first + part_count axiom') then take ((role - first) + 2) (chain_in axiom')
    else front_at (first + part_count axiom') axioms role

-- the reading of an interpretation over these trees, where roles past the properties are fronts of chains
abbrev pub reading_by : List Tree → ℕ → (ℕ → List ℕ) → Interp → Reading
reading_by trees properties front i = record {
  size = i.size;
  member = λ n x. nat_lt x i.size && is_in_tree_at i x (slice_get trees n);
  pair = λ r x y. nat_lt x i.size && nat_lt y i.size
      && (if nat_lt r properties then is_pair i r x y else leads i (front r) x y);
}

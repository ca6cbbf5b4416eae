-- The reading of the nodes that closed facts say: its elements are the nodes that may have a member.
use Rattle.std.specs.Prelude.{◌≡◌, ℕ, suc, zero, ◌+◌, ◌<◌, Bool, false, ◌&&◌, ◌==◌, nat_lt, if◌then◌else◌, List, [], ◌∷◌, length, slice_index_or, ⊤}
use Rattle.std.specs.List.{list_any}
use Rattle.concept_store.specs.Nodes.{IsNode}
use Rattle.concept_store.specs.Reading.{Reading}
use Rattle.concept_store.specs.declared.types.Node.{Node}
use Rattle.concept_store.specs.declared.types.Node.TheVariants.{Top, Bottom, And, Exists}
use Rattle.concept_store.specs.declared.types.NodeAxiom.{NodeAxiom}
use Rattle.concept_store.specs.declared.types.NodeAxiom.TheVariants.{SubRole}
use Rattle.fact_table.specs.declared.types.Fact.{Fact}
use Rattle.fact_table.specs.declared.types.Fact.TheVariants.{Sub, Link}

abbrev pub same_fact : Fact → Fact → Bool
same_fact (Sub a b) (Sub c d) = (a == c) && (b == d)
same_fact (Link a r b) (Link c s d) = (a == c) && (r == s) && (b == d)
same_fact _ _ = false

-- the fact is one of these
abbrev pub has_fact : List Fact → Fact → Bool
has_fact facts fact = list_any (same_fact fact) facts

-- of this number of nodes from one on, those that the facts do not put within owl:Nothing
abbrev pub live_from : List Fact → ℕ → ℕ → List ℕ
live_from facts node zero = []
live_from facts node (suc count) =
    if has_fact facts (Sub node 1) then live_from facts (node + 1) count
    else node ∷ live_from facts (node + 1) count

-- the nodes that may have a member, in order
abbrev pub live_nodes : List Node → List Fact → List ℕ
live_nodes nodes facts = live_from facts 0 (length nodes)

-- the reading: element x is the live node at place x. It is in each node that the facts put it
-- within, and a role relates it to each live node to which the facts link it.
abbrev pub said_at : List Fact → List ℕ → Reading
said_at facts live = record {
  size = length live;
  member = λ node x. nat_lt x (length live) && has_fact facts (Sub (slice_index_or live x 0) node);
  pair = λ role x y. nat_lt x (length live) && nat_lt y (length live)
      && has_fact facts (Link (slice_index_or live x 0) role (slice_index_or live y 0));
}

abbrev pub said_by : List Node → List Fact → Reading
said_by nodes facts = said_at facts (live_nodes nodes facts)

-- node 0 alone is owl:Thing and node 1 alone owl:Nothing, and the parts of each node are nodes
pub record AreNodes (nodes : List Node) : Type 0 where
  pub thing : IsNode nodes 0 Top
  pub nothing : IsNode nodes 1 Bottom
  pub one_thing : (n : ℕ) → IsNode nodes n Top → n ≡ 0
  pub one_nothing : (n : ℕ) → IsNode nodes n Bottom → n ≡ 1
  pub both : (n c d : ℕ) → IsNode nodes n (And c d) → (c < length nodes) × (d < length nodes)
  pub some : (n r c : ℕ) → IsNode nodes n (Exists r c) → c < length nodes

-- a chain has a role
abbrev pub HasRole : NodeAxiom → Type 0
HasRole (SubRole [] into first) = ⊥
HasRole _ = ⊤

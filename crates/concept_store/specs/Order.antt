-- In which order nodes stand.
use Rattle.std.specs.Prelude.{◌≡◌, ℕ, ◌+◌, ◌<◌, List}
use Rattle.concept_store.specs.declared.types.Node.{Node}
use Rattle.concept_store.specs.declared.types.Node.TheVariants.{Top, Bottom, Class, And, Exists}
use Rattle.concept_store.specs.Nodes.{IsNode}

-- no node stands twice, owl:Thing, owl:Nothing and the class names come first, and each part of a
-- node stands before it
pub record AreInOrder (classes properties : ℕ) (nodes : List Node) : Type 0 where
  pub once : (one other : ℕ) (node : Node) → IsNode nodes one node → IsNode nodes other node → one ≡ other
  pub thing : IsNode nodes 0 Top
  pub nothing : IsNode nodes 1 Bottom
  pub names : (k : ℕ) → k < classes → IsNode nodes (k + 2) (Class k)
  pub no_other_name : (n k : ℕ) → IsNode nodes n (Class k) → k < classes
  pub both : (n c d : ℕ) → IsNode nodes n (And c d) → (c < n) × (d < n)
  pub some : (n r c : ℕ) → IsNode nodes n (Exists r c) → (r < properties) × (c < n)

-- The node that is found for a tree is the one that stands for it.
use Rattle.std.proofs.Common.{◌≡◌, ℕ, zero, suc, ◌+◌, ◌<◌, ◌≤◌, Bool, true, false, not, cond, nat_lt, List, [], ◌∷◌, length, Option, Some, None, position, refl, sym, ap, subst, ◌∙◌, arith}
use Rattle.std.specs.Prelude.{◌↔◌}
use Rattle.std.specs.List.{position_or_len}
use Rattle.std.specs.Option.{option_and_then}
use Rattle.std.proofs.lemmas.Bool.{lt-ltb, ltb-true}
use Rattle.std.proofs.lemmas.Option.{same_Some, none-some, cond_some, slice_get_within, option_and_then_some}
use Rattle.el_logic.specs.declared.types.Interp.{Interp}
use Rattle.el_logic.specs.declared.types.Expr.{Expr}
use Rattle.el_logic.specs.Meaning.{IsInterp, IsMember}
use Rattle.concept_store.specs.declared.types.Node.{Node}
use Rattle.concept_store.specs.declared.types.Node.TheVariants.{Top, Bottom, Class, And, Exists}
use Rattle.concept_store.specs.Trees.{Tree, thing, nothing, name, both, some, tree_of, IsTreeOver}
use Rattle.concept_store.specs.Nodes.{IsNode, same_node, node_for}
use Rattle.concept_store.specs.Order.{AreInOrder}
use Rattle.concept_store.specs.Standing.{StandsFor}
use Rattle.concept_store.specs.Reading.{Reading, IsIn, IsReadingOf}
use Rattle.concept_store.specs.Inside.SameNodes.{same_node_equal, same_node_itself}
use Rattle.concept_store.specs.Inside.InTrees.{InTree}
use Rattle.concept_store.proofs.TreeLaws.{one_more}
use Rattle.concept_store.proofs.MeaningLaws.{to_tree, from_tree}

-- a node that is there stands at its place
node_there : (node : Node) (nodes : List Node) → position_or_len (same_node node) nodes < length nodes → IsNode nodes (position_or_len (same_node node) nodes) node
node_there node [] there = absurd (omega arith)
node_there node (first ∷ nodes) there = by (same_node node first) refl (node_there node nodes) there
  where
    by : (b : Bool) → same_node node first ≡ b → (position_or_len (same_node node) nodes < length nodes → IsNode nodes (position_or_len (same_node node) nodes) node)
        → cond (not b) (1 + position_or_len (same_node node) nodes) 0 < length (first ∷ nodes) → IsNode (first ∷ nodes) (cond (not b) (1 + position_or_len (same_node node) nodes) 0) node
    by true same rest h = ap Some (sym (same_node_equal node first same))
    by false same rest h = rw one_more (rest (omega arith))

-- and no later than any place at which it stands
node_first : (node : Node) (nodes : List Node) (n : ℕ) → IsNode nodes n node → position_or_len (same_node node) nodes ≤ n
node_first node [] n at = absurd (none-some node at)
node_first node (first ∷ nodes) zero at =
    let same : same_node node first ≡ true = ap (same_node node) (same_Some first node at) ∙ same_node_itself node in
    let zero_is : position_or_len (same_node node) (first ∷ nodes) ≡ 0 = ap (λ b. cond (not b) (1 + position_or_len (same_node node) nodes) 0) same in
    omega arith
node_first node (first ∷ nodes) (suc n) at = by (same_node node first) (node_first node nodes n at)
  where
    by : (b : Bool) → position_or_len (same_node node) nodes ≤ n → cond (not b) (1 + position_or_len (same_node node) nodes) 0 ≤ suc n
    by true rest = omega arith
    by false rest = omega arith

-- the place that is found has the node
found_is : (nodes : List Node) (node : Node) (n : ℕ) → position (same_node node) nodes ≡ Some n → IsNode nodes n node
found_is nodes node n found =
    let place = position_or_len (same_node node) nodes in
    let parts = cond_some (nat_lt place (length nodes)) place n found in
    subst (λ k. IsNode nodes k node) parts.1 (node_there node nodes (ltb-true place (length nodes) parts.0))

-- what is found stands for the tree
stands : (nodes : List Node) (tree : Tree) (n : ℕ) → node_for nodes tree ≡ Some n → StandsFor nodes n tree
stands nodes thing n found = found_is nodes Top n found
stands nodes nothing n found = found_is nodes Bottom n found
stands nodes (name class) n found = found_is nodes (Class class) n found
stands nodes (both one other) n found =
    option_and_then_some (λ a. option_and_then (λ b. position (same_node (And a b)) nodes) (node_for nodes other)) (node_for nodes one) n found
    (λ c first rest. option_and_then_some (λ b. position (same_node (And c b)) nodes) (node_for nodes other) n rest
    (λ d second last. (c, d, stands nodes one c first, stands nodes other d second, found_is nodes (And c d) n last)))
stands nodes (some role filler) n found =
    option_and_then_some (λ inner. position (same_node (Exists role inner)) nodes) (node_for nodes filler) n found
    (λ c first last. (c, stands nodes filler c first, found_is nodes (Exists role c) n last))

module _ (classes properties : ℕ) (nodes : List Node) (order : AreInOrder classes properties nodes) where
  -- a node is found at its place
  is_found : (node : Node) (n : ℕ) → IsNode nodes n node → position (same_node node) nodes ≡ Some n
  is_found node n at =
      let place = position_or_len (same_node node) nodes in
      let below : place < length nodes = omega (arith, node_first node nodes n at, slice_get_within nodes n node at) in
      let same = order.once place n node (node_there node nodes below) at in
      ap (λ b. cond b (Some place) None) (lt-ltb place (length nodes) below) ∙ ap Some same

  -- what stands for the tree is found
  is_found_for : (tree : Tree) (n : ℕ) → StandsFor nodes n tree → node_for nodes tree ≡ Some n
  is_found_for thing n at = is_found Top n at
  is_found_for nothing n at = is_found Bottom n at
  is_found_for (name class) n at = is_found (Class class) n at
  is_found_for (both one other) n (c, d, first, second, at) =
      ap (option_and_then (λ a. option_and_then (λ b. position (same_node (And a b)) nodes) (node_for nodes other))) (is_found_for one c first)
      ∙ ap (option_and_then (λ b. position (same_node (And c b)) nodes)) (is_found_for other d second)
      ∙ is_found (And c d) n at
  is_found_for (some role filler) n (c, first, at) =
      ap (option_and_then (λ inner. position (same_node (Exists role inner)) nodes)) (is_found_for filler c first) ∙ is_found (Exists role c) n at

  -- a node is found exactly where it stands for the tree
  pub found_where : (tree : Tree) (n : ℕ) → (node_for nodes tree ≡ Some n) ↔ StandsFor nodes n tree
  found_where tree n = (stands nodes tree n, is_found_for tree n)

  -- and none exactly where none does
  pub none_where : (tree : Tree) → (node_for nodes tree ≡ None) ↔ ((n : ℕ) → ¬ (StandsFor nodes n tree))
  none_where tree = (λ none n at. none-some n (sym none ∙ is_found_for tree n at), λ none. by none (node_for nodes tree) refl)
    where
      by : ((n : ℕ) → ¬ (StandsFor nodes n tree)) → (found : Option ℕ) → node_for nodes tree ≡ found → node_for nodes tree ≡ None
      by none None found = found
      by none (Some n) found = absurd (none n (stands nodes tree n found))

module _ (classes properties : ℕ) (nodes : List Node) (i : Interp) (m : Reading) (is : IsInterp classes properties i) (reads : IsReadingOf nodes properties i m) where
  -- the elements of a node are members of the tree that it stands for
  to_members : (tree : Tree) → IsTreeOver classes properties tree → (n x : ℕ) → StandsFor nodes n tree → IsIn m n x → InTree i x tree
  to_members thing names n x at h = subst (λ k. x < k) reads.size (reads.reading.inside n x h)
  to_members nothing names n x at h = reads.reading.bottom n x at h
  to_members (name k) names n x at h = (reads.classes n k x at).0 h
  to_members (both one other) names n x (c, d, first, second, at) h =
      let both_in = (reads.reading.both n c d x at).0 h in
      (to_members one names.0 c x first both_in.0, to_members other names.1 d x second both_in.1)
  to_members (some r filler) names n x (c, first, at) h =
      let led = (reads.reading.some n r c x at).0 h in
      (led.0, (reads.roles r x led.0 names.0).0 led.1, to_members filler names.1 c led.0 first led.2)

  -- and its members are elements of the node
  from_members : (tree : Tree) → IsTreeOver classes properties tree → (n x : ℕ) → StandsFor nodes n tree → InTree i x tree → IsIn m n x
  from_members thing names n x at h = reads.reading.top n x at (subst (λ k. x < k) (sym reads.size) h)
  from_members nothing names n x at h = absurd h
  from_members (name k) names n x at h = (reads.classes n k x at).1 h
  from_members (both one other) names n x (c, d, first, second, at) h =
      (reads.reading.both n c d x at).1 (from_members one names.0 c x first h.0, from_members other names.1 d x second h.1)
  from_members (some r filler) names n x (c, first, at) (y, p, h) =
      (reads.reading.some n r c x at).1 (y, (reads.roles r x y names.0).1 p, from_members filler names.1 c y first h)

  -- so are those of the expression
  pub members_of_node : (expr : Expr) (n x : ℕ) → IsTreeOver classes properties (tree_of expr) → StandsFor nodes n (tree_of expr) → IsIn m n x ↔ IsMember i x expr
  members_of_node expr n x names at = (
    (λ h. from_tree classes properties i is expr x (to_members (tree_of expr) names n x at h)),
    (λ h. from_members (tree_of expr) names n x at (to_tree classes properties i is expr x h)),
  )

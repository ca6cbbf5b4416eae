-- The nodes of a store stand in order.
use Rattle.std.proofs.Common.{◌≡◌, ℕ, ◌+◌, ◌<◌, List, Some, slice_get, sym, ap, subst, ◌∙◌, true, rules}
use Rattle.std.specs.Option.{option_map}
use Rattle.std.proofs.lemmas.Option.{slice_get-map}
use Rattle.el_logic.specs.declared.types.Axiom.{Axiom}
use Rattle.concept_store.specs.declared.types.Node.{Node}
use Rattle.concept_store.specs.declared.types.Node.TheVariants.{And, Exists}
use Rattle.concept_store.specs.Trees.{Tree, thing, nothing, name, both, some, place_of}
use Rattle.concept_store.specs.Nodes.{IsNode, same_node, trees_of, node_in, nodes_over}
use Rattle.concept_store.specs.Roles.{AreOver}
use Rattle.concept_store.specs.Order.{AreInOrder}
use Rattle.concept_store.specs.Inside.SameNodes.{same_node_itself}
use Rattle.concept_store.proofs.TreeLaws.{same_tree_equal, at_place}
use Rattle.concept_store.proofs.ForestLaws.{Has, HasPartsBefore, IsForest, has_at, same_shape}
use Rattle.concept_store.proofs.NumberingLaws.{thing_is, nothing_is, name_is}
use Rattle.concept_store.proofs.ReadingLaws.{mapped_at}
use Rattle.concept_store.proofs.OverTrees.{restricts_properties, names_below}
use Rattle.concept_store.proofs.BuildLaws.{right_are}

-- the parts of an intersection whose tree has its parts before a place
both_before : (trees : List Tree) (n c d : ℕ) (tree : Tree) → HasPartsBefore trees n tree → node_in trees tree ≡ And c d → (c < n) × (d < n)
both_before trees n c d (both one other) before same =
    let left : place_of one trees ≡ c = search (rules, same) in
    let right : place_of other trees ≡ d = search (rules, same) in
    (subst (λ k. k < n) left before.0, subst (λ k. k < n) right before.1)
both_before trees n c d thing before same = absurd (search (rules, same))
both_before trees n c d nothing before same = absurd (search (rules, same))
both_before trees n c d (name class) before same = absurd (search (rules, same))
both_before trees n c d (some role filler) before same = absurd (search (rules, same))

-- and the filler of a restriction
some_before : (trees : List Tree) (n r c : ℕ) (tree : Tree) → HasPartsBefore trees n tree → node_in trees tree ≡ Exists r c → c < n
some_before trees n r c (some role filler) before same = let here : place_of filler trees ≡ c = search (rules, same) in subst (λ k. k < n) here before
some_before trees n r c thing before same = absurd (search (rules, same))
some_before trees n r c nothing before same = absurd (search (rules, same))
some_before trees n r c (name class) before same = absurd (search (rules, same))
some_before trees n r c (both one other) before same = absurd (search (rules, same))

module _ (classes : ℕ) (trees : List Tree) (forest : IsForest classes trees) where
  -- a tree that is there has its node at its place
  node_at : (tree : Tree) (n : ℕ) → (place_of tree trees ≡ n) × Has trees tree → IsNode (nodes_over trees) n (node_in trees tree)
  node_at tree n is =
      slice_get-map (node_in trees) trees n
      ∙ ap (option_map (node_in trees)) (subst (λ k. slice_get trees k ≡ Some tree) is.0 (at_place tree trees is.1))

  -- places of one node are one place
  node_once : (one other : ℕ) (node : Node) → IsNode (nodes_over trees) one node → IsNode (nodes_over trees) other node → one ≡ other
  node_once one other node at_one at_other =
      let first = mapped_at (node_in trees) trees one node at_one in
      let second = mapped_at (node_in trees) trees other node at_other in
      let has_first = has_at trees one first.0 first.1 in
      let has_second = has_at trees other second.0 second.1 in
      let shape = same_shape trees first.0 second.0 (forest.parts first.0 has_first) (forest.parts second.0 has_second) in
      let nodes : node_in trees first.0 ≡ node_in trees second.0 = first.2 ∙ sym second.2 in
      let tested : same_node (node_in trees first.0) (node_in trees second.0) ≡ true =
      ap (same_node (node_in trees first.0)) (sym nodes) ∙ same_node_itself (node_in trees first.0) in
      let trees_equal : first.0 ≡ second.0 = same_tree_equal first.0 second.0 (sym shape ∙ tested) in
      sym (forest.once one first.0 first.1) ∙ ap (λ tree. place_of tree trees) trees_equal ∙ forest.once other second.0 second.1

-- so the nodes of a store stand in order
pub in_order : (classes roles : ℕ) (left right : List Axiom) → AreOver classes roles left → AreOver classes roles right → AreInOrder classes roles (nodes_over (trees_of classes left right))
in_order classes roles left right over_left over_right =
    let trees = trees_of classes left right in
    let forest = (right_are classes roles left right over_left over_right 0).forest in
    record {
      once = node_once classes trees forest;
      thing = node_at classes trees forest thing 0 (thing_is classes trees forest);
      nothing = node_at classes trees forest nothing 1 (nothing_is classes trees forest);
      names = λ k below. node_at classes trees forest (name k) (k + 2) (name_is classes trees forest k below);
      no_other_name = names_below classes roles left right over_left over_right;
      both = λ n c d at.
          let found = mapped_at (node_in trees) trees n (And c d) at in
          both_before trees n c d found.0 (forest.before n found.0 found.1) found.2;
      some = λ n r c at.
          let found = mapped_at (node_in trees) trees n (Exists r c) at in
          (restricts_properties classes roles left right over_left over_right n r c at, some_before trees n r c found.0 (forest.before n found.0 found.1) found.2);
    }

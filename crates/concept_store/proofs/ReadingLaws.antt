-- Each interpretation has a reading.
use Rattle.std.proofs.Common.{◌≡◌, ℕ, zero, suc, ◌<◌, true, ◌&&◌, nat_lt, List, [], ◌∷◌, length, map, Some, slice_get, All, Contains, refl, sym, ap, subst, ⊎_elim, arith, rules}
use Rattle.std.specs.Prelude.{◌↔◌, if◌then◌else◌}
use Rattle.std.proofs.lemmas.Bool.{and_parts, and_from, lt-ltb, ltb-true, cases_lt}
use Rattle.std.proofs.lemmas.Option.{same_Some}
use Rattle.std.proofs.lemmas.List.Elements.{All-contains, All-get_or}
use Rattle.std.proofs.Math.ListN.{get_or-eq_default}
use Rattle.el_logic.specs.declared.types.Interp.{Interp}
use Rattle.el_logic.specs.Meaning.{IsInterp, members_of, pairs_of, AreRelated}
use Rattle.concept_store.specs.declared.types.Node.{Node}
use Rattle.concept_store.specs.declared.types.Node.TheVariants.{Top, Bottom, Class, And, Exists}
use Rattle.concept_store.specs.Trees.{Tree, thing, nothing, name, both, some, place_of}
use Rattle.concept_store.specs.Nodes.{IsNode, node_in, nodes_over}
use Rattle.concept_store.specs.Reading.{IsReading, IsReadingOf, IsIn, AreLinked}
use Rattle.concept_store.specs.Inside.InTrees.{InTree}
use Rattle.concept_store.specs.Inside.Tests.{is_in_tree_at, is_pair, leads, reading_by}
use Rattle.concept_store.proofs.TreeLaws.{at_place}
use Rattle.concept_store.proofs.ForestLaws.{Has, IsForest, has_at}
use Rattle.concept_store.proofs.MeaningLaws.{in_tree_within}
use Rattle.concept_store.proofs.TestLaws.{in_tree_found, in_tree_finds, pair_found, pair_finds}

-- the tree that a node is made of
pub mapped_at : {X Y : Type 0} → (f : X → Y) (xs : List X) (n : ℕ) (y : Y) → slice_get (map f xs) n ≡ Some y → (x : X) × (slice_get xs n ≡ Some x) × (f x ≡ y)
mapped_at f [] n y at = absurd (search (rules, at))
mapped_at f (x ∷ xs) zero y at = (x, refl, same_Some (f x) y at)
mapped_at f (x ∷ xs) (suc n) y at = mapped_at f xs n y at

-- pairs are of elements
pub related_within : (classes properties : ℕ) (i : Interp) → IsInterp classes properties i → (r x y : ℕ) → AreRelated i r x y → (x < i.size) × (y < i.size)
related_within classes properties i is r x y related = ⊎_elim
    (λ l. All-contains (λ p. (p.0 < i.size) × (p.1 < i.size)) (pairs_of i r) (x, y) (All-get_or (All (λ p. (p.0 < i.size) × (p.1 < i.size))) i.roles r [] l is.pairs_below) related)
    (λ ge. absurd (none (pairs_of i r) (get_or-eq_default i.roles [] ge) related))
    (cases_lt r (length i.roles))
  where
    none : (ps : List (ℕ × ℕ)) → ps ≡ [] → Contains ps (x, y) → ⊥
    none ps e h = let l = h.1 in let z = ap length e in omega arith

module _ (classes properties : ℕ) (i : Interp) (is : IsInterp classes properties i) (trees : List Tree) (forest : IsForest classes trees) (front : ℕ → List ℕ) where
  -- an element is in a node if it is a member of its tree
  pub is_member : (n x : ℕ) (tree : Tree) → slice_get trees n ≡ Some tree → IsIn (reading_by trees properties front i) n x → InTree i x tree
  is_member n x tree at is_in =
      in_tree_found i tree x (subst (λ found. is_in_tree_at i x found ≡ true) at (and_parts (nat_lt x i.size) (is_in_tree_at i x (slice_get trees n)) is_in).1)

  pub member_is : (n x : ℕ) (tree : Tree) → slice_get trees n ≡ Some tree → InTree i x tree → IsIn (reading_by trees properties front i) n x
  member_is n x tree at member =
      and_from (nat_lt x i.size) (is_in_tree_at i x (slice_get trees n)) (lt-ltb x i.size (in_tree_within classes properties i is tree x member))
      (subst (λ found. is_in_tree_at i x found ≡ true) (sym at) (in_tree_finds i tree x member))

  -- a property relates two elements as in the interpretation
  pub is_related : (r x y : ℕ) → r < properties → AreLinked (reading_by trees properties front i) r x y → AreRelated i r x y
  is_related r x y small linked =
      let tested = (and_parts (nat_lt x i.size && nat_lt y i.size) (if nat_lt r properties then is_pair i r x y else leads i (front r) x y) linked).1 in
      pair_found i r x y (subst (λ b. (if b then is_pair i r x y else leads i (front r) x y) ≡ true) (lt-ltb r properties small) tested)

  pub related_is : (r x y : ℕ) → r < properties → AreRelated i r x y → AreLinked (reading_by trees properties front i) r x y
  related_is r x y small related =
      let within = related_within classes properties i is r x y related in
      and_from (nat_lt x i.size && nat_lt y i.size) (if nat_lt r properties then is_pair i r x y else leads i (front r) x y)
      (and_from (nat_lt x i.size) (nat_lt y i.size) (lt-ltb x i.size within.0) (lt-ltb y i.size within.1))
      (subst (λ b. (if b then is_pair i r x y else leads i (front r) x y) ≡ true) (sym (lt-ltb r properties small)) (pair_finds i r x y related))

  -- what each kind of node says of its tree
  pub thing_of : (tree : Tree) → node_in trees tree ≡ Top → tree ≡ thing
  thing_of thing same = refl
  thing_of nothing same = absurd (search (rules, same))
  thing_of (name class) same = absurd (search (rules, same))
  thing_of (both one other) same = absurd (search (rules, same))
  thing_of (some role filler) same = absurd (search (rules, same))

  pub in_nothing : (tree : Tree) (x : ℕ) → node_in trees tree ≡ Bottom → InTree i x tree → ⊥
  in_nothing nothing x same member = member
  in_nothing thing x same member = absurd (search (rules, same))
  in_nothing (name class) x same member = absurd (search (rules, same))
  in_nothing (both one other) x same member = absurd (search (rules, same))
  in_nothing (some role filler) x same member = absurd (search (rules, same))

  pub class_of : (tree : Tree) (k x : ℕ) → node_in trees tree ≡ Class k → InTree i x tree ↔ Contains (members_of i k) x
  class_of (name class) k x same =
      let equal : class ≡ k = search (rules, same) in
      (subst (λ c. Contains (members_of i c) x) equal, subst (λ c. Contains (members_of i c) x) (sym equal))
  class_of thing k x same = absurd (search (rules, same))
  class_of nothing k x same = absurd (search (rules, same))
  class_of (both one other) k x same = absurd (search (rules, same))
  class_of (some role filler) k x same = absurd (search (rules, same))

  -- the operands of an intersection, and the filler of a restriction, are trees at their numbers
  pub both_of : (tree : Tree) (c d : ℕ) → Has trees tree → node_in trees tree ≡ And c d
      → (one : Tree) × (other : Tree) × (tree ≡ both one other) × (slice_get trees c ≡ Some one) × (slice_get trees d ≡ Some other)
  both_of (both one other) c d has same =
      let parts = forest.parts (both one other) has in
      let same_c : place_of one trees ≡ c = search (rules, same) in
      let same_d : place_of other trees ≡ d = search (rules, same) in
      (one, other, refl, subst (λ n. slice_get trees n ≡ Some one) same_c (at_place one trees parts.0), subst (λ n. slice_get trees n ≡ Some other) same_d (at_place other trees parts.1))
  both_of thing c d has same = absurd (search (rules, same))
  both_of nothing c d has same = absurd (search (rules, same))
  both_of (name class) c d has same = absurd (search (rules, same))
  both_of (some role filler) c d has same = absurd (search (rules, same))

  pub some_of : (tree : Tree) (r c : ℕ) → Has trees tree → node_in trees tree ≡ Exists r c
      → (filler : Tree) × (tree ≡ some r filler) × (slice_get trees c ≡ Some filler)
  some_of (some role filler) r c has same =
      let part = forest.parts (some role filler) has in
      let same_r : role ≡ r = search (rules, same) in
      let same_c : place_of filler trees ≡ c = search (rules, same) in
      (filler, ap (λ n. some n filler) same_r, subst (λ n. slice_get trees n ≡ Some filler) same_c (at_place filler trees part))
  some_of thing r c has same = absurd (search (rules, same))
  some_of nothing r c has same = absurd (search (rules, same))
  some_of (name class) r c has same = absurd (search (rules, same))
  some_of (both one other) r c has same = absurd (search (rules, same))

  -- the tree of a node, which is there
  tree_of_node : (n : ℕ) (node : Node) → IsNode (nodes_over trees) n node → (tree : Tree) × (slice_get trees n ≡ Some tree) × (node_in trees tree ≡ node)
  tree_of_node n node at = mapped_at (node_in trees) trees n node at

  in_both : (n c d x : ℕ) → IsNode (nodes_over trees) n (And c d)
      → IsIn (reading_by trees properties front i) n x ↔ (IsIn (reading_by trees properties front i) c x × IsIn (reading_by trees properties front i) d x)
  in_both n c d x at =
      let found = tree_of_node n (And c d) at in
      let parts = both_of found.0 c d (has_at trees n found.0 found.1) found.2 in (
        (λ is_in. let member : InTree i x (both parts.0 parts.1) = subst (InTree i x) parts.2 (is_member n x found.0 found.1 is_in) in
            (member_is c x parts.0 parts.3 member.0, member_is d x parts.1 parts.4 member.1)),
        (λ both_in. member_is n x found.0 found.1
            (subst (InTree i x) (sym parts.2) (is_member c x parts.0 parts.3 both_in.0, is_member d x parts.1 parts.4 both_in.1))),
      )

  pub is_reading : ((n r c : ℕ) → IsNode (nodes_over trees) n (Exists r c) → r < properties) → IsReading (nodes_over trees) (reading_by trees properties front i)
  is_reading of_properties = record {
    inside = λ n x is_in. ltb-true x i.size (and_parts (nat_lt x i.size) (is_in_tree_at i x (slice_get trees n)) is_in).0;
    linked_inside = λ r x y linked.
        let both = (and_parts (nat_lt x i.size && nat_lt y i.size) (if nat_lt r properties then is_pair i r x y else leads i (front r) x y) linked).0 in
        let parts = and_parts (nat_lt x i.size) (nat_lt y i.size) both in
        (ltb-true x i.size parts.0, ltb-true y i.size parts.1);
    top = λ n x at within.
        let found = tree_of_node n Top at in
        member_is n x found.0 found.1 (subst (InTree i x) (sym (thing_of found.0 found.2)) within);
    bottom = λ n x at is_in.
        let found = tree_of_node n Bottom at in
        in_nothing found.0 x found.2 (is_member n x found.0 found.1 is_in);
    both = in_both;
    some = λ n r c x at.
        let found = tree_of_node n (Exists r c) at in
        let part = some_of found.0 r c (has_at trees n found.0 found.1) found.2 in (
          (λ is_in. let member : InTree i x (some r part.0) = subst (InTree i x) part.1 (is_member n x found.0 found.1 is_in) in
              (member.0, related_is r x member.0 (of_properties n r c at) member.1, member_is c member.0 part.0 part.2 member.2)),
          (λ led. member_is n x found.0 found.1
              (subst (InTree i x) (sym part.1) (led.0, is_related r x led.0 (of_properties n r c at) led.1, is_member c led.0 part.0 part.2 led.2))),
        );
  }

  pub is_reading_of : ((n r c : ℕ) → IsNode (nodes_over trees) n (Exists r c) → r < properties) → IsReadingOf (nodes_over trees) properties i (reading_by trees properties front i)
  is_reading_of of_properties = record {
    reading = is_reading of_properties;
    size = refl;
    classes = λ n k x at.
        let found = tree_of_node n (Class k) at in
        let same = class_of found.0 k x found.2 in
        ((λ is_in. same.0 (is_member n x found.0 found.1 is_in)), (λ member. member_is n x found.0 found.1 (same.1 member)));
    roles = λ r x y small. (is_related r x y small, related_is r x y small);
  }

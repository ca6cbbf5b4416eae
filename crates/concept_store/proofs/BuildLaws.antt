-- Building a store numbers LEFT and then RIGHT in one list of trees.
use Rattle.std.proofs.Common.{◌≡◌, ℕ, zero, suc, ◌+◌, ◌^◌, ◌<◌, ◌≤◌, Bool, true, false, ◌||◌, List, [], ◌∷◌, ◌++◌, length, map, All, Some, slice_get, refl, sym, ap, subst, ◌∙◌, arith, length-append}
use Rattle.std.specs.Prelude.{◌==◌, if◌then◌else◌}
use Rattle.std.specs.List.{list_any, range_with_len}
use Rattle.std.proofs.lemmas.Bool.{eqb-true}
use Rattle.std.proofs.lemmas.Option.{same_Some, none-some}
use Rattle.std.proofs.lemmas.List.Elements.{All-head, All-tail}
use Rattle.std.proofs.lemmas.List.{append-nil, length-map}
use Rattle.std.proofs.lemmas.List.FromFn.{length-map-range_with_len, map-range_with_len_more}
use Rattle.el_logic.specs.declared.types.Expr.{Expr}
use Rattle.el_logic.specs.declared.types.Axiom.{Axiom}
use Rattle.el_logic.specs.declared.types.Side.{Side}
use Rattle.concept_store.specs.declared.types.Node.{Node}
use Rattle.concept_store.specs.declared.types.Node.TheVariants.{Top, Bottom, Class}
use Rattle.concept_store.specs.declared.types.NodeAxiom.{NodeAxiom}
use Rattle.concept_store.specs.declared.types.RoleNode.TheVariants.{Named, Part}
use Rattle.concept_store.specs.declared.types.StoreFault.{StoreFault}
use Rattle.concept_store.specs.declared.types.StoreFault.TheVariants as fault
use Rattle.concept_store.specs.Faults.{IsStoreFault}
use Rattle.concept_store.specs.Trees.{Tree, thing, nothing, name, both, some, tree_of, IsTreeOver, place_of, with_trees}
use Rattle.concept_store.specs.Nodes.{same_node, expressions, compounds_in, names_of, trees_of, node_in, nodes_over, all_over, part_count, parts_within}
use Rattle.concept_store.specs.Reading.{MeansTheSameIn, IsReadingOf, HoldsIn}
use Rattle.concept_store.specs.Roles.{parts_of, parts_in, roles_of, IsOver, AreOver}
use Rattle.concept_store.specs.Inside.Numbering.{with_node, numbered_axioms, in_32_bits, AreNamesShort, AreAllShort, AreAxiomsShort}
use Rattle.concept_store.proofs.TreeLaws.{at_place}
use Rattle.concept_store.proofs.ForestLaws.{HasPartsBefore, IsForest}
use Rattle.concept_store.proofs.NumberingLaws.{place_of_name}
use Rattle.concept_store.proofs.OverLaws.{HasAxioms, has_axioms_kept, all_over_kept, AreNumbered, axioms_are}
use Rattle.concept_store.proofs.MeaningLaws.{means_the_same}

-- a class name is new among those with smaller numbers
fresh : (a n k : ℕ) → a + n ≤ k → list_any (same_node (Class k)) (map Class (range_with_len a n)) ≡ false
fresh a zero k above = refl
fresh a (suc n) k above = by (k == a) refl (fresh (a + 1) n k (omega arith))
  where
    by : (b : Bool) → (k == a) ≡ b → list_any (same_node (Class k)) (map Class (range_with_len (a + 1) n)) ≡ false → (b || list_any (same_node (Class k)) (map Class (range_with_len (a + 1) n))) ≡ false
    by true same rest = absurd (let e = eqb-true k a same in omega arith)
    by false same rest = rest

-- so it goes last
pub next_class : (nodes new : List Node) (k : ℕ) → nodes ≡ Top ∷ Bottom ∷ map Class (range_with_len 0 k) → new ≡ with_node nodes (Class k) → new ≡ Top ∷ Bottom ∷ map Class (range_with_len 0 (k + 1))
next_class nodes new k so_far added =
    let start : 0 + k ≡ k = omega arith in
    let all = Top ∷ Bottom ∷ map Class (range_with_len 0 k) in
    added ∙ ap (λ ns. with_node ns (Class k)) so_far
    ∙ ap (λ b. if b then all else all ++ Class k ∷ []) (fresh 0 k k (omega arith))
    ∙ ap (λ (ns : List Node). Top ∷ Bottom ∷ ns) (sym (map-range_with_len_more Class 0 k k start))

-- these are the nodes of the names
pub names_are : (classes : ℕ) → Top ∷ Bottom ∷ map Class (range_with_len 0 classes) ≡ nodes_over (names_of classes)
names_are classes = ap (λ (ns : List Node). Top ∷ Bottom ∷ ns) (along (range_with_len 0 classes))
  where
    along : (ks : List ℕ) → map Class ks ≡ map (node_in (names_of classes)) (map name ks)
    along [] = refl
    along (k ∷ ks) = ap (λ (ns : List Node). Class k ∷ ns) (along ks)

-- the names have no parts
no_parts : (ks : List ℕ) (n m : ℕ) (tree : Tree) (trees : List Tree) → slice_get (map name ks) n ≡ Some tree → HasPartsBefore trees m tree
no_parts [] n m tree trees at = absurd (none-some tree at)
no_parts (k ∷ ks) zero m tree trees at = subst (HasPartsBefore trees m) (same_Some (name k) tree at) tt
no_parts (k ∷ ks) (suc n) m tree trees at = no_parts ks n m tree trees at

-- so no name has a part that is missing
names_have : (classes n m : ℕ) (tree : Tree) → slice_get (names_of classes) n ≡ Some tree → HasPartsBefore (names_of classes) m tree
names_have classes zero m tree at = subst (HasPartsBefore (names_of classes) m) (same_Some thing tree at) tt
names_have classes (suc zero) m tree at = subst (HasPartsBefore (names_of classes) m) (same_Some nothing tree at) tt
names_have classes (suc (suc n)) m tree at = no_parts (range_with_len 0 classes) n m tree (names_of classes) at

-- the class name at a place
named_at : (a n k : ℕ) (tree : Tree) → slice_get (map name (range_with_len a n)) k ≡ Some tree → (k < n) × (name (a + k) ≡ tree)
named_at a zero k tree at = absurd (none-some tree at)
named_at a (suc n) zero tree at = let none : a + 0 ≡ a = omega arith in (omega arith, ap name none ∙ same_Some (name a) tree at)
named_at a (suc n) (suc k) tree at =
    let rest = named_at (a + 1) n k tree at in
    let more : a + suc k ≡ (a + 1) + k = omega arith in
    (omega (arith, rest.0), ap name more ∙ rest.1)

-- each name stands once
names_once : (classes n : ℕ) (tree : Tree) → slice_get (names_of classes) n ≡ Some tree → place_of tree (names_of classes) ≡ n
names_once classes zero tree at = subst (λ t. place_of t (names_of classes) ≡ 0) (same_Some thing tree at) refl
names_once classes (suc zero) tree at = subst (λ t. place_of t (names_of classes) ≡ 1) (same_Some nothing tree at) refl
names_once classes (suc (suc n)) tree at =
    let named = named_at 0 classes n tree at in
    let here = place_of_name 0 classes n named.0 in
    subst (λ t. place_of t (names_of classes) ≡ suc (suc n)) named.1 (omega (arith, here))

-- the names alone have the parts of each
names_forest : (classes : ℕ) → IsForest classes (names_of classes)
names_forest classes = record {
  more = [];
  begins = sym (append-nil (names_of classes));
  parts = λ tree has. names_have classes (place_of tree (names_of classes)) (length (names_of classes)) tree (at_place tree (names_of classes) has);
  before = λ n tree at. names_have classes n n tree at;
  once = names_once classes;
}

-- how many names there are
length-names : (classes : ℕ) → length (names_of classes) ≡ classes + 2
length-names classes = omega (arith, length-map-range_with_len name 0 classes)

-- names below a number that fits are short
short_tree : (classes roles most : ℕ) → classes + 2 ≤ most → most < 2 ^ 32 → (tree : Tree) → IsTreeOver classes roles tree → AreNamesShort tree
short_tree classes roles most few fits thing names = tt
short_tree classes roles most few fits nothing names = tt
short_tree classes roles most few fits (name k) names = omega arith
short_tree classes roles most few fits (both one other) names = (short_tree classes roles most few fits one names.0, short_tree classes roles most few fits other names.1)
short_tree classes roles most few fits (some r filler) names = short_tree classes roles most few fits filler names.1

-- so are those of expressions
short_all : (classes roles most : ℕ) → classes + 2 ≤ most → most < 2 ^ 32 → (exprs : List Expr) → All (λ e. IsTreeOver classes roles (tree_of e)) exprs → AreAllShort exprs
short_all classes roles most few fits [] names = tt
short_all classes roles most few fits (e ∷ es) names =
    (short_tree classes roles most few fits (tree_of e) (All-head (λ f. IsTreeOver classes roles (tree_of f)) e es names), short_all classes roles most few fits es (All-tail (λ f. IsTreeOver classes roles (tree_of f)) e es names))

-- and those of axioms
pub short_axioms : (classes roles most : ℕ) → classes + 2 ≤ most → most < 2 ^ 32 → (axioms : List Axiom) → All (IsOver classes roles) axioms → AreAxiomsShort axioms
short_axioms classes roles most few fits [] are = tt
short_axioms classes roles most few fits (axiom' ∷ axioms) are =
    let first = All-head (IsOver classes roles) axiom' axioms are in
    (short_all classes roles most few fits (expressions axiom') first.names, short_axioms classes roles most few fits axioms (All-tail (IsOver classes roles) axiom' axioms are))

-- how many parts there are
length-parts : (side : Side) (number : ℕ) (axioms : List Axiom) → length (parts_in side number axioms) ≡ parts_within axioms
length-parts side number [] = refl
length-parts side number (axiom' ∷ axioms) =
    omega (arith, length-append (parts_of side number axiom') (parts_in side (number + 1) axioms), length-map-range_with_len (Part side number) 2 (part_count axiom'), length-parts side (number + 1) axioms)

-- how many roles there are
pub length-roles : (roles : ℕ) (left right : List Axiom) → length (roles_of roles left right) ≡ roles + parts_within left + parts_within right
length-roles roles left right =
    let names = map Named (range_with_len 0 roles) in
    let one = parts_in Side.Left 1 left in
    omega (arith, length-append (names ++ one) (parts_in Side.Right 1 right), length-append names one, length-map-range_with_len Named 0 roles, length-parts Side.Left 1 left, length-parts Side.Right 1 right)

-- a fault under weaker conditions
pub fault_weaker : {P Q R S : Type 0} → (P → R) → (Q → S) → (found : StoreFault) → IsStoreFault P Q found → IsStoreFault R S found
fault_weaker f g fault.Nodes h = f h
fault_weaker f g fault.Roles h = g h
fault_weaker f g fault.OutOfMemory h = h

-- there is a node for each tree
length-nodes : (trees : List Tree) → length (nodes_over trees) ≡ length trees
length-nodes trees = length-map trees (node_in trees)

module _ (classes roles : ℕ) (left right : List Axiom) (over_left : AreOver classes roles left) (over_right : AreOver classes roles right) where
  -- what numbering LEFT does
  left_are : AreNumbered classes (names_of classes) (with_trees (names_of classes) (compounds_in left)) roles left (numbered_axioms roles left (nodes_over (names_of classes)))
  left_are = axioms_are classes roles roles left (names_of classes) (names_forest classes) over_left.each

  -- and RIGHT after it
  pub right_are : (next : ℕ) → AreNumbered classes (with_trees (names_of classes) (compounds_in left)) (trees_of classes left right) next right (numbered_axioms next right (nodes_over (with_trees (names_of classes) (compounds_in left))))
  right_are next = axioms_are classes roles next right (with_trees (names_of classes) (compounds_in left)) left_are.forest over_right.each

  -- the lists of trees become no shorter
  more_trees : (length (names_of classes) ≤ length (with_trees (names_of classes) (compounds_in left))) × (length (with_trees (names_of classes) (compounds_in left)) ≤ length (trees_of classes left right))
  more_trees =
      let one = left_are in
      let other = right_are 0 in (
        omega (arith, ap length one.grows, length-append (names_of classes) one.more),
        omega (arith, ap length other.grows, length-append (with_trees (names_of classes) (compounds_in left)) other.more),
      )

  -- the nodes after LEFT, and after RIGHT
  pub nodes_after_left : (start nodes : List Node) → start ≡ nodes_over (names_of classes) → nodes ≡ (numbered_axioms roles left start).1 → nodes ≡ nodes_over (with_trees (names_of classes) (compounds_in left))
  nodes_after_left start nodes begun after = after ∙ ap (λ ns. (numbered_axioms roles left ns).1) begun ∙ left_are.nodes_are

  -- the nodes after RIGHT
  pub nodes_after_right : (next : ℕ) (start nodes : List Node) → start ≡ nodes_over (with_trees (names_of classes) (compounds_in left)) → nodes ≡ (numbered_axioms next right start).1 → nodes ≡ nodes_over (trees_of classes left right)
  nodes_after_right next start nodes begun after = after ∙ ap (λ ns. (numbered_axioms next right ns).1) begun ∙ (right_are next).nodes_are

  -- the axioms over nodes
  pub left_after : (start : List Node) (over : List NodeAxiom) → start ≡ nodes_over (names_of classes) → over ≡ (numbered_axioms roles left start).0 → roles + parts_within left < 2 ^ 32 → over ≡ all_over (trees_of classes left right) roles left
  left_after start over begun after small =
      let kept = ap (λ ts. all_over ts roles left) (right_are 0).grows ∙ all_over_kept (with_trees (names_of classes) (compounds_in left)) (right_are 0).more roles left left_are.has in
      after ∙ ap (λ ns. (numbered_axioms roles left ns).0) begun ∙ left_are.over_is small ∙ sym kept

  -- those of RIGHT, whose parts come after the parts of LEFT
  pub right_after : (next : ℕ) (start : List Node) (over : List NodeAxiom) → start ≡ nodes_over (with_trees (names_of classes) (compounds_in left)) → over ≡ (numbered_axioms next right start).0 →
      next ≡ in_32_bits (roles + parts_within left) → roles + parts_within left + parts_within right < 2 ^ 32 → over ≡ all_over (trees_of classes left right) (roles + parts_within left) right
  right_after next start over begun after next_is small =
      let exact : next ≡ roles + parts_within left = omega arith in
      after ∙ ap (λ ns. (numbered_axioms next right ns).0) begun ∙ (right_are next).over_is (omega arith) ∙ ap (λ n. all_over (trees_of classes left right) n right) exact

  -- the number of roles fits
  pub roles_small : (found : ℕ) (most : ℕ) → found ≡ length (roles_of roles left right) → found ≤ most → most < 2 ^ 32 → roles + parts_within left + parts_within right < 2 ^ 32
  roles_small found most same few fits = omega (arith, length-roles roles left right)

  -- both lists of axioms mean the same
  pub left_means : (nodes : List Node) (over : List NodeAxiom) → nodes ≡ nodes_over (trees_of classes left right) → over ≡ all_over (trees_of classes left right) roles left → MeansTheSameIn classes roles nodes left over
  left_means nodes over nodes_are over_is i m is reads =
      let trees = trees_of classes left right in
      let has = subst (λ ts. HasAxioms ts left) (sym (right_are 0).grows) (has_axioms_kept (with_trees (names_of classes) (compounds_in left)) (right_are 0).more left left_are.has) in
      let same = means_the_same classes roles i m trees is (right_are 0).forest (subst (λ ns. IsReadingOf ns roles i m) nodes_are reads) roles left over_left.each has in
      (λ h. subst (All (HoldsIn m)) (sym over_is) (same.0 h), λ h. same.1 (subst (All (HoldsIn m)) over_is h))

  -- and RIGHT
  pub right_means : (nodes : List Node) (over : List NodeAxiom) → nodes ≡ nodes_over (trees_of classes left right) → over ≡ all_over (trees_of classes left right) (roles + parts_within left) right → MeansTheSameIn classes roles nodes right over
  right_means nodes over nodes_are over_is i m is reads =
      let trees = trees_of classes left right in
      let same = means_the_same classes roles i m trees is (right_are 0).forest (subst (λ ns. IsReadingOf ns roles i m) nodes_are reads) (roles + parts_within left) right over_right.each (right_are 0).has in
      (λ h. subst (All (HoldsIn m)) (sym over_is) (same.0 h), λ h. same.1 (subst (All (HoldsIn m)) over_is h))

  -- too many names, or too many nodes of LEFT or of both, are too many
  pub many_names : (most : ℕ) → most < classes + 2 → most < length (trees_of classes left right)
  many_names most many = omega (arith, length-names classes, more_trees.0, more_trees.1)

  -- too many nodes of LEFT are too many
  pub many_left : (most : ℕ) (start : List Node) → start ≡ nodes_over (names_of classes) → most < length (numbered_axioms roles left start).1 → most < length (trees_of classes left right)
  many_left most start begun many =
      let same = ap length (nodes_after_left start (numbered_axioms roles left start).1 begun refl) in
      omega (arith, same, length-nodes (with_trees (names_of classes) (compounds_in left)), more_trees.1)

  -- too many nodes of both are too many
  pub many_right : (most next : ℕ) (start : List Node) → start ≡ nodes_over (with_trees (names_of classes) (compounds_in left)) → most < length (numbered_axioms next right start).1 → most < length (trees_of classes left right)
  many_right most next start begun many =
      let same = ap length (nodes_after_right next start (numbered_axioms next right start).1 begun refl) in
      omega (arith, same, length-nodes (trees_of classes left right))

  -- nodes that are not too many come from no more trees
  pub few_trees : (most : ℕ) (nodes : List Node) → nodes ≡ nodes_over (trees_of classes left right) → length nodes ≤ most → length (trees_of classes left right) ≤ most
  few_trees most nodes nodes_are few = omega (arith, ap length nodes_are, length-nodes (trees_of classes left right))

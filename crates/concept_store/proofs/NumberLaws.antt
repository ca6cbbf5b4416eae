-- Numbering along the operands of an intersection.
use Rattle.std.proofs.Common.{◌≡◌, ℕ, zero, suc, ◌+◌, ◌<◌, ◌≤◌, Bool, true, false, List, [], ◌∷◌, ◌++◌, length, take, drop, get_or, fold, refl, sym, ap, subst, ◌∙◌, arith, length-append}
use Rattle.std.specs.List.{list_any}
use Rattle.std.specs.Prelude.{if◌then◌else◌}
use Rattle.std.proofs.lemmas.List.{take-append-drop, take_all}
use Rattle.std.proofs.lemmas.List.Sums.{fold_more, fold-append}
use Rattle.el_logic.specs.declared.types.Expr.{Expr}
use Rattle.el_logic.specs.declared.types.Expr.TheVariants as E
use Rattle.concept_store.specs.declared.types.Node.{Node}
use Rattle.concept_store.specs.declared.types.StoreFault.{StoreFault}
use Rattle.concept_store.specs.declared.types.StoreFault.TheVariants as fault
use Rattle.concept_store.specs.declared.types.Node.TheVariants.{And, Exists}
use Rattle.concept_store.specs.Trees.{Tree, thing, nothing, name, both, some, tree_of, folded}
use Rattle.concept_store.specs.Nodes.{same_node}
use Rattle.concept_store.specs.Faults.{IsStoreFault}
use Rattle.concept_store.specs.Inside.Numbering.{with_node, added, numbered, numbered_both, folded_list, AreNamesShort}

-- the tree of an intersection, over the rest of its operands
abbrev rest_of : Expr → Tree → Tree
rest_of (E.And' _ operands) tree = folded tree operands
rest_of _ tree = tree

-- the tree of an intersection of none is owl:Thing
pub tree_of-none : tree_of (E.And []) ≡ thing
unfolding Rattle.el_logic.specs.declared.types.Expr.TheBlock.hidden-the_row-Expr-0 denote.Hole.Carrier.hidden
tree_of-none = refl

-- along a list of operands
folded_is : (operands : List Expr) (tree : Tree) → rest_of (E.And operands) tree ≡ folded_list tree operands
unfolding Rattle.el_logic.specs.declared.types.Expr.TheBlock.hidden-the_row-Expr-0 denote.Hole.Carrier.hidden
folded_is [] tree = refl
folded_is (operand ∷ operands) tree = folded_is operands (both tree (tree_of operand))

-- the tree of an intersection is folded over the list of its operands
pub tree_of-And : (operand : Expr) (operands : List Expr) → tree_of (E.And (operand ∷ operands)) ≡ folded_list (tree_of operand) operands
unfolding Rattle.el_logic.specs.declared.types.Expr.TheBlock.hidden-the_row-Expr-0 denote.Hole.Carrier.hidden
tree_of-And operand operands = folded_is operands (tree_of operand)

-- the tree of a restriction
pub tree_of-Exists : (role : ℕ) (filler : Expr) → tree_of (E.Exists role filler) ≡ some role (tree_of filler)
unfolding Rattle.el_logic.specs.declared.types.Expr.TheBlock.hidden-the_row-Expr-1 denote.Hole.Carrier.hidden
tree_of-Exists role filler = refl

-- numbering operand by operand numbers the folded tree
pub numbered_fold : (operands : List Expr) (tree : Tree) (nodes : List Node) → fold numbered_both (numbered tree nodes) operands ≡ numbered (folded_list tree operands) nodes
numbered_fold [] tree nodes = refl
numbered_fold (operand ∷ operands) tree nodes = numbered_fold operands (both tree (tree_of operand)) nodes

-- one more node makes the list no shorter
pub longer_node : (nodes : List Node) (node : Node) → length nodes ≤ length (with_node nodes node)
longer_node nodes node = by (list_any (same_node node) nodes)
  where
    by : (b : Bool) → length nodes ≤ length (if b then nodes else nodes ++ node ∷ [])
    by true = omega arith
    by false = omega (arith, length-append nodes (node ∷ []))

-- nor does numbering a tree
pub longer : (tree : Tree) (nodes : List Node) → length nodes ≤ length (numbered tree nodes).1
longer thing nodes = omega arith
longer nothing nodes = omega arith
longer (name class) nodes = omega arith
longer (both one other) nodes =
    let left = numbered one nodes in
    let right = numbered other left.1 in
    omega (arith, longer one nodes, longer other left.1, longer_node right.1 (And left.0 right.0))
longer (some role filler) nodes =
    let inner = numbered filler nodes in omega (arith, longer filler nodes, longer_node inner.1 (Exists role inner.0))

-- nor does numbering more operands
longer_both : (operands : List Expr) (whole : ℕ × List Node) → length whole.1 ≤ length (fold numbered_both whole operands).1
longer_both [] whole = omega arith
longer_both (operand ∷ operands) whole =
    let other = numbered (tree_of operand) whole.1 in
    omega (arith, longer (tree_of operand) whole.1, longer_node other.1 (And whole.0 other.0), longer_both operands (numbered_both whole operand))

-- a fault by too many of these nodes is one by too many of more
pub fault_longer : (most : ℕ) (few many : List Node) → length few ≤ length many → (found : StoreFault) → IsStoreFault (most < length few) ⊥ found → IsStoreFault (most < length many) ⊥ found
fault_longer most few many more fault.Nodes h = omega arith
fault_longer most few many more fault.Roles h = h
fault_longer most few many more fault.OutOfMemory h = h

-- the operand at a place is numbered next
pub next_operand : (operands : List Expr) (i : ℕ) (operand : Expr) (start whole : ℕ × List Node) → i < length operands → operand ≡ get_or operands i operand →
    whole ≡ fold numbered_both start (take i operands) → numbered_both whole operand ≡ fold numbered_both start (take (i + 1) operands)
next_operand operands i operand start whole within at done =
    ap (λ w. numbered_both w operand) done ∙ ap (numbered_both (fold numbered_both start (take i operands))) at ∙ sym (fold_more numbered_both start operands i operand within)

-- and the nodes with it are no more than those with all operands
pub within_all : (operands : List Expr) (i : ℕ) (start whole : ℕ × List Node) → whole ≡ fold numbered_both start (take i operands) → length whole.1 ≤ length (fold numbered_both start operands).1
within_all operands i start whole done =
    let split = ap (fold numbered_both start) (sym (take-append-drop i operands)) ∙ fold-append numbered_both start (take i operands) (drop i operands) in
    let same = ap (λ w. length w.1) done in
    let all = ap (λ w. length w.1) split in
    omega (arith, same, all, longer_both (drop i operands) (fold numbered_both start (take i operands)))

-- the names in each operand are short
pub short_first : (operands : List Expr) (tree : Tree) → AreNamesShort (folded_list tree operands) → AreNamesShort tree
short_first [] tree short = short
short_first (operand ∷ operands) tree short = (short_first operands (both tree (tree_of operand)) short).0

-- and those of a later operand
pub short_at : (operands : List Expr) (tree : Tree) (i : ℕ) (operand : Expr) → AreNamesShort (folded_list tree operands) → i < length operands → operand ≡ get_or operands i operand → AreNamesShort (tree_of operand)
short_at [] tree i operand short within at = absurd (omega arith)
short_at (first ∷ operands) tree zero operand short within at = subst (λ e. AreNamesShort (tree_of e)) (sym at) (short_first operands (both tree (tree_of first)) short).1
short_at (first ∷ operands) tree (suc i) operand short within at = short_at operands (both tree (tree_of first)) i operand short (omega arith) at

-- the tree of an intersection, in the words of the code
pub whole_none : (expr : Expr) (operands : List Expr) → expr ≡ E.And operands → length operands ≡ 0 → tree_of expr ≡ thing
whole_none expr [] same none = ap tree_of same ∙ tree_of-none
whole_none expr (operand ∷ operands) same none = absurd (omega arith)

-- of some operands
pub whole_some : (expr first : Expr) (operands rest : List Expr) → expr ≡ E.And operands → operands ≡ first ∷ rest → tree_of expr ≡ folded_list (tree_of first) rest
whole_some expr first operands rest same parts = ap tree_of (same ∙ ap E.And parts) ∙ tree_of-And first rest

-- the tree of a restriction, in the words of the code
pub whole_exists : (expr filler : Expr) (role : ℕ) → expr ≡ E.Exists role filler → tree_of expr ≡ some role (tree_of filler)
whole_exists expr filler role same = ap tree_of same ∙ tree_of-Exists role filler

-- numbering an intersection goes from its first operand along the rest
pub whole_is : (expr first : Expr) (operands rest : List Expr) (nodes : List Node) → expr ≡ E.And operands → operands ≡ first ∷ rest →
    numbered (tree_of expr) nodes ≡ fold numbered_both (numbered (tree_of first) nodes) rest
whole_is expr first operands rest nodes same parts =
    ap (λ tree. numbered tree nodes) (whole_some expr first operands rest same parts) ∙ sym (numbered_fold rest (tree_of first) nodes)

-- a fault at the first operand
pub fault_first : (expr first : Expr) (operands rest : List Expr) (nodes : List Node) (most : ℕ) (found : StoreFault) → expr ≡ E.And operands → operands ≡ first ∷ rest →
    IsStoreFault (most < length (numbered (tree_of first) nodes).1) ⊥ found → IsStoreFault (most < length (numbered (tree_of expr) nodes).1) ⊥ found
fault_first expr first operands rest nodes most found same parts =
    let start = numbered (tree_of first) nodes in
    let all = ap (λ w. length w.1) (whole_is expr first operands rest nodes same parts) in
    let more : length start.1 ≤ length (numbered (tree_of expr) nodes).1 = omega (arith, all, longer_both rest start) in
    fault_longer most start.1 (numbered (tree_of expr) nodes).1 more found

module _ (expr first operand : Expr) (operands rest : List Expr) (nodes : List Node) (start whole : ℕ × List Node) (i most : ℕ) (found : StoreFault)
    (same : expr ≡ E.And operands) (parts : operands ≡ first ∷ rest) (begun : start ≡ numbered (tree_of first) nodes)
    (within : i < length rest) (at : operand ≡ get_or rest i operand) (done : whole ≡ fold numbered_both start (take i rest)) where
  all_is : numbered (tree_of expr) nodes ≡ fold numbered_both start rest
  all_is = whole_is expr first operands rest nodes same parts ∙ ap (λ w. fold numbered_both w rest) (sym begun)

  -- the nodes up to an operand are no more than all
  up_to_here : length (numbered_both whole operand).1 ≤ length (numbered (tree_of expr) nodes).1
  up_to_here =
      let next = next_operand rest i operand start whole within at done in
      let all = ap (λ w. length w.1) all_is in
      omega (arith, all, within_all rest (i + 1) start (numbered_both whole operand) next)

  -- a fault at a later operand
  pub fault_operand : IsStoreFault (most < length (numbered (tree_of operand) whole.1).1) ⊥ found → IsStoreFault (most < length (numbered (tree_of expr) nodes).1) ⊥ found
  fault_operand =
      let other = numbered (tree_of operand) whole.1 in
      let more : length other.1 ≤ length (numbered (tree_of expr) nodes).1 = omega (arith, up_to_here, longer_node other.1 (And whole.0 other.0)) in
      fault_longer most other.1 (numbered (tree_of expr) nodes).1 more found

  -- and at the intersection with it
  pub fault_both : IsStoreFault (most < length (numbered_both whole operand).1) ⊥ found → IsStoreFault (most < length (numbered (tree_of expr) nodes).1) ⊥ found
  fault_both = fault_longer most (numbered_both whole operand).1 (numbered (tree_of expr) nodes).1 up_to_here found

-- what the loop over the operands ends with
pub whole_done : (expr first : Expr) (operands rest : List Expr) (nodes : List Node) (start whole : ℕ × List Node) (i : ℕ) →
    expr ≡ E.And operands → operands ≡ first ∷ rest → start ≡ numbered (tree_of first) nodes → length rest ≤ i → whole ≡ fold numbered_both start (take i rest) →
    whole ≡ numbered (tree_of expr) nodes
whole_done expr first operands rest nodes start whole i same parts begun past done =
    done ∙ (λ j. fold numbered_both (begun j) (take_all i rest past j)) ∙ sym (whole_is expr first operands rest nodes same parts)

-- the number of a restriction
pub exists_is : (expr filler : Expr) (role : ℕ) (nodes : List Node) (inner : ℕ) (with_filler : List Node) → expr ≡ E.Exists role filler →
    inner ≡ (numbered (tree_of filler) nodes).0 → with_filler ≡ (numbered (tree_of filler) nodes).1 → added (Exists role inner) with_filler ≡ numbered (tree_of expr) nodes
exists_is expr filler role nodes inner with_filler same number all =
    (λ i. added (Exists role (number i)) (all i)) ∙ ap (λ tree. numbered tree nodes) (sym (whole_exists expr filler role same))

-- a fault at the filler of a restriction
pub fault_exists : (expr filler : Expr) (role : ℕ) (nodes : List Node) (most : ℕ) (found : StoreFault) → expr ≡ E.Exists role filler → AreNamesShort (tree_of expr) →
    (AreNamesShort (tree_of filler) → IsStoreFault (most < length (numbered (tree_of filler) nodes).1) ⊥ found) → IsStoreFault (most < length (numbered (tree_of expr) nodes).1) ⊥ found
fault_exists expr filler role nodes most found same short faulty =
    let tree = whole_exists expr filler role same in
    let inner = numbered (tree_of filler) nodes in
    subst (λ t. IsStoreFault (most < length (numbered t nodes).1) ⊥ found) (sym tree)
    (fault_longer most inner.1 (numbered (some role (tree_of filler)) nodes).1 (longer_node inner.1 (Exists role inner.0)) found (faulty (subst AreNamesShort tree short)))

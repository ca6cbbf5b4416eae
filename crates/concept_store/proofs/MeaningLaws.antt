-- An expression has the members of its tree, and its node has them in a reading.
use Rattle.std.proofs.Common.{◌≡◌, ℕ, ◌+◌, ◌<◌, List, [], ◌∷◌, length, map, get_or, All, Contains, arith, subst, sym, ap, ◌∙◌, ⊎_elim}
use Rattle.std.specs.Prelude.{◌↔◌, ⊤}
use Rattle.std.specs.Option.{option_map}
use Rattle.std.proofs.Math.ListN.{get_or-eq_default}
use Rattle.std.proofs.lemmas.Bool.{cases_lt}
use Rattle.std.proofs.lemmas.Option.{slice_get-map}
use Rattle.std.proofs.lemmas.List.Elements.{All-contains, All-get_or, All-head, All-tail, All-nil, All-cons}
use Rattle.el_logic.specs.declared.types.Interp.{Interp}
use Rattle.el_logic.specs.declared.types.Expr.{Expr, Row_of-Expr, end_of-Expr, more_of-Expr}
use Rattle.el_logic.specs.declared.types.Expr.TheVariants as E
use Rattle.el_logic.specs.declared.types.Axiom.{Axiom}
use Rattle.el_logic.specs.declared.types.Axiom.TheVariants as A
use Rattle.el_logic.specs.Meaning.{IsInterp, IsMember, IsInEach, members_of, AreRelated, AreChained}
use Rattle.el_logic.specs.Meaning as L
use Rattle.concept_store.specs.Trees.{Tree, thing, nothing, name, both, some, tree_of, intersection_of, folded, IsTreeOver, place_of}
use Rattle.concept_store.specs.Nodes.{IsNode, expressions, node_in, nodes_over, number_in, over, all_over, part_count}
use Rattle.concept_store.specs.Roles.{IsOver}
use Rattle.concept_store.specs.Reading.{Reading, IsIn, IsReadingOf, IsWithin, Reaches, AreApart, HoldsIn}
use Rattle.concept_store.specs.Inside.InTrees.{InTree}
use Rattle.concept_store.proofs.TreeLaws.{at_place}
use Rattle.concept_store.proofs.ForestLaws.{Has, IsForest}
use Rattle.concept_store.proofs.OverLaws.{HasEach, HasAxioms}

-- the members of a class name are elements
name_within : (classes properties : ℕ) (i : Interp) → IsInterp classes properties i → (k x : ℕ) → Contains (members_of i k) x → x < i.size
name_within classes properties i is k x h = ⊎_elim
    (λ l. All-contains (λ y. y < i.size) (members_of i k) x (All-get_or (All (λ y. y < i.size)) i.classes k [] l is.members_below) h)
    (λ ge. absurd (none (members_of i k) (get_or-eq_default i.classes [] ge) h))
    (cases_lt k (length i.classes))
  where
    none : (xs : List ℕ) → xs ≡ [] → Contains xs x → ⊥
    none xs e h = let l = h.1 in let z = ap length e in omega arith

-- what a property relates are elements
role_within : (classes properties : ℕ) (i : Interp) → IsInterp classes properties i → (r x y : ℕ) → AreRelated i r x y → x < i.size
role_within classes properties i is r x y h = ⊎_elim
    (λ l. (All-contains (λ p. (p.0 < i.size) × (p.1 < i.size)) (L.pairs_of i r) (x, y) (All-get_or (All (λ p. (p.0 < i.size) × (p.1 < i.size))) i.roles r [] l is.pairs_below) h).0)
    (λ ge. absurd (none (L.pairs_of i r) (get_or-eq_default i.roles [] ge) h))
    (cases_lt r (length i.roles))
  where
    none : (ps : List (ℕ × ℕ)) → ps ≡ [] → Contains ps (x, y) → ⊥
    none ps e h = let l = h.1 in let z = ap length e in omega arith

module _ (classes properties : ℕ) (i : Interp) (is : IsInterp classes properties i) where
  -- the members of a tree are elements
  pub in_tree_within : (tree : Tree) (x : ℕ) → InTree i x tree → x < i.size
  in_tree_within thing x h = h
  in_tree_within nothing x h = absurd h
  in_tree_within (name k) x h = name_within classes properties i is k x h
  in_tree_within (both one other) x h = in_tree_within one x h.0
  in_tree_within (some r filler) x h = role_within classes properties i is r x h.0 h.1

  mutual
    -- a member of an expression is one of its tree
    pub to_tree : (e : Expr) (x : ℕ) → IsMember i x e → InTree i x (tree_of e)
    to_tree E.Top x h = h
    to_tree E.Bottom x h = h
    to_tree (E.Name k) x h = h
    to_tree (E.And' _ es) x h = to_intersection es x h.0 h.1
    to_tree (E.Exists' r _ (more_of-Expr e _)) x (y, p, h) = (y, p, to_tree e y h)

    -- so is one of an intersection
    to_intersection : {n : _} (es : Row_of-Expr n) (x : ℕ) → x < i.size → IsInEach i x es → InTree i x (intersection_of es)
    to_intersection end_of-Expr x l h = l
    to_intersection (more_of-Expr e es) x l (h, hs) = to_folded es (tree_of e) x (to_tree e x h) hs

    -- and one of its first operands that is one of the rest
    to_folded : {n : _} (es : Row_of-Expr n) (tree : Tree) (x : ℕ) → InTree i x tree → IsInEach i x es → InTree i x (folded tree es)
    to_folded end_of-Expr tree x h hs = h
    to_folded (more_of-Expr e es) tree x h (g, hs) = to_folded es (both tree (tree_of e)) x (h, to_tree e x g) hs

  mutual
    -- and the other way round
    pub from_tree : (e : Expr) (x : ℕ) → InTree i x (tree_of e) → IsMember i x e
    from_tree E.Top x h = h
    from_tree E.Bottom x h = h
    from_tree (E.Name k) x h = h
    from_tree (E.And' _ es) x h = from_intersection es x h
    from_tree (E.Exists' r _ (more_of-Expr e _)) x (y, p, h) = (y, p, from_tree e y h)

    -- of an intersection
    from_intersection : {n : _} (es : Row_of-Expr n) (x : ℕ) → InTree i x (intersection_of es) → (x < i.size) × IsInEach i x es
    from_intersection end_of-Expr x h = (h, tt)
    from_intersection (more_of-Expr e es) x h =
        let g = from_folded es (tree_of e) x h in (in_tree_within (tree_of e) x g.0, (from_tree e x g.0, g.1))

    -- and of its first operands with the rest
    from_folded : {n : _} (es : Row_of-Expr n) (tree : Tree) (x : ℕ) → InTree i x (folded tree es) → InTree i x tree × IsInEach i x es
    from_folded end_of-Expr tree x h = (h, tt)
    from_folded (more_of-Expr e es) tree x h =
        let g = from_folded es (both tree (tree_of e)) x h in (g.0.0, (from_tree e x g.0.1, g.1))

-- what is known of an expression: its tree is there, over these names
abbrev pub IsKnown : ℕ → ℕ → List Tree → Expr → Type 0
IsKnown classes properties trees e = Has trees (tree_of e) × IsTreeOver classes properties (tree_of e)

-- and of several
abbrev pub AllKnown : ℕ → ℕ → List Tree → List Expr → Type 0
AllKnown classes properties trees [] = ⊤
AllKnown classes properties trees (e ∷ es) = IsKnown classes properties trees e × AllKnown classes properties trees es

-- expressions that are there over these names are known
all_known : (classes properties : ℕ) (trees : List Tree) (es : List Expr) → HasEach trees es → All (λ e. IsTreeOver classes properties (tree_of e)) es → AllKnown classes properties trees es
all_known classes properties trees [] has names = tt
all_known classes properties trees (e ∷ es) has names =
    ((has.0, All-head (λ f. IsTreeOver classes properties (tree_of f)) e es names), all_known classes properties trees es has.1 (All-tail (λ f. IsTreeOver classes properties (tree_of f)) e es names))

module _ (classes properties : ℕ) (i : Interp) (m : Reading) (trees : List Tree) (is : IsInterp classes properties i) (forest : IsForest classes trees) (reads : IsReadingOf (nodes_over trees) properties i m) where
  -- a tree that is there has its node at its place
  node_at : (tree : Tree) → Has trees tree → IsNode (nodes_over trees) (place_of tree trees) (node_in trees tree)
  node_at tree has = slice_get-map (node_in trees) trees (place_of tree trees) ∙ ap (option_map (node_in trees)) (at_place tree trees has)

  -- the elements of its node are its members
  to_members : (tree : Tree) → Has trees tree → IsTreeOver classes properties tree → (x : ℕ) → IsIn m (place_of tree trees) x → InTree i x tree
  to_members thing has names x h = subst (λ n. x < n) reads.size (reads.reading.inside (place_of thing trees) x h)
  to_members nothing has names x h = reads.reading.bottom (place_of nothing trees) x (node_at nothing has) h
  to_members (name k) has names x h = (reads.classes (place_of (name k) trees) k x (node_at (name k) has)).0 h
  to_members (both one other) has names x h =
      let parts = forest.parts (both one other) has in
      let g = (reads.reading.both (place_of (both one other) trees) (place_of one trees) (place_of other trees) x (node_at (both one other) has)).0 h in
      (to_members one parts.0 names.0 x g.0, to_members other parts.1 names.1 x g.1)
  to_members (some r filler) has names x h =
      let part = forest.parts (some r filler) has in
      let g = (reads.reading.some (place_of (some r filler) trees) r (place_of filler trees) x (node_at (some r filler) has)).0 h in
      (g.0, (reads.roles r x g.0 names.0).0 g.1, to_members filler part names.1 g.0 g.2)

  -- and its members are elements of its node
  from_members : (tree : Tree) → Has trees tree → IsTreeOver classes properties tree → (x : ℕ) → InTree i x tree → IsIn m (place_of tree trees) x
  from_members thing has names x h = reads.reading.top (place_of thing trees) x (node_at thing has) (subst (λ n. x < n) (sym reads.size) h)
  from_members nothing has names x h = absurd h
  from_members (name k) has names x h = (reads.classes (place_of (name k) trees) k x (node_at (name k) has)).1 h
  from_members (both one other) has names x h =
      let parts = forest.parts (both one other) has in
      (reads.reading.both (place_of (both one other) trees) (place_of one trees) (place_of other trees) x (node_at (both one other) has)).1
      (from_members one parts.0 names.0 x h.0, from_members other parts.1 names.1 x h.1)
  from_members (some r filler) has names x (y, p, h) =
      let part = forest.parts (some r filler) has in
      (reads.reading.some (place_of (some r filler) trees) r (place_of filler trees) x (node_at (some r filler) has)).1
      (y, (reads.roles r x y names.0).1 p, from_members filler part names.1 y h)

  -- and those of the expression
  expr_in : (e : Expr) → IsKnown classes properties trees e → (x : ℕ) → IsIn m (number_in trees e) x → IsMember i x e
  expr_in e known x h = from_tree classes properties i is e x (to_members (tree_of e) known.0 known.1 x h)

  -- and its members are elements of its node
  expr_out : (e : Expr) → IsKnown classes properties trees e → (x : ℕ) → IsMember i x e → IsIn m (number_in trees e) x
  expr_out e known x h = from_members (tree_of e) known.0 known.1 x (to_tree classes properties i is e x h)

  -- an expression within another has its node within
  within_in : (e f : Expr) → IsKnown classes properties trees e → IsKnown classes properties trees f → L.IsWithin i e f → IsWithin m (number_in trees e) (number_in trees f)
  within_in e f ke kf h x k = expr_out f kf x (h x (expr_in e ke x k))

  -- and the other way round
  within_out : (e f : Expr) → IsKnown classes properties trees e → IsKnown classes properties trees f → IsWithin m (number_in trees e) (number_in trees f) → L.IsWithin i e f
  within_out e f ke kf h x k = expr_in f kf x (h x (expr_out e ke x k))

  -- what each expression has, its number has, and the other way round
  each_in : (P : Expr → Type 0) (Q : ℕ → Type 0) → ((e : Expr) → IsKnown classes properties trees e → P e → Q (number_in trees e)) → (es : List Expr) → AllKnown classes properties trees es → All P es → All Q (map (number_in trees) es)
  each_in P Q step [] known h = All-nil Q
  each_in P Q step (e ∷ es) known h =
      All-cons Q (number_in trees e) (map (number_in trees) es) (step e known.0 (All-head P e es h)) (each_in P Q step es known.1 (All-tail P e es h))

  -- from the numbers to the expressions
  each_out : (P : Expr → Type 0) (Q : ℕ → Type 0) → ((e : Expr) → IsKnown classes properties trees e → Q (number_in trees e) → P e) → (es : List Expr) → AllKnown classes properties trees es → All Q (map (number_in trees) es) → All P es
  each_out P Q step [] known h = All-nil P
  each_out P Q step (e ∷ es) known h =
      All-cons P e es (step e known.0 (All-head Q (number_in trees e) (map (number_in trees) es) h)) (each_out P Q step es known.1 (All-tail Q (number_in trees e) (map (number_in trees) es) h))

  -- expressions that are apart have nodes that are
  apart_in : (es : List Expr) → AllKnown classes properties trees es → L.AreApart i es → AreApart m (map (number_in trees) es)
  apart_in [] known h = tt
  apart_in (e ∷ es) known h = (
    each_in (λ f. (x : ℕ) → IsMember i x e → ¬ (IsMember i x f)) (λ d. (x : ℕ) → IsIn m (number_in trees e) x → ¬ (IsIn m d x))
        (λ f kf apart x p q. apart x (expr_in e known.0 x p) (expr_in f kf x q)) es known.1 h.0,
    apart_in es known.1 h.1,
  )

  -- and the other way round
  apart_out : (es : List Expr) → AllKnown classes properties trees es → AreApart m (map (number_in trees) es) → L.AreApart i es
  apart_out [] known h = tt
  apart_out (e ∷ es) known h = (
    each_out (λ f. (x : ℕ) → IsMember i x e → ¬ (IsMember i x f)) (λ d. (x : ℕ) → IsIn m (number_in trees e) x → ¬ (IsIn m d x))
        (λ f kf apart x p q. apart x (expr_out e known.0 x p) (expr_out f kf x q)) es known.1 h.0,
    apart_out es known.1 h.1,
  )

  -- a chain leads where its roles do
  chain_in : (chain : List ℕ) → All (λ r. r < properties) chain → (x y : ℕ) → AreChained i chain x y → Reaches m chain x y
  chain_in [] named x y h = h
  chain_in (r ∷ chain) named x y (z, p, h) =
      (z, (reads.roles r x z (All-head (λ s. s < properties) r chain named)).1 p, chain_in chain (All-tail (λ s. s < properties) r chain named) z y h)

  -- and the other way round
  chain_out : (chain : List ℕ) → All (λ r. r < properties) chain → (x y : ℕ) → Reaches m chain x y → AreChained i chain x y
  chain_out [] named x y h = h
  chain_out (r ∷ chain) named x y (z, p, h) =
      (z, (reads.roles r x z (All-head (λ s. s < properties) r chain named)).0 p, chain_out chain (All-tail (λ s. s < properties) r chain named) z y h)

  -- an axiom that holds holds over nodes
  holds_in : (first : ℕ) (axiom' : Axiom) → IsOver classes properties axiom' → HasEach trees (expressions axiom') → L.Holds i axiom' → HoldsIn m (over trees first axiom')
  holds_in first (A.SubClass e f) is_over has h =
      let known = all_known classes properties trees (e ∷ f ∷ []) has is_over.names in within_in e f known.0 known.1.0 h
  holds_in first (A.Equivalent es) is_over has h =
      let known = all_known classes properties trees es has is_over.names in
      each_in (λ e. All (λ f. L.IsWithin i e f) es) (λ c. All (λ d. IsWithin m c d) (map (number_in trees) es))
      (λ e ke within. each_in (λ f. L.IsWithin i e f) (λ d. IsWithin m (number_in trees e) d) (λ f kf w. within_in e f ke kf w) es known within) es known h
  holds_in first (A.Disjoint es) is_over has h = apart_in es (all_known classes properties trees es has is_over.names) h
  holds_in first (A.SubRole chain s) is_over has h = λ x y p.
      (reads.roles s x y (All-head (λ r. r < properties) s chain is_over.properties)).1 (h x y (chain_out chain (All-tail (λ r. r < properties) s chain is_over.properties) x y p))
  holds_in first (A.EquivalentRoles rs) is_over has h = λ k a l j b g x y p.
      (reads.roles (get_or rs j b) x y (is_over.properties j b g)).1 (h k a l j b g x y ((reads.roles (get_or rs k a) x y (is_over.properties k a l)).0 p))
  holds_in first (A.Transitive r) is_over has h = λ x y z p q.
      let named = All-head (λ s. s < properties) r [] is_over.properties in
      (reads.roles r x z named).1 (h x y z ((reads.roles r x y named).0 p) ((reads.roles r y z named).0 q))
  holds_in first (A.Reflexive r) is_over has h = λ x l.
      (reads.roles r x x (All-head (λ s. s < properties) r [] is_over.properties)).1 (h x (subst (λ n. x < n) reads.size l))
  holds_in first (A.Domain r e) is_over has h = λ x y p.
      let known = all_known classes properties trees (e ∷ []) has is_over.names in
      expr_out e known.0 x (h x y ((reads.roles r x y (All-head (λ s. s < properties) r [] is_over.properties)).0 p))

  -- and the other way round
  holds_out : (first : ℕ) (axiom' : Axiom) → IsOver classes properties axiom' → HasEach trees (expressions axiom') → HoldsIn m (over trees first axiom') → L.Holds i axiom'
  holds_out first (A.SubClass e f) is_over has h =
      let known = all_known classes properties trees (e ∷ f ∷ []) has is_over.names in within_out e f known.0 known.1.0 h
  holds_out first (A.Equivalent es) is_over has h =
      let known = all_known classes properties trees es has is_over.names in
      each_out (λ e. All (λ f. L.IsWithin i e f) es) (λ c. All (λ d. IsWithin m c d) (map (number_in trees) es))
      (λ e ke within. each_out (λ f. L.IsWithin i e f) (λ d. IsWithin m (number_in trees e) d) (λ f kf w. within_out e f ke kf w) es known within) es known h
  holds_out first (A.Disjoint es) is_over has h = apart_out es (all_known classes properties trees es has is_over.names) h
  holds_out first (A.SubRole chain s) is_over has h = λ x y p.
      (reads.roles s x y (All-head (λ r. r < properties) s chain is_over.properties)).0 (h x y (chain_in chain (All-tail (λ r. r < properties) s chain is_over.properties) x y p))
  holds_out first (A.EquivalentRoles rs) is_over has h = λ k a l j b g x y p.
      (reads.roles (get_or rs j b) x y (is_over.properties j b g)).0 (h k a l j b g x y ((reads.roles (get_or rs k a) x y (is_over.properties k a l)).1 p))
  holds_out first (A.Transitive r) is_over has h = λ x y z p q.
      let named = All-head (λ s. s < properties) r [] is_over.properties in
      (reads.roles r x z named).0 (h x y z ((reads.roles r x y named).1 p) ((reads.roles r y z named).1 q))
  holds_out first (A.Reflexive r) is_over has h = λ x l.
      (reads.roles r x x (All-head (λ s. s < properties) r [] is_over.properties)).0 (h x (subst (λ n. x < n) (sym reads.size) l))
  holds_out first (A.Domain r e) is_over has h = λ x y p.
      let known = all_known classes properties trees (e ∷ []) has is_over.names in
      expr_in e known.0 x (h x y ((reads.roles r x y (All-head (λ s. s < properties) r [] is_over.properties)).1 p))

  -- all axioms hold over nodes exactly where they hold
  all_in : (first : ℕ) (axioms : List Axiom) → All (IsOver classes properties) axioms → HasAxioms trees axioms → All (L.Holds i) axioms → All (HoldsIn m) (all_over trees first axioms)
  all_in first [] are has h = All-nil (HoldsIn m)
  all_in first (axiom' ∷ axioms) are has h =
      All-cons (HoldsIn m) (over trees first axiom') (all_over trees (first + part_count axiom') axioms)
      (holds_in first axiom' (All-head (IsOver classes properties) axiom' axioms are) has.0 (All-head (L.Holds i) axiom' axioms h))
      (all_in (first + part_count axiom') axioms (All-tail (IsOver classes properties) axiom' axioms are) has.1 (All-tail (L.Holds i) axiom' axioms h))

  -- from the axioms over nodes to those that were given
  all_out : (first : ℕ) (axioms : List Axiom) → All (IsOver classes properties) axioms → HasAxioms trees axioms → All (HoldsIn m) (all_over trees first axioms) → All (L.Holds i) axioms
  all_out first [] are has h = All-nil (L.Holds i)
  all_out first (axiom' ∷ axioms) are has h =
      All-cons (L.Holds i) axiom' axioms
      (holds_out first axiom' (All-head (IsOver classes properties) axiom' axioms are) has.0 (All-head (HoldsIn m) (over trees first axiom') (all_over trees (first + part_count axiom') axioms) h))
      (all_out (first + part_count axiom') axioms (All-tail (IsOver classes properties) axiom' axioms are) has.1 (All-tail (HoldsIn m) (over trees first axiom') (all_over trees (first + part_count axiom') axioms) h))

  -- so both say the same
  pub means_the_same : (first : ℕ) (axioms : List Axiom) → All (IsOver classes properties) axioms → HasAxioms trees axioms → All (L.Holds i) axioms ↔ All (HoldsIn m) (all_over trees first axioms)
  means_the_same first axioms are has = (all_in first axioms are has, all_out first axioms are has)

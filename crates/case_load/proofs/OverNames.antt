-- Expressions and axioms over the numbers of names that are held.
use Rattle.std.proofs.Common.{◌≡◌, ◌≤◌, ◌<◌, ℕ, List, [], ◌∷◌, length, map, All, refl, sym, ap, subst, ◌∙◌, arith}
use Rattle.std.specs.Prelude.{⊤}
use Rattle.std.proofs.lemmas.List.Elements.{All-nil, All-cons, All-weaker}
use Rattle.el_logic.specs.declared.types.Expr.{Expr}
use Rattle.el_logic.specs.declared.types.Expr.TheVariants as el
use Rattle.el_logic.specs.declared.types.Axiom.{Axiom}
use Rattle.concept_store.specs.Trees.{Tree, thing, nothing, name, both, some, tree_of, folded, IsTreeOver}
use Rattle.concept_store.specs.Nodes.{expressions}
use Rattle.concept_store.specs.Roles.{IsOver, HasChain}
use Rattle.concept_store.specs.Roles as over
use Rattle.ofn_axiom.specs.declared.types.IriExpr.{IriExpr, fold-IriExpr, roll-IriExpr}
use Rattle.ofn_axiom.specs.declared.types.IriExpr.TheOpen.{IriExpr-F}
use Rattle.ofn_axiom.specs.declared.types.IriExpr.TheFolds.{fold-roll-IriExpr, ind-IriExpr, map-IriExpr}
use Rattle.ofn_axiom.specs.declared.types.IriExpr.TheVariants as expr
use Rattle.ofn_axiom.specs.declared.types.IriExpr.TheVariants.{rolls-Top, rolls-Bottom, rolls-Class, rolls-And, rolls-Exists}
use Rattle.ofn_axiom.specs.declared.types.IriAxiom.{IriAxiom}
use Rattle.ofn_axiom.specs.declared.types.IriAxiom.TheVariants as ax
use Rattle.ofn_axiom.specs.declared.types.Mention.{Mention}
use Rattle.ofn_axiom.specs.declared.types.Mention.TheVariants as mention
use Rattle.ofn_axiom.specs.declared.types.Names.{Names}
use Rattle.ofn_axiom.specs.Numbers.{mentions, mention_step, all_mentions, properties, axiom_mentions, number_in, expr_over, expr_step, axiom_over}
use Rattle.case_load.proofs.HeldNames.{IsHeldIn, AllHeld, held_parts, number_below}

-- the tree of an intersection, over the rest of its operands
abbrev rest_of : Expr → Tree → Tree
rest_of (el.And' _ operands) tree = folded tree operands
rest_of _ tree = tree

-- the trees of these expressions are over the names
abbrev AreTrees : ℕ → ℕ → List Expr → Type 0
AreTrees classes roles [] = ⊤
AreTrees classes roles (e ∷ es) = IsTreeOver classes roles (tree_of e) × AreTrees classes roles es

-- an intersection, over the rest of its operands
rest_is_over : (classes roles : ℕ) (operands : List Expr) (tree : Tree) → IsTreeOver classes roles tree → AreTrees classes roles operands → IsTreeOver classes roles (rest_of (el.And operands) tree)
unfolding Rattle.el_logic.specs.declared.types.Expr.TheBlock.hidden-the_row-Expr-0 denote.Hole.Carrier.hidden
rest_is_over classes roles [] tree first rest = first
rest_is_over classes roles (e ∷ es) tree first rest = rest_is_over classes roles es (both tree (tree_of e)) (first, rest.0) rest.1

-- an intersection of expressions over names
and_is_over : (classes roles : ℕ) (operands : List Expr) → AreTrees classes roles operands → IsTreeOver classes roles (tree_of (el.And operands))
unfolding Rattle.el_logic.specs.declared.types.Expr.TheBlock.hidden-the_row-Expr-0 denote.Hole.Carrier.hidden
and_is_over classes roles [] all = tt
and_is_over classes roles (e ∷ es) all = rest_is_over classes roles es (tree_of e) all.0 all.1

-- the tree of a restriction
exists_is : (role : ℕ) (filler : Expr) → tree_of (el.Exists role filler) ≡ some role (tree_of filler)
unfolding Rattle.el_logic.specs.declared.types.Expr.TheBlock.hidden-the_row-Expr-1 denote.Hole.Carrier.hidden
exists_is role filler = refl

module _ (names : Names) where
  -- the numbers of an expression are those of names that are held
  abbrev IsTree : Expr → Type 0
  IsTree e = IsTreeOver (length names.classes.names) (length names.roles.names) (tree_of e)

  -- an expression over IRIs is so, once its names are held
  abbrev IsExpr : IriExpr → Type 0
  IsExpr e = AllHeld names (mentions e) → IsTree (expr_over names e)

  -- each of a list
  each_over : (ys : List ((e : IriExpr) × IsExpr e)) → AllHeld names (all_mentions (map (λ y. y.0) ys)) → AreTrees (length names.classes.names) (length names.roles.names) (map (expr_over names) (map (λ y. y.0) ys))
  each_over [] held = tt
  each_over (y ∷ ys) held =
      let parts = held_parts names (mentions y.0) (all_mentions (map (λ y. y.0) ys)) held in
      (y.1 parts.0, each_over ys parts.1)

  -- what an expression mentions and what it is over numbers, by its form
  top_over : IsExpr expr.Top
  unfolding expr_over
  top_over held = subst IsTree (sym (ap (fold-IriExpr Expr (expr_step names)) (sym rolls-Top) ∙ fold-roll-IriExpr Expr (expr_step names) IriExpr-F.Top)) tt

  -- owl:Nothing
  bottom_over : IsExpr expr.Bottom
  unfolding expr_over
  bottom_over held = subst IsTree (sym (ap (fold-IriExpr Expr (expr_step names)) (sym rolls-Bottom) ∙ fold-roll-IriExpr Expr (expr_step names) IriExpr-F.Bottom)) tt

  -- a class name
  class_over : (iri : List ℕ) → IsExpr (expr.Class iri)
  unfolding expr_over mentions
  class_over iri held =
      let said = ap (fold-IriExpr (List Mention) mention_step) (sym (rolls-Class iri)) ∙ fold-roll-IriExpr (List Mention) mention_step (IriExpr-F.Class iri) in
      let there = subst (AllHeld names) said held in
      subst IsTree (sym (ap (fold-IriExpr Expr (expr_step names)) (sym (rolls-Class iri)) ∙ fold-roll-IriExpr Expr (expr_step names) (IriExpr-F.Class iri))) (number_below names.classes iri there.0)

  -- the names of an intersection
  and_said : (classes : List IriExpr) → mentions (expr.And classes) ≡ all_mentions classes
  unfolding mentions
  and_said classes = ap (fold-IriExpr (List Mention) mention_step) (sym (rolls-And classes)) ∙ fold-roll-IriExpr (List Mention) mention_step (IriExpr-F.And classes)

  -- an intersection over numbers
  and_given : (classes : List IriExpr) → expr_over names (expr.And classes) ≡ el.And (map (expr_over names) classes)
  unfolding expr_over
  and_given classes = ap (fold-IriExpr Expr (expr_step names)) (sym (rolls-And classes)) ∙ fold-roll-IriExpr Expr (expr_step names) (IriExpr-F.And classes)

  -- the names of a restriction
  exists_said : (iri : List ℕ) (filler : IriExpr) → mentions (expr.Exists iri filler) ≡ mention.Property iri ∷ mentions filler
  unfolding mentions
  exists_said iri filler = ap (fold-IriExpr (List Mention) mention_step) (sym (rolls-Exists iri filler)) ∙ fold-roll-IriExpr (List Mention) mention_step (IriExpr-F.Exists iri filler)

  -- a restriction over numbers
  exists_given : (iri : List ℕ) (filler : IriExpr) → expr_over names (expr.Exists iri filler) ≡ el.Exists (number_in names.roles iri) (expr_over names filler)
  unfolding expr_over
  exists_given iri filler = ap (fold-IriExpr Expr (expr_step names)) (sym (rolls-Exists iri filler)) ∙ fold-roll-IriExpr Expr (expr_step names) (IriExpr-F.Exists iri filler)

  -- an intersection
  and_over : (ys : List ((e : IriExpr) × IsExpr e)) → IsExpr (expr.And (map (λ y. y.0) ys))
  and_over ys held =
      let is = map (λ (y : (e : IriExpr) × IsExpr e). y.0) ys in
      subst IsTree (sym (and_given is)) (and_is_over (length names.classes.names) (length names.roles.names) (map (expr_over names) is) (each_over ys (subst (AllHeld names) (and_said is) held)))

  -- a restriction
  exists_over : (iri : List ℕ) (filler : IriExpr) → IsExpr filler → IsExpr (expr.Exists iri filler)
  exists_over iri filler inner held =
      let there = subst (AllHeld names) (exists_said iri filler) held in
      subst IsTree (sym (exists_given iri filler)) (subst (IsTreeOver (length names.classes.names) (length names.roles.names)) (sym (exists_is (number_in names.roles iri) (expr_over names filler))) (number_below names.roles iri there.0, inner there.1))

  -- one layer of an expression
  layer_over : (y : IriExpr-F ((e : IriExpr) × IsExpr e)) → IsExpr (roll-IriExpr (map-IriExpr ((e : IriExpr) × IsExpr e) IriExpr (λ e. e.0) y))
  layer_over IriExpr-F.Top = subst IsExpr (sym rolls-Top) top_over
  layer_over IriExpr-F.Bottom = subst IsExpr (sym rolls-Bottom) bottom_over
  layer_over (IriExpr-F.Class iri) = subst IsExpr (sym (rolls-Class iri)) (class_over iri)
  layer_over (IriExpr-F.And ys) = subst IsExpr (sym (rolls-And (map (λ y. y.0) ys))) (and_over ys)
  layer_over (IriExpr-F.Exists iri y) = subst IsExpr (sym (rolls-Exists iri y.0)) (exists_over iri y.0 y.1)

  -- an expression whose names are held
  pub expr_is_over : (e : IriExpr) → IsExpr e
  expr_is_over = ind-IriExpr IsExpr (λ x y is. subst (λ z. IsExpr (roll-IriExpr z)) is (layer_over y))

  -- several
  exprs_over : (es : List IriExpr) → AllHeld names (all_mentions es) → All IsTree (map (expr_over names) es)
  exprs_over [] held = All-nil IsTree
  exprs_over (e ∷ es) held =
      let parts = held_parts names (mentions e) (all_mentions es) held in
      All-cons IsTree (expr_over names e) (map (expr_over names) es) (expr_is_over e parts.0) (exprs_over es parts.1)

  -- a number is that of a property
  abbrev IsRole : ℕ → Type 0
  IsRole r = r < length names.roles.names

  -- the numbers of properties that are held
  roles_over : (iris : List (List ℕ)) → AllHeld names (properties iris) → All IsRole (map (number_in names.roles) iris)
  roles_over [] held = All-nil IsRole
  roles_over (iri ∷ iris) held = All-cons IsRole (number_in names.roles iri) (map (number_in names.roles) iris) (number_below names.roles iri held.0) (roles_over iris held.1)

  -- an expression alone
  one_tree : (e : IriExpr) → AllHeld names (mentions e) → All IsTree (expr_over names e ∷ [])
  one_tree e held = All-cons IsTree (expr_over names e) [] (expr_is_over e held) (All-nil IsTree)

  -- a property alone
  one_role : (iri : List ℕ) → IsHeldIn names (mention.Property iri) → All IsRole (number_in names.roles iri ∷ [])
  one_role iri held = All-cons IsRole (number_in names.roles iri) [] (number_below names.roles iri held) (All-nil IsRole)

  -- an axiom whose names are held, and whose chain is neither empty nor too long
  pub axiom_is_over : (a : IriAxiom) → AllHeld names (axiom_mentions a) → HasChain (axiom_over names a) → IsOver (length names.classes.names) (length names.roles.names) (axiom_over names a)
  axiom_is_over (ax.SubClass c d) held chain =
      let parts = held_parts names (mentions c) (mentions d) held in
      record { names = All-cons IsTree (expr_over names c) (expr_over names d ∷ []) (expr_is_over c parts.0) (one_tree d parts.1); properties = All-nil IsRole; chain = chain }
  axiom_is_over (ax.Equivalent cs) held chain = record { names = exprs_over cs held; properties = All-nil IsRole; chain = chain }
  axiom_is_over (ax.Disjoint cs) held chain = record { names = exprs_over cs held; properties = All-nil IsRole; chain = chain }
  axiom_is_over (ax.SubRole rs s) held chain =
      let parts = held_parts names (properties rs) (mention.Property s ∷ []) held in
      record { names = All-nil IsTree; properties = All-cons IsRole (number_in names.roles s) (map (number_in names.roles) rs) (number_below names.roles s parts.1.0) (roles_over rs parts.0); chain = chain }
  axiom_is_over (ax.EquivalentRoles rs) held chain = record { names = All-nil IsTree; properties = roles_over rs held; chain = chain }
  axiom_is_over (ax.Transitive r) held chain = record { names = All-nil IsTree; properties = one_role r held.0; chain = chain }
  axiom_is_over (ax.Reflexive r) held chain = record { names = All-nil IsTree; properties = one_role r held.0; chain = chain }
  axiom_is_over (ax.Domain r c) held chain = record { names = one_tree c held.1; properties = one_role r held.0; chain = chain }

-- a tree over some names is one over more
tree_over_more : (classes roles more more_roles : ℕ) → classes ≤ more → roles ≤ more_roles → (tree : Tree) → IsTreeOver classes roles tree → IsTreeOver more more_roles tree
tree_over_more classes roles more more_roles c r thing h = tt
tree_over_more classes roles more more_roles c r nothing h = tt
tree_over_more classes roles more more_roles c r (name k) h = omega (arith, c, h)
tree_over_more classes roles more more_roles c r (both one other) h = (tree_over_more classes roles more more_roles c r one h.0, tree_over_more classes roles more more_roles c r other h.1)
tree_over_more classes roles more more_roles c r (some k filler) h = (omega (arith, r, h.0), tree_over_more classes roles more more_roles c r filler h.1)

-- so is an axiom
pub axiom_over_more : (classes roles more more_roles : ℕ) → classes ≤ more → roles ≤ more_roles → (a : Axiom) → IsOver classes roles a → IsOver more more_roles a
axiom_over_more classes roles more more_roles c r a h = record {
  names = All-weaker (λ e. IsTreeOver classes roles (tree_of e)) (λ e. IsTreeOver more more_roles (tree_of e)) (λ e. tree_over_more classes roles more more_roles c r (tree_of e)) (expressions a) h.names;
  properties = All-weaker (λ k. k < roles) (λ k. k < more_roles) (λ k l. omega (arith, r, l)) (over.properties a) h.properties;
  chain = h.chain;
}

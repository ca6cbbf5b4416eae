-- Numbering expressions and axioms gives their numbers in the list of all trees.
use Rattle.std.proofs.Common.{◌≡◌, ℕ, ◌+◌, ◌^◌, ◌<◌, List, [], ◌∷◌, ◌++◌, map, get_or, refl, sym, ap, subst, ◌∙◌, arith, append_assoc, All}
use Rattle.std.specs.Prelude.{⊤}
use Rattle.std.proofs.lemmas.List.{append-nil}
use Rattle.std.proofs.lemmas.List.Elements.{All-head, All-tail}
use Rattle.std.proofs.lemmas.List.Sums.{fold-append}
use Rattle.el_logic.specs.declared.types.Expr.{Expr}
use Rattle.el_logic.specs.declared.types.Axiom.{Axiom}
use Rattle.el_logic.specs.declared.types.Axiom.TheVariants as A
use Rattle.concept_store.specs.declared.types.Node.{Node}
use Rattle.concept_store.specs.declared.types.NodeAxiom.{NodeAxiom}
use Rattle.concept_store.specs.declared.types.NodeAxiom.TheVariants.{SubClass, Equivalent, Disjoint, Domain}
use Rattle.concept_store.specs.Trees.{Tree, tree_of, compounds, IsTreeOver, place_of, with_tree, with_trees}
use Rattle.concept_store.specs.Nodes.{expressions, compounds_of, compounds_in, nodes_over, number_in, over, all_over, part_count, parts_within}
use Rattle.concept_store.specs.Roles.{IsOver}
use Rattle.concept_store.specs.Inside.Numbering.{in_32_bits, numbered_each, numbered_axiom, numbered_axioms}
use Rattle.concept_store.proofs.TreeLaws.{place_kept}
use Rattle.concept_store.proofs.ForestLaws.{Has, IsForest, has_kept}
use Rattle.concept_store.proofs.NumberingLaws.{numbered_is}

-- the expressions are among the trees
abbrev pub HasEach : List Tree → List Expr → Type 0
HasEach trees [] = ⊤
HasEach trees (expr ∷ exprs) = Has trees (tree_of expr) × HasEach trees exprs

-- and stay so when trees are added
pub has_each_kept : (trees more : List Tree) (exprs : List Expr) → HasEach trees exprs → HasEach (trees ++ more) exprs
has_each_kept trees more [] has = tt
has_each_kept trees more (expr ∷ exprs) has = (has_kept trees more (tree_of expr) has.0, has_each_kept trees more exprs has.1)

-- numbers stay when trees are added
pub numbers_kept : (trees more : List Tree) (exprs : List Expr) → HasEach trees exprs → map (number_in (trees ++ more)) exprs ≡ map (number_in trees) exprs
numbers_kept trees more [] has = refl
numbers_kept trees more (expr ∷ exprs) has =
    let here = place_kept (tree_of expr) trees more has.0 in
    let rest = numbers_kept trees more exprs has.1 in
    λ i. here i ∷ rest i

-- an axiom over nodes keeps its numbers when trees are added
pub over_kept : (trees more : List Tree) (first : ℕ) (axiom' : Axiom) → HasEach trees (expressions axiom') → over (trees ++ more) first axiom' ≡ over trees first axiom'
over_kept trees more first (A.SubClass low high) has =
    let one = place_kept (tree_of low) trees more has.0 in
    let other = place_kept (tree_of high) trees more has.1.0 in
    λ i. SubClass (one i) (other i)
over_kept trees more first (A.Equivalent exprs) has = ap Equivalent (numbers_kept trees more exprs has)
over_kept trees more first (A.Disjoint exprs) has = ap Disjoint (numbers_kept trees more exprs has)
over_kept trees more first (A.SubRole chain role) has = refl
over_kept trees more first (A.EquivalentRoles roles) has = refl
over_kept trees more first (A.Transitive role) has = refl
over_kept trees more first (A.Reflexive role) has = refl
over_kept trees more first (A.Domain role expr) has = ap (Domain role) (place_kept (tree_of expr) trees more has.0)

-- what a step of numbering does: what it finds, the nodes, and that the forest stays one and goes on
pub record IsStep {X : Type 0} (classes : ℕ) (old new : List Tree) (exprs : List Expr) (wanted : X) (found : X × List Node) : Type 0 where
  pub same : found ≡ (wanted, nodes_over new)
  pub forest : IsForest classes new
  pub more : List Tree
  pub grows : new ≡ old ++ more
  pub has : HasEach new exprs

-- numbering expressions
pub each_is : (classes roles : ℕ) (exprs : List Expr) (trees : List Tree) → IsForest classes trees → All (λ expr. IsTreeOver classes roles (tree_of expr)) exprs →
    IsStep classes trees (with_trees trees (compounds_of exprs)) exprs (map (number_in (with_trees trees (compounds_of exprs))) exprs) (numbered_each exprs (nodes_over trees))
each_is classes roles [] trees forest names = record { same = refl; forest = forest; more = []; grows = sym (append-nil trees); has = tt }
each_is classes roles (expr ∷ exprs) trees forest names =
    let mid = with_trees trees (compounds (tree_of expr)) in
    let end = with_trees mid (compounds_of exprs) in
    let one = numbered_is classes roles (tree_of expr) trees forest (All-head (λ e. IsTreeOver classes roles (tree_of e)) expr exprs names) in
    let rest = each_is classes roles exprs mid one.forest (All-tail (λ e. IsTreeOver classes roles (tree_of e)) expr exprs names) in
    let all : with_trees trees (compounds_of (expr ∷ exprs)) ≡ end = fold-append with_tree trees (compounds (tree_of expr)) (compounds_of exprs) in
    let kept : place_of (tree_of expr) end ≡ place_of (tree_of expr) mid = ap (place_of (tree_of expr)) rest.grows ∙ place_kept (tree_of expr) mid rest.more one.has in
    let first : numbered_each (expr ∷ exprs) (nodes_over trees) ≡ (place_of (tree_of expr) mid ∷ (numbered_each exprs (nodes_over mid)).0, (numbered_each exprs (nodes_over mid)).1) =
    ap (λ (w : ℕ × List Node). (w.0 ∷ (numbered_each exprs w.1).0, (numbered_each exprs w.1).1)) one.same in
    let second : (place_of (tree_of expr) mid ∷ (numbered_each exprs (nodes_over mid)).0, (numbered_each exprs (nodes_over mid)).1) ≡ (place_of (tree_of expr) end ∷ map (number_in end) exprs, nodes_over end) =
    λ i. (sym kept i ∷ (rest.same i).0, (rest.same i).1) in
    subst (λ new. IsStep classes trees new (expr ∷ exprs) (map (number_in new) (expr ∷ exprs)) (numbered_each (expr ∷ exprs) (nodes_over trees))) (sym all)
    (record {
      same = first ∙ second;
      forest = rest.forest;
      more = one.more ++ rest.more;
      grows = rest.grows ∙ ap (λ ts. ts ++ rest.more) one.grows ∙ append_assoc trees one.more rest.more;
      has = (subst (λ ts. Has ts (tree_of expr)) (sym rest.grows) (has_kept mid rest.more (tree_of expr) one.has), rest.has);
    })

-- what numbering expressions gives, another list made of the numbers
each_as : {X : Type 0} (classes : ℕ) (old new : List Tree) (exprs : List Expr) (f : List ℕ → X) (wanted : List ℕ) (found : List ℕ × List Node) →
    IsStep classes old new exprs wanted found → IsStep classes old new exprs (f wanted) (f found.0, found.1)
each_as classes old new exprs f wanted found step = record {
  same = ap (λ (w : List ℕ × List Node). (f w.0, w.1)) step.same;
  forest = step.forest;
  more = step.more;
  grows = step.grows;
  has = step.has;
}

-- numbering an axiom
pub axiom_is : (classes roles first : ℕ) (axiom' : Axiom) (trees : List Tree) → IsForest classes trees → IsOver classes roles axiom' →
    IsStep classes trees (with_trees trees (compounds_of (expressions axiom'))) (expressions axiom') (over (with_trees trees (compounds_of (expressions axiom'))) first axiom') (numbered_axiom first axiom' (nodes_over trees))
axiom_is classes roles first (A.SubClass low high) trees forest is =
    let exprs = low ∷ high ∷ [] in
    let new = with_trees trees (compounds_of exprs) in
    each_as classes trees new exprs (λ ns. SubClass (get_or ns 0 0) (get_or ns 1 0)) (map (number_in new) exprs) (numbered_each exprs (nodes_over trees)) (each_is classes roles exprs trees forest is.names)
axiom_is classes roles first (A.Equivalent exprs) trees forest is =
    let new = with_trees trees (compounds_of exprs) in
    each_as classes trees new exprs Equivalent (map (number_in new) exprs) (numbered_each exprs (nodes_over trees)) (each_is classes roles exprs trees forest is.names)
axiom_is classes roles first (A.Disjoint exprs) trees forest is =
    let new = with_trees trees (compounds_of exprs) in
    each_as classes trees new exprs Disjoint (map (number_in new) exprs) (numbered_each exprs (nodes_over trees)) (each_is classes roles exprs trees forest is.names)
axiom_is classes roles first (A.Domain role expr) trees forest is =
    let exprs = expr ∷ [] in
    let new = with_trees trees (compounds_of exprs) in
    each_as classes trees new exprs (λ ns. Domain role (get_or ns 0 0)) (map (number_in new) exprs) (numbered_each exprs (nodes_over trees)) (each_is classes roles exprs trees forest is.names)
axiom_is classes roles first (A.SubRole chain role) trees forest is = record { same = refl; forest = forest; more = []; grows = sym (append-nil trees); has = tt }
axiom_is classes roles first (A.EquivalentRoles names) trees forest is = record { same = refl; forest = forest; more = []; grows = sym (append-nil trees); has = tt }
axiom_is classes roles first (A.Transitive role) trees forest is = record { same = refl; forest = forest; more = []; grows = sym (append-nil trees); has = tt }
axiom_is classes roles first (A.Reflexive role) trees forest is = record { same = refl; forest = forest; more = []; grows = sym (append-nil trees); has = tt }

-- the axioms' expressions are among the trees
abbrev pub HasAxioms : List Tree → List Axiom → Type 0
HasAxioms trees [] = ⊤
HasAxioms trees (axiom' ∷ axioms) = HasEach trees (expressions axiom') × HasAxioms trees axioms

-- and stay so when trees are added
pub has_axioms_kept : (trees more : List Tree) (axioms : List Axiom) → HasAxioms trees axioms → HasAxioms (trees ++ more) axioms
has_axioms_kept trees more [] has = tt
has_axioms_kept trees more (axiom' ∷ axioms) has = (has_each_kept trees more (expressions axiom') has.0, has_axioms_kept trees more axioms has.1)

-- axioms over nodes keep their numbers
pub all_over_kept : (trees more : List Tree) (first : ℕ) (axioms : List Axiom) → HasAxioms trees axioms → all_over (trees ++ more) first axioms ≡ all_over trees first axioms
all_over_kept trees more first [] has = refl
all_over_kept trees more first (axiom' ∷ axioms) has =
    let one = over_kept trees more first axiom' has.0 in
    let rest = all_over_kept trees more (first + part_count axiom') axioms has.1 in
    λ i. one i ∷ rest i

-- what numbering a list of axioms does
pub record AreNumbered (classes : ℕ) (old new : List Tree) (first : ℕ) (axioms : List Axiom) (found : List NodeAxiom × List Node) : Type 0 where
  pub over_is : first + parts_within axioms < 2 ^ 32 → found.0 ≡ all_over new first axioms
  pub nodes_are : found.1 ≡ nodes_over new
  pub forest : IsForest classes new
  pub more : List Tree
  pub grows : new ≡ old ++ more
  pub has : HasAxioms new axioms

-- numbering axioms one after the other
pub axioms_are : (classes roles first : ℕ) (axioms : List Axiom) (trees : List Tree) → IsForest classes trees → All (IsOver classes roles) axioms →
    AreNumbered classes trees (with_trees trees (compounds_in axioms)) first axioms (numbered_axioms first axioms (nodes_over trees))
axioms_are classes roles first [] trees forest are = record { over_is = λ small. refl; nodes_are = refl; forest = forest; more = []; grows = sym (append-nil trees); has = tt }
axioms_are classes roles first (axiom' ∷ axioms) trees forest are =
    let mid = with_trees trees (compounds_of (expressions axiom')) in
    let end = with_trees mid (compounds_in axioms) in
    let next = in_32_bits (first + part_count axiom') in
    let one = axiom_is classes roles first axiom' trees forest (All-head (IsOver classes roles) axiom' axioms are) in
    let rest = axioms_are classes roles next axioms mid one.forest (All-tail (IsOver classes roles) axiom' axioms are) in
    let all : with_trees trees (compounds_in (axiom' ∷ axioms)) ≡ end = fold-append with_tree trees (compounds_of (expressions axiom')) (compounds_in axioms) in
    let kept : over end first axiom' ≡ over mid first axiom' = ap (λ ts. over ts first axiom') rest.grows ∙ over_kept mid rest.more first axiom' one.has in
    let begun : numbered_axioms first (axiom' ∷ axioms) (nodes_over trees) ≡ (over mid first axiom' ∷ (numbered_axioms next axioms (nodes_over mid)).0, (numbered_axioms next axioms (nodes_over mid)).1) =
    ap (λ (w : NodeAxiom × List Node). (w.0 ∷ (numbered_axioms next axioms w.1).0, (numbered_axioms next axioms w.1).1)) one.same in
    subst (λ new. AreNumbered classes trees new first (axiom' ∷ axioms) (numbered_axioms first (axiom' ∷ axioms) (nodes_over trees))) (sym all)
    (record {
      over_is = λ small.
          let exact : next ≡ first + part_count axiom' = omega arith in
          let same : (numbered_axioms next axioms (nodes_over mid)).0 ≡ all_over end (first + part_count axiom') axioms =
          rest.over_is (omega arith) ∙ ap (λ n. all_over end n axioms) exact in
          ap (λ (w : List NodeAxiom × List Node). w.0) begun ∙ (λ i. sym kept i ∷ same i);
      nodes_are = ap (λ (w : List NodeAxiom × List Node). w.1) begun ∙ rest.nodes_are;
      forest = rest.forest;
      more = one.more ++ rest.more;
      grows = rest.grows ∙ ap (λ ts. ts ++ rest.more) one.grows ∙ append_assoc trees one.more rest.more;
      has = (subst (λ ts. HasEach ts (expressions axiom')) (sym rest.grows) (has_each_kept mid rest.more (expressions axiom') one.has), rest.has);
    })

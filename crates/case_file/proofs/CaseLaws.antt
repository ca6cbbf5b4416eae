-- What a case is made of, and the nodes and chains that it has.
use Rattle.std.proofs.Common.{◌≡◌, ℕ, zero, suc, ◌+◌, ◌<◌, ◌≤◌, List, [], ◌∷◌, map, length, All, Some, slice_get, refl, sym, ap, subst, ⊎_elim, arith}
use Rattle.std.specs.Prelude.{slice_index_or}
use Rattle.std.proofs.lemmas.Option.{same_Some, none-some, slice_get_within}
use Rattle.std.proofs.lemmas.List.Elements.{All-nil, All-head, All-tail}
use Rattle.el_logic.specs.declared.types.Axiom.{Axiom}
use Rattle.el_logic.specs.declared.types.Axiom.TheVariants as A
use Rattle.el_logic.specs.declared.types.Part.{Part}
use Rattle.concept_store.specs.declared.types.Node.{Node}
use Rattle.concept_store.specs.declared.types.Node.TheVariants.{Top, Bottom, Class, And, Exists}
use Rattle.concept_store.specs.declared.types.NodeAxiom.{NodeAxiom}
use Rattle.concept_store.specs.Trees.{Tree}
use Rattle.concept_store.specs.Nodes.{over, all_over, part_count, parts_within, trees_of}
use Rattle.concept_store.specs.Roles.{Numbered, HasChain, IsOver, AreOver, store_of}
use Rattle.concept_store.specs.Order.{AreInOrder}
use Rattle.fact_table.specs.declared.types.Source.{Source}
use Rattle.el_rules.specs.Closing.{AreNodes, HasRole}
use Rattle.el_rules.specs.Theories.{IsNamed, IsStated}
use Rattle.case_file.specs.declared.types.CaseInput.{CaseInput}
use Rattle.case_file.specs.Cases.{CaseView, IsCaseInput, case_of, IsCase, IsExcuse, IsMustHave, IsRowAxiom, row_at, row_over, rows_over, theory_of}
use Rattle.case_file.proofs.ListLaws.{row_has, over_of_row}

-- the store of a case
pub store_is : (case : CaseView) → IsCase case → case.store ≡ store_of case.classes case.properties case.left case.right
store_is case is = ap (λ (c : CaseView). c.store) is.built

-- its axioms of rows over nodes
pub over_is : (case : CaseView) → IsCase case → case.over ≡ rows_over case.rows case.order
over_is case is = ap (λ (c : CaseView). c.over) is.built

-- what is built is a case
pub built_case : (input : CaseInput) → IsCaseInput input → IsCase (case_of input)
built_case input given = record {
  given = given;
  built = refl;
  excuse = record {
    ascending = λ one other less within. absurd (omega (arith, less, within));
    classes = All-nil (λ node. (2 ≤ node) × (node < input.classes + 2));
  };
}

-- by its parts
pub case_from : (input : CaseInput) (store : Numbered) (over : List (List NodeAxiom)) (excused : List ℕ) → store ≡ store_of input.classes input.roles input.left input.right → over ≡ rows_over input.rows input.order → excused ≡ [] →
    record {
      store = store;
      left = input.left;
      right = input.right;
      rows = input.rows;
      order = input.order;
      over = over;
      classes = input.classes;
      properties = input.roles;
      excused = excused;
    } ≡ case_of input
case_from input store over excused store_same over_same none = λ i. record {
  store = store_same i;
  left = input.left;
  right = input.right;
  rows = input.rows;
  order = input.order;
  over = over_same i;
  classes = input.classes;
  properties = input.roles;
  excused = none i;
}

-- a case stays one when it excuses other classes
pub still_case : (case : CaseView) (nodes : List ℕ) → IsCase case → IsExcuse case nodes → IsCase (record case { excused = nodes })
still_case case nodes is excuse = record {
  given = is.given;
  built = ap (λ (c : CaseView). record c { excused = nodes }) is.built;
  excuse = record { ascending = excuse.ascending; classes = excuse.classes };
}

-- the stores of axioms over names have their nodes in order
abbrev pub StoresInOrder : Type 0
StoresInOrder = (classes roles : ℕ) (left right : List Axiom) → AreOver classes roles left → AreOver classes roles right
    → AreInOrder classes roles (store_of classes roles left right).nodes

-- so does a case
pub in_order : StoresInOrder → (case : CaseView) → IsCase case → AreInOrder case.classes case.properties case.store.nodes
in_order ordered case is =
    subst (λ (store : Numbered). AreInOrder case.classes case.properties store.nodes) (sym (store_is case is))
    (ordered case.classes case.properties case.left case.right is.given.left is.given.right)

-- nodes in order are as the rules need them
pub are_nodes : (classes properties : ℕ) (nodes : List Node) → AreInOrder classes properties nodes → AreNodes nodes
are_nodes classes properties nodes order = record {
  thing = order.thing;
  nothing = order.nothing;
  one_thing = λ n at. order.once n 0 Top at order.thing;
  one_nothing = λ n at. order.once n 1 Bottom at order.nothing;
  both = λ n c d at.
      let before = order.both n c d at in let within = slice_get_within nodes n (And c d) at in
      (omega (arith, before.0, within), omega (arith, before.1, within));
  some = λ n r c at. omega (arith, (order.some n r c at).1, slice_get_within nodes n (Exists r c) at);
}

-- a node that must have a member is one of the nodes
pub must_have_within : (case : CaseView) (node : ℕ) → AreInOrder case.classes case.properties case.store.nodes → IsMustHave case node → node < length case.store.nodes
must_have_within case node order must = ⊎_elim
    (λ first. subst (λ n. n < length case.store.nodes) (sym first) (slice_get_within case.store.nodes 0 Top order.thing))
    (λ named. subst (λ n. n < length case.store.nodes) (sym named.2) (slice_get_within case.store.nodes (named.0 + 2) (Class named.0) (order.names named.0 named.1)))
    must

-- an axiom whose chain has a property has a role over nodes
chain_over : (trees : List Tree) (first : ℕ) (axiom' : Axiom) → HasChain axiom' → HasRole (over trees first axiom')
chain_over trees first (A.SubRole [] role) has = absurd (omega (arith, has.0))
chain_over trees first (A.SubRole (r ∷ chain) role) has = tt
chain_over trees first (A.SubClass low high) has = tt
chain_over trees first (A.Equivalent exprs) has = tt
chain_over trees first (A.Disjoint exprs) has = tt
chain_over trees first (A.EquivalentRoles roles) has = tt
chain_over trees first (A.Transitive role) has = tt
chain_over trees first (A.Reflexive role) has = tt
chain_over trees first (A.Domain role expr) has = tt

-- so has each axiom over nodes of a document
chains_over : (classes roles : ℕ) (trees : List Tree) (first : ℕ) (axioms : List Axiom) → All (IsOver classes roles) axioms → (k : ℕ) (said : NodeAxiom) → slice_get (all_over trees first axioms) k ≡ Some said → HasRole said
chains_over classes roles trees first [] names k said at = absurd (none-some said at)
chains_over classes roles trees first (axiom' ∷ axioms) names zero said at =
    subst HasRole (same_Some (over trees first axiom') said at) (chain_over trees first axiom' (All-head (IsOver classes roles) axiom' axioms names).chain)
chains_over classes roles trees first (axiom' ∷ axioms) names (suc k) said at =
    chains_over classes roles trees (first + part_count axiom') axioms (All-tail (IsOver classes roles) axiom' axioms names) k said at

-- an axiom of a row has a role
row_chain : (axiom' : Axiom) → IsRowAxiom axiom' → HasRole (row_over axiom')
row_chain (A.SubRole [] role) row = absurd (omega (arith, row))
row_chain (A.SubRole (r ∷ chain) role) row = tt
row_chain (A.SubClass low high) row = tt
row_chain _ row = absurd row

-- so has each of the axioms of a row
row_chains : (axioms : List Axiom) → All IsRowAxiom axioms → (k : ℕ) (said : NodeAxiom) → slice_get (map row_over axioms) k ≡ Some said → HasRole said
row_chains [] row k said at = absurd (none-some said at)
row_chains (axiom' ∷ axioms) row zero said at = subst HasRole (same_Some (row_over axiom') said at) (row_chain axiom' (All-head IsRowAxiom axiom' axioms row))
row_chains (axiom' ∷ axioms) row (suc k) said at = row_chains axioms (All-tail IsRowAxiom axiom' axioms row) k said at

-- the axioms of the row with a rank, over nodes
pub row_is : (case : CaseView) → IsCase case → (rank : ℕ) → slice_index_or case.over rank [] ≡ map row_over (slice_index_or (map (row_at case.rows) case.order) rank [])
row_is case is rank = subst (λ (over : List (List NodeAxiom)). slice_index_or over rank [] ≡ map row_over (slice_index_or (map (row_at case.rows) case.order) rank [])) (sym (over_is case is)) (over_of_row case.rows case.order rank)

-- they are axioms of a row
pub row_axioms : (case : CaseView) → IsCase case → (rank : ℕ) → All IsRowAxiom (slice_index_or (map (row_at case.rows) case.order) rank [])
row_axioms case is rank = row_has (All IsRowAxiom) case.rows (All-nil IsRowAxiom) is.given.row_axioms case.order rank

module _ (case : CaseView) (is : IsCase case) (ranks : List ℕ) (said : NodeAxiom) where
  -- each chain of LEFT has a role
  left_chain : (k : ℕ) → slice_get case.store.left k ≡ Some said → HasRole said
  left_chain k at =
      chains_over case.classes case.properties (trees_of case.classes case.left case.right) case.properties case.left is.given.left.each k said
      (subst (λ (store : Numbered). slice_get store.left k ≡ Some said) (store_is case is) at)

  -- and each of RIGHT
  right_chain : (k : ℕ) → slice_get case.store.right k ≡ Some said → HasRole said
  right_chain k at =
      chains_over case.classes case.properties (trees_of case.classes case.left case.right) (case.properties + parts_within case.left) case.right is.given.right.each k said
      (subst (λ (store : Numbered). slice_get store.right k ≡ Some said) (store_is case is) at)

  -- and each of a row
  rank_chain : (rank k : ℕ) → slice_get (slice_index_or case.over rank []) k ≡ Some said → HasRole said
  rank_chain rank k at =
      row_chains (slice_index_or (map (row_at case.rows) case.order) rank []) (row_axioms case is rank) k said
      (subst (λ (axioms : List NodeAxiom). slice_get axioms k ≡ Some said) (row_is case is rank) at)

  -- so has each axiom that a source names
  named_chain : (source : Source) → IsNamed (theory_of case) source said → HasRole said
  named_chain (Source.Left number) named = left_chain named.0 named.2
  named_chain (Source.Right number) named = right_chain named.0 named.2
  named_chain (Source.Row rank number) named = rank_chain rank named.0 named.2
  named_chain Source.Nothing named = absurd named

  -- and each that is stated
  pub stated_chain : (part : Part) → IsStated (theory_of case) part ranks said → HasRole said
  stated_chain part stated = named_chain stated.0 stated.1.1

-- What a case is made of meets what is asked of it.
use Rattle.std.proofs.Common.{◌≡◌, ◌<◌, ◌≤◌, ℕ, ◌^◌, ◌+◌, List, [], ◌∷◌, length, map, get_or, All, Contains, refl, sym, ap, subst, ◌∙◌, arith}
use Rattle.std.specs.Prelude.{slice_index}
use Rattle.std.specs.List.{range_with_len}
use Rattle.std.proofs.lemmas.List.{length-map, get_or_default}
use Rattle.std.proofs.lemmas.List.FromFn.{length-range_with_len, get_or-range_with_len}
use Rattle.std.proofs.lemmas.List.Elements.{All-nil, All-cons, All-map, Contains-get_or, All-weaker}
use Rattle.std.proofs.lemmas.List.Sorted.{Contains-permutation}
use Rattle.el_logic.specs.declared.types.Expr.{Expr}
use Rattle.el_logic.specs.declared.types.Expr.TheVariants as E
use Rattle.el_logic.specs.declared.types.Axiom.{Axiom}
use Rattle.el_logic.specs.declared.types.Axiom.TheVariants as A
use Rattle.concept_store.specs.Trees.{tree_of, IsTreeOver}
use Rattle.concept_store.specs.Roles.{IsOver, AreOver}
use Rattle.sssom_rows.specs.declared.table.Row.{Row}
use Rattle.sssom_rows.specs.declared.table.Table.{Table}
use Rattle.predicate_axioms.specs.RowAxioms.{row_axioms, IsRowClass, IsRowAxiom}
use Rattle.rank_order.specs.Order.{IsRanking}
use Rattle.case_file.specs.Cases.{CaseView, IsName, IsCaseInput, case_of}
use Rattle.case_file.specs.Cases as case
use Rattle.case_load.specs.Loads.{trees_in, roles_in, rows_in, input_of}
use Rattle.case_load.specs.Inside.Stages.{AreBothOver}
use Rattle.case_load.specs.declared.documents.Documents.{Documents}
use Rattle.concept_store.specs.Nodes.{node_in}

-- the laws on rows and rankings that this rests on
pub record RowLaws : Type 0 where
  pub few : (classes roles : List (List ℕ)) (row : Row) → length (row_axioms classes roles row) ≤ 2
  pub within : (classes roles : List (List ℕ)) (row : Row) → All (IsRowAxiom (length classes) (length roles)) (row_axioms classes roles row)
  pub count : (confidences rows : List ℕ) → IsRanking confidences rows → length rows ≡ length confidences
  pub below : (confidences rows : List ℕ) (place : ℕ) → IsRanking confidences rows → place < length rows → slice_index rows place < length confidences

-- a class of a row is over the names
class_over : (classes roles : ℕ) (e : Expr) → IsRowClass classes e → IsTreeOver classes roles (tree_of e)
class_over classes roles E.Top is = tt
class_over classes roles E.Bottom is = tt
class_over classes roles (E.Name number) is = is
class_over classes roles (E.And' _ operands) is = absurd is
class_over classes roles (E.Exists' role _ fillers) is = absurd is

-- and it is a name
class_name : (classes : ℕ) (e : Expr) → IsRowClass classes e → IsName e
class_name classes E.Top is = tt
class_name classes E.Bottom is = tt
class_name classes (E.Name number) is = tt
class_name classes (E.And' _ operands) is = absurd is
class_name classes (E.Exists' role _ fillers) is = absurd is

-- and so is an axiom of a row, which has the form that a case asks for
axiom_over : (classes roles : ℕ) (a : Axiom) → IsRowAxiom classes roles a → IsOver classes roles a
axiom_over classes roles (A.SubClass low high) is =
    let P : Expr → Type 0 = λ e. IsTreeOver classes roles (tree_of e) in
    record {
      names = All-cons P low (high ∷ []) (class_over classes roles low is.0) (All-cons P high [] (class_over classes roles high is.1) (All-nil P));
      properties = All-nil (λ r. r < roles);
      chain = tt;
    }
axiom_over classes roles (A.SubRole (low ∷ []) high) is =
    let P : ℕ → Type 0 = λ r. r < roles in
    record {
      names = All-nil (λ e. IsTreeOver classes roles (tree_of e));
      properties = All-cons P high (low ∷ []) is.1 (All-cons P low [] is.0 (All-nil P));
      chain = (omega arith, omega arith);
    }
axiom_over classes roles (A.SubRole [] high) is = absurd is
axiom_over classes roles (A.SubRole (low ∷ next ∷ more) high) is = absurd is
axiom_over classes roles (A.Equivalent operands) is = absurd is
axiom_over classes roles (A.Disjoint operands) is = absurd is
axiom_over classes roles (A.EquivalentRoles operands) is = absurd is
axiom_over classes roles (A.Transitive role) is = absurd is
axiom_over classes roles (A.Reflexive role) is = absurd is
axiom_over classes roles (A.Domain role e) is = absurd is

-- one inclusion of names or of properties
axiom_form : (classes roles : ℕ) (a : Axiom) → IsRowAxiom classes roles a → case.IsRowAxiom a
axiom_form classes roles (A.SubClass low high) is = (class_name classes low is.0, class_name classes high is.1)
axiom_form classes roles (A.SubRole (low ∷ []) high) is = refl
axiom_form classes roles (A.SubRole [] high) is = absurd is
axiom_form classes roles (A.SubRole (low ∷ next ∷ more) high) is = absurd is
axiom_form classes roles (A.Equivalent operands) is = absurd is
axiom_form classes roles (A.Disjoint operands) is = absurd is
axiom_form classes roles (A.EquivalentRoles operands) is = absurd is
axiom_form classes roles (A.Transitive role) is = absurd is
axiom_form classes roles (A.Reflexive role) is = absurd is
axiom_form classes roles (A.Domain role e) is = absurd is

module _ (laws : RowLaws) (classes roles : List (List ℕ)) (row : Row) where
  -- the axioms of a row are over the names
  row_over : AreOver (length classes) (length roles) (row_axioms classes roles row)
  row_over = record {
    few = omega (arith, laws.few classes roles row);
    each = All-weaker (IsRowAxiom (length classes) (length roles)) (IsOver (length classes) (length roles)) (axiom_over (length classes) (length roles)) (row_axioms classes roles row) (laws.within classes roles row);
  }

  -- the form of the axioms of a row
  row_form : All case.IsRowAxiom (row_axioms classes roles row)
  row_form = All-weaker (IsRowAxiom (length classes) (length roles)) case.IsRowAxiom (axiom_form (length classes) (length roles)) (row_axioms classes roles row) (laws.within classes roles row)

-- counting from 0
from_zero : (n : ℕ) → 0 + n ≡ n
from_zero n = omega arith

-- the order of the rows has each of them
has_each : (confidences order : List ℕ) → IsRanking confidences order → (index : ℕ) → index < length confidences → Contains order index
has_each confidences order ranking index below =
    let all = range_with_len 0 (length confidences) in
    let there : index < length all = omega (arith, length-range_with_len 0 (length confidences), below) in
    let at : get_or all index 0 ≡ index = get_or-range_with_len 0 (length confidences) index 0 below ∙ from_zero index in
    Contains-permutation all order index ranking.each_once (subst (λ n. Contains {X = ℕ} all n) at (Contains-get_or all index 0 there))

-- what a case is made of
pub is_input : RowLaws → (documents : Documents) (table : Table) (order : List ℕ) → AreBothOver documents → length table.rows < 2 ^ 31 → IsRanking (map (λ row. row.confidence) table.rows) order → IsCaseInput (input_of documents table order)
is_input laws documents table order over few ranking =
    let classes = documents.names.classes.names in
    let roles = documents.names.roles.names in
    let confidences = map (λ (row : Row). row.confidence) table.rows in
    let rows = length-map table.rows (row_axioms classes roles) in
    let many = length-map table.rows (λ (row : Row). row.confidence) in
    record {
      left = over.0;
      right = over.1;
      rows_few = omega (arith, rows, few);
      row_axioms = All-map (All case.IsRowAxiom) (row_axioms classes roles) table.rows (λ k d l. row_form laws classes roles (get_or table.rows k d));
      row_names = All-map (AreOver (length classes) (length roles)) (row_axioms classes roles) table.rows (λ k d l. row_over laws classes roles (get_or table.rows k d));
      ranks = laws.count confidences order ranking ∙ many ∙ sym rows;
      indexes = λ k d l. subst (λ n. n < length (rows_in documents.names table)) (sym (get_or_default order k d 0 l)) (omega (arith, rows, many, laws.below confidences order k ranking l));
      each_row = λ index below. has_each confidences order ranking index (omega (arith, rows, many, below));
    }

-- the same, from the parts that the code has
pub same_input : (documents : Documents) (table : Table) (order : List ℕ) (rows : List (List Axiom)) (classes roles : ℕ) → rows ≡ rows_in documents.names table → classes ≡ length documents.names.classes.names → roles ≡ length documents.names.roles.names →
    record { left = documents.left.axioms; right = documents.right.axioms; rows = rows; order = order; classes = classes; roles = roles } ≡ input_of documents table order
same_input documents table order rows classes roles one two three = λ i. record { left = documents.left.axioms; right = documents.right.axioms; rows = one i; order = order; classes = two i; roles = three i }

-- nodes and roles of the case are those of the documents
pub nodes_fit : (documents : Documents) (table : Table) (order : List ℕ) (made : CaseView) (most : ℕ) → made ≡ case_of (input_of documents table order) → length made.store.nodes ≤ most → length (trees_in documents) ≤ most
nodes_fit documents table order made most same few =
    let nodes = ap (λ (c : CaseView). length c.store.nodes) same in
    omega (arith, nodes, length-map (trees_in documents) (node_in (trees_in documents)), few)

-- the same of roles
pub roles_fit : (documents : Documents) (table : Table) (order : List ℕ) (made : CaseView) (most : ℕ) → made ≡ case_of (input_of documents table order) → length made.store.roles ≤ most → length (roles_in documents) ≤ most
roles_fit documents table order made most same few =
    let roles = ap (λ (c : CaseView). length c.store.roles) same in
    omega (arith, roles, few)

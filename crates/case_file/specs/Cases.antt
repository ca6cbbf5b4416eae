-- What a case has.
use Rattle.std.specs.Prelude.{◌≡◌, ℕ, ◌+◌, ◌^◌, ◌<◌, ◌≤◌, List, [], map, length, slice_index_or, slice_index, All, Contains, ◌⊎◌, ⊤}
use Rattle.std.specs.List.Sorted.{IsStrictlyIncreasing}
use Rattle.el_logic.specs.declared.types.Expr.{Expr}
use Rattle.el_logic.specs.declared.types.Expr.TheVariants as E
use Rattle.el_logic.specs.declared.types.Axiom.{Axiom}
use Rattle.el_logic.specs.declared.types.Axiom.TheVariants as A
use Rattle.concept_store.specs.declared.types.NodeAxiom.{NodeAxiom}
use Rattle.concept_store.specs.declared.types.NodeAxiom.TheVariants.{SubClass, SubRole, Transitive}
use Rattle.concept_store.specs.Roles.{Numbered, AreOver, store_of}
use Rattle.case_file.specs.declared.types.CaseInput.{CaseInput}
use Rattle.el_rules.specs.Theories.{Theory}

-- the store of both ontologies, their axioms, the axioms of the rows, and the index of the row with
-- each rank. `over` has the axioms over nodes of the row with each rank. `classes` and `properties`
-- count the names.
pub record CaseView : Type 0 where
  pub store : Numbered
  pub left : List Axiom
  pub right : List Axiom
  pub rows : List (List Axiom)
  pub order : List ℕ
  pub over : List (List NodeAxiom)
  pub classes : ℕ
  pub properties : ℕ
  pub excused : List ℕ

-- an expression of a row, as a node
abbrev pub name_node : Expr → ℕ
name_node E.Bottom = 1
name_node (E.Name class) = class + 2
name_node _ = 0

-- an axiom of a row over nodes
abbrev pub row_over : Axiom → NodeAxiom
row_over (A.SubClass low high) = SubClass (name_node low) (name_node high)
row_over (A.SubRole chain role) = SubRole chain role 0
row_over _ = Transitive 0

-- owl:Thing, owl:Nothing or a class name
abbrev pub IsName : Expr → Type 0
IsName (E.And' _ operands) = ⊥
IsName (E.Exists' role _ fillers) = ⊥
IsName _ = ⊤

-- what a row says: an inclusion of names, or of one property in another
abbrev pub IsRowAxiom : Axiom → Type 0
IsRowAxiom (A.SubClass low high) = IsName low × IsName high
IsRowAxiom (A.SubRole chain role) = length chain ≡ 1
IsRowAxiom _ = ⊥

-- the axioms of the row with this index
abbrev pub row_at : List (List Axiom) → ℕ → List Axiom
row_at rows index = slice_index_or rows index []

-- each row's index stands once in the order, and each of its axioms is one of a row
pub record IsCaseInput (input : CaseInput) : Type 0 where
  pub left : AreOver input.classes input.roles input.left
  pub right : AreOver input.classes input.roles input.right
  pub rows_few : length input.rows < 2 ^ 31
  pub row_axioms : All (All IsRowAxiom) input.rows
  pub row_names : All (AreOver input.classes input.roles) input.rows
  pub ranks : length input.order ≡ length input.rows
  pub indexes : All (λ index. index < length input.rows) input.order
  pub each_row : (index : ℕ) → index < length input.rows → Contains input.order index

-- the axioms over nodes of the row with each rank
abbrev pub rows_over : List (List Axiom) → List ℕ → List (List NodeAxiom)
rows_over rows order = map (λ index. map row_over (row_at rows index)) order

abbrev pub case_of : CaseInput → CaseView
case_of input = record {
  store = store_of input.classes input.roles input.left input.right;
  left = input.left;
  right = input.right;
  rows = input.rows;
  order = input.order;
  over = rows_over input.rows input.order;
  classes = input.classes;
  properties = input.roles;
  excused = [];
}

abbrev pub theory_of : CaseView → Theory
theory_of case = record { left = case.store.left; right = case.store.right; rows = case.over }

-- the node is one that must have a member: owl:Thing, or a class that the case doesn't excuse
abbrev pub IsMustHave : CaseView → ℕ → Type 0
IsMustHave case node = (node ≡ 0)
    ⊎ ((class : ℕ) × (class < case.classes) × (node ≡ class + 2) × ¬ (Contains case.excused node))

-- the ranks ascend, and are those of rows
pub record AreRanksOf (case : CaseView) (ranks : List ℕ) : Type 0 where
  pub ascending : IsStrictlyIncreasing ranks
  pub below : All (λ rank. rank < length case.order) ranks

-- the nodes are those of classes, in ascending order
pub record IsExcuse (case : CaseView) (nodes : List ℕ) : Type 0 where
  pub ascending : (one other : ℕ) → one < other → other < length nodes → slice_index nodes one < slice_index nodes other
  pub classes : All (λ node. (2 ≤ node) × (node < case.classes + 2)) nodes

-- what a case was made of
abbrev pub input_of : CaseView → CaseInput
input_of case = record {
  left = case.left;
  right = case.right;
  rows = case.rows;
  order = case.order;
  classes = case.classes;
  roles = case.properties;
}

-- the case was built, and then perhaps excuses some classes
pub record IsCase (case : CaseView) : Type 0 where
  pub given : IsCaseInput (input_of case)
  pub built : case ≡ record (case_of (input_of case)) { excused = case.excused }
  pub excuse : IsExcuse case case.excused

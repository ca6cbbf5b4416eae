-- The case of two documents and a table.
use Rattle.std.specs.Prelude.{◌≡◌, ℕ, ◌≤◌, ◌==◌, List, [], length, map, count_by}
use Rattle.std.specs.Arc.{arc_value}
use Rattle.byte_words.specs.Fronts.{without_mark}
use Rattle.text_names.specs.declared.limits.Limits.{Limits}
use Rattle.el_logic.specs.declared.types.Axiom.{Axiom}
use Rattle.ofn_axiom.specs.declared.types.Document.{Document}
use Rattle.ofn_axiom.specs.declared.types.Names.{Names}
use Rattle.ofn_axiom.specs.declared.types.Mode.{Mode}
use Rattle.ofn_axiom.specs.Documents.{IsReading}
use Rattle.sssom_rows.specs.declared.table.Table.{Table}
use Rattle.sssom_rows.specs.Tables.{IsTableText}
use Rattle.predicate_axioms.specs.RowAxioms.{row_axioms}
use Rattle.rank_order.specs.Order.{IsRanking}
use Rattle.concept_store.specs.declared.types.RoleNode.{RoleNode}
use Rattle.concept_store.specs.Trees.{Tree}
use Rattle.concept_store.specs.Nodes.{trees_of}
use Rattle.concept_store.specs.Roles.{roles_of}
use Rattle.case_file.specs.declared.types.CaseInput.{CaseInput}
use Rattle.case_file.specs.Cases.{case_of}
use Rattle.case_load.specs.declared.documents.Documents.{Documents}
use Rattle.case_load.specs.declared.texts.Loaded.{Loaded}

-- of LEFT, RIGHT and MAP each: its text, or its name
pub record Inputs : Type 0 where
  pub left : List ℕ
  pub right : List ℕ
  pub map : List ℕ

abbrev pub inputs : List ℕ → List ℕ → List ℕ → Inputs
inputs left right map = record { left = left; right = right; map = map }

-- no name is held yet, and this number of each kind may be
abbrev pub no_names : Limits → Names
no_names limits = record {
  classes = record { names = []; most = limits.classes };
  roles = record { names = []; most = limits.properties };
}

-- the text has this reading, with its names after those that are held
abbrev pub IsDocument : List ℕ → Mode → Limits → Names → Names → Document → Type 0
IsDocument text mode limits held names document =
    IsReading (without_mark text) mode limits.depth held names document

-- LEFT and then RIGHT are read, with the names of RIGHT after those of LEFT
pub record AreRead (left right : List ℕ) (mode : Mode) (limits : Limits)
    (documents : Documents) : Type 0 where
  pub left_names : Names
  pub left_read : IsDocument left mode limits (no_names limits) left_names documents.left
  pub right_read : IsDocument right mode limits left_names documents.names documents.right

-- both documents and the table are read
pub record AllRead (texts : Inputs) (mode : Mode) (limits : Limits)
    (documents : Documents) (table : Table) : Type 0 where
  pub documents_read : AreRead texts.left texts.right mode limits documents
  pub table_read : IsTableText limits.rows texts.map table

-- what the nodes of both ontologies stand for
abbrev pub trees_in : Documents → List Tree
trees_in documents =
    let classes = length documents.names.classes.names in
    trees_of classes documents.left.axioms documents.right.axioms

abbrev pub roles_in : Documents → List RoleNode
roles_in documents =
    let properties = length documents.names.roles.names in
    roles_of properties documents.left.axioms documents.right.axioms

-- the axioms of each row, over the names of both ontologies
abbrev pub rows_in : Names → Table → List (List Axiom)
rows_in names table = map (row_axioms names.classes.names names.roles.names) table.rows

-- what a case is made of, where this is the order of its rows
abbrev pub input_of : Documents → Table → List ℕ → CaseInput
input_of documents table order = record {
  left = documents.left.axioms;
  right = documents.right.axioms;
  rows = rows_in documents.names table;
  order = order;
  classes = length documents.names.classes.names;
  roles = length documents.names.roles.names;
}

-- the case of these documents and this table, with the names, the table and what else is known
pub record IsCaseOf (limits : Limits) (documents : Documents) (table : Table)
    (loaded : Loaded) : Type 0 where
  pub nodes : length (trees_in documents) ≤ limits.nodes
  pub roles : length (roles_in documents) ≤ limits.roles
  pub order : List ℕ
  pub ranking : IsRanking (map (λ row. row.confidence) table.rows) order
  pub case : arc_value loaded.case ≡ case_of (input_of documents table order)
  pub names : loaded.names ≡ documents.names
  pub same_table : loaded.table ≡ table
  pub left_omitted : loaded.omitted.left ≡ documents.left.omitted
  pub right_omitted : loaded.omitted.right ≡ documents.right.omitted
  pub inert : loaded.inert
      ≡ count_by (λ axioms. length axioms == 0) (rows_in documents.names table)

-- the case of these texts
pub record IsLoaded (texts : Inputs) (mode : Mode) (limits : Limits)
    (loaded : Loaded) : Type 0 where
  pub documents : Documents
  pub table : Table
  pub read : AllRead texts mode limits documents table
  pub made : IsCaseOf limits documents table loaded

-- both have the same case, and say the same of it
pub record SayTheSame (one other : Loaded) : Type 0 where
  pub case : arc_value one.case ≡ arc_value other.case
  pub names : one.names ≡ other.names
  pub same_table : one.table ≡ other.table
  pub omitted : one.omitted ≡ other.omitted
  pub inert : one.inert ≡ other.inert

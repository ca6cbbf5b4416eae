-- The first fault of two documents and a table.
use Rattle.std.specs.Prelude.{ℕ, ◌<◌, ◌≤◌, Bool, true, false, List, length}
use Rattle.byte_words.specs.Fronts.{without_mark}
use Rattle.text_names.specs.declared.limits.Limits.{Limits}
use Rattle.el_logic.specs.declared.types.Side.{Side}
use Rattle.ofn_axiom.specs.declared.types.Document.{Document}
use Rattle.ofn_axiom.specs.declared.types.Names.{Names}
use Rattle.ofn_axiom.specs.declared.types.Mode.{Mode}
use Rattle.ofn_axiom.specs.declared.fault.DocFault.{DocFault}
use Rattle.ofn_axiom.specs.declared.fault.DocFault.TheVariants as doc
use Rattle.ofn_axiom.specs.Documents.{IsDocFault}
use Rattle.sssom_rows.specs.declared.table.Table.{Table}
use Rattle.sssom_rows.specs.declared.fault.TableFault.{TableFault}
use Rattle.sssom_rows.specs.declared.fault.TableFault.TheVariants as table
use Rattle.sssom_rows.specs.Faults.{IsFirstTableFault}
use Rattle.case_load.specs.Loads.{Inputs, no_names, IsDocument, AreRead, AllRead, trees_in, roles_in}
use Rattle.case_load.specs.declared.documents.Documents.{Documents}
use Rattle.case_load.specs.declared.fault.LoadFault.{LoadFault}
use Rattle.case_load.specs.declared.fault.LoadFault.TheVariants as load
use Rattle.case_load.specs.declared.fault.LimitKind.TheVariants as limit

-- the text has this first fault, after the names that are held
abbrev pub HasFault : List ℕ → Mode → Limits → Names → DocFault → Type 0
HasFault text mode limits held fault = IsDocFault (without_mark text) mode limits.depth held fault

-- LEFT is read, and RIGHT has this first fault
pub record IsRightFault (left right : List ℕ) (mode : Mode) (limits : Limits)
    (fault : DocFault) : Type 0 where
  pub left_document : Document
  pub left_names : Names
  pub left_read : IsDocument left mode limits (no_names limits) left_names left_document
  pub right_fault : HasFault right mode limits left_names fault

-- the first fault of both documents is this one, on this side
abbrev pub IsFirstDocFault : List ℕ → List ℕ → Mode → Limits → Side → DocFault → Type 0
IsFirstDocFault left right mode limits Side.Left fault =
    HasFault left mode limits (no_names limits) fault
IsFirstDocFault left right mode limits Side.Right fault =
    IsRightFault left right mode limits fault

-- both documents are read, and the table has this first fault
pub record IsMapFault (texts : Inputs) (mode : Mode) (limits : Limits)
    (fault : TableFault) : Type 0 where
  pub documents : Documents
  pub documents_read : AreRead texts.left texts.right mode limits documents
  pub map_fault : IsFirstTableFault limits.rows texts.map fault

-- all three are read, and of the documents this holds
pub record IsTooLarge (texts : Inputs) (mode : Mode) (limits : Limits)
    (Holds : Documents → Type 0) : Type 0 where
  pub documents : Documents
  pub table : Table
  pub read : AllRead texts mode limits documents table
  pub too_large : Holds documents

abbrev pub HaveManyNodes : Limits → Documents → Type 0
HaveManyNodes limits documents = limits.nodes < length (trees_in documents)

-- the nodes are not too many, but the roles are
abbrev pub HaveManyRoles : Limits → Documents → Type 0
HaveManyRoles limits documents =
    (length (trees_in documents) ≤ limits.nodes) × (limits.roles < length (roles_in documents))

-- the first fault of the texts: LEFT's, RIGHT's, MAP's, too many nodes, too many roles
abbrev pub IsFirstLoadFault : Inputs → Mode → Limits → LoadFault → Type 0
IsFirstLoadFault texts mode limits (load.Syntax side place kind) =
    IsFirstDocFault texts.left texts.right mode limits side (doc.Syntax place kind)
IsFirstLoadFault texts mode limits (load.Profile side place head) =
    IsFirstDocFault texts.left texts.right mode limits side (doc.Profile place head)
IsFirstLoadFault texts mode limits (load.Limit (limit.Depth side)) =
    IsFirstDocFault texts.left texts.right mode limits side doc.TooDeep
IsFirstLoadFault texts mode limits (load.Limit (limit.Classes side)) =
    IsFirstDocFault texts.left texts.right mode limits side doc.TooManyClasses
IsFirstLoadFault texts mode limits (load.Limit (limit.Properties side)) =
    IsFirstDocFault texts.left texts.right mode limits side doc.TooManyProperties
IsFirstLoadFault texts mode limits (load.Limit limit.Rows) =
    IsMapFault texts mode limits table.TooManyRows
IsFirstLoadFault texts mode limits (load.Table table.TooManyRows) = ⊥
IsFirstLoadFault texts mode limits (load.Table fault) = IsMapFault texts mode limits fault
IsFirstLoadFault texts mode limits (load.Limit limit.Nodes) =
    IsTooLarge texts mode limits (HaveManyNodes limits)
IsFirstLoadFault texts mode limits (load.Limit limit.Roles) =
    IsTooLarge texts mode limits (HaveManyRoles limits)
IsFirstLoadFault texts mode limits (load.Limit (limit.Bytes file)) = ⊥
IsFirstLoadFault texts mode limits (load.ReadFault file) = ⊥
IsFirstLoadFault texts mode limits load.OutOfMemory = ⊥

-- memory ran out
abbrev pub load_ran_out : LoadFault → Bool
load_ran_out load.OutOfMemory = true
load_ran_out _ = false

-- something is outside the profile
abbrev pub is_outside : LoadFault → Bool
is_outside (load.Profile side place head) = true
is_outside _ = false

-- What each stage leaves to the next.
use Rattle.std.specs.Prelude.{ℕ, List, length}
use Rattle.text_names.specs.declared.limits.Limits.{Limits}
use Rattle.ofn_axiom.specs.declared.types.Mode.{Mode}
use Rattle.ofn_axiom.specs.declared.fault.DocFault.TheVariants as doc
use Rattle.sssom_rows.specs.declared.fault.TableFault.TheVariants as table
use Rattle.sssom_rows.specs.Faults.{IsFirstTableFault}
use Rattle.concept_store.specs.Roles.{AreOver}
use Rattle.case_load.specs.Faults.{IsFirstDocFault, HaveManyNodes, HaveManyRoles}
use Rattle.case_load.specs.declared.documents.Documents.{Documents}
use Rattle.case_load.specs.declared.fault.LoadFault.{LoadFault}
use Rattle.case_load.specs.declared.fault.LoadFault.TheVariants as load
use Rattle.case_load.specs.declared.fault.LimitKind.TheVariants as limit

-- the fault is the first one of the documents
abbrev pub IsDocumentStop : List ℕ → List ℕ → Mode → Limits → LoadFault → Type 0
IsDocumentStop left right mode limits (load.Syntax side place kind) =
    IsFirstDocFault left right mode limits side (doc.Syntax place kind)
IsDocumentStop left right mode limits (load.Profile side place head) =
    IsFirstDocFault left right mode limits side (doc.Profile place head)
IsDocumentStop left right mode limits (load.Limit (limit.Depth side)) =
    IsFirstDocFault left right mode limits side doc.TooDeep
IsDocumentStop left right mode limits (load.Limit (limit.Classes side)) =
    IsFirstDocFault left right mode limits side doc.TooManyClasses
IsDocumentStop left right mode limits (load.Limit (limit.Properties side)) =
    IsFirstDocFault left right mode limits side doc.TooManyProperties
IsDocumentStop left right mode limits _ = ⊥

-- the fault is the first one of the table
abbrev pub IsTableStop : ℕ → List ℕ → LoadFault → Type 0
IsTableStop most map (load.Table table.TooManyRows) = ⊥
IsTableStop most map (load.Table fault) = IsFirstTableFault most map fault
IsTableStop most map (load.Limit limit.Rows) = IsFirstTableFault most map table.TooManyRows
IsTableStop most map _ = ⊥

-- the fault is that of too many nodes, or else of too many roles
abbrev pub IsCaseStop : Limits → Documents → LoadFault → Type 0
IsCaseStop limits documents (load.Limit limit.Nodes) = HaveManyNodes limits documents
IsCaseStop limits documents (load.Limit limit.Roles) = HaveManyRoles limits documents
IsCaseStop limits documents _ = ⊥

-- the axioms of both are over the names of both
abbrev pub AreBothOver : Documents → Type 0
AreBothOver documents =
    let classes = length documents.names.classes.names in
    let roles = length documents.names.roles.names in
    AreOver classes roles documents.left.axioms × AreOver classes roles documents.right.axioms

-- Faults of what is read, as faults of a case.
use Rattle.el_logic.specs.declared.types.Side.{Side}
use Rattle.ofn_axiom.specs.declared.fault.DocFault.{DocFault}
use Rattle.ofn_axiom.specs.declared.fault.DocFault.TheVariants as doc
use Rattle.sssom_rows.specs.declared.fault.TableFault.{TableFault}
use Rattle.sssom_rows.specs.declared.fault.TableFault.TheVariants as table
use Rattle.concept_store.specs.declared.types.StoreFault.{StoreFault}
use Rattle.concept_store.specs.declared.types.StoreFault.TheVariants as store
use Rattle.case_load.specs.declared.fault.LoadFault.{LoadFault}
use Rattle.case_load.specs.declared.fault.LoadFault.TheVariants as load
use Rattle.case_load.specs.declared.fault.LimitKind.TheVariants as limit

abbrev pub of_document : Side → DocFault → LoadFault
of_document side (doc.Syntax place kind) = load.Syntax side place kind
of_document side (doc.Profile place head) = load.Profile side place head
of_document side doc.TooDeep = load.Limit (limit.Depth side)
of_document side doc.TooManyClasses = load.Limit (limit.Classes side)
of_document side doc.TooManyProperties = load.Limit (limit.Properties side)
of_document side doc.OutOfMemory = load.OutOfMemory

abbrev pub of_table : TableFault → LoadFault
of_table table.TooManyRows = load.Limit limit.Rows
of_table table.OutOfMemory = load.OutOfMemory
of_table fault = load.Table fault

abbrev pub of_store : StoreFault → LoadFault
of_store store.Nodes = load.Limit limit.Nodes
of_store store.Roles = load.Limit limit.Roles
of_store store.OutOfMemory = load.OutOfMemory

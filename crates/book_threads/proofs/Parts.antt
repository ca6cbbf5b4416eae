-- What a case and a closed table are made of may be sent to a thread, and shared by threads.
use denote.RattleType.{RattleType}
use denote.Builtin.{u32}
use denote.Param.Send.{IsSend, IsSync, sendable, view_send, view_sync, recorded_send, recorded_sync, struct_send, struct_sync}
use denote.Param.SendFields.{declared_send, declared_sync}
use Rattle.std.proofs.Crossing.{crosses, Arc-send, Arc-sync}
use Rattle.std.specs.contracts.alloc.Global as Heap
use Rattle.std.specs.contracts.impls.GlobalAllocator.TheImpl.{ghosts}
use Rattle.std.specs.contracts.sync.Arc as Arc
use Rattle.sqlite_items.specs.contracts.items.Items as Items
use Rattle.el_logic.specs.contracts.types.Axiom as Axiom
use Rattle.el_logic.proofs.types.Expr.TheLaws.TheKnot as knot
use Rattle.concept_store.specs.contracts.store.Store as Store
use Rattle.concept_store.specs.contracts.types.NodeAxiom as NodeAxiom
use Rattle.case_file.specs.contracts.case.Case as Case
use Rattle.case_tables.specs.contracts.tables.Tables as Tables
use Rattle.fact_table.specs.contracts.flat.FlatFacts as FlatFacts
use Rattle.fact_layers.specs.contracts.layer.Layer as Layer
use Rattle.fact_layers.specs.contracts.shared.Base as Base
use Rattle.closed_model.specs.contracts.table.ClosedTable as ClosedTable

-- two facts side by side
pub pair_up : {A B : Type 0} → A → B → A × B
pair_up a b = (a, b)

-- a number may be sent
pub u32_send : IsSend u32
u32_send = search sendable

-- a number may be shared
pub u32_sync : IsSync u32
u32_sync = search sendable

-- a list may be sent if its elements may
pub items_send : (T : RattleType) → IsSend T → IsSend (Items.the_row T)
items_send T s = search (sendable, crosses, declared_send)

-- a list may be shared if its elements may
pub items_sync : (T : RattleType) → IsSync T → IsSync (Items.the_row T)
items_sync T s = search (sendable, crosses, declared_sync)

-- numbers may be sent
pub numbers_send : IsSend (Items.the_row u32)
numbers_send = items_send u32 u32_send

-- numbers may be shared
pub numbers_sync : IsSync (Items.the_row u32)
numbers_sync = items_sync u32 u32_sync

-- the axioms of a document may be sent
pub axioms_send : IsSend (Items.the_row Axiom.the_row)
axioms_send = items_send Axiom.the_row (search (crosses, knot.crosses, sendable) depth 60 fits 20000)

-- the axioms of a document may be shared
pub axioms_sync : IsSync (Items.the_row Axiom.the_row)
axioms_sync = items_sync Axiom.the_row (search (crosses, knot.crosses, sendable) depth 60 fits 20000)

-- the axioms of each row may be sent
pub rows_send : IsSend (Items.the_row (Items.the_row Axiom.the_row))
rows_send = items_send _ axioms_send

-- the axioms of each row may be shared
pub rows_sync : IsSync (Items.the_row (Items.the_row Axiom.the_row))
rows_sync = items_sync _ axioms_sync

-- the axioms over nodes of each row may be sent
pub over_send : IsSend (Items.the_row (Items.the_row NodeAxiom.the_row))
over_send = items_send _ (items_send NodeAxiom.the_row (search (sendable, crosses, items_send) depth 40))

-- the axioms over nodes of each row may be shared
pub over_sync : IsSync (Items.the_row (Items.the_row NodeAxiom.the_row))
over_sync = items_sync _ (items_sync NodeAxiom.the_row (search (sendable, crosses, items_sync) depth 40))

-- a store may be sent
pub store_send : IsSend Store.the_row
store_send = search (sendable, crosses) depth 40 fits 4000

-- a store may be shared
pub store_sync : IsSync Store.the_row
store_sync = search (sendable, crosses) depth 40 fits 4000

-- a case may be sent
pub case_send : IsSend Case.the_row
case_send = search (store_send, axioms_send, rows_send, numbers_send, over_send, u32_send, pair_up, tt, view_send, recorded_send, struct_send) depth 60 fits 20000

-- a case may be shared
pub case_sync : IsSync Case.the_row
case_sync = search (store_sync, axioms_sync, rows_sync, numbers_sync, over_sync, u32_sync, pair_up, tt, view_sync, recorded_sync, struct_sync) depth 60 fits 20000

-- look-up tables may be sent
pub tables_send : IsSend Tables.the_row
tables_send = search (sendable, crosses) depth 40 fits 4000

-- look-up tables may be shared
pub tables_sync : IsSync Tables.the_row
tables_sync = search (sendable, crosses) depth 40 fits 4000

-- a table of facts may be sent
pub facts_send : IsSend FlatFacts.the_row
facts_send = search (sendable, crosses) depth 40 fits 4000

-- a table of facts may be shared
pub facts_sync : IsSync FlatFacts.the_row
facts_sync = search (sendable, crosses) depth 40 fits 4000

-- a layer may be sent
pub layer_send : IsSend Layer.the_row
layer_send = search (sendable, crosses, facts_send, facts_sync) depth 40 fits 4000

-- a layer may be shared
pub layer_sync : IsSync Layer.the_row
layer_sync = search (sendable, crosses, facts_send, facts_sync) depth 40 fits 4000

-- a base may be sent
pub base_send : IsSend Base.the_row
base_send = search (sendable, crosses, layer_send) depth 40 fits 4000

-- a base may be shared
pub base_sync : IsSync Base.the_row
base_sync = search (sendable, crosses, layer_sync) depth 40 fits 4000

-- a share of a case may be sent
pub case_share_send : IsSend (Arc.the_row Case.the_row Heap.the_row ghosts)
case_share_send = Arc-send Case.the_row case_send case_sync

-- a share of a case may be shared
pub case_share_sync : IsSync (Arc.the_row Case.the_row Heap.the_row ghosts)
case_share_sync = Arc-sync Case.the_row case_send case_sync

-- a share of look-up tables may be sent
pub tables_share_send : IsSend (Arc.the_row Tables.the_row Heap.the_row ghosts)
tables_share_send = Arc-send Tables.the_row tables_send tables_sync

-- a share of look-up tables may be shared
pub tables_share_sync : IsSync (Arc.the_row Tables.the_row Heap.the_row ghosts)
tables_share_sync = Arc-sync Tables.the_row tables_send tables_sync

-- a closed table may be sent
pub table_send : IsSend ClosedTable.the_row
table_send = search (case_share_send, tables_share_send, numbers_send, base_send, pair_up, tt, view_send, recorded_send, struct_send) depth 60 fits 20000

-- a closed table may be shared
pub table_sync : IsSync ClosedTable.the_row
table_sync = search (case_share_sync, tables_share_sync, numbers_sync, base_sync, pair_up, tt, view_sync, recorded_sync, struct_sync) depth 60 fits 20000

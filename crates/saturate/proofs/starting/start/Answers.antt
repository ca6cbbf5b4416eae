use Rattle.std.proofs.Common.{◌∙◌, [], Contains, subst, sym}
use Rattle.std.proofs.lemmas.List.Elements.{All-nil}
use Rattle.el_logic.specs.declared.types.Part.{Part}
use Rattle.fact_layers.specs.Tops.{whole, Topped}
use Rattle.case_file.specs.Cases.{CaseView, IsCase}
use Rattle.case_file.specs.Incoherence.{IsIncoherentFor}
use Rattle.closed_model.specs.ClosedTables.{IsClosedTable}
use Rattle.saturate.specs.Inside.Saturated.{table_of}
use Rattle.saturate.proofs.DecideLaws.{at_none, at_some}
use Rattle.saturate.proofs.starting.start.Goals as goal

pub returns-in-Some-clause-coherent : goal.returns-in-Some-clause-coherent
returns-in-Some-clause-coherent c part =
    let case = c.deref-3.result.now in
    let tables = c.deref-4.result.now in
    let closed = at_some c.in_ok-layers.field-0 c.in-Some.layers (IsIncoherentFor case Part.Both []) (λ (layers : Topped). IsClosedTable (table_of case tables [] (whole layers))) c.in-Some.is c.in_ok-layers.ensures in
    let is_case = subst IsCase (c.deref.ensures ∙ sym c.deref-3.ensures) c.store-case.ensures.case in
    subst (λ (v : CaseView). ¬ (IsIncoherentFor v part [])) c.deref-3.ensures
    (c.a_closed_table_shows_coherence.ensures (table_of case tables [] (whole c.in-Some.layers)) part [] is_case closed (All-nil (Contains [])))

pub first_fault-requires-clause-incoherent : goal.first_fault-requires-clause-incoherent
first_fault-requires-clause-incoherent c =
    let case = c.deref-3.result.now in
    let tables = c.deref-4.result.now in
    subst (λ (v : CaseView). IsIncoherentFor v Part.Both []) (c.deref-3.ensures ∙ sym c.deref-in-None.ensures)
    (at_none c.in_ok-layers.field-0 (IsIncoherentFor case Part.Both []) (λ (layers : Topped). IsClosedTable (table_of case tables [] (whole layers))) c.in-None.is c.in_ok-layers.ensures)

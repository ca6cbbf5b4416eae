use Rattle.std.proofs.Common.{◌∙◌, ap, subst}
use Rattle.std.proofs.lemmas.List.Elements.{All-contains_itself}
use Rattle.el_logic.specs.declared.types.Part.{Part}
use Rattle.case_file.specs.Cases.{IsCase}
use Rattle.closed_model.specs.ClosedTables.{TableView}
use Rattle.saturate.proofs.testing.unchanged.Goals as goal

pub returns : goal.returns
returns c =
    let table = c.args.snapshot.now in
    let is_case = subst IsCase (c.deref.ensures ∙ c.case.ensures.case) c.store-case.ensures.case in (
      c.a_closed_table_shows_coherence.ensures table Part.Both table.ranks is_case c.case.ensures.closed (All-contains_itself table.ranks),
      ap (λ (t : TableView). t.case) c.in_ok-share.ensures,
      ap (λ (t : TableView). t.ranks) c.in_ok-share.ensures,
    )

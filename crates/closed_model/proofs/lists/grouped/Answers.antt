use Rattle.std.proofs.Common.{rules, ◌∙◌, ◌++◌, List, [], ◌∷◌, ap, sym}
use Rattle.closed_model.specs.Inside.Entries.{values_at}
use Rattle.closed_model.proofs.ListLaws.{more_entries}
use Rattle.closed_model.proofs.lists.grouped.Goals as goal

pub loop-entry-preserved : goal.loop-entry-preserved
loop-entry-preserved g c = record {
  each = c.in_ok-add.ensures.each ∙ c.loop-entry.invariant.each;
  values = λ key.
      c.in_ok-add.ensures.values key
      ∙ ap (λ (before : List g.row.T.Denot). before ++ values_at (c.entry-item.result ∷ []) key) (c.loop-entry.invariant.values key)
      ∙ sym (more_entries c.args.entries.now c.loop-entry.entry-index c.entry-item.result c.loop-entry-test.true (search rules) key);
}

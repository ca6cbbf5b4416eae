use Rattle.std.proofs.Common.{◌∙◌, ◌++◌, ◌∷◌, [], List, ap, arith}
use Rattle.fact_table.specs.declared.types.Proved.{Proved}
use Rattle.fact_layers.proofs.Copied.{next_absent, copied_more}
use Rattle.fact_layers.proofs.merge.copy_all.Goals as goal

pub insert-requires-clause-absent : goal.insert-requires-clause-absent
insert-requires-clause-absent c = rw c.loop-place.invariant.list (next_absent c.args.table.now.list c.args.more.now.list c.loop-place.place c.at-item.result c.requires.distinct c.at-item.ensures)

pub loop-place-preserved : goal.loop-place-preserved
loop-place-preserved c = record {
  list = c.insert.ensures.list ∙ ap (λ (xs : List Proved). xs ++ c.at-item.result ∷ []) c.loop-place.invariant.list ∙ copied_more c.args.table.now.list c.args.more.now.list c.loop-place.place c.at-item.result c.at-item.ensures;
  spare = omega (arith, c.loop-place.invariant.spare, c.insert.ensures.spare);
}

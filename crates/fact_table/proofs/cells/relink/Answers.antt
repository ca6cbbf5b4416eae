use Rattle.std.proofs.Common.{◌∙◌, ◌<◌, length, rules}
use Rattle.std.proofs.lemmas.List.{length-set}
use Rattle.fact_table.specs.Inside.Cells.{HasHeads}
use Rattle.fact_table.proofs.CellChains.{all_next, all_none, same_facts, put_many, many_then, many_refl, heads_kept}
use Rattle.fact_table.proofs.cells.relink.Goals as goal

pub loop-place-init : goal.loop-place-init
loop-place-init c = record {
  chained = all_none c.args.heads.now c.requires.same c.requires.from c.requires.into;
  facts = search rules;
  count = search rules;
  capacity = search rules;
  many = many_refl c.args.heads.now;
}

pub put_cell-cell-requires-clause-some : goal.put_cell-cell-requires-clause-some
put_cell-cell-requires-clause-some c = heads_kept c.args.heads.now c.loop-place.heads c.loop-place.invariant.many c.requires.some

pub loop-place-preserved : goal.loop-place-preserved
loop-place-preserved c =
    let i = c.loop-place.invariant in
    let l = c.loop-place in
    let cell = c.put_cell-cell.result in
    let low : l.place < length l.cells.items = search rules in
    let some : HasHeads l.heads = heads_kept c.args.heads.now l.heads i.many c.requires.some in
    record {
      chained = all_next l.cells.items l.heads c.put_cell-cell.new.heads l.place c.index.result.now.fact cell i.chained low some c.put_cell-cell.ensures;
      facts = same_facts l.cells.items l.place c.index.result.now cell low c.index.ensures c.put_cell-cell.ensures.fact_is ∙ i.facts;
      count = length-set l.cells.items l.place cell ∙ i.count;
      capacity = i.capacity;
      many = many_then c.args.heads.now l.heads c.put_cell-cell.new.heads i.many (put_many c.index.result.now.fact l.place cell l.heads c.put_cell-cell.new.heads c.put_cell-cell.ensures);
    }

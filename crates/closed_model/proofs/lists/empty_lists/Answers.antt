use Rattle.std.proofs.Common.{Vec, Global, [], ◌∙◌, ap, map, arith}
use Rattle.std.specs.Prelude.{slice_index_or}
use Rattle.closed_model.proofs.ListLaws.{empty_more}
use Rattle.closed_model.proofs.lists.empty_lists.Goals as goal

pub loop-key-preserved : goal.loop-key-preserved
loop-key-preserved g c = record {
  each = omega (arith, c.in_ok-push.ensures.len, c.loop-key.invariant.each);
  empty = λ key. ap (λ lists. slice_index_or (map (λ (list : Vec g.row.T.Denot Global). list.items) lists) key []) c.in_ok-push.ensures.items
      ∙ empty_more (λ (list : Vec g.row.T.Denot Global). list.items) c.loop-key.lists.items c.new.result c.new.ensures.items c.loop-key.invariant.empty key;
}

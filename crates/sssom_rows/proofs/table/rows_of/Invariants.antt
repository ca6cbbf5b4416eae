use Rattle.std.proofs.Common.{◌≡◌, ◌≤◌, ◌++◌, length}
use Rattle.std.specs.Vec.Iter.{into_iter_items}
use Rattle.sssom_rows.specs.Tables.{AreRows}
use Rattle.sssom_rows.proofs.table.rows_of.Given as goal

abbrev pub invariant-loop-fields : goal.invariant-loop-fields
invariant-loop-fields l = record {
  whole : into_iter_items l.fn.records ≡ l.yielded ++ into_iter_items l.fields-iterator;
  counted : l.number ≡ length l.yielded;
  few : l.number ≤ l.most;
  sound : AreRows l.prefixes l.columns l.yielded l.rows.items;
}

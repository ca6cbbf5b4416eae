use Rattle.std.proofs.Common.{◌≡◌, ◌<◌}
use Rattle.csv.specs.Reading.{Ready, owned_rows_reader, owned_rows_left, reader_trim, strip_bom}
use Rattle.csv.specs.declared.reader.Trim.TheVariants as trim
use Rattle.sssom_rows.proofs.RecordLaws.{HasRead}
use Rattle.sssom_rows.proofs.records.records_in.Given as goal

abbrev pub invariant-loop-record : goal.invariant-loop-record
invariant-loop-record l = record {
  so_far : HasRead (strip_bom l.fn.text) (owned_rows_reader l.record-iterator) l.records.items;
  ready : Ready (owned_rows_reader l.record-iterator);
  untrimmed : reader_trim (owned_rows_reader l.record-iterator) ≡ trim.None;
  goes_on : 0 < owned_rows_left l.record-iterator;
}

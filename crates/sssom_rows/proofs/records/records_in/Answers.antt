use Rattle.std.proofs.Common.{◌∙◌, sym, refl, inl, inr}
use Rattle.csv.specs.Reading.{Reached, strip_bom}
use Rattle.csv.specs.Records.{fields_of}
use Rattle.sssom_rows.proofs.RecordLaws.{has_read_more, has_read_all}
use Rattle.sssom_rows.proofs.records.records_in.Goals as goal

pub loop-record-init : goal.loop-record-init
unfolding Reached
loop-record-init c =
    let tab = c.delimiter.ensures in
    let bare = c.has_headers.ensures in
    let loose = c.flexible.ensures in
    let built = c.new.ensures in
    let made = c.from_reader-reader.ensures in
    let iterator = c.into_byte_records-record-items.ensures in
    rw (c.into_iter-record-iterator.ensures.into_iter_gives, iterator.rdr, c.new-records.ensures.items) (record {
      so_far = record {
        tabs = rw (loose, bare, tab, built.config) at made.config;
        rest = strip_bom c.args.text.now;
        source = made.source;
        reached = (sym made.state, refl);
      };
      ready = inr (inr (made.has_headers ∙ rw (loose, bare) refl, made.headers));
      untrimmed = rw (loose, bare, tab) at made.trim ∙ built.trim;
      goes_on = iterator.left;
    })

pub loop-record-preserved : goal.loop-record-preserved
loop-record-preserved c =
    let held = c.loop-record.invariant in
    let step = rw (c.in-Some.is, c.in-Ok.is) at ((c.next.ensures.steps held.goes_on held.untrimmed).0 held.ready) in
    let text = strip_bom c.args.text.now in
    let more = has_read_more text c.loop-record.record-iterator.rdr c.next.new.self.rdr c.loop-record.records.items (fields_of c.in-Ok.record) held.so_far step.0 in
    record {
      so_far = rw (c.in_ok-push-in-Ok.ensures.items, c.of.ensures) more;
      ready = inl step.1;
      untrimmed = step.0.3 ∙ held.untrimmed;
      goes_on = step.2;
    }

pub returns : goal.returns
returns c =
    let held = c.loop-record.invariant in
    let step = rw c.in-None.is at ((c.next.ensures.steps held.goes_on held.untrimmed).0 held.ready) in
    has_read_all (strip_bom c.args.text.now) c.loop-record.record-iterator.rdr c.next.new.self.rdr c.loop-record.records.items held.so_far step

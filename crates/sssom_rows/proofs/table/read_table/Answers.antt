use Rattle.std.proofs.Common.{◌∙◌, ap, take, length, arith}
use Rattle.sssom_rows.proofs.RecordLaws.{tabbed_are_few}
use Rattle.sssom_rows.proofs.ReadLaws.{unmarked_within, parts_are, table_is_read, few_are_read}
use Rattle.sssom_rows.proofs.table.read_table.Goals as goal

pub table_of-requires : goal.table_of-requires
table_of-requires c =
    let few = tabbed_are_few c.split_at.result.1.now c.in-Ok-records_in.records.items c.in-Ok-records_in.ensures in
    omega (arith, few, c.split_at.ensures.back_len, ap length c.without_mark-text.ensures, unmarked_within c.args.bytes.now (length c.args.bytes.now) (omega arith), c.requires)

pub returns : goal.returns
returns c =
    let text_is = c.without_mark-text.ensures in
    let header = rw text_is at c.in-Ok.ensures.header in
    let within = rw text_is at c.in-Ok.ensures.within in
    let front_is = c.in-Ok-copy_of.ensures ∙ c.split_at.ensures.front ∙ ap (take c.in-Ok.head.length) text_is in
    let are = rw (c.split_at.ensures.back, text_is) at c.in-Ok-records_in.ensures in
    let parts = parts_are c.args.bytes.now c.in-Ok-copy_of.front c.in-Ok.head c.in-Ok-records_in.records.items header within front_is are in
    let answer = table_is_read c.args.most_rows c.args.bytes.now c.in-Ok-copy_of.front c.in-Ok.head.prefixes c.in-Ok-records_in.records.items c.table_of.result parts c.table_of.ensures in
    record { answer = answer; fewer = few_are_read c.args.most_rows c.args.bytes.now c.table_of.result answer }

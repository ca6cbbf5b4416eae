use Rattle.std.proofs.Common.{sym}
use Rattle.sssom_head.proofs.EntryLaws.{entry_is, entry_utf8}
use Rattle.sssom_head.proofs.reading.with_entry.Goals as goal

pub declare-requires-clause-prefix : goal.declare-requires-clause-prefix
declare-requires-clause-prefix c =
    let key = c.in-Some.key.now in
    let value = c.in-Some.value.now in
    (entry_utf8 c.args.content.now key value (entry_is c.args.content.now (key, value) (sym c.in-Some.ensures.entry))).0

pub declare-requires-clause-iri : goal.declare-requires-clause-iri
declare-requires-clause-iri c =
    let key = c.in-Some.key.now in
    let value = c.in-Some.value.now in
    (entry_utf8 c.args.content.now key value (entry_is c.args.content.now (key, value) (sym c.in-Some.ensures.entry))).1

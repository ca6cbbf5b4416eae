use Rattle.std.proofs.Common.{◌≡◌, ◌<◌, ◌≤◌, ◌-◌, length, None, Some, Err, sym, ap, ◌∙◌, arith, slice_get}
use Rattle.std.specs.Option.{option_copied}
use Rattle.evidence_text.specs.declared.types.EvidenceFault.TheVariants.{Line}
use Rattle.evidence_text.specs.Inside.Loops.{last_of}
use Rattle.evidence_text.proofs.EntryLaws.{goes_on, ends, refuses, is_done}
use Rattle.evidence_text.proofs.sections.entries.Goals as goal

pub returns-in_default : goal.returns-in_default
returns-in_default g c =
    let more : length c.loop-alloc.items.items < c.args.count = omega (arith, c.loop-alloc-test.true, c.len.ensures, c.loop-alloc.items.ok) in
    ends g.X.LineEntry.form c.loop-alloc.items.items c.args.first c.args.count c.loop-alloc.at _ more c.in_default.ensures.lines c.loop-alloc.invariant

pub returns-in_default-2 : goal.returns-in_default-2
returns-in_default-2 g c =
    let items = c.loop-alloc.items.items in
    let more : length items < c.args.count = omega (arith, c.loop-alloc-test.true, c.len.ensures, c.loop-alloc.items.ok) in
    let last : option_copied c.last.result ≡ last_of items = c.last.ensures.value ∙ ap (λ xs. slice_get xs (length xs - 1)) c.as_slice.ensures.value in
    let is : None ≡ g.X.LineEntry.form (last_of items) c.in-Some.fields = sym c.in_default-2.is ∙ c.in_ok-item.ensures ∙ ap (λ b. g.X.LineEntry.form b c.in-Some.fields) last in
    refuses g.X.LineEntry.form items c.args.first c.args.count c.loop-alloc.at c.in-Some.next c.in-Some.fields _ more c.in-Some.ensures.lines c.in-Some.ensures.read is c.loop-alloc.invariant
    ∙ ap (λ n. Err (Line n)) (sym c.read-in_default-2.ensures)

pub loop-alloc-preserved : goal.loop-alloc-preserved
loop-alloc-preserved g c =
    let items = c.loop-alloc.items.items in
    let more : length items < c.args.count = omega (arith, c.loop-alloc-test.true, c.len.ensures, c.loop-alloc.items.ok) in
    let last : option_copied c.last.result ≡ last_of items = c.last.ensures.value ∙ ap (λ xs. slice_get xs (length xs - 1)) c.as_slice.ensures.value in
    let is : Some c.in-Some-2.item ≡ g.X.LineEntry.form (last_of items) c.in-Some.fields = sym c.in-Some-2.is ∙ c.in_ok-item.ensures ∙ ap (λ b. g.X.LineEntry.form b c.in-Some.fields) last in
    rw c.in_ok-push.ensures.items (goes_on g.X.LineEntry.form items c.args.first c.args.count c.loop-alloc.at c.in-Some.next c.in-Some.fields c.in-Some-2.item _
    more c.in-Some.ensures.lines c.in-Some.ensures.read is c.loop-alloc.invariant)

pub returns : goal.returns
returns g c =
    let past : c.args.count ≤ length c.loop-alloc.items.items = omega (arith, c.loop-alloc-test.false, c.len.ensures, c.loop-alloc.items.ok) in
    is_done g.X.LineEntry.form c.loop-alloc.items.items c.args.first c.args.count c.loop-alloc.at _ past c.loop-alloc.invariant

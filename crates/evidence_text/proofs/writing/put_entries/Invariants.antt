use Rattle.std.proofs.Common.{◌≡◌, ◌++◌, map, drop}
use Rattle.line_fields.specs.Lines.{text_of}
use Rattle.evidence_text.proofs.writing.put_entries.Given as goal

abbrev pub invariant-loop-item : goal.invariant-loop-item
invariant-loop-item g l =
    l.text ++ text_of (map g.X.LineEntry.spell (drop l.item-index l.items)) ≡ l.fn.text ++ text_of (map g.X.LineEntry.spell l.items)

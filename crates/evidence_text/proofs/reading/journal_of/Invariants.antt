use Rattle.std.proofs.Common.{◌≡◌, ◌≤◌, ◌-◌, length, take}
use Rattle.evidence_text.proofs.reading.journal_of.Given as goal

abbrev pub invariant-loop-entry : goal.invariant-loop-entry
invariant-loop-entry l = record {
  same : l.journal.entries ≡ take l.entry-index l.list;
  room : length l.list - l.entry-index ≤ l.journal.room;
}

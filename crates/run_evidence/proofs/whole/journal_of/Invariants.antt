use Rattle.std.proofs.Common.{◌≡◌, ◌≤◌, ◌+◌, length, take}
use Rattle.run_evidence.proofs.whole.journal_of.Given as goal

abbrev pub invariant-loop-entry : goal.invariant-loop-entry
invariant-loop-entry l = record {
  entries : l.journal.entries ≡ take l.entry-index l.items;
  room : length l.items ≤ l.entry-index + l.journal.room;
}

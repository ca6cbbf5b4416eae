use Rattle.std.proofs.Common.{◌≡◌, take}
use Rattle.accuse_core.specs.Marks.{opening}
use Rattle.accuse_core.specs.Journal.{AreReplied, replayed}
use Rattle.check_items.proofs.journal.replayed.Given as goal

abbrev pub invariant-loop-entry : goal.invariant-loop-entry
invariant-loop-entry l = record {
  number : l.number ≡ l.entry-index;
  replies : AreReplied (opening l.ranks) (take l.entry-index l.entries);
  core : l.core ≡ replayed l.ranks (take l.entry-index l.entries);
}

-- What contracts see of entries: the list, and how many more need no memory.
use Rattle.std.specs.Prelude.{ℕ, List}
use Rattle.accuse_core.specs.declared.journal.Entry.{Entry}

pub record EntriesSeen : Type 0 where
  pub entries : List Entry
  pub room : ℕ

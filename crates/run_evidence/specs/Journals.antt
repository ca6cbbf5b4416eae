-- The journal that evidence has.
use Rattle.std.specs.Prelude.{◌≡◌, List}
use Rattle.accuse_core.specs.declared.journal.Entry.{Entry}
use Rattle.evidence_text.specs.declared.types.Body.{Body}
use Rattle.evidence_text.specs.declared.types.Body.TheVariants as body
use Rattle.evidence_text.specs.declared.types.Evidence.{Evidence}

-- the body is that of a diagnosis, and its journal has just these entries
abbrev pub HasJournal : List Entry → Body → Type 0
HasJournal entries (body.Diagnosis removed model journal) = journal.entries ≡ entries
HasJournal entries (body.Refusal steps) = ⊥

abbrev pub IsJournalOf : List Entry → Evidence → Type 0
IsJournalOf entries evidence = HasJournal entries evidence.body

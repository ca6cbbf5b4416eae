use Rattle.std.proofs.Common.{sym, subst, ◌∙◌}
use Rattle.run_evidence.specs.Journals.{HasJournal}
use Rattle.run_evidence.proofs.Bodies.{of_book_valid, of_book_text}
use Rattle.run_evidence.proofs.whole.evidence_of.Goals as goal

pub returns-clause-valid : goal.returns-clause-valid
returns-clause-valid c =
    of_book_valid c.args.loaded.now c.requires.tellable c.args.book.now c.journal-entries.ensures.book c.requires.case c.book_is_decided.ensures.of_loaded
    c.table-table.result.now c.table-table.ensures c.in_ok-model.model c.in_ok-model.ensures.model c.in_ok-journal.journal c.journal-entries.result.now.entries c.in_ok-journal.ensures c.journal-entries.ensures.entries
    c.in_ok-removed.removed c.in_ok-removed.ensures c.in_ok-evidence.evidence c.in_ok-evidence.ensures.kind c.in_ok-evidence.ensures.body c.in_ok-evidence.ensures.lists

pub returns-clause-text : goal.returns-clause-text
returns-clause-text c =
    of_book_text c.args.loaded.now c.requires.tellable c.args.book.now c.journal-entries.ensures.book c.requires.case c.book_is_decided.ensures.of_loaded
    c.table-table.result.now c.table-table.ensures c.in_ok-model.model c.in_ok-model.ensures.model c.in_ok-journal.journal c.journal-entries.result.now.entries c.in_ok-journal.ensures c.journal-entries.ensures.entries
    c.in_ok-removed.removed c.in_ok-removed.ensures c.in_ok-evidence.evidence c.in_ok-evidence.ensures.kind c.in_ok-evidence.ensures.body c.in_ok-evidence.ensures.lists
    c.names_are_held.ensures.classes c.names_are_held.ensures.properties c.in_ok-model.ensures.ordered

pub returns-clause-journal : goal.returns-clause-journal
returns-clause-journal c =
    subst (HasJournal c.args.book.now.entries) (sym c.in_ok-evidence.ensures.body) (c.in_ok-journal.ensures ∙ c.journal-entries.ensures.entries)

-- A book may be sent to a thread, and so may its lock and a seat of it. Threads may share the lock.
use denote.Param.Send.{IsSend, IsSync, sendable}
use Rattle.std.proofs.Crossing.{crosses}
use Rattle.accuse_core.specs.contracts.machine.Core as Core
use Rattle.accuse_core.specs.contracts.journal.Entries as Entries
use Rattle.derivation.specs.contracts.types.Step as Step
use Rattle.sqlite_items.specs.contracts.items.Items as Items
use Rattle.case_file.specs.contracts.case.Case as Case
use Rattle.accuse_core.specs.contracts.journal.Entry as Entry
use Rattle.commit_book.specs.contracts.book.Book as Book
use Rattle.commit_book.specs.contracts.book.BookGrows.TheImpl.{ghosts}
use Rattle.commit_lock.specs.contracts.lock.CommitLock as Lock
use Rattle.commit_lock.specs.contracts.lock.Seat as Seat
use Rattle.commit_lock.proofs.lock.CommitLock.TheSendSync as lock
use Rattle.commit_lock.proofs.lock.Seat.TheSendSync as seat
use Rattle.book_threads.proofs.Parts.{items_send, case_share_send, table_send}

-- a core may be sent
pub core_send : IsSend Core.the_row
core_send = search (sendable, crosses) depth 40 fits 4000

-- a journal may be sent
pub entries_send : IsSend Entries.the_row
entries_send = search (sendable, crosses) depth 40 fits 4000

-- a derivation may be sent
pub steps_send : IsSend (Items.the_row Step.the_row)
steps_send = items_send Step.the_row (search (sendable, crosses) depth 40 fits 4000)

-- a book may be sent
pub book_send : IsSend Book.the_row
book_send = search (case_share_send, core_send, entries_send, table_send, steps_send, crosses, sendable) depth 60 fits 20000

-- a lock of a book may be sent
pub lock_send : IsSend (Lock.the_row Book.the_row Case.the_row Entry.the_row ghosts)
lock_send = lock.the_send Book.the_row Case.the_row Entry.the_row ghosts book_send

-- a lock of a book may be shared
pub lock_sync : IsSync (Lock.the_row Book.the_row Case.the_row Entry.the_row ghosts)
lock_sync = lock.the_sync Book.the_row Case.the_row Entry.the_row ghosts book_send

-- a seat of such a lock may be sent
pub seat_send : IsSend (Seat.the_row Book.the_row Case.the_row Entry.the_row ghosts)
seat_send = seat.the_send Book.the_row Case.the_row Entry.the_row ghosts book_send

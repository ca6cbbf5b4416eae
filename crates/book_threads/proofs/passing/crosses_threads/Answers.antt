use denote.Param.Send.{sendable}
use Rattle.book_threads.proofs.Sending.{book_send, lock_send, lock_sync, seat_send}
use Rattle.book_threads.proofs.passing.crosses_threads.Goals as goal

pub is_send-requires-send-T : goal.is_send-requires-send-T
is_send-requires-send-T c κs = search (book_send, sendable)

pub is_send-requires-2-send-T : goal.is_send-requires-2-send-T
is_send-requires-2-send-T c κs = search (lock_send, sendable)

pub is_sync-requires-sync-T : goal.is_sync-requires-sync-T
is_sync-requires-sync-T c κs = search (lock_sync, sendable)

pub is_send-requires-3-send-T : goal.is_send-requires-3-send-T
is_send-requires-3-send-T c κs = search (seat_send, sendable)

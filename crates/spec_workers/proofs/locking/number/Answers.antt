use denote.Param.Send.{sendable}
use Rattle.book_threads.proofs.Sending.{book_send}
use Rattle.spec_workers.proofs.locking.number.Goals as goal

pub number-requires-send-V : goal.number-requires-send-V
number-requires-send-V c κs = search (sendable, book_send)

use denote.Param.Send.{sendable}
use Rattle.book_threads.proofs.Sending.{book_send}
use Rattle.spec_workers.proofs.locking.leave.Goals as goal

pub leave-requires-send-V : goal.leave-requires-send-V
leave-requires-send-V c κs = search (sendable, book_send)

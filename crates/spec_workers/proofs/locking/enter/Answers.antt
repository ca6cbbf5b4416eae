use denote.Param.Send.{sendable}
use Rattle.book_threads.proofs.Sending.{book_send}
use Rattle.spec_workers.proofs.locking.enter.Goals as goal

pub enter-requires-send-V : goal.enter-requires-send-V
enter-requires-send-V g c κs within = search (sendable, book_send)

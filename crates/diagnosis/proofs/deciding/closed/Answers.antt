use denote.Param.Send.{sendable}
use Rattle.book_threads.proofs.Sending.{book_send}
use Rattle.diagnosis.proofs.deciding.closed.Goals as goal

pub close-requires-send-V : goal.close-requires-send-V
close-requires-send-V c κs = search (sendable, book_send)

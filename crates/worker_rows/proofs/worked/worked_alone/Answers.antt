use denote.Param.Send.{sendable}
use Rattle.book_threads.proofs.Sending.{book_send}
use Rattle.worker_rows.proofs.worked.worked_alone.Goals as goal

pub new-requires-2-send-V : goal.new-requires-2-send-V
new-requires-2-send-V g c κs = search (sendable, book_send)

pub close-requires-send-V : goal.close-requires-send-V
close-requires-send-V g c κs = search (sendable, book_send)

use denote.Param.Send.{sendable}
use Rattle.book_threads.proofs.Sending.{book_send}
use Rattle.diagnosis.proofs.deciding.opened.Goals as goal

pub new-requires-send-V : goal.new-requires-send-V
new-requires-send-V c κs = search (sendable, book_send)

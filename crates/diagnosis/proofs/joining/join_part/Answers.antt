use denote.Param.Send.{sendable}
use Rattle.book_threads.proofs.Sending.{book_send}
use Rattle.diagnosis.proofs.joining.join_part.Goals as goal

pub join-requires-send-V : goal.join-requires-send-V
join-requires-send-V c κs = search (sendable, book_send)

use denote.Param.Send.{sendable}
use Rattle.book_threads.proofs.Sending.{book_send}
use Rattle.diagnosis.proofs.splitting.split_part.Goals as goal

pub split-requires-send-V : goal.split-requires-send-V
split-requires-send-V c κs = search (sendable, book_send)

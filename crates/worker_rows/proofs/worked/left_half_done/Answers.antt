use denote.Param.Send.{sendable}
use Rattle.book_threads.proofs.Sending.{book_send}
use Rattle.worker_rows.proofs.worked.left_half_done.Goals as goal

pub new-requires-2-send-V : goal.new-requires-2-send-V
new-requires-2-send-V g c κs = search (sendable, book_send)

pub split-requires-send-V : goal.split-requires-send-V
split-requires-send-V g c κs = search (sendable, book_send)

pub split-requires-2-send-V : goal.split-requires-2-send-V
split-requires-2-send-V g c κs = search (sendable, book_send)

pub join-requires-send-V : goal.join-requires-send-V
join-requires-send-V g c κs = search (sendable, book_send)

pub join-requires-2-send-V : goal.join-requires-2-send-V
join-requires-2-send-V g c κs = search (sendable, book_send)

pub close-requires-send-V : goal.close-requires-send-V
close-requires-send-V g c κs = search (sendable, book_send)

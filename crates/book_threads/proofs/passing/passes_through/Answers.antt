use denote.Param.Send.{sendable}
use Rattle.std.proofs.Common.{[], sym, ◌∙◌, append-nil, arith}
use Rattle.book_threads.proofs.Sending.{book_send}
use Rattle.book_threads.proofs.passing.passes_through.Goals as goal

pub enter-book-requires-send-V : goal.enter-book-requires-send-V
enter-book-requires-send-V c κs = search (sendable, book_send)

pub leave-requires-send-V : goal.leave-requires-send-V
leave-requires-send-V c κs = search (sendable, book_send)

pub leave-requires-clause-grown : goal.leave-requires-clause-grown
leave-requires-clause-grown o c κs =
    ([], sym c.enter-book.ensures.entered ∙ sym (append-nil _), λ k d below. omega (arith, below))

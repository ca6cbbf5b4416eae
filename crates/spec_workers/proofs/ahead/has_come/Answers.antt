use Rattle.std.proofs.Common.{[], sym, ◌∙◌, append-nil, arith}
use Rattle.spec_workers.proofs.ahead.has_come.Goals as goal

pub leave-requires-clause-grown : goal.leave-requires-clause-grown
leave-requires-clause-grown g c =
    ([], sym c.enter-book.ensures.entered ∙ sym (append-nil _), λ k d below. omega (arith, below))

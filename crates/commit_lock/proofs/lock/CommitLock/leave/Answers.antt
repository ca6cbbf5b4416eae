use Rattle.std.proofs.Common.{rules, ◌∙◌}
use Rattle.commit_lock.proofs.TurnSteps.{gives_by}
use Rattle.commit_lock.proofs.lock.CommitLock.leave.Goals as goal

pub fetch_and-requires : goal.fetch_and-requires
fetch_and-requires g c = (
  c.exchange.ensures.0 ∙ c.requires.lock.0,
  search rules,
  gives_by g.V.Grows.case g.V.Grows.entries g.V.Grows.worker _ _ _ 18446744073709551614 0 c.args.seat.now.token.me
      c.exchange.new.seat.me c.args.value c.exchange.ensures.3 (search rules) c.requires.turn c.requires.lock.1
      c.requires.case c.requires.grown,
)

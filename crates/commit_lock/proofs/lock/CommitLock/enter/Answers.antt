use Rattle.std.proofs.Common.{rules, ◌∙◌, sym, subst}
use Rattle.atomic_table.specs.Table.{step}
use mathlib.Core.Option.{none}
use Rattle.commit_lock.specs.Inside.LockSteps.{Rests}
use Rattle.commit_lock.proofs.TurnSteps.{takes_by}
use Rattle.commit_lock.proofs.Entering.{has_slot, entered_by}
use Rattle.commit_lock.proofs.lock.CommitLock.enter.Goals as goal

pub fetch_or-found-requires : goal.fetch_or-found-requires
fetch_or-found-requires g c =
    let same = c.loop.invariant in
    let rests = subst Rests (sym same.1) c.requires.idle in (
      same.0 ∙ c.requires.lock.0,
      search rules,
      takes_by g.V.Grows.case g.V.Grows.entries g.V.Grows.worker _ _ _ 1 0 c.loop.seat.token.me (search rules) rests,
    )

pub exchange-requires : goal.exchange-requires
exchange-requires g c = (
  c.fetch_or-found.ensures.0 ∙ (c.loop.invariant.0 ∙ c.requires.lock.0),
  has_slot g.V.Grows.case g.V.Grows.entries g.V.Grows.worker (step 1 0 1 0 none) c.loop.seat.token.me _ _
      c.if-found-eq0.true c.fetch_or-found.ensures.2,
)

pub returns-then-found-eq0 : goal.returns-then-found-eq0
returns-then-found-eq0 g c =
    let entered =
    entered_by g.V.Grows.case g.V.Grows.entries g.V.Grows.worker (step 1 0 1 0 none) _ c.args.seat.now.token.me
    _ _ _ _ _ _ c.requires.lock.1 c.requires.idle.0 c.loop.invariant.1 c.if-found-eq0.true
    c.fetch_or-found.ensures.2 c.exchange.ensures.2 c.in-Some-exchange.is c.exchange.ensures.3 in
    record {
      lock = (search rules, entered.case);
      turn = entered.turn;
      entered = entered.entered;
      same = (entered.place, entered.seen);
      case = entered.found_case;
      seen = entered.begins;
      own = entered.own;
    }

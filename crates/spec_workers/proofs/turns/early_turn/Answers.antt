use Rattle.std.proofs.Common.{◌∷◌, []}
use Rattle.std.proofs.lemmas.Result.{IfOk-weaker, on_err_weaker}
use Rattle.commit_lock.specs.Seats.{number, seen}
use Rattle.spec_workers.specs.Inside.Steps.{IsTurn}
use Rattle.spec_workers.proofs.TurnSteps.{turn_after, cut_after}
use Rattle.spec_workers.proofs.turns.early_turn.Goals as goal

pub returns-clause-ok : goal.returns-clause-ok
returns-clause-ok g c =
    let seat = c.args.seat.now in
    let waited = c.wait_unless_no.new.seat in
    let last = c.settled_turn.new.seat in
    IfOk-weaker c.settled_turn.result (IsTurn (number waited) c.args.rank (seen waited) (seen last)) (IsTurn (number seat) c.args.rank (seen seat) (seen last))
    (λ tested turn. turn_after (number seat) (number waited) c.args.rank (seen seat) (seen waited) (seen last) tested
    c.wait_unless_no.ensures.same.0 c.wait_unless_no.ensures.told turn)
    c.settled_turn.ensures.ok

pub returns-clause-err : goal.returns-clause-err
returns-clause-err g c =
    let seat = c.args.seat.now in
    let waited = c.wait_unless_no.new.seat in
    let last = c.settled_turn.new.seat in
    on_err_weaker c.settled_turn.result
    (λ cut. cut_after (number seat) (number waited) (c.args.rank ∷ []) (seen seat) (seen waited) (seen last)
    c.wait_unless_no.ensures.same.0 c.wait_unless_no.ensures.told cut)
    c.settled_turn.ensures.err

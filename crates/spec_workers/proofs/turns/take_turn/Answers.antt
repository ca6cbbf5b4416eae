use Rattle.std.proofs.Common.{◌∷◌, []}
use Rattle.std.proofs.lemmas.Result.{IfOk-weaker, on_err_weaker}
use Rattle.commit_lock.specs.Seats.{number, seen}
use Rattle.spec_workers.specs.Inside.Steps.{IsTurn}
use Rattle.spec_workers.proofs.TurnSteps.{turn_after, cut_after}
use Rattle.spec_workers.proofs.turns.take_turn.Goals as goal

pub returns-in-None-clause-ok : goal.returns-in-None-clause-ok
returns-in-None-clause-ok g c =
    let seat = c.args.seat.now in
    let waited = c.look.new.seat in
    let last = c.plain_turn.new.seat in
    IfOk-weaker c.plain_turn.result (IsTurn (number waited) c.args.rank (seen waited) (seen last)) (IsTurn (number seat) c.args.rank (seen seat) (seen last))
    (λ tested turn. turn_after (number seat) (number waited) c.args.rank (seen seat) (seen waited) (seen last) tested
    c.look.ensures.same.0 c.look.ensures.told turn)
    c.plain_turn.ensures.ok

pub returns-in-None-clause-err : goal.returns-in-None-clause-err
returns-in-None-clause-err g c =
    let seat = c.args.seat.now in
    let waited = c.look.new.seat in
    let last = c.plain_turn.new.seat in
    on_err_weaker c.plain_turn.result
    (λ cut. cut_after (number seat) (number waited) (c.args.rank ∷ []) (seen seat) (seen waited) (seen last)
    c.look.ensures.same.0 c.look.ensures.told cut)
    c.plain_turn.ensures.err

pub returns-in-Some-clause-ok : goal.returns-in-Some-clause-ok
returns-in-Some-clause-ok g c =
    let seat = c.args.seat.now in
    let waited = c.look.new.seat in
    let last = c.early_turn.new.seat in
    IfOk-weaker c.early_turn.result (IsTurn (number waited) c.args.rank (seen waited) (seen last)) (IsTurn (number seat) c.args.rank (seen seat) (seen last))
    (λ tested turn. turn_after (number seat) (number waited) c.args.rank (seen seat) (seen waited) (seen last) tested
    c.look.ensures.same.0 c.look.ensures.told turn)
    c.early_turn.ensures.ok

pub returns-in-Some-clause-err : goal.returns-in-Some-clause-err
returns-in-Some-clause-err g c =
    let seat = c.args.seat.now in
    let waited = c.look.new.seat in
    let last = c.early_turn.new.seat in
    on_err_weaker c.early_turn.result
    (λ cut. cut_after (number seat) (number waited) (c.args.rank ∷ []) (seen seat) (seen waited) (seen last)
    c.look.ensures.same.0 c.look.ensures.told cut)
    c.early_turn.ensures.err

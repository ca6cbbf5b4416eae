use Rattle.std.proofs.Common.{◌∙◌, refl, ◌+◌, subst, arith, Bool}
use Rattle.commit_lock.specs.Seats.{number, seen}
use Rattle.spec_workers.specs.Books.{lock_case, ranks_at}
use Rattle.spec_workers.specs.Inside.Fronts.{MovesFront}
use Rattle.spec_workers.specs.Inside.Steps.{IsFrontTurn}
use Rattle.spec_workers.proofs.FrontLemmas.{front_at_most}
use Rattle.spec_workers.proofs.StageLemmas.{more_fronts}
use Rattle.spec_workers.proofs.working.take_fronts.Goals as goal

pub loop-preserved : goal.loop-preserved
loop-preserved g c =
    let before = c.loop.seat in
    let after = c.front_turn.new.seat in
    let was = c.loop.invariant.same in
    let same = c.front_turn.ensures.same in
    let step = subst (λ (b : Bool). IsFrontTurn (number before) (seen before) (seen after) b) c.in-Ok-true.field-0-test c.in-Ok-true.ensures.ok in
    let moved = subst (λ (b : Bool). MovesFront (lock_case c.args.lock.now) (seen before) (seen after) b) c.in-Ok-true.field-0-test c.in-Ok-true.ensures.moves in
    let so_far = c.loop.invariant.few in
    record {
      lock = c.front_turn.ensures.lock;
      idle = c.front_turn.ensures.idle;
      same = (same.0 ∙ was.0, same.1 ∙ was.1, same.2 ∙ was.2);
      few = omega (arith, so_far, moved);
      fronts = more_fronts (number c.args.seat.now) (number before) c.loop.counter (c.loop.counter + 1) (seen c.args.seat.now) (seen before) (seen after)
          was.0 refl c.loop.invariant.fronts step;
    }

pub returns-clause-few : goal.returns-clause-few
returns-clause-few g c = λ _.
    let so_far = c.loop.invariant.few in
    let within = front_at_most (ranks_at c.args.lock.now) (seen c.loop.seat) in
    omega (arith, so_far, within)

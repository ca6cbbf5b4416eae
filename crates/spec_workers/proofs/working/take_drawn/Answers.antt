use Rattle.std.proofs.Common.{◌≡◌, ◌∙◌, ◌<◌, ◌≤◌, ◌+◌, ℕ, Bool, cond, All, List, refl, sym, ap, subst, arith}
use Rattle.std.proofs.lemmas.List.Elements.{All-push}
use Rattle.commit_lock.specs.Passes.{ranks_of, drawn}
use Rattle.commit_lock.specs.Seats.{number, seen}
use Rattle.spec_workers.proofs.StageLemmas.{nothing_taken, more_taken, few_taken}
use Rattle.spec_workers.proofs.working.take_drawn.Goals as goal

pub loop-init : goal.loop-init
loop-init g c = record {
  lock = c.requires.lock;
  idle = c.requires.idle;
  same = (refl, refl, refl);
  word = c.requires.word;
  pass = (refl, refl);
  not_over = c.requires.not_over;
  few = omega arith;
  taken = nothing_taken (number c.args.seat.now) c.args.budget (drawn c.args.pass.now) (seen c.args.seat.now);
}

pub loop-preserved-in-Ok-true : goal.loop-preserved-in-Ok-true
loop-preserved-in-Ok-true g c =
    let before = c.loop.seat in
    let after = c.take_turn.new.seat in
    let was = c.loop.invariant in
    let same = c.take_turn.ensures.same in
    let rank = c.in-Some-draw.rank in
    let drew = c.in-Some-draw.ensures.appended in
    let within = was.taken.taking.within in
    let less = c.if-made-budget.false in
    let few : c.loop.made + 1 ≤ c.args.budget = omega (arith, within, less) in
    let count = ap (λ (b : Bool). c.loop.made + cond {A = ℕ} b 1 0) (sym c.in-Ok-true.field-0-test) in
    let not_over = subst (λ (l : List ℕ). All (λ x. x < ranks_of c.args.draw.now) l) (sym drew)
    (All-push (λ x. x < ranks_of c.args.draw.now) (drawn c.loop.pass) rank was.not_over c.in-Some-draw.ensures.below) in
    let taken = more_taken (number c.args.seat.now) (number before) c.args.budget rank c.loop.made (c.loop.made + 1) c.in-Ok-true.field-0
    (drawn c.args.pass.now) (drawn c.loop.pass) (drawn c.draw.new.pass) (seen c.args.seat.now) (seen before) (seen after)
    was.same.0 count few was.taken drew c.in-Ok-true.ensures.ok in
    record {
      lock = c.take_turn.ensures.lock;
      idle = c.take_turn.ensures.idle;
      same = (same.0 ∙ was.same.0, same.1 ∙ was.same.1, same.2 ∙ was.same.2);
      word = c.draw.ensures.word;
      pass = (c.draw.ensures.same.0 ∙ was.pass.0, c.draw.ensures.same.1 ∙ was.pass.1);
      not_over = not_over;
      few = few_taken (ranks_of c.args.draw.now) (number c.args.seat.now) c.args.budget (c.loop.made + 1)
          (drawn c.args.pass.now) (drawn c.draw.new.pass) (seen c.args.seat.now) (seen after)
          taken c.draw.ensures.none_twice not_over;
      taken = taken;
    }

pub loop-preserved : goal.loop-preserved
loop-preserved g c =
    let before = c.loop.seat in
    let after = c.take_turn.new.seat in
    let was = c.loop.invariant in
    let same = c.take_turn.ensures.same in
    let rank = c.in-Some-draw.rank in
    let drew = c.in-Some-draw.ensures.appended in
    let none = ap (λ (b : Bool). cond {A = ℕ} b 1 0) c.in-Ok-false.field-0-test in
    let count : c.loop.made ≡ c.loop.made + cond {A = ℕ} c.in-Ok-false.field-0 1 0 = omega (arith, none) in
    record {
      lock = c.take_turn.ensures.lock;
      idle = c.take_turn.ensures.idle;
      same = (same.0 ∙ was.same.0, same.1 ∙ was.same.1, same.2 ∙ was.same.2);
      word = c.draw.ensures.word;
      pass = (c.draw.ensures.same.0 ∙ was.pass.0, c.draw.ensures.same.1 ∙ was.pass.1);
      not_over = subst (λ (l : List ℕ). All (λ x. x < ranks_of c.args.draw.now) l) (sym drew)
          (All-push (λ x. x < ranks_of c.args.draw.now) (drawn c.loop.pass) rank was.not_over c.in-Some-draw.ensures.below);
      few = was.few;
      taken = more_taken (number c.args.seat.now) (number before) c.args.budget rank c.loop.made c.loop.made c.in-Ok-false.field-0
          (drawn c.args.pass.now) (drawn c.loop.pass) (drawn c.draw.new.pass) (seen c.args.seat.now) (seen before) (seen after)
          was.same.0 count was.taken.taking.within was.taken drew c.in-Ok-false.ensures.ok;
    }

use Rattle.commit_lock.specs.Passes.{drawn}
use Rattle.commit_lock.specs.Seats.{number, seen}
use Rattle.spec_workers.specs.Books.{ranks_at}
use Rattle.spec_workers.proofs.EndLemmas.{all_work}
use Rattle.spec_workers.proofs.working.work.Goals as goal

pub returns-in-Ok-clause-work : goal.returns-in-Ok-clause-work
returns-in-Ok-clause-work g c =
    all_work (ranks_at c.args.lock.now) (number c.args.seat) (number c.take_drawn.new.seat) c.args.budget c.in-Ok.made
    (drawn c.args.pass) (drawn c.take_drawn.new.pass) (seen c.args.seat) (seen c.take_drawn.new.seat) (seen c.take_fronts-end.new.seat)
    c.take_fronts-end.result c.take_drawn.ensures.same.0 c.in-Ok.ensures.ok c.take_fronts-end.ensures.told

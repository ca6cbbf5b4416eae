use Rattle.std.proofs.Common.{arith}
use Rattle.worker_rows.proofs.finished.counted.Goals as goal

pub returns : goal.returns
returns g c = record {
  six = λ ranks removed.
      let few = c.in_ok-book.ensures.tests 2 (omega (arith, ranks)) in
      let none = c.new-steps.ensures in
      omega (arith, few, removed, none);
}

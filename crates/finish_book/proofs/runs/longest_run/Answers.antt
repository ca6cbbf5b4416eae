use Rattle.std.proofs.Common.{◌+◌, ◌*◌, ◌<◌, ◌≤◌, subst, sym, rules, arith}
use Rattle.accuse_core.specs.Marks.{front_of}
use Rattle.commit_book.specs.Books.{ranks_of}
use Rattle.finish_book.proofs.RunLemmas.{enough_levels, halved, one_fewer}
use Rattle.finish_book.proofs.runs.longest_run.Goals as goal

pub loop-made-init : goal.loop-made-init
loop-made-init g c = record {
  is_run = c.requires.run;
  small =
      let inside : front_of c.args.book.now.marks + c.args.begun.further ≤ ranks_of c.args.book.now.case = omega (arith, c.requires.run.inside) in
      enough_levels (front_of c.args.book.now.marks) c.args.begun.further (ranks_of c.args.book.now.case) c.args.levels inside c.requires.levels;
  counted = omega arith;
  later = omega arith;
}

pub narrow-requires-clause-reach : goal.narrow-requires-clause-reach
narrow-requires-clause-reach g c =
    let inside : c.loop-made.made < c.args.levels + 1 = omega arith in
    subst (λ n. c.loop-made.run.further + 1 ≤ 2 * n) (sym c.reach_of.ensures)
    (halved c.loop-made.run.further c.args.levels c.loop-made.made inside c.loop-made.invariant.small)

pub loop-made-preserved : goal.loop-made-preserved
loop-made-preserved g c =
    let inside : c.loop-made.made < c.args.levels + 1 = omega arith in record {
      is_run = c.in_ok-narrow.ensures.run;
      small = one_fewer c.narrow.new.run.further c.args.levels c.loop-made.made inside
          (subst (λ n. c.narrow.new.run.further + 1 ≤ n) c.reach_of.ensures c.in_ok-narrow.ensures.further);
      counted = search rules;
      later = search rules;
    }

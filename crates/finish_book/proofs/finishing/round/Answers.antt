use Rattle.std.proofs.Common.{◌≡◌, ◌+◌, ◌-◌, ◌≤◌, ap, sym, ◌∙◌, rules, arith}
use Rattle.std.proofs.lemmas.Bool.Decides.{nat_tests}
use Rattle.accuse_core.specs.Marks.{front_of}
use Rattle.commit_book.specs.Books.{ranks_of}
use Rattle.finish_book.proofs.TellLemmas.{asked_first}
use Rattle.finish_book.proofs.finishing.round.Goals as goal

pub returns-clause-turn : goal.returns-clause-turn
returns-clause-turn g c =
    let book = c.args.book.now in
    let front : c.front.result ≡ front_of book.marks = c.front.ensures ∙ ap front_of c.core.ensures in
    let counted : c.ranks-ranks.result ≡ ranks_of book.case = search rules in
    let few = c.in_ok-run.ensures.few in
    let made : c.longest_run.new.steps - c.args.steps.now ≤ c.args.levels + 1 = omega arith in
    record {
      over = λ all. let same : c.front.result ≡ c.ranks-ranks.result = front ∙ all ∙ sym counted in absurd (grind (arith, nat_tests));
      round = λ left.
          (asked_first book c.take_front.new.book c.decide_run.new.book c.in_ok-taken.ensures.asked c.in_ok-taken.ensures.marks c.in_ok-decide_run.ensures, made);
    }

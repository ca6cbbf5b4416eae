use Rattle.std.proofs.Common.{◌≡◌, ◌+◌, ◌-◌, ◌*◌, ◌<◌, ◌≤◌, ap, subst, ◌∙◌, rules, arith}
use Rattle.el_logic.specs.declared.types.Part.{Part}
use Rattle.case_file.specs.Cases.{CaseView}
use Rattle.case_file.specs.Incoherence.{IsIncoherentFor}
use Rattle.conflict_logic.specs.Repair.{IsRepair}
use Rattle.accuse_core.specs.Marks.{front_of, kept_of}
use Rattle.commit_book.specs.Books.{ranks_of}
use Rattle.finish_book.specs.Inside.Rounds.{IsUnderWay}
use Rattle.finish_book.proofs.RoundLemmas.{and_on, not_begun, one_more_round, few_tests}
use Rattle.finish_book.proofs.finishing.finish.Goals as goal

pub loop-init : goal.loop-init
loop-init g c = record {
  steps = omega arith;
  way =
      let none : 0 ≡ c.args.steps.now - c.args.steps.now = omega arith in
      subst (λ n. IsUnderWay 0 c.levels_of-levels.result n c.args.book c.args.book) none (not_begun c.levels_of-levels.result c.args.book);
}

pub loop-preserved : goal.loop-preserved
loop-preserved g c =
    let begun = c.args.book in
    let before = c.loop.book in
    let way = c.loop.invariant.way in
    let first = c.loop.invariant.steps in
    let second = c.in_ok-round.ensures.counted in
    let counted : c.ranks-ranks.result ≡ ranks_of begun.case = search rules in
    let more : c.loop.counter < c.ranks-ranks.result = search rules in
    let inside : c.loop.counter < ranks_of begun.case = omega (arith, counted, more) in
    let within : front_of before.marks ≤ ranks_of before.case =
    omega (arith, c.front_is_the_least_undecided_rank.ensures.within before.marks, way.goes_on.as_many, c.journal.ensures.book.ranks, ap ranks_of way.goes_on.case_is) in
    let made = c.loop.steps - c.args.steps.now in
    let tests = c.round.new.steps - c.loop.steps in
    let all : made + tests ≡ c.round.new.steps - c.args.steps.now = omega arith in
    record {
      steps = omega arith;
      way = subst (λ n. IsUnderWay (c.loop.counter + 1) c.levels_of-levels.result n begun c.round.new.book) all
          (one_more_round c.loop.counter c.levels_of-levels.result made tests begun before c.round.new.book inside within way c.in_ok-round.ensures.turn);
    }

pub returns-clause-repair : goal.returns-clause-repair
returns-clause-repair g c =
    let way = c.loop.invariant.way in
    let after = c.take_front.new.book in
    let same = c.in_ok-take_front.ensures.asked.case_is ∙ way.goes_on.case_is in
    let counted : c.ranks-ranks.result ≡ ranks_of c.args.book.case = search rules in
    let all : c.ranks-ranks.result ≤ c.loop.counter = search rules in
    let decided : front_of after.marks ≡ ranks_of c.args.book.case =
    omega (
      arith,
      counted,
      all,
      way.moved,
      c.front_is_the_least_undecided_rank.ensures.within c.loop.book.marks,
      way.goes_on.as_many,
      c.journal.ensures.book.ranks,
      ap front_of c.in_ok-take_front.ensures.marks,
    ) in
    subst (λ n. IsRepair (IsIncoherentFor c.args.book.case Part.Both) n (kept_of after.marks)) decided
    (subst (λ (of : CaseView). IsRepair (IsIncoherentFor of Part.Both) (front_of after.marks) (kept_of after.marks)) same c.books_hold_a_repair.ensures)

pub returns-clause-entries : goal.returns-clause-entries
returns-clause-entries g c =
    let way = c.loop.invariant.way in
    (and_on (3 * way.removed + 2 * way.ended) 1 way.goes_on c.in_ok-take_front.ensures.asked).entries

pub returns-clause-tests : goal.returns-clause-tests
returns-clause-tests g c =
    let counted : c.ranks-ranks.result ≡ ranks_of c.args.book.case = search rules in
    few_tests c.loop.counter c.levels_of-levels.result (c.loop.steps - c.args.steps.now) c.args.book c.loop.book c.take_front.new.book c.loop.invariant.way
    c.in_ok-take_front.ensures.asked c.in_ok-take_front.ensures.marks
    (λ other enough. c.levels_of-levels.ensures.least other (omega (arith, counted, enough)))

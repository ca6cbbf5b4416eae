use Rattle.std.proofs.lemmas.Result.{on_ok_weaker}
use Rattle.fact_table.specs.declared.types.Fact.TheVariants.{Sub}
use Rattle.rule_steps.specs.Counted.{nodes_of}
use Rattle.rule_steps.specs.Growing.{facts_in}
use Rattle.rule_steps.specs.Answering.{IsAt}
use Rattle.rule_steps.proofs.GrowthLaws.{at_grown, grown_more}
use Rattle.rule_steps.specs.Counted.{IsCounted}
use Rattle.rule_steps.specs.Growing.{HasGrown}
use Rattle.fact_table.specs.declared.types.Rule.{Rule}
use Rattle.rule_steps.proofs.GrowthLaws.{first_grown, second_grown}
use Rattle.rule_steps.proofs.AnswerLaws.{sub_answered, any_source, opened_stays}
use Rattle.rule_steps.proofs.steps.answer_sub.Goals as goal

pub include-requires : goal.include-requires
include-requires c =
    let g01 : HasGrown c.args.grounds.now c.args.layers.now c.void_into.new.layers = c.void_into.ensures.grown in
    at_grown c.args.grounds.now c.args.layers.now c.void_into.new.layers c.args.sub.place (Sub c.args.sub.low c.args.sub.high) g01 c.requires.at

pub open-requires : goal.open-requires
open-requires c =
    let g01 : HasGrown c.args.grounds.now c.args.layers.now c.void_into.new.layers = c.void_into.ensures.grown in
    let g02 : HasGrown c.args.grounds.now c.args.layers.now c.include.new.layers = grown_more c.args.grounds.now c.args.layers.now c.void_into.new.layers c.include.new.layers g01 c.include.ensures.grown in
    at_grown c.args.grounds.now c.args.layers.now c.include.new.layers c.args.sub.place (Sub c.args.sub.low c.args.sub.high) g02 c.requires.at

pub returns-in_err-open-clause-grown : goal.returns-in_err-open-clause-grown
returns-in_err-open-clause-grown c =
    let g01 : HasGrown c.args.grounds.now c.args.layers.now c.void_into.new.layers = c.void_into.ensures.grown in
    let g02 : HasGrown c.args.grounds.now c.args.layers.now c.include.new.layers = grown_more c.args.grounds.now c.args.layers.now c.void_into.new.layers c.include.new.layers g01 c.include.ensures.grown in
    let g03 : HasGrown c.args.grounds.now c.args.layers.now c.open.new.layers = grown_more c.args.grounds.now c.args.layers.now c.include.new.layers c.open.new.layers g02 c.open.ensures.grown in
    g03

pub meet-requires : goal.meet-requires
meet-requires c =
    let g01 : HasGrown c.args.grounds.now c.args.layers.now c.void_into.new.layers = c.void_into.ensures.grown in
    let g02 : HasGrown c.args.grounds.now c.args.layers.now c.include.new.layers = grown_more c.args.grounds.now c.args.layers.now c.void_into.new.layers c.include.new.layers g01 c.include.ensures.grown in
    let g03 : HasGrown c.args.grounds.now c.args.layers.now c.open.new.layers = grown_more c.args.grounds.now c.args.layers.now c.include.new.layers c.open.new.layers g02 c.open.ensures.grown in
    at_grown c.args.grounds.now c.args.layers.now c.open.new.layers c.args.sub.place (Sub c.args.sub.low c.args.sub.high) g03 c.requires.at

pub returns-in_err-meet-clause-grown : goal.returns-in_err-meet-clause-grown
returns-in_err-meet-clause-grown c =
    let g01 : HasGrown c.args.grounds.now c.args.layers.now c.void_into.new.layers = c.void_into.ensures.grown in
    let g02 : HasGrown c.args.grounds.now c.args.layers.now c.include.new.layers = grown_more c.args.grounds.now c.args.layers.now c.void_into.new.layers c.include.new.layers g01 c.include.ensures.grown in
    let g03 : HasGrown c.args.grounds.now c.args.layers.now c.open.new.layers = grown_more c.args.grounds.now c.args.layers.now c.include.new.layers c.open.new.layers g02 c.open.ensures.grown in
    let g04 : HasGrown c.args.grounds.now c.args.layers.now c.meet.new.layers = grown_more c.args.grounds.now c.args.layers.now c.open.new.layers c.meet.new.layers g03 c.meet.ensures.grown in
    g04

pub separate-requires : goal.separate-requires
separate-requires c =
    let g01 : HasGrown c.args.grounds.now c.args.layers.now c.void_into.new.layers = c.void_into.ensures.grown in
    let g02 : HasGrown c.args.grounds.now c.args.layers.now c.include.new.layers = grown_more c.args.grounds.now c.args.layers.now c.void_into.new.layers c.include.new.layers g01 c.include.ensures.grown in
    let g03 : HasGrown c.args.grounds.now c.args.layers.now c.open.new.layers = grown_more c.args.grounds.now c.args.layers.now c.include.new.layers c.open.new.layers g02 c.open.ensures.grown in
    let g04 : HasGrown c.args.grounds.now c.args.layers.now c.meet.new.layers = grown_more c.args.grounds.now c.args.layers.now c.open.new.layers c.meet.new.layers g03 c.meet.ensures.grown in
    at_grown c.args.grounds.now c.args.layers.now c.meet.new.layers c.args.sub.place (Sub c.args.sub.low c.args.sub.high) g04 c.requires.at

pub fill_into-requires : goal.fill_into-requires
fill_into-requires c =
    let g01 : HasGrown c.args.grounds.now c.args.layers.now c.void_into.new.layers = c.void_into.ensures.grown in
    let g02 : HasGrown c.args.grounds.now c.args.layers.now c.include.new.layers = grown_more c.args.grounds.now c.args.layers.now c.void_into.new.layers c.include.new.layers g01 c.include.ensures.grown in
    let g03 : HasGrown c.args.grounds.now c.args.layers.now c.open.new.layers = grown_more c.args.grounds.now c.args.layers.now c.include.new.layers c.open.new.layers g02 c.open.ensures.grown in
    let g04 : HasGrown c.args.grounds.now c.args.layers.now c.meet.new.layers = grown_more c.args.grounds.now c.args.layers.now c.open.new.layers c.meet.new.layers g03 c.meet.ensures.grown in
    let g05 : HasGrown c.args.grounds.now c.args.layers.now c.separate.new.layers = grown_more c.args.grounds.now c.args.layers.now c.meet.new.layers c.separate.new.layers g04 c.separate.ensures.grown in
    at_grown c.args.grounds.now c.args.layers.now c.separate.new.layers c.args.sub.place (Sub c.args.sub.low c.args.sub.high) g05 c.requires.at

pub returns-clause-grown : goal.returns-clause-grown
returns-clause-grown c =
    let g01 : HasGrown c.args.grounds.now c.args.layers.now c.void_into.new.layers = c.void_into.ensures.grown in
    let g02 : HasGrown c.args.grounds.now c.args.layers.now c.include.new.layers = grown_more c.args.grounds.now c.args.layers.now c.void_into.new.layers c.include.new.layers g01 c.include.ensures.grown in
    let g03 : HasGrown c.args.grounds.now c.args.layers.now c.open.new.layers = grown_more c.args.grounds.now c.args.layers.now c.include.new.layers c.open.new.layers g02 c.open.ensures.grown in
    let g04 : HasGrown c.args.grounds.now c.args.layers.now c.meet.new.layers = grown_more c.args.grounds.now c.args.layers.now c.open.new.layers c.meet.new.layers g03 c.meet.ensures.grown in
    let g05 : HasGrown c.args.grounds.now c.args.layers.now c.separate.new.layers = grown_more c.args.grounds.now c.args.layers.now c.meet.new.layers c.separate.new.layers g04 c.separate.ensures.grown in
    let g06 : HasGrown c.args.grounds.now c.args.layers.now c.fill_into.new.layers = grown_more c.args.grounds.now c.args.layers.now c.separate.new.layers c.fill_into.new.layers g05 c.fill_into.ensures.grown in
    g06

pub returns-clause-answered : goal.returns-clause-answered
returns-clause-answered c =
    let g01 : HasGrown c.args.grounds.now c.args.layers.now c.void_into.new.layers = c.void_into.ensures.grown in
    let g02 : HasGrown c.args.grounds.now c.args.layers.now c.include.new.layers = grown_more c.args.grounds.now c.args.layers.now c.void_into.new.layers c.include.new.layers g01 c.include.ensures.grown in
    let g03 : HasGrown c.args.grounds.now c.args.layers.now c.open.new.layers = grown_more c.args.grounds.now c.args.layers.now c.include.new.layers c.open.new.layers g02 c.open.ensures.grown in
    let g04 : HasGrown c.args.grounds.now c.args.layers.now c.meet.new.layers = grown_more c.args.grounds.now c.args.layers.now c.open.new.layers c.meet.new.layers g03 c.meet.ensures.grown in
    let g05 : HasGrown c.args.grounds.now c.args.layers.now c.separate.new.layers = grown_more c.args.grounds.now c.args.layers.now c.meet.new.layers c.separate.new.layers g04 c.separate.ensures.grown in
    let g06 : HasGrown c.args.grounds.now c.args.layers.now c.fill_into.new.layers = grown_more c.args.grounds.now c.args.layers.now c.separate.new.layers c.fill_into.new.layers g05 c.fill_into.ensures.grown in
    let h5 : HasGrown c.args.grounds.now c.separate.new.layers c.fill_into.new.layers = c.fill_into.ensures.grown in
    let h4 : HasGrown c.args.grounds.now c.meet.new.layers c.fill_into.new.layers = grown_more c.args.grounds.now c.meet.new.layers c.separate.new.layers c.fill_into.new.layers c.separate.ensures.grown h5 in
    let h3 : HasGrown c.args.grounds.now c.open.new.layers c.fill_into.new.layers = grown_more c.args.grounds.now c.open.new.layers c.meet.new.layers c.fill_into.new.layers c.meet.ensures.grown h4 in
    let h2 : HasGrown c.args.grounds.now c.include.new.layers c.fill_into.new.layers = grown_more c.args.grounds.now c.include.new.layers c.open.new.layers c.fill_into.new.layers c.open.ensures.grown h3 in
    let h1 : HasGrown c.args.grounds.now c.void_into.new.layers c.fill_into.new.layers = grown_more c.args.grounds.now c.void_into.new.layers c.include.new.layers c.fill_into.new.layers c.include.ensures.grown h2 in
    let at1 : IsAt c.args.sub.place (facts_in c.void_into.new.layers) (Sub c.args.sub.low c.args.sub.high) = at_grown c.args.grounds.now c.args.layers.now c.void_into.new.layers c.args.sub.place (Sub c.args.sub.low c.args.sub.high) g01 c.requires.at in
    let at2 : IsAt c.args.sub.place (facts_in c.include.new.layers) (Sub c.args.sub.low c.args.sub.high) = at_grown c.args.grounds.now c.args.layers.now c.include.new.layers c.args.sub.place (Sub c.args.sub.low c.args.sub.high) g02 c.requires.at in
    let at3 : IsAt c.args.sub.place (facts_in c.open.new.layers) (Sub c.args.sub.low c.args.sub.high) = at_grown c.args.grounds.now c.args.layers.now c.open.new.layers c.args.sub.place (Sub c.args.sub.low c.args.sub.high) g03 c.requires.at in
    let at4 : IsAt c.args.sub.place (facts_in c.meet.new.layers) (Sub c.args.sub.low c.args.sub.high) = at_grown c.args.grounds.now c.args.layers.now c.meet.new.layers c.args.sub.place (Sub c.args.sub.low c.args.sub.high) g04 c.requires.at in
    let at5 : IsAt c.args.sub.place (facts_in c.separate.new.layers) (Sub c.args.sub.low c.args.sub.high) = at_grown c.args.grounds.now c.args.layers.now c.separate.new.layers c.args.sub.place (Sub c.args.sub.low c.args.sub.high) g05 c.requires.at in
    let at6 : IsAt c.args.sub.place (facts_in c.fill_into.new.layers) (Sub c.args.sub.low c.args.sub.high) = at_grown c.args.grounds.now c.args.layers.now c.fill_into.new.layers c.args.sub.place (Sub c.args.sub.low c.args.sub.high) g06 c.requires.at in
    on_ok_weaker c.fill_into.result
    (λ into. sub_answered (nodes_of c.args.grounds.now) (IsCounted c.args.grounds.now) c.args.sub.place (facts_in c.fill_into.new.layers) c.args.sub.low c.args.sub.high at6
    (first_grown c.args.grounds.now (IsCounted c.args.grounds.now) c.include.new.layers c.fill_into.new.layers c.args.sub.place Rule.Incl (Sub c.args.sub.low c.args.sub.high) h2 at2 (any_source c.args.grounds.now c.args.sub.place (facts_in c.include.new.layers) Rule.Incl c.in_ok-include.ensures.answered))
    (opened_stays c.args.grounds.now c.open.new.layers c.fill_into.new.layers c.args.sub.low c.args.sub.high h3 c.in_ok-open.ensures.opened)
    (first_grown c.args.grounds.now (IsCounted c.args.grounds.now) c.meet.new.layers c.fill_into.new.layers c.args.sub.place Rule.Both (Sub c.args.sub.low c.args.sub.high) h4 at4 (c.in_ok-meet.ensures.first))
    (second_grown c.args.grounds.now (IsCounted c.args.grounds.now) c.meet.new.layers c.fill_into.new.layers c.args.sub.place Rule.Both (Sub c.args.sub.low c.args.sub.high) h4 at4 (c.in_ok-meet.ensures.second))
    (first_grown c.args.grounds.now (IsCounted c.args.grounds.now) c.separate.new.layers c.fill_into.new.layers c.args.sub.place Rule.Disj (Sub c.args.sub.low c.args.sub.high) h5 at5 (c.in_ok-separate.ensures.first))
    (second_grown c.args.grounds.now (IsCounted c.args.grounds.now) c.separate.new.layers c.fill_into.new.layers c.args.sub.place Rule.Disj (Sub c.args.sub.low c.args.sub.high) h5 at5 (c.in_ok-separate.ensures.second))
    into
    (second_grown c.args.grounds.now (IsCounted c.args.grounds.now) c.void_into.new.layers c.fill_into.new.layers c.args.sub.place Rule.Void (Sub c.args.sub.low c.args.sub.high) h1 at1 (c.in_ok-void_into.ensures.answered)))
    c.fill_into.ensures.answered

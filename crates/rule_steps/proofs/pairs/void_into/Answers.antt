use Rattle.concept_store.specs.Roles.{Numbered}
use Rattle.std.proofs.Common.{ap, ◌∙◌, ◌≡◌, ◌+◌, length, subst, arith, ⊎_elim}
use Rattle.std.proofs.lemmas.Bool.{cases_lt}
use Rattle.fact_table.specs.declared.types.Fact.TheVariants.{Sub, Link}
use Rattle.el_rules.specs.Following.{IsPlacedBelow}
use Rattle.rule_steps.specs.Growing.{facts_in}
use Rattle.rule_steps.proofs.GrowthLaws.{at_grown, has_stays, grown_more, placed_up_to, placed_stays}
use Rattle.rule_steps.proofs.PairLaws.{void_joins, void_second}
use Rattle.rule_steps.proofs.pairs.void_into.Goals as goal

pub join_into-requires-clause-joins : goal.join_into-requires-clause-joins
join_into-requires-clause-joins c =
    void_joins c.args.grounds.now (facts_in c.loop-role.layers) c.args.sub.place c.args.sub.low c.args.sub.high c.loop-role.role
    (at_grown c.args.grounds.now c.args.layers.now c.loop-role.layers c.args.sub.place (Sub c.args.sub.low c.args.sub.high) c.loop-role.invariant.grown c.requires.at) c.if-sub-ne1.false

pub loop-role-preserved : goal.loop-role-preserved
loop-role-preserved c = record {
  grown = grown_more c.args.grounds.now c.args.layers.now c.loop-role.layers c.join_into.new.layers c.loop-role.invariant.grown c.join_into.ensures.grown;
  each = λ role less x below. ⊎_elim
      (λ before. has_stays c.args.grounds.now c.loop-role.layers c.join_into.new.layers (Sub x 1) c.join_into.ensures.grown (c.loop-role.invariant.each role before x below))
      (λ after. let same : role ≡ c.loop-role.role = omega (arith, less, after) in
      c.in_ok-join_into.ensures.met x (subst (λ r. IsPlacedBelow (c.args.sub.place + 1) (facts_in c.loop-role.layers) (Link x r c.args.sub.low)) same
      (placed_stays c.args.grounds.now c.args.layers.now c.loop-role.layers (c.args.sub.place + 1) (Link x role c.args.sub.low) c.loop-role.invariant.grown below)))
      (cases_lt role c.loop-role.role);
}

pub returns-clause-answered : goal.returns-clause-answered
returns-clause-answered c =
    void_second c.args.grounds.now c.args.sub.place c.args.sub.low c.args.sub.high (facts_in c.loop-role.layers)
    (at_grown c.args.grounds.now c.args.layers.now c.loop-role.layers c.args.sub.place (Sub c.args.sub.low c.args.sub.high) c.loop-role.invariant.grown c.requires.at)
    (length c.args.grounds.now.case.store.roles)
    (λ x r below. let was = placed_up_to c.args.grounds.now c.args.layers.now c.loop-role.layers c.args.sub.place (Sub c.args.sub.low c.args.sub.high) (Link x r c.args.sub.low) c.loop-role.invariant.grown c.requires.at below in
    c.requires.links was.0 x r c.args.sub.low was.2)
    (λ same role less x below.
    let end : c.roles-role-end.result ≡ length c.args.grounds.now.case.store.roles = c.roles-role-end.ensures ∙ ap (λ (s : Numbered). length s.roles) c.store.ensures in
    c.loop-role.invariant.each role (omega (arith, less, end, c.loop-role-test.false))
    x (placed_up_to c.args.grounds.now c.args.layers.now c.loop-role.layers c.args.sub.place (Sub c.args.sub.low c.args.sub.high) (Link x role c.args.sub.low) c.loop-role.invariant.grown c.requires.at below))

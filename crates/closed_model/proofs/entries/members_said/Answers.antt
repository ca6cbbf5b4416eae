use Rattle.std.proofs.Common.{◌∙◌, ◌++◌, ap, sym, take}
use Rattle.std.specs.List.{filter_map}
use Rattle.std.specs.Option.{option_to_list}
use Rattle.fact_table.specs.Lists.{facts_of}
use Rattle.closed_model.specs.Inside.Entries.{member_said}
use Rattle.closed_model.proofs.ListLaws.{more_facts}
use Rattle.closed_model.proofs.entries.members_said.Goals as goal

pub loop-place-preserved : goal.loop-place-preserved
loop-place-preserved c =
    let f = member_said c.args.of_node.now c.args.classes in
    c.in_ok-push_some.ensures
    ∙ ap (λ before. before ++ option_to_list c.member_said.result) c.loop-place.invariant
    ∙ ap (λ one. filter_map f (take c.loop-place.place (facts_of c.args.base.now)) ++ option_to_list one) c.member_said.ensures
    ∙ sym (more_facts f c.args.base.now c.loop-place.place c.at.result c.at.ensures)

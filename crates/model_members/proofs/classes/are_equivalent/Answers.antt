use Rattle.std.proofs.Common.{◌≡◌, Some, IsTrue, All, Contains, slice_get, sym}
use Rattle.std.specs.Prelude.{◌↔◌}
use Rattle.std.proofs.lemmas.Option.{slice_get_within, get_or_from_slice_get}
use Rattle.std.proofs.lemmas.Result.{IfOk-weaker}
use Rattle.std.proofs.lemmas.List.Elements.{All-weaker, All-contains_itself}
use Rattle.el_logic.specs.declared.types.Axiom.TheVariants.{Equivalent}
use Rattle.el_logic.specs.Meaning.{Holds}
use Rattle.model_members.specs.Inside.Sets.{HasMembers}
use Rattle.model_members.proofs.ClassLaws.{all_equivalent}
use Rattle.model_members.proofs.PropertyLaws.{through}
use Rattle.model_members.proofs.classes.are_equivalent.Goals as goal

pub returns : goal.returns
returns c =
    let i = c.args.lists.now.ordered in
    let operands = c.args.operands.now in
    let first = c.in-Some.first.now in
    let set = c.in_ok-set.set in
    let at : slice_get operands 0 ≡ Some first = sym c.in-Some.ensures.value in
    let there : Contains operands first = (0, slice_get_within operands 0 first at, get_or_from_slice_get operands 0 first first at) in
    IfOk-weaker c.each_has_members.result (λ yes. IsTrue yes ↔ All (HasMembers i set) operands) (λ yes. IsTrue yes ↔ Holds i (Equivalent operands))
    (λ yes told. through told (
      all_equivalent i set operands,
      (λ holds. All-weaker (Contains operands) (HasMembers i set) (λ d has_d x.
          let same = c.equivalent_classes_have_the_same_members.ensures i operands first d holds there has_d x in (
            (λ has. same.0 ((c.in_ok-set.ensures.same x).0 has)),
            (λ member. (c.in_ok-set.ensures.same x).1 (same.1 member)),
          )) operands (All-contains_itself operands)),
    ))
    c.each_has_members.ensures

use Rattle.std.proofs.Common.{Contains, sym, ap, subst}
use Rattle.std.proofs.lemmas.Option.{slice_get_within, get_or_from_slice_get}
use Rattle.concept_store.specs.Order.{AreInOrder}
use Rattle.concept_store.specs.Roles.{Numbered}
use Rattle.el_rules.specs.Truth.{IsTrueIn}
use Rattle.case_file.specs.Cases.{CaseView}
use Rattle.derivation.proofs.Shown.{member_in}
use Rattle.derivation.proofs.laws.good_derivations_show_incoherence.Goals as goal

pub returns : goal.returns
returns c case part ranks steps is within good =
    let node = good.shows.0 in
    let last = good.shows.2 in
    let ordered = subst (λ (s : Numbered). AreInOrder case.classes case.properties s.nodes) (sym (ap (λ (v : CaseView). v.store) is.built))
    (c.nodes_stand_in_order.ensures case.classes case.properties case.left case.right is.given.left is.given.right) in (
      node,
      good.shows.1,
      λ i model x member.
          let found = c.models_have_readings.ensures case part ranks i is within model.fits model.holds in
          let m = found.0 in
          let held : Contains steps last.1 = (last.0, slice_get_within steps last.0 last.1 last.3, get_or_from_slice_get steps last.0 last.1 last.1 last.3) in
          let truth = subst (IsTrueIn m) last.4 (c.good_steps_are_true.ensures case part ranks m steps last.1 found.2 good.good held) in
          found.1.reading.bottom 1 x found.2.nothing
          (truth x (member_in case i m found.1 found.2.thing ordered.names node good.shows.1 x member)),
    )

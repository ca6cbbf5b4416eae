use Rattle.std.proofs.Common.{◌≡◌, Some, Contains, slice_get, sym}
use Rattle.std.proofs.lemmas.Option.{slice_get_within, get_or_from_slice_get}
use Rattle.std.proofs.lemmas.List.Elements.{All-weaker, All-contains_itself}
use Rattle.el_logic.specs.Meaning.{pairs_of}
use Rattle.model_members.specs.Inside.Pairs.{HasPairs}
use Rattle.model_members.proofs.PropertyLaws.{all_same_pairs, same_by, through}
use Rattle.model_members.proofs.properties.are_equivalent_properties.Goals as goal

pub returns : goal.returns
returns c =
    let i = c.args.lists.now.ordered in
    let operands = c.args.operands.now in
    let first = c.in-Some.first.now in
    let wanted = c.pairs.result.now in
    let at : slice_get operands 0 ≡ Some first = sym c.in-Some.ensures.value in
    let there : Contains operands first = (0, slice_get_within operands 0 first at, get_or_from_slice_get operands 0 first first at) in
    let own = same_by wanted (pairs_of i first) c.pairs.ensures.list in
    through c.each_has_pairs.ensures (
      all_same_pairs i wanted operands,
      (λ holds. All-weaker (Contains operands) (HasPairs i wanted) (λ s has_s x y.
          let same = c.equivalent_properties_have_the_same_pairs.ensures i operands first s holds there has_s x y in (
            (λ led. same.0 ((own (x, y)).0 led)),
            (λ related. (own (x, y)).1 (same.1 related)),
          )) operands (All-contains_itself operands)),
    )

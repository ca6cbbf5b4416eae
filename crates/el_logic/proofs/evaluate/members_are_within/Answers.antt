use Rattle.std.proofs.Common.{◌∙◌, ◌<◌, ℕ, List, All, subst, sym, rules}
use Rattle.el_logic.proofs.Walks.{all_more, all_passed, refuted}
use Rattle.el_logic.proofs.evaluate.members_are_within.Goals as goal

pub returns-then-not-are_elements : goal.returns-then-not-are_elements
returns-then-not-are_elements c =
    let P : List (ℕ) → Type 0 = All (λ x. x < c.args.i.now.size) in (
      (λ no. search rules),
      (λ all. absurd (refuted c.are_elements.result c.if-not-are_elements.true (c.are_elements.ensures.1
          (subst P (sym (c.as_slice.ensures ∙ c.list-item.is))
          (subst (All P) (sym c.as_slice-list-items.ensures) all c.loop-list.list-index c.list-item.result c.loop-list-test.true))))),
    )

pub loop-list-preserved : goal.loop-list-preserved
loop-list-preserved c =
    let P : List (ℕ) → Type 0 = All (λ x. x < c.args.i.now.size) in
    all_more P c.as_slice-list-items.result.now c.loop-list.list-index c.list-item.result c.loop-list-test.true c.loop-list.invariant
    (subst P (c.as_slice.ensures ∙ c.list-item.is) (c.are_elements.ensures.0 c.if-not-are_elements.false))

pub returns : goal.returns
returns c =
    let P : List (ℕ) → Type 0 = All (λ x. x < c.args.i.now.size) in (
      (λ yes. subst (All P) c.as_slice-list-items.ensures
          (all_passed P c.as_slice-list-items.result.now c.loop-list.list-index c.loop-list-test.false c.loop-list.invariant)),
      (λ all. search rules),
    )

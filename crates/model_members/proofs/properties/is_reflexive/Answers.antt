use Rattle.std.proofs.Common.{◌≡◌, ℕ, List, refl, sym, subst}
use Rattle.el_logic.specs.Meaning.{AreRelated}
use Rattle.model_members.specs.Inside.Pairs.{Lead}
use Rattle.model_members.specs.Inside.Sets.{AreListed, AreElements}
use Rattle.model_members.proofs.ClassLaws.{set_listed}
use Rattle.model_members.proofs.PropertyLaws.{pairs_below}
use Rattle.model_members.proofs.properties.is_reflexive.Goals as goal

pub are_whole-requires : goal.are_whole-requires
are_whole-requires c =
    let i = c.args.lists.now.ordered in
    let role = c.args.role in
    let numbers = c.in_ok-numbers.numbers in
    subst (AreElements i.size) (sym c.as_slice.ensures)
    (set_listed i.size (λ x. (y : ℕ) × AreRelated i role x y × (x ≡ y)) numbers
    (subst (λ (ps : List (ℕ × ℕ)). AreListed (λ x. (y : ℕ) × Lead ps x y × (x ≡ y)) numbers) c.pairs.ensures.list c.in_ok-numbers.ensures)
    (λ x (y, related, same). (pairs_below i role x y c.requires.fits related).0)).ordered

pub returns : goal.returns
returns c =
    let i = c.args.lists.now.ordered in
    let role = c.args.role in
    let listed : AreListed (λ x. (y : ℕ) × AreRelated i role x y × (x ≡ y)) c.as_slice.result.now =
    subst (AreListed (λ x. (y : ℕ) × AreRelated i role x y × (x ≡ y))) (sym c.as_slice.ensures)
    (subst (λ (ps : List (ℕ × ℕ)). AreListed (λ x. (y : ℕ) × Lead ps x y × (x ≡ y)) c.in_ok-numbers.numbers) c.pairs.ensures.list c.in_ok-numbers.ensures) in (
      (λ yes x below. let (y, related, same) = (listed.same x).0 (c.are_whole.ensures.0 yes x below) in subst (AreRelated i role x) (sym same) related),
      (λ holds. c.are_whole.ensures.1 (λ x below. (listed.same x).1 (x, holds x below, refl))),
    )

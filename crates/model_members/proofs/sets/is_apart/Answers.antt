use Rattle.std.proofs.Common.{◌∙◌, ◌<◌, ℕ, IsTrue, ap, sym, subst}
use Rattle.std.specs.Prelude.{◌↔◌}
use Rattle.std.proofs.lemmas.List.Elements.{All-contains}
use Rattle.model_members.specs.declared.sets.Members.TheVariants.{Whole, Listed}
use Rattle.model_members.specs.Inside.Sets.{Has, IsSet}
use Rattle.model_members.proofs.SetLaws.{of_sets, empty_of, none_of}
use Rattle.model_members.proofs.sets.is_apart.Goals as goal

pub returns-in-Whole-other : goal.returns-in-Whole-other
returns-in-Whole-other c =
    of_sets (λ s o. IsTrue c.is_empty-in-Whole-other.result ↔ ((x : ℕ) → Has c.args.size s x → ¬ (Has c.args.size o x))) c.args.set.now c.args.other.now
    (Listed c.in-Listed.numbers) Whole c.in-Listed.is c.in-Whole-other.is (
      (λ yes x there. absurd (none_of c.in-Listed.numbers x (c.is_empty-in-Whole-other.ensures.0 yes) there)),
      (λ apart. c.is_empty-in-Whole-other.ensures.1 (empty_of c.in-Listed.numbers (λ x there. apart x there (All-contains (λ y. y < c.args.size) c.in-Listed.numbers x (subst (IsSet c.args.size) c.in-Listed.is c.requires.one).1 there)))),
    )

pub returns-in-Listed-other : goal.returns-in-Listed-other
returns-in-Listed-other c =
    of_sets (λ s o. IsTrue c.are_apart.result ↔ ((x : ℕ) → Has c.args.size s x → ¬ (Has c.args.size o x))) c.args.set.now c.args.other.now
    (Listed c.as_slice.result.now) (Listed c.as_slice-in-Listed-other.result.now)
    (c.in-Listed.is ∙ ap Listed (sym c.as_slice.ensures)) (c.in-Listed-other.is ∙ ap Listed (sym c.as_slice-in-Listed-other.ensures)) c.are_apart.ensures

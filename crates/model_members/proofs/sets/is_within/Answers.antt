use Rattle.std.proofs.Common.{◌∙◌, ℕ, IsTrue, ap, sym}
use Rattle.std.specs.Prelude.{◌↔◌}
use Rattle.model_members.specs.declared.sets.Members.TheVariants.{Whole, Listed}
use Rattle.model_members.specs.Inside.Sets.{Has}
use Rattle.model_members.proofs.SetLaws.{of_sets}
use Rattle.model_members.proofs.sets.is_within.Goals as goal

pub returns-in-Whole-set : goal.returns-in-Whole-set
returns-in-Whole-set c =
    of_sets (λ s o. IsTrue c.are_whole.result ↔ ((x : ℕ) → Has c.args.size s x → Has c.args.size o x)) c.args.set.now c.args.other.now
    Whole (Listed c.as_slice.result.now) c.in-Whole-set.is (c.in-Listed.is ∙ ap Listed (sym c.as_slice.ensures)) c.are_whole.ensures

pub returns-in-Listed-set : goal.returns-in-Listed-set
returns-in-Listed-set c =
    of_sets (λ s o. IsTrue c.are_among.result ↔ ((x : ℕ) → Has c.args.size s x → Has c.args.size o x)) c.args.set.now c.args.other.now
    (Listed c.as_slice-in-Listed-set.result.now) (Listed c.as_slice-in-Listed-set-2.result.now)
    (c.in-Listed-set.is ∙ ap Listed (sym c.as_slice-in-Listed-set.ensures)) (c.in-Listed.is ∙ ap Listed (sym c.as_slice-in-Listed-set-2.ensures)) c.are_among.ensures

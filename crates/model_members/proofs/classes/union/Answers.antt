use Rattle.std.proofs.Common.{◌∙◌, ◌⊎◌, Contains, ap, sym, subst, ⊎_elim}
use Rattle.model_members.specs.declared.sets.Members.TheVariants.{Listed}
use Rattle.model_members.specs.Inside.Sets.{Has, IsSet, IsSetOf}
use Rattle.model_members.proofs.SetLaws.{of_sets}
use Rattle.model_members.proofs.ClassLaws.{set_listed, has_below}
use Rattle.model_members.proofs.classes.union.Goals as goal

pub returns : goal.returns
returns c size one two =
    let numbers = c.as_slice.result.now in
    let others = c.as_slice-2.result.now in
    let is_one = c.in-Listed.is ∙ ap Listed (sym c.as_slice.ensures) in
    let is_two = c.in-Listed-other.is ∙ ap Listed (sym c.as_slice-2.ensures) in
    of_sets (λ s o. IsSetOf size (λ x. Has size s x ⊎ Has size o x) (Listed c.in_ok-all.all)) c.args.set c.args.other (Listed numbers) (Listed others) is_one is_two
    (set_listed size (λ x. Contains numbers x ⊎ Contains others x) c.in_ok-all.all c.in_ok-all.ensures
    (λ x there. ⊎_elim (has_below size (Listed numbers) x (subst (IsSet size) is_one one)) (has_below size (Listed others) x (subst (IsSet size) is_two two)) there))

use Rattle.std.proofs.Common.{ℕ, List, Contains, IsTrue, subst, sym}
use Rattle.std.specs.Prelude.{◌↔◌}
use Rattle.std.proofs.lemmas.Result.{IfOk-weaker}
use Rattle.el_logic.specs.declared.types.Axiom.TheVariants.{Domain}
use Rattle.el_logic.specs.Meaning.{IsMember, AreRelated, Holds}
use Rattle.model_members.specs.Inside.Pairs.{Lead}
use Rattle.model_members.specs.Inside.Sets.{AreElements, AreListed}
use Rattle.model_members.proofs.AmongLaws.{begin_elements, domain_by}
use Rattle.model_members.proofs.PropertyLaws.{through}
use Rattle.model_members.proofs.classes.has_domain.Goals as goal

pub are_members-requires-clause-elements : goal.are_members-requires-clause-elements
are_members-requires-clause-elements c =
    let i = c.args.lists.now.ordered in
    subst (AreElements i.size) (sym c.as_slice.ensures) (begin_elements i c.args.role c.in_ok-numbers.numbers c.requires.fits
    (subst (λ (ps : List (ℕ × ℕ)). AreListed (λ x. (y : ℕ) × Lead ps x y) c.in_ok-numbers.numbers) c.pairs.ensures.list c.in_ok-numbers.ensures))

pub returns : goal.returns
returns c =
    let i = c.args.lists.now.ordered in
    let numbers = c.as_slice.result.now in
    let class = c.args.class.now in
    let listed : AreListed (λ x. (y : ℕ) × AreRelated i c.args.role x y) numbers =
    subst (AreListed (λ x. (y : ℕ) × AreRelated i c.args.role x y)) (sym c.as_slice.ensures)
    (subst (λ (ps : List (ℕ × ℕ)). AreListed (λ x. (y : ℕ) × Lead ps x y) c.in_ok-numbers.numbers) c.pairs.ensures.list c.in_ok-numbers.ensures) in
    IfOk-weaker c.are_members.result (λ yes. IsTrue yes ↔ ((x : ℕ) → Contains numbers x → IsMember i x class)) (λ yes. IsTrue yes ↔ Holds i (Domain c.args.role class))
    (λ yes told. through told (domain_by i c.args.role class numbers listed)) c.are_members.ensures

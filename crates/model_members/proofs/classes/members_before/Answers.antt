use Rattle.std.proofs.Common.{◌∙◌, ℕ, List, ap, sym, subst}
use Rattle.el_logic.specs.Meaning.{AreRelated}
use Rattle.model_members.specs.declared.sets.Members.TheVariants.{Listed}
use Rattle.model_members.specs.Inside.Pairs.{Lead}
use Rattle.model_members.specs.Inside.Sets.{Has, AreListed, IsSetOf}
use Rattle.model_members.proofs.AmongLaws.{before_whole, before_listed}
use Rattle.model_members.proofs.classes.members_before.Goals as goal

pub returns-in_ok-numbers-in-Whole : goal.returns-in_ok-numbers-in-Whole
returns-in_ok-numbers-in-Whole c =
    let i = c.args.lists.now.ordered in
    let role = c.args.role in
    let numbers = c.in_ok-numbers-in-Whole.numbers in
    subst (λ ends. IsSetOf i.size (λ x. (y : ℕ) × AreRelated i role x y × Has i.size ends y) (Listed numbers)) (sym c.in-Whole.is)
    (before_whole i role numbers c.requires.lists.fits
    (subst (λ (ps : List (ℕ × ℕ)). AreListed (λ x. (y : ℕ) × Lead ps x y) numbers) c.pairs.ensures.list c.in_ok-numbers-in-Whole.ensures))

pub returns-in_ok-numbers-in-Listed : goal.returns-in_ok-numbers-in-Listed
returns-in_ok-numbers-in-Listed c =
    let i = c.args.lists.now.ordered in
    let role = c.args.role in
    let ends = c.as_slice.result.now in
    let numbers = c.in_ok-numbers-in-Listed.numbers in
    subst (λ ends. IsSetOf i.size (λ x. (y : ℕ) × AreRelated i role x y × Has i.size ends y) (Listed numbers)) (ap Listed c.as_slice.ensures ∙ sym c.in-Listed.is)
    (before_listed i role c.turned.result.now ends numbers c.requires.lists.fits c.turned.ensures.list c.in_ok-numbers-in-Listed.ensures)

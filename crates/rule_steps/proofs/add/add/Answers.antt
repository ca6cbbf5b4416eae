use Rattle.std.proofs.Common.{◌∙◌, ◌++◌, [], ◌∷◌, ap, refl}
use Rattle.rule_steps.proofs.GrowthLaws.{grown_push}
use Rattle.rule_steps.proofs.add.add.Goals as goal

pub returns-clause-grown : goal.returns-clause-grown
returns-clause-grown c =
    grown_push c.args.grounds.now c.args.layers.now c.insert.new.self c.args.item (c.insert.ensures.base ∙ c.reserve.ensures.base)
    (c.insert.ensures.top ∙ ap (λ xs. xs ++ c.args.item ∷ []) c.reserve.ensures.top) c.requires (c.if-not-is_over_roles.ensures refl)

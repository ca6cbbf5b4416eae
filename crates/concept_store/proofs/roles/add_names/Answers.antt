use Rattle.std.proofs.Common.{◌∙◌, ◌≡◌, ◌+◌, ◌++◌, [], ◌∷◌, List, ap, sym, length, arith}
use Rattle.std.proofs.lemmas.List.FromFn.{map-range_with_len_more, length-map-range_with_len}
use Rattle.concept_store.specs.declared.types.RoleNode.{RoleNode}
use Rattle.concept_store.specs.declared.types.RoleNode.TheVariants.{Named}
use Rattle.concept_store.proofs.roles.add_names.Goals as goal

pub loop-name-preserved : goal.loop-name-preserved
loop-name-preserved c =
    let start : 0 + c.loop-name.name ≡ c.loop-name.name = omega arith in
    c.in_ok-push.ensures.items ∙ ap (λ (xs : List RoleNode). xs ++ Named c.loop-name.name ∷ []) c.loop-name.invariant ∙ sym (map-range_with_len_more Named 0 c.loop-name.name c.loop-name.name start)

pub returns-clause-room : goal.returns-clause-room
returns-clause-room c = omega (arith, ap length c.loop-name.invariant, length-map-range_with_len Named 0 c.loop-name.name)

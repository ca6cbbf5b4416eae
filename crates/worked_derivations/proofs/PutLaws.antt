-- A list with one more fact.
use Rattle.std.proofs.Common.{◌≡◌, ◌∙◌, ◌+◌, ◌<◌, ◌≤◌, List, [], ◌∷◌, ◌++◌, ℕ, Some, length, slice_get, sym, ap, subst, ⊎_elim, arith, length-append}
use Rattle.std.proofs.Math.Nat.{eq-or-lt_of_le}
use Rattle.std.proofs.lemmas.List.{get_or_append_left, get_or_push}
use Rattle.std.proofs.lemmas.Option.{slice_get-get_or, slice_get_within, get_or_from_slice_get}
use Rattle.fact_table.specs.declared.types.Proved.{Proved}
use Rattle.derivation.specs.Traces.{IsPremiseOf, EachNamesEarlier}

-- each reason still names earlier places
pub put_earlier : (items : List Proved) (item : Proved) → EachNamesEarlier items → ((place : ℕ) → IsPremiseOf item.reason place → place < length items)
    → EachNamesEarlier (items ++ item ∷ [])
put_earlier items item before ready k other at place names =
    let within = slice_get_within (items ++ item ∷ []) k other at in
    let value = get_or_from_slice_get (items ++ item ∷ []) k other item at in
    let close : k ≤ length items = omega (arith, length-append items (item ∷ []), within) in
    ⊎_elim
    (λ same. let one : item ≡ other = sym (get_or_push items item item k (sym same)) ∙ value in
    subst (λ n. place < n) (sym same) (ready place (subst (λ i. IsPremiseOf i.reason place) (sym one) names)))
    (λ less. before k other (slice_get-get_or items k item less ∙ ap Some (sym (get_or_append_left items (item ∷ []) item k less) ∙ value)) place names)
    (eq-or-lt_of_le close)

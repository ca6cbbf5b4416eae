-- Elements of a list at their places, and lists of facts that have grown.
use Rattle.std.proofs.Common.{◌≡◌, ◌∙◌, ℕ, zero, suc, ◌<◌, List, [], ◌∷◌, ◌++◌, length, Contains, Some, ap, sym, subst, arith, append_assoc}
use Rattle.std.specs.Prelude.{slice_get}
use Rattle.std.proofs.lemmas.List.{map-append}
use Rattle.std.proofs.lemmas.Option.{slice_get_within, slice_get-get_or, get_or_from_slice_get}
use Rattle.fact_table.specs.declared.types.Fact.{Fact}
use Rattle.fact_table.specs.declared.types.Proved.{Proved}
use Rattle.fact_table.specs.Lists.{facts_of}
use Rattle.fact_layers.specs.Tops.{Topped, whole}
use Rattle.rule_steps.specs.Counted.{GroundsView}
use Rattle.rule_steps.specs.Growing.{facts_in, HasGrown}

module _ {T : Type 0} where
  -- what is at an old place was there
  pub was_at : (xs more : List T) (k : ℕ) (x : T) → k < length xs → slice_get (xs ++ more) k ≡ Some x → slice_get xs k ≡ Some x
  was_at [] more k x within at = absurd (omega arith)
  was_at (y ∷ xs) more zero x within at = at
  was_at (y ∷ xs) more (suc k) x within at = was_at xs more k x (omega arith) at

  -- an element of a list has a place
  pub place_of : (xs : List T) (x : T) → Contains xs x → (k : ℕ) × (slice_get xs k ≡ Some x)
  place_of xs x held = (held.0, subst (λ y. slice_get xs held.0 ≡ Some y) held.2 (slice_get-get_or xs held.0 x held.1))

  -- what is at a place is an element
  pub held_at : (xs : List T) (k : ℕ) (x : T) → slice_get xs k ≡ Some x → Contains xs x
  held_at xs k x at = (k, slice_get_within xs k x at, get_or_from_slice_get xs k x x at)

-- the whole list after it grew
pub grown_whole : (grounds : GroundsView) (old new : Topped) → HasGrown grounds old new → (more : List Proved) × (whole new ≡ whole old ++ more)
grown_whole grounds old new grown =
    (grown.top.0, ap (λ xs. xs ++ new.top) grown.base ∙ ap (λ xs. old.base ++ xs) grown.top.1 ∙ sym (append_assoc old.base old.top grown.top.0))

-- and the facts
pub grown_facts : (grounds : GroundsView) (old new : Topped) → HasGrown grounds old new → (more : List Fact) × (facts_in new ≡ facts_in old ++ more)
grown_facts grounds old new grown =
    let longer = grown_whole grounds old new grown in
    (facts_of longer.0, ap facts_of longer.1 ∙ map-append (λ (item : Proved). item.fact) (whole old) longer.0)

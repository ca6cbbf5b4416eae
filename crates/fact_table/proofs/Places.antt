-- Places that have a key.
use Rattle.std.proofs.Common.{◌≡◌, ◌∙◌, ℕ, ◌+◌, List, Some, sym, ap, arith, inl, inr}
use Rattle.std.specs.Prelude.{slice_get}
use Rattle.std.specs.Option.{option_map}
use Rattle.std.proofs.lemmas.Bool.{cases_order}
use Rattle.std.proofs.lemmas.Option.{slice_get-map, same_Some}
use Rattle.fact_table.specs.declared.types.Proved.{Proved}
use Rattle.fact_table.specs.Lists.{facts_of}
use Rattle.fact_table.specs.Places.{IsClear}

-- the fact of an item is in the list of facts
pub fact_at : (items : List Proved) (p : ℕ) (item : Proved) → slice_get items p ≡ Some item → slice_get (facts_of items) p ≡ Some item.fact
fact_at items p item at = slice_get-map (λ (x : Proved). x.fact) items p ∙ ap (option_map (λ (x : Proved). x.fact)) at

-- no place is clear of nothing
pub clear_none : {X K : Type 0} (key : X → K) (xs : List X) (k : K) (n : ℕ) → IsClear key xs k n n
clear_none key xs k n p above below has = omega (arith, above, below)

-- a place without the key is clear, too
pub clear_more : {X K : Type 0} (key : X → K) (xs : List X) (k : K) (start n : ℕ) (x : X) → IsClear key xs k start n → slice_get xs n ≡ Some x → (key x ≡ k → ⊥) → IsClear key xs k start (n + 1)
clear_more key xs k start n x clear at other p above below has = elim (cases_order p n) [
  | inl same ↦ other (ap key (same_Some x has.0 (sym at ∙ ap (slice_get xs) (sym same) ∙ has.1)) ∙ has.2)
  | inr (inl less) ↦ clear p above less has
  | inr (inr more) ↦ omega (arith, more, below)
]

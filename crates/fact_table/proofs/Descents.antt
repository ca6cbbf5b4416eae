-- Walks from the newest place of a chain to its oldest.
use Rattle.std.proofs.Common.{◌≡◌, ◌∙◌, ℕ, ◌+◌, ◌<◌, ◌≤◌, List, length, get_or, Some, sym, ap, arith, inl, inr}
use Rattle.std.specs.Prelude.{slice_get}
use Rattle.std.proofs.lemmas.Bool.{cases_order, cases_eq}
use Rattle.std.proofs.lemmas.Option.{slice_get_within, same_Some}
use Rattle.fact_table.specs.Places.{HasKeyAt, IsClear}
use Rattle.fact_table.specs.Inside.Chains.{newest, AreChainedBy, IsWalked}
use Rattle.fact_table.proofs.Places.{clear_none}
use Rattle.fact_table.proofs.Newest.{newest_within, newest_here, newest_clear}

-- a walk may begin at the head of the chain
pub walk_from_head : {X K : Type 0} (head : K → ℕ) (key : X → K) (xs : List X) (links heads : List ℕ) (k : K) (below : ℕ) → AreChainedBy (λ x. head (key x)) xs links heads → IsWalked head key xs k below (get_or heads (head k) 0)
walk_from_head head key xs links heads k below h = record {
  from = length xs;
  next = h.newest_of (head k);
  within = omega arith;
  clear = λ p above under has. omega (arith, above, slice_get_within xs p has.0 has.1);
}

-- or at the place that bounds it, if that is in the chain
pub walk_from_place : {X K : Type 0} (head : K → ℕ) (key : X → K) (xs : List X) (links heads : List ℕ) (k : K) (below : ℕ) (x : X) → AreChainedBy (λ y. head (key y)) xs links heads → slice_get xs below ≡ Some x → head (key x) ≡ head k → IsWalked head key xs k below (get_or links below 0)
walk_from_place head key xs links heads k below x h at same =
    let low : below < length xs = slice_get_within xs below x at in
    record {
      from = below;
      next = h.earlier below x at ∙ ap (λ (j : ℕ). newest (λ y. head (key y)) xs j below) same;
      within = omega (arith, low);
      clear = clear_none key xs k below;
    }

-- the place that a walk has come to
pub walk_place : {X K : Type 0} (head : K → ℕ) (key : X → K) (xs : List X) (k : K) (below v p : ℕ) → IsWalked head key xs k below v → v ≡ p + 1 → HasKeyAt (λ x. head (key x)) xs (head k) p
walk_place head key xs k below v p h e = newest_here (λ x. head (key x)) xs (head k) h.from p (sym h.next ∙ e)

-- and the places between it and the bound
pub walk_clear : {X K : Type 0} (head : K → ℕ) (key : X → K) (xs : List X) (k : K) (below v : ℕ) → IsWalked head key xs k below v → IsClear key xs k v below
walk_clear head key xs k below v h q above under has = elim (cases_order q h.from) [
  | inl same ↦ h.clear q (omega (arith, same)) under has
  | inr (inl less) ↦ newest_clear (λ x. head (key x)) xs (head k) h.from q (omega (arith, above, h.next)) less (has.0, has.1, ap head has.2)
  | inr (inr more) ↦ h.clear q (omega (arith, more)) under has
]

-- a walk goes on along the link of a place that is not wanted
pub walk_more : {X K : Type 0} (head : K → ℕ) (key : X → K) (xs : List X) (links heads : List ℕ) (k : K) (below v p : ℕ) (x : X) → AreChainedBy (λ y. head (key y)) xs links heads → IsWalked head key xs k below v → v ≡ p + 1 → slice_get xs p ≡ Some x → (p < below → key x ≡ k → ⊥)
    → IsWalked head key xs k below (get_or links p 0)
walk_more head key xs links heads k below v p x chained h e at other =
    let low : p < length xs = slice_get_within xs p x at in
    let has = walk_place head key xs k below v p h e in
    let alike : head (key x) ≡ head k = ap (λ (y : _). head (key y)) (same_Some x has.0 (sym at ∙ has.1)) ∙ has.2 in
    record {
      from = p;
      next = chained.earlier p x at ∙ ap (λ (j : ℕ). newest (λ y. head (key y)) xs j p) alike;
      within = omega (arith, low);
      clear = λ q above under there. elim (cases_eq q p) [
        | inl same ↦ other (omega (arith, same, under)) (ap key (same_Some x there.0 (sym at ∙ ap (slice_get xs) (sym same) ∙ there.1)) ∙ there.2)
        | inr apart ↦ walk_clear head key xs k below v h q (omega (arith, e, above, apart)) under there
      ];
    }

-- each link leads to a place further down
pub walk_falls : {X K : Type 0} (head : K → ℕ) (key : X → K) (xs : List X) (links heads : List ℕ) (p : ℕ) (x : X) → AreChainedBy (λ y. head (key y)) xs links heads → slice_get xs p ≡ Some x → get_or links p 0 ≤ p
walk_falls head key xs links heads p x chained at = omega (arith, chained.earlier p x at, newest_within (λ y. head (key y)) xs (head (key x)) p)

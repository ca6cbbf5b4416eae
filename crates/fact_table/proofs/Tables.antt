-- A table with one more fact, with other room, and cut.
use Rattle.std.proofs.Common.{◌≡◌, ◌∙◌, ℕ, zero, suc, ◌+◌, ◌-◌, ◌<◌, ◌≤◌, ◌^◌, List, [], ◌∷◌, ◌++◌, length, take, Some, sym, ap, subst, arith, inl, inr}
use Rattle.std.specs.Prelude.{slice_get}
use Rattle.std.proofs.lemmas.List.{length-append, length-map, map-append, length-take-le}
use Rattle.std.specs.List.{take-map}
use Rattle.std.proofs.lemmas.Option.{slice_get_within}
use Rattle.fact_table.specs.declared.types.Fact.{Fact}
use Rattle.fact_table.specs.declared.types.Reason.{Reason}
use Rattle.fact_table.specs.declared.cells.Cell.{Cell}
use Rattle.fact_table.specs.declared.cells.ChainHeads.{ChainHeads}
use Rattle.fact_table.specs.Lists.{IsAbsent, AreDistinctFacts}
use Rattle.fact_table.specs.Inside.Cells.{AreCellsChained, HasHeads, HasAsMany, IsPut, IsTable, cell_facts}
use Rattle.fact_table.proofs.Newest.{pushed_cases}
use Rattle.fact_table.proofs.CellChains.{all_more, put_many, heads_kept}

-- one more fact that is not there
pub distinct_more : (facts : List Fact) (fact : Fact) → AreDistinctFacts facts → IsAbsent facts fact → AreDistinctFacts (facts ++ fact ∷ [])
distinct_more facts fact distinct absent p q x here there = elim (pushed_cases facts fact x p here) [
  | inl a ↦ elim (pushed_cases facts fact x q there) [
    | inl b ↦ distinct p q x a.1 b.1
    | inr b ↦ absurd (absent p (a.1 ∙ ap Some (sym b.1)))
  ]
  | inr a ↦ elim (pushed_cases facts fact x q there) [
    | inl b ↦ absurd (absent q (b.1 ∙ ap Some (sym a.1)))
    | inr b ↦ a.0 ∙ sym b.0
  ]
]

-- a table with one more fact
pub table_more : (cells : List Cell) (reasons : List Reason) (before after : ChainHeads) (spare cells_room reasons_room : ℕ) (fact : Fact) (cell : Cell) (reason : Reason)
    → IsTable cells reasons before spare cells_room reasons_room → IsAbsent (cell_facts cells) fact → 0 < spare → IsPut fact (length cells) cell before after
    → IsTable (cells ++ cell ∷ []) (reasons ++ reason ∷ []) after (spare - 1) cells_room reasons_room
table_more cells reasons before after spare cells_room reasons_room fact cell reason h absent some put =
    let heads : HasHeads before = h.headed (omega (arith, some)) in
    let D : List Fact → Type 0 = λ facts. AreDistinctFacts facts in
    let facts_are : cell_facts cells ++ fact ∷ [] ≡ cell_facts (cells ++ cell ∷ []) = ap (λ (g : Fact). cell_facts cells ++ g ∷ []) (sym put.fact_is) ∙ sym (map-append (λ (x : Cell). x.fact) cells (cell ∷ [])) in
    let long = length-append cells (cell ∷ []) in
    record {
      chained = all_more cells before after fact cell h.chained heads put;
      distinct = subst D facts_are (distinct_more (cell_facts cells) fact h.distinct absent);
      each = omega (arith, long, length-append reasons (reason ∷ []), h.each);
      cells_fit = omega (arith, long, h.cells_fit, some);
      reasons_fit = omega (arith, long, h.reasons_fit, some);
      small = omega (arith, long, h.small, some);
      headed = λ _. heads_kept before after (put_many fact (length cells) cell before after put) heads;
    }

-- the same facts, with other room and heads
pub table_with : (cells others : List Cell) (reasons : List Reason) (before after : ChainHeads) (spare room old_cells_room old_reasons_room cells_room reasons_room : ℕ)
    → IsTable cells reasons before spare old_cells_room old_reasons_room → AreCellsChained others after → cell_facts others ≡ cell_facts cells
    → length cells + room ≤ cells_room → length cells + room ≤ reasons_room → length cells + room < 2 ^ 32 → (0 < length cells + room → HasHeads after)
    → IsTable others reasons after room cells_room reasons_room
table_with cells others reasons before after spare room old_cells_room old_reasons_room cells_room reasons_room h chained same cells_fit reasons_fit small headed =
    let long : length others ≡ length cells = sym (length-map others (λ (x : Cell). x.fact)) ∙ ap length same ∙ length-map cells (λ (x : Cell). x.fact) in
    let D : List Fact → Type 0 = λ facts. AreDistinctFacts facts in
    record {
      chained = chained;
      distinct = subst D (sym same) h.distinct;
      each = h.each ∙ sym long;
      cells_fit = omega (arith, long, cells_fit);
      reasons_fit = omega (arith, long, reasons_fit);
      small = omega (arith, long, small);
      headed = λ some. headed (omega (arith, long, some));
    }

-- what the first elements of a list have
taken_at : {X : Type 0} (n : ℕ) (xs : List X) (p : ℕ) (x : X) → slice_get (take n xs) p ≡ Some x → slice_get xs p ≡ Some x
taken_at zero xs p x e = absurd (omega (arith, slice_get_within [] p x e))
taken_at (suc n) [] p x e = e
taken_at (suc n) (y ∷ xs) zero x e = e
taken_at (suc n) (y ∷ xs) (suc p) x e = taken_at n xs p x e

-- the first facts, with the room of the others
pub table_cut : (old cells : List Cell) (old_reasons reasons : List Reason) (before after : ChainHeads) (spare gone cells_room reasons_room : ℕ)
    → IsTable old old_reasons before spare cells_room reasons_room → AreCellsChained cells after → HasAsMany before after
    → cells ≡ take (length old - gone) old → reasons ≡ take (length old - gone) old_reasons → gone ≤ length old
    → IsTable cells reasons after (spare + gone) cells_room reasons_room
table_cut old cells old_reasons reasons before after spare gone cells_room reasons_room h chained many are reasons_are low =
    let facts_are : cell_facts cells ≡ take (length old - gone) (cell_facts old) = ap cell_facts are ∙ sym (take-map (λ (x : Cell). x.fact) (length old - gone) old) in
    let kept : (p : ℕ) (f : Fact) → slice_get (cell_facts cells) p ≡ Some f → slice_get (cell_facts old) p ≡ Some f = λ p f e. taken_at (length old - gone) (cell_facts old) p f (ap (λ (xs : List Fact). slice_get xs p) (sym facts_are) ∙ e) in
    let long : length cells ≡ length old - gone = ap length are ∙ length-take-le (length old - gone) old (omega arith) in
    let reasons_long : length reasons ≡ length old - gone = ap length reasons_are ∙ length-take-le (length old - gone) old_reasons (omega (arith, h.each)) in
    record {
      chained = chained;
      distinct = λ p q f here there. h.distinct p q f (kept p f here) (kept q f there);
      each = reasons_long ∙ sym long;
      cells_fit = omega (arith, long, low, h.cells_fit);
      reasons_fit = omega (arith, long, low, h.reasons_fit);
      small = omega (arith, long, low, h.small);
      headed = λ some. heads_kept before after many (h.headed (omega (arith, long, low, some)));
    }

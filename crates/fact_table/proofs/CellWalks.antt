-- Walks over cells.
use Rattle.std.proofs.Common.{◌≡◌, ◌∙◌, ℕ, ◌-◌, ◌<◌, ◌≤◌, List, length, get_or, map, Some, sym, subst, arith, refl}
use Rattle.std.specs.Prelude.{slice_get}
use Rattle.std.proofs.lemmas.List.{length-map}
use Rattle.std.proofs.lemmas.Option.{slice_get_within}
use Rattle.fact_table.specs.declared.types.Fact.{Fact}
use Rattle.fact_table.specs.declared.cells.Cell.{Cell}
use Rattle.fact_table.specs.Lists.{IsAbsent}
use Rattle.fact_table.specs.Places.{IsClear, IsLastBelow}
use Rattle.fact_table.specs.Inside.Chains.{AreChainedBy, IsWalked, newest}
use Rattle.fact_table.specs.Inside.Cells.{cell_facts}
use Rattle.fact_table.proofs.Newest.{newest_within}
use Rattle.fact_table.proofs.Descents.{walk_from_head, walk_from_place, walk_clear, walk_more, walk_falls}
use Rattle.fact_table.proofs.CellChains.{cell_fact, cell_link}

-- a walk goes on along the link of a cell that is not wanted, further down
pub cell_step : {K : Type 0} (head : K → ℕ) (key : Fact → K) (link : Cell → ℕ) (cells : List Cell) (heads : List ℕ) (k : K) (below v w : ℕ) (d : Cell) → AreChainedBy (λ f. head (key f)) (cell_facts cells) (map link cells) heads → IsWalked head key (cell_facts cells) k below v
    → 0 < v → v ≤ length cells → (v - 1 < below → key (get_or cells (v - 1) d).fact ≡ k → ⊥) → w ≡ link (get_or cells (v - 1) d) → (IsWalked head key (cell_facts cells) k below w) × (w < v)
cell_step head key link cells heads k below v w d chained walked some within other is =
    let low : v - 1 < length cells = omega (arith, some, within) in
    let at = cell_fact cells (v - 1) d low in
    let link_is : get_or (map link cells) (v - 1) 0 ≡ w = cell_link link cells (v - 1) d low ∙ sym is in
    let P : ℕ → Type 0 = λ n. IsWalked head key (cell_facts cells) k below n in (
      subst P link_is (walk_more head key (cell_facts cells) (map link cells) heads k below v (v - 1) (get_or cells (v - 1) d).fact chained walked (omega (arith, some)) at other),
      omega (arith, sym link_is, some, walk_falls head key (cell_facts cells) (map link cells) heads (v - 1) (get_or cells (v - 1) d).fact chained at),
    )

-- a walk begins at the head
pub cell_begin : {K : Type 0} (head : K → ℕ) (key : Fact → K) (link : Cell → ℕ) (cells : List Cell) (heads : List ℕ) (k : K) (below at : ℕ) → AreChainedBy (λ f. head (key f)) (cell_facts cells) (map link cells) heads → at ≡ head k → (IsWalked head key (cell_facts cells) k below (get_or heads at 0)) × (get_or heads at 0 ≤ length cells)
cell_begin head key link cells heads k below at chained is =
    let P : ℕ → Type 0 = λ n. IsWalked head key (cell_facts cells) k below (get_or heads n 0) in
    let value : get_or heads at 0 ≡ newest (λ f. head (key f)) (cell_facts cells) at (length (cell_facts cells)) = chained.newest_of at in (
      subst P (sym is) (walk_from_head head key (cell_facts cells) (map link cells) heads k below chained),
      omega (arith, value, newest_within (λ f. head (key f)) (cell_facts cells) at (length (cell_facts cells)), length-map cells (λ (x : Cell). x.fact)),
    )

-- or at the cell that bounds it
pub cell_begin_at : {K : Type 0} (head : K → ℕ) (key : Fact → K) (link : Cell → ℕ) (cells : List Cell) (heads : List ℕ) (k : K) (below v : ℕ) (d : Cell) → AreChainedBy (λ f. head (key f)) (cell_facts cells) (map link cells) heads → below < length cells → head (key (get_or cells below d).fact) ≡ head k → v ≡ link (get_or cells below d)
    → (IsWalked head key (cell_facts cells) k below v) × (v ≤ length cells)
cell_begin_at head key link cells heads k below v d chained low same is =
    let at = cell_fact cells below d low in
    let link_is : get_or (map link cells) below 0 ≡ v = cell_link link cells below d low ∙ sym is in
    let P : ℕ → Type 0 = λ n. IsWalked head key (cell_facts cells) k below n in (
      subst P link_is (walk_from_place head key (cell_facts cells) (map link cells) heads k below (get_or cells below d).fact chained at same),
      omega (arith, sym link_is, low, walk_falls head key (cell_facts cells) (map link cells) heads below (get_or cells below d).fact chained at),
    )

-- without heads there is nothing
pub headless : {X : Type 0} (key : X → ℕ) (xs : List X) (links heads : List ℕ) (p : ℕ) (x : X) → AreChainedBy key xs links heads → length heads ≡ 0 → slice_get xs p ≡ Some x → ⊥
headless key xs links heads p x chained none at = omega (arith, chained.covered p x at, none)

-- a walk to the end of its chain has passed all places below the bound
pub walked_out : {K : Type 0} (head : K → ℕ) (key : Fact → K) (cells : List Cell) (k : K) (below v : ℕ) → IsWalked head key (cell_facts cells) k below v → v ≤ 0 → IsClear key (cell_facts cells) k 0 below
walked_out head key cells k below v walked none p above under has = walk_clear head key (cell_facts cells) k below v walked p (omega (arith, none, above)) under has

-- a walk over all places has not met the fact
pub walked_past : (head : Fact → ℕ) (cells : List Cell) (fact : Fact) (v : ℕ) → IsWalked head (λ (f : Fact). f) (cell_facts cells) fact (length cells) v → v ≤ 0 → IsAbsent (cell_facts cells) fact
walked_past head cells fact v walked none p at = walked_out head (λ (f : Fact). f) cells fact (length cells) v walked none p (omega arith) (omega (arith, slice_get_within (cell_facts cells) p fact at, length-map cells (λ (x : Cell). x.fact))) (fact, at, refl)

-- a walk ends at the last place that has the key
pub walked_to : {K : Type 0} (head : K → ℕ) (key : Fact → K) (cells : List Cell) (k : K) (below v : ℕ) (d : Cell) → IsWalked head key (cell_facts cells) k below v → 0 < v → v ≤ length cells → v - 1 < below → key (get_or cells (v - 1) d).fact ≡ k → IsLastBelow key (cell_facts cells) k below (Some (v - 1))
walked_to head key cells k below v d walked some within under is = (
  under,
  ((get_or cells (v - 1) d).fact, cell_fact cells (v - 1) d (omega (arith, some, within)), is),
  λ q above low has. walk_clear head key (cell_facts cells) k below v walked q (omega (arith, above, some)) low has,
)

-- The chains of cells, grown by a cell and cut by one.
use Rattle.std.proofs.Common.{◌≡◌, ◌∙◌, ℕ, ◌+◌, ◌-◌, ◌<◌, ◌≤◌, List, [], ◌∷◌, ◌++◌, length, get_or, set, take, map, Some, refl, sym, ap, subst, arith}
use Rattle.std.specs.Prelude.{slice_get}
use Rattle.std.proofs.lemmas.List.{length-set, length-map, map-append, map-set, get_or-map, set-get_or, take_more_set, length-take-le}
use Rattle.std.proofs.lemmas.Nat.{and_le_r}
use Rattle.std.proofs.lemmas.Option.{slice_get-get_or, slice_get-map}
use Rattle.std.specs.Option.{option_map}
use Rattle.fact_table.specs.declared.types.Fact.{Fact}
use Rattle.fact_table.specs.declared.types.FactSide.{FactSide}
use Rattle.fact_table.specs.declared.types.FactSide.TheVariants.{From, Into}
use Rattle.fact_table.specs.declared.cells.Cell.{Cell}
use Rattle.fact_table.specs.declared.cells.ChainHeads.{ChainHeads}
use Rattle.fact_table.specs.Inside.Buckets.{bucket_of, head_of, head_at}
use Rattle.fact_table.specs.Inside.Chains.{AreChainedBy}
use Rattle.fact_table.specs.Inside.Cells.{AreCellsBy, AreCellsChained, HasHeads, HasAsMany, IsPut, IsPutBy, cell_facts, same_link, link_at}
use Rattle.fact_table.proofs.Chains.{chained_more, chained_less, chained_none}

-- a bucket is within its mask
pub bucket_within : (mask : ℕ) (fact : Fact) → bucket_of mask fact ≤ mask
unfolding bucket_of
bucket_within mask fact = and_le_r _ mask

-- a head is within its mask
pub head_within : (side : FactSide) (mask : ℕ) (fact : Fact) → head_at side mask fact ≤ mask
unfolding head_of
head_within side mask fact = and_le_r _ mask

-- one chain with a cell more
cells_more : (key : ℕ → Fact → ℕ) (link : Cell → ℕ) (cells : List Cell) (before after : List ℕ) (cell : Cell) → ((mask : ℕ) (f : Fact) → key mask f ≤ mask) → 0 < length before
    → AreCellsBy key link cells before → IsPutBy key cell.fact (length cells) (link cell) before after → AreCellsBy key link (cells ++ cell ∷ []) after
cells_more key link cells before after cell within some h put =
    let k : Fact → ℕ = key (length before - 1) in
    let low : k cell.fact < length before = omega (arith, within (length before - 1) cell.fact, some) in
    let more : AreChainedBy k (cell_facts cells ++ cell.fact ∷ []) (map link cells ++ link cell ∷ []) (set before (k cell.fact) (length (cell_facts cells) + 1)) = chained_more k (cell_facts cells) (map link cells) before cell.fact (link cell) h low put.link_is in
    let L : ℕ → Type 0 = λ n. AreChainedBy k (cell_facts cells ++ cell.fact ∷ []) (map link cells ++ link cell ∷ []) (set before (k cell.fact) (n + 1)) in
    let H : List ℕ → Type 0 = λ hs. AreChainedBy k (cell_facts cells ++ cell.fact ∷ []) (map link cells ++ link cell ∷ []) hs in
    let F : List Fact → Type 0 = λ xs. AreChainedBy k xs (map link cells ++ link cell ∷ []) after in
    let P : List ℕ → Type 0 = λ ls. AreChainedBy k (cell_facts (cells ++ cell ∷ [])) ls after in
    let N : ℕ → Type 0 = λ n. AreChainedBy (key (n - 1)) (cell_facts (cells ++ cell ∷ [])) (map link (cells ++ cell ∷ [])) after in
    let long : length (cell_facts cells) ≡ length cells = length-map cells (λ (x : Cell). x.fact) in
    let many : length before ≡ length after = sym (ap length put.heads_are ∙ length-set before (k cell.fact) (length cells + 1)) in
    subst N many (subst P (sym (map-append link cells (cell ∷ []))) (subst F (sym (map-append (λ (x : Cell). x.fact) cells (cell ∷ []))) (subst H (sym put.heads_are) (subst L long more))))

-- one chain with a cell less
cells_less : (key : ℕ → Fact → ℕ) (link : Cell → ℕ) (cells : List Cell) (heads : List ℕ) (cell : Cell) → AreCellsBy key link (cells ++ cell ∷ []) heads → AreCellsBy key link cells (set heads (key (length heads - 1) cell.fact) (link cell))
cells_less key link cells heads cell h =
    let k : Fact → ℕ = key (length heads - 1) in
    let F : List Fact → Type 0 = λ xs. AreChainedBy k xs (map link (cells ++ cell ∷ [])) heads in
    let P : List ℕ → Type 0 = λ ls. AreChainedBy k (cell_facts cells ++ cell.fact ∷ []) ls heads in
    let less : AreChainedBy k (cell_facts cells) (map link cells) (set heads (k cell.fact) (link cell)) = chained_less k (cell_facts cells) (map link cells) heads cell.fact (link cell) (subst P (map-append link cells (cell ∷ [])) (subst F (map-append (λ (x : Cell). x.fact) cells (cell ∷ [])) h)) in
    let N : ℕ → Type 0 = λ n. AreChainedBy (key (n - 1)) (cell_facts cells) (map link cells) (set heads (k cell.fact) (link cell)) in
    subst N (sym (length-set heads (k cell.fact) (link cell))) less

-- what was put, at an equal fact
put_by : (key : ℕ → Fact → ℕ) (f g : Fact) (place link : ℕ) (before after : List ℕ) → g ≡ f → IsPutBy key f place link before after → IsPutBy key g place link before after
put_by key f g place link before after same put = let P : Fact → Type 0 = λ x. IsPutBy key x place link before after in subst P (sym same) put

-- the three chains with a cell more
pub all_more : (cells : List Cell) (before after : ChainHeads) (fact : Fact) (cell : Cell) → AreCellsChained cells before → HasHeads before → IsPut fact (length cells) cell before after → AreCellsChained (cells ++ cell ∷ []) after
all_more cells before after fact cell h some put = record {
  same = cells_more bucket_of same_link cells before.same.items after.same.items cell bucket_within some.same h.same (put_by bucket_of fact cell.fact (length cells) cell.same before.same.items after.same.items put.fact_is put.same);
  from = cells_more (head_at From) (link_at From) cells before.from.items after.from.items cell (head_within From) some.from h.from (put_by (head_at From) fact cell.fact (length cells) cell.from before.from.items after.from.items put.fact_is put.from);
  into = cells_more (head_at Into) (link_at Into) cells before.into.items after.into.items cell (head_within Into) some.into h.into (put_by (head_at Into) fact cell.fact (length cells) cell.into before.into.items after.into.items put.fact_is put.into);
}

-- the three chains with a cell less
pub all_less : (old cells : List Cell) (before after : ChainHeads) (cell : Cell) → AreCellsChained old before → old ≡ cells ++ cell ∷ []
    → after.same.items ≡ set before.same.items (bucket_of (length before.same.items - 1) cell.fact) cell.same
    → after.from.items ≡ set before.from.items (head_at From (length before.from.items - 1) cell.fact) cell.from
    → after.into.items ≡ set before.into.items (head_at Into (length before.into.items - 1) cell.fact) cell.into
    → AreCellsChained cells after
all_less old cells before after cell h are same from into =
    let C : List Cell → Type 0 = λ cs. AreCellsChained cs before in
    let was : AreCellsChained (cells ++ cell ∷ []) before = subst C are h in
    let S : List ℕ → Type 0 = λ hs. AreCellsBy bucket_of same_link cells hs in
    let F : List ℕ → Type 0 = λ hs. AreCellsBy (head_at From) (link_at From) cells hs in
    let I : List ℕ → Type 0 = λ hs. AreCellsBy (head_at Into) (link_at Into) cells hs in
    record {
      same = subst S (sym same) (cells_less bucket_of same_link cells before.same.items cell was.same);
      from = subst F (sym from) (cells_less (head_at From) (link_at From) cells before.from.items cell was.from);
      into = subst I (sym into) (cells_less (head_at Into) (link_at Into) cells before.into.items cell was.into);
    }

-- no cells, over heads that lead nowhere
pub all_none : (heads : ChainHeads) → ((k : ℕ) → get_or heads.same.items k 0 ≡ 0) → ((k : ℕ) → get_or heads.from.items k 0 ≡ 0) → ((k : ℕ) → get_or heads.into.items k 0 ≡ 0) → AreCellsChained [] heads
all_none heads same from into = record {
  same = chained_none (bucket_of (length heads.same.items - 1)) heads.same.items same;
  from = chained_none (head_at From (length heads.from.items - 1)) heads.from.items from;
  into = chained_none (head_at Into (length heads.into.items - 1)) heads.into.items into;
}

-- one more of the first cells is linked
pub all_next : (cells : List Cell) (before after : ChainHeads) (place : ℕ) (fact : Fact) (cell : Cell) → AreCellsChained (take place cells) before → place < length cells → HasHeads before → IsPut fact place cell before after
    → AreCellsChained (take (place + 1) (set cells place cell)) after
all_next cells before after place fact cell h low some put =
    let C : List Cell → Type 0 = λ cs. AreCellsChained cs after in
    let N : ℕ → Type 0 = λ n. IsPut fact n cell before after in
    let long : length (take place cells) ≡ place = length-take-le place cells (omega (arith, low)) in
    subst C (sym (take_more_set cells place cell low)) (all_more (take place cells) before after fact cell h some (subst N (sym long) put))

-- a cell that is set anew for the same fact leaves the facts
pub same_facts : (cells : List Cell) (p : ℕ) (old cell : Cell) → p < length cells → old ≡ get_or cells p old → cell.fact ≡ old.fact → cell_facts (set cells p cell) ≡ cell_facts cells
same_facts cells p old cell low read is =
    map-set (λ (x : Cell). x.fact) cells p cell ∙ ap (λ (f : Fact). set (cell_facts cells) p f) (is ∙ ap (λ (x : Cell). x.fact) read ∙ sym (get_or-map (λ (x : Cell). x.fact) cells p old cell.fact low)) ∙ set-get_or (cell_facts cells) p cell.fact

-- putting a cell leaves the number of heads
pub put_many : (fact : Fact) (place : ℕ) (cell : Cell) (before after : ChainHeads) → IsPut fact place cell before after → HasAsMany before after
put_many fact place cell before after put = record {
  same = ap length put.same.heads_are ∙ length-set before.same.items (bucket_of (length before.same.items - 1) fact) (place + 1);
  from = ap length put.from.heads_are ∙ length-set before.from.items (head_at From (length before.from.items - 1) fact) (place + 1);
  into = ap length put.into.heads_are ∙ length-set before.into.items (head_at Into (length before.into.items - 1) fact) (place + 1);
}

-- as many heads, twice over
pub many_then : (a b d : ChainHeads) → HasAsMany a b → HasAsMany b d → HasAsMany a d
many_then a b d h k = record { same = k.same ∙ h.same; from = k.from ∙ h.from; into = k.into ∙ h.into }

-- as many heads as it has
pub many_refl : (a : ChainHeads) → HasAsMany a a
many_refl a = record { same = refl; from = refl; into = refl }

-- as many heads are some heads
pub heads_kept : (a b : ChainHeads) → HasAsMany a b → HasHeads a → HasHeads b
heads_kept a b h some = record { same = omega (arith, h.same, some.same); from = omega (arith, h.from, some.from); into = omega (arith, h.into, some.into) }

-- the fact of a cell that was read
pub cell_fact : (cells : List Cell) (p : ℕ) (d : Cell) → p < length cells → slice_get (cell_facts cells) p ≡ Some (get_or cells p d).fact
cell_fact cells p d low = slice_get-map (λ (x : Cell). x.fact) cells p ∙ ap (option_map (λ (x : Cell). x.fact)) (slice_get-get_or cells p d low)

-- the link of a cell that was read
pub cell_link : (link : Cell → ℕ) (cells : List Cell) (p : ℕ) (d : Cell) → p < length cells → get_or (map link cells) p 0 ≡ link (get_or cells p d)
cell_link link cells p d low = get_or-map link cells p d 0 low

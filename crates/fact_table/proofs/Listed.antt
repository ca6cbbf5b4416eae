-- The facts of cells with their reasons.
use Rattle.std.proofs.Common.{◌≡◌, ℕ, zero, suc, ◌<◌, List, [], ◌∷◌, ◌++◌, length, get_or, take, Some, refl, ap, ap₂, arith}
use Rattle.std.specs.Prelude.{slice_get}
use Rattle.fact_table.specs.declared.types.Fact.{Fact}
use Rattle.fact_table.specs.declared.types.Reason.{Reason}
use Rattle.fact_table.specs.declared.types.Proved.{Proved}
use Rattle.fact_table.specs.declared.cells.Cell.{Cell}
use Rattle.fact_table.specs.Lists.{facts_of}
use Rattle.fact_table.specs.Inside.Cells.{cell_facts, proved_of}

-- a reason for each cell
pub proved_len : (cells : List Cell) (reasons : List Reason) → length reasons ≡ length cells → length (proved_of cells reasons) ≡ length cells
proved_len [] reasons each = refl
proved_len (cell ∷ cells) [] each = each
proved_len (cell ∷ cells) (reason ∷ reasons) each = ap suc (proved_len cells reasons (omega (arith, each)))

-- the facts of what is listed are those of the cells
pub proved_facts : (cells : List Cell) (reasons : List Reason) → length reasons ≡ length cells → facts_of (proved_of cells reasons) ≡ cell_facts cells
proved_facts [] reasons each = refl
proved_facts (cell ∷ cells) [] each = absurd (omega (arith, each))
proved_facts (cell ∷ cells) (reason ∷ reasons) each = ap (λ (facts : List Fact). cell.fact ∷ facts) (proved_facts cells reasons (omega (arith, each)))

-- one more of both
pub proved_more : (cells : List Cell) (reasons : List Reason) (last : Cell) (item : Proved) → length reasons ≡ length cells → last.fact ≡ item.fact → proved_of (cells ++ last ∷ []) (reasons ++ item.reason ∷ []) ≡ proved_of cells reasons ++ item ∷ []
proved_more [] [] last item each is = ap (λ (fact : Fact). record { fact = fact; reason = item.reason } ∷ []) is
proved_more [] (reason ∷ reasons) last item each is = absurd (omega (arith, each))
proved_more (cell ∷ cells) [] last item each is = absurd (omega (arith, each))
proved_more (cell ∷ cells) (reason ∷ reasons) last item each is = ap (λ (rest : List Proved). record { fact = cell.fact; reason = reason } ∷ rest) (proved_more cells reasons last item (omega (arith, each)) is)

-- the first ones of both
pub proved_take : (n : ℕ) (cells : List Cell) (reasons : List Reason) → proved_of (take n cells) (take n reasons) ≡ take n (proved_of cells reasons)
proved_take zero cells reasons = refl
proved_take (suc n) [] reasons = refl
proved_take (suc n) (cell ∷ cells) [] = refl
proved_take (suc n) (cell ∷ cells) (reason ∷ reasons) = ap (λ (rest : List Proved). record { fact = cell.fact; reason = reason } ∷ rest) (proved_take n cells reasons)

-- one of each
pub proved_at : (cells : List Cell) (reasons : List Reason) (p : ℕ) (d : Cell) (e : Reason) → length reasons ≡ length cells → p < length cells
    → slice_get (proved_of cells reasons) p ≡ Some (record { fact = (get_or cells p d).fact; reason = get_or reasons p e })
proved_at [] reasons p d e each low = absurd (omega (arith, low))
proved_at (cell ∷ cells) [] p d e each low = absurd (omega (arith, each))
proved_at (cell ∷ cells) (reason ∷ reasons) zero d e each low = refl
proved_at (cell ∷ cells) (reason ∷ reasons) (suc p) d e each low = proved_at cells reasons p d e (omega (arith, each)) (omega (arith, low))

-- cells of the same facts are listed alike
pub proved_alike : (cells others : List Cell) (reasons : List Reason) → cell_facts cells ≡ cell_facts others → proved_of cells reasons ≡ proved_of others reasons
proved_alike [] [] reasons e = refl
proved_alike [] (other ∷ others) reasons e = cc e
proved_alike (cell ∷ cells) [] reasons e = cc e
proved_alike (cell ∷ cells) (other ∷ others) [] e = refl
proved_alike (cell ∷ cells) (other ∷ others) (reason ∷ reasons) e =
    let first : cell.fact ≡ other.fact = cc e in
    let rest : cell_facts cells ≡ cell_facts others = cc e in
    ap₂ (λ (fact : Fact) (list : List Proved). record { fact = fact; reason = reason } ∷ list) first (proved_alike cells others reasons rest)

-- A row's number leads back to its rank.
use Rattle.std.proofs.Common.{◌≡◌, ◌<◌, ◌+◌, ℕ, zero, suc, Bool, true, false, cond, List, [], ◌∷◌, length, map, refl, sym, ap, ◌∙◌, arith, eqb-true, eq-eqb, All}
use Rattle.std.specs.Prelude.{slice_index, nat_eq}
use Rattle.std.proofs.lemmas.List.Elements.{All-head, All-tail}
use Rattle.fact_table.specs.declared.types.Source.{Source}
use Rattle.derivation.specs.declared.types.Step.{Step}
use Rattle.valid_evidence.specs.Rows.{rank_of_row, source_by_rank, steps_by_rank}
use Rattle.run_evidence.specs.Tellable.{IsEachOnce}
use Rattle.run_evidence.specs.Inside.RowNumbers.{HasRanksBelow, source_by_row, step_by_row}

-- the rank of a row is the first place at which the row stands
first_rank : (order : List ℕ) (row rank : ℕ) → rank < length order → slice_index order rank + 1 ≡ row
    → ((other : ℕ) → other < rank → slice_index order other + 1 ≡ row → ⊥) → rank_of_row order row ≡ rank
first_rank [] row rank inside is none = absurd (omega arith)
first_rank (x ∷ xs) row zero inside is none =
    ap (λ (b : Bool). cond b zero (suc (rank_of_row xs row))) (eq-eqb (x + 1) row is)
first_rank (x ∷ xs) row (suc rank) inside is none =
    by (nat_eq (x + 1) row) refl (first_rank xs row rank (omega arith) is (λ other before same. none (suc other) (omega arith) same))
  where
    by : (b : Bool) → nat_eq (x + 1) row ≡ b → rank_of_row xs row ≡ rank → cond b zero (suc (rank_of_row xs row)) ≡ suc rank
    by true e rest = absurd (none zero (omega arith) (eqb-true (x + 1) row e))
    by false e rest = ap suc rest

module _ (order : List ℕ) (once : IsEachOnce order) where
  -- the number of the row with a rank leads back to the rank
  pub rank_again : (rank : ℕ) → rank < length order → rank_of_row order (slice_index order rank + 1) ≡ rank
  rank_again rank inside = first_rank order (slice_index order rank + 1) rank inside refl
      (λ other before same. let e : slice_index order other ≡ slice_index order rank = omega arith in
      let f = once.once other rank (omega arith) inside e in absurd (omega arith))

  -- the rank of a row's number has this row
  pub row_again : (index : ℕ) → index < length order
      → (rank_of_row order (index + 1) < length order) × (slice_index order (rank_of_row order (index + 1)) ≡ index)
  row_again index inside =
      let found = once.each index inside in
      let same : rank_of_row order (index + 1) ≡ found.0 = ap (λ (i : ℕ). rank_of_row order (i + 1)) (sym found.2) ∙ rank_again found.0 found.1 in
      let at = ap (slice_index order) same in
      (omega (arith, same, found.1), at ∙ found.2)

  -- so does a source with the number of a row lead back to its rank
  source_again : (source : Source) → HasRanksBelow (length order) source → source_by_rank order (source_by_row order source) ≡ source
  source_again (Source.Left number) below = refl
  source_again (Source.Right number) below = refl
  source_again (Source.Row rank number) below = ap (λ (r : ℕ). Source.Row r number) (rank_again rank below)
  source_again Source.Nothing below = refl

  -- and steps
  pub steps_again : (steps : List Step) → All (λ step. HasRanksBelow (length order) step.source) steps
      → steps_by_rank order (map (step_by_row order) steps) ≡ steps
  steps_again [] below = refl
  steps_again (step ∷ steps) below =
      let one = source_again step.source (All-head (λ s. HasRanksBelow (length order) s.source) step steps below) in
      let rest = steps_again steps (All-tail (λ s. HasRanksBelow (length order) s.source) step steps below) in
      ap (λ (s : Source). record step { source = s } ∷ steps_by_rank order (map (step_by_row order) steps)) one
      ∙ ap (λ (ss : List Step). step ∷ ss) rest

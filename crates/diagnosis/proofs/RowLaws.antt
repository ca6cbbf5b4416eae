-- Which rows are marked, one rank after another.
use Rattle.std.proofs.Common.{◌≡◌, ℕ, ◌+◌, ◌<◌, true, false, ◌||◌, ⊎_elim, List, [], length, take, set, get_or, zero-add, sym, subst, ap, ◌∙◌, eqb, slice_index}
use Rattle.std.specs.Prelude.{replicate}
use Rattle.std.specs.List.{range_with_len}
use Rattle.std.proofs.Math.Bool.{or-true, or-false}
use Rattle.std.proofs.lemmas.Bool.{cases_eq, eq-eqb, ne_eqb}
use Rattle.std.proofs.lemmas.List.{ext_get_or, get_or-set_same, get_or-set_other, length-set}
use Rattle.std.proofs.lemmas.List.Folds.{list_any_more}
use Rattle.std.proofs.lemmas.List.FromFn.{length-range_with_len, length-map-range_with_len, get_or-map-range_with_len}
use Rattle.std.proofs.lemmas.Simd.{splat_is_map}
use Rattle.diagnosis.specs.Rows.{has_rank_of, keep_of}

-- no rank, no row
pub none_marked : (order : List ℕ) → replicate (length order) false ≡ keep_of order []
none_marked order = splat_is_map (range_with_len 0 (length order)) (length order) false (length-range_with_len 0 (length order))

-- there is a mark for each row
pub length-keep_of : (order ranks : List ℕ) → length (keep_of order ranks) ≡ length order
length-keep_of order ranks = length-map-range_with_len (has_rank_of order ranks) 0 (length order)

-- the mark of a row
row_mark : (order ranks : List ℕ) (row : ℕ) → row < length order → get_or (keep_of order ranks) row false ≡ has_rank_of order ranks row
row_mark order ranks row inside = get_or-map-range_with_len (has_rank_of order ranks) 0 (length order) row row false inside (zero-add row)

module _ (order ranks : List ℕ) (i : ℕ) (inside : i < length ranks) where
  -- a row has one of the ranks so far and one more
  more : (row : ℕ) → has_rank_of order (take (i + 1) ranks) row
      ≡ (has_rank_of order (take i ranks) row || eqb (slice_index order (get_or ranks i 0)) row)
  more row = list_any_more (λ rank. eqb (slice_index order rank) row) ranks i 0 inside

  -- one more rank marks its row
  pub one_more_marked : (row : ℕ) → slice_index order (get_or ranks i 0) ≡ row → row < length order
      → set (keep_of order (take i ranks)) row true ≡ keep_of order (take (i + 1) ranks)
  one_more_marked row row_is below = ext_get_or false (set (keep_of order (take i ranks)) row true) (keep_of order (take (i + 1) ranks))
      (length-set (keep_of order (take i ranks)) row true ∙ length-keep_of order (take i ranks) ∙ sym (length-keep_of order (take (i + 1) ranks)))
      (λ other within.
      let other_below : other < length order = subst (λ n. other < n) (length-set (keep_of order (take i ranks)) row true ∙ length-keep_of order (take i ranks)) within in
      let after = row_mark order (take (i + 1) ranks) other other_below ∙ more other in
      ⊎_elim
      (λ (same : other ≡ row).
      subst (λ r. get_or (set (keep_of order (take i ranks)) row true) r false ≡ get_or (keep_of order (take (i + 1) ranks)) r false) (sym same)
      (get_or-set_same (keep_of order (take i ranks)) row true false (subst (λ n. row < n) (sym (length-keep_of order (take i ranks))) below)
      ∙ sym (row_mark order (take (i + 1) ranks) row below ∙ more row
      ∙ ap (λ b. has_rank_of order (take i ranks) row || b) (eq-eqb (slice_index order (get_or ranks i 0)) row row_is)
      ∙ or-true (has_rank_of order (take i ranks) row))))
      (λ (differs : other ≡ row → ⊥).
      get_or-set_other (keep_of order (take i ranks)) row other true false differs
      ∙ row_mark order (take i ranks) other other_below
      ∙ sym (after ∙ ap (λ b. has_rank_of order (take i ranks) other || b)
      (ne_eqb (slice_index order (get_or ranks i 0)) other (λ same. differs (sym same ∙ row_is)))
      ∙ or-false (has_rank_of order (take i ranks) other)))
      (cases_eq other row))

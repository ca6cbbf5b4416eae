-- How the tables of removed rows grow.
use Rattle.std.proofs.Common.{◌≡◌, ◌≢◌, ℕ, zero, suc, ◌+◌, ◌-◌, ◌<◌, ◌≤◌, Bool, true, false, cond, ◌||◌, List, [], ◌∷◌, ◌++◌, take, set, Contains, length, get_or, refl, ap, sym, subst, ◌∙◌, arith, add-zero, zero-add, ⊎_elim, ◌⊎◌, inl, inr, All}
use Rattle.std.specs.Prelude.{◌==◌, nat_lt, not, replicate}
use Rattle.std.specs.List.{range_with_len, filter}
use Rattle.std.specs.List.Sorted.{IsStrictlyIncreasing}
use Rattle.std.proofs.Math.Bool.{or-true, or-false}
use Rattle.std.proofs.lemmas.Bool.{cases_eq, cases_lt, eq-eqb, ne_eqb, ltb-true}
use Rattle.std.proofs.lemmas.List.{ext_get_or, get_or-set_same, get_or-set_other, get_or_default, get_or_append_left, get_or_push, length_push, length-set, length-map, length-take-le, map_more}
use Rattle.std.proofs.lemmas.List.Elements.{All-filter, All-push, All-get_or, filter_passes}
use Rattle.std.proofs.lemmas.List.Folds.{list_any_more}
use Rattle.std.proofs.lemmas.List.Kept.{IsStrictlyIncreasing-filter}
use Rattle.std.proofs.lemmas.List.FromFn.{length-range_with_len, length-map-range_with_len, get_or-map-range_with_len}
use Rattle.std.proofs.lemmas.Simd.{splat_is_map}
use Rattle.accuse_core.specs.declared.mark.Mark.{Mark}
use Rattle.accuse_core.specs.declared.mark.Mark.TheVariants as M
use Rattle.accuse_core.specs.Marks.{is_kept, kept_of, ranks_from}
use Rattle.evidence_text.specs.declared.types.Removed.{Removed}
use Rattle.case_file.specs.Cases.{CaseView, AreRanksOf, IsCase}
use Rattle.valid_evidence.specs.Rows.{is_taken_out, rows_left, decided_mark, decided_marks, ranks_up_to, rank_of_row}
use Rattle.check_items.specs.Inside.Tables.{HasItsRows, row_ranks, mark_by, marks_by, ranks_by}

-- no removed row, no row taken out
pub none_out : (rows : ℕ) → replicate rows true ≡ rows_left [] rows
none_out rows = splat_is_map (range_with_len 0 rows) rows true (length-range_with_len 0 rows)

-- there is a truth value for each row
pub length-rows_left : (removed : List Removed) (rows : ℕ) → length (rows_left removed rows) ≡ rows
length-rows_left removed rows = length-map-range_with_len (λ index. not (is_taken_out removed index)) 0 rows

-- that of a row
pub row_left : (removed : List Removed) (rows index : ℕ) → index < rows → get_or (rows_left removed rows) index false ≡ not (is_taken_out removed index)
row_left removed rows index inside = get_or-map-range_with_len (λ index. not (is_taken_out removed index)) 0 rows index index false inside (zero-add index)

module _ (removed : List Removed) (i : ℕ) (r : Removed) (inside : i < length removed) (is : r ≡ get_or removed i r) where
  -- a row is taken out by those so far or by one more
  more : (index : ℕ) → is_taken_out (take (i + 1) removed) index ≡ (is_taken_out (take i removed) index || (r.row == index + 1))
  more index = list_any_more (λ one. one.row == index + 1) removed i r inside ∙ ap (λ (one : Removed). is_taken_out (take i removed) index || (one.row == index + 1)) (sym is)

  -- one more removed row is taken out
  pub one_more_out : (rows : ℕ) → 1 ≤ r.row → r.row ≤ rows → set (rows_left (take i removed) rows) (r.row - 1) false ≡ rows_left (take (i + 1) removed) rows
  one_more_out rows low high =
      let row = r.row - 1 in
      let before = rows_left (take i removed) rows in
      let after = rows_left (take (i + 1) removed) rows in
      let below : row < rows = omega (arith, low, high) in
      let number : r.row ≡ row + 1 = omega (arith, low) in
      ext_get_or false (set before row false) after
      (length-set before row false ∙ length-rows_left (take i removed) rows ∙ sym (length-rows_left (take (i + 1) removed) rows))
      (λ other within.
      let other_below : other < rows = subst (λ n. other < n) (length-set before row false ∙ length-rows_left (take i removed) rows) within in
      ⊎_elim
      (λ (same : other ≡ row).
      subst (λ k. get_or (set before row false) k false ≡ get_or after k false) (sym same)
      (get_or-set_same before row false false (subst (λ n. row < n) (sym (length-rows_left (take i removed) rows)) below)
      ∙ sym (row_left (take (i + 1) removed) rows row below
      ∙ ap not (more row ∙ ap (λ b. is_taken_out (take i removed) row || b) (eq-eqb r.row (row + 1) number) ∙ or-true (is_taken_out (take i removed) row)))))
      (λ (differs : other ≡ row → ⊥).
      get_or-set_other before row other false false differs ∙ row_left (take i removed) rows other other_below
      ∙ sym (row_left (take (i + 1) removed) rows other other_below
      ∙ ap not (more other ∙ ap (λ b. is_taken_out (take i removed) other || b) (ne_eqb r.row (other + 1) (λ same. differs (omega (arith, same)))) ∙ or-false (is_taken_out (take i removed) other))))
      (cases_eq other row))

-- what a list of numbers ends in that may have one more
more_or_none : (b : Bool) (first : ℕ) (ranks more : List ℕ) → cond b (first ∷ (ranks ++ more)) (ranks ++ more) ≡ cond b (first ∷ ranks) ranks ++ more
more_or_none true first ranks more = refl
more_or_none false first ranks more = refl

-- one more mark is one more rank, if it passes
ranks_more : (passes : Mark → Bool) (first : ℕ) (marks : List Mark) (mark : Mark)
    → ranks_from passes first (marks ++ mark ∷ []) ≡ ranks_from passes first marks ++ cond (passes mark) ((first + length marks) ∷ []) []
ranks_more passes first [] mark = ap (λ n. cond (passes mark) (n ∷ []) []) (sym (add-zero first))
ranks_more passes first (one ∷ marks) mark =
    let moved : suc first + length marks ≡ first + suc (length marks) = omega arith in
    ap (λ ranks. cond (passes one) (first ∷ ranks) ranks)
    (ranks_more passes (suc first) marks mark ∙ ap (λ n. ranks_from passes (suc first) marks ++ cond (passes mark) (n ∷ []) []) moved)
    ∙ more_or_none (passes one) first (ranks_from passes (suc first) marks) (cond (passes mark) ((first + suc (length marks)) ∷ []) [])

-- a mark is `Kept` if the row is left
mark_kept : (left : Bool) → is_kept (cond left M.Kept M.Removed) ≡ left
mark_kept true = refl
mark_kept false = refl

-- the ranks of the rows that are left, and one more rank
pub ranks_by_more : (keep : List Bool) (order : List ℕ) (rank : ℕ) → rank < length order
    → ranks_by keep (take (rank + 1) order) ≡ ranks_by keep (take rank order) ++ cond (get_or keep (get_or order rank 0) false) (rank ∷ []) []
ranks_by_more keep order rank inside =
    let marks = marks_by keep (take rank order) in
    let mark = mark_by keep (get_or order rank 0) in
    let count : length marks ≡ rank = length-map (take rank order) (mark_by keep) ∙ length-take-le rank order (omega (arith, inside)) in
    ap kept_of (map_more (mark_by keep) order rank 0 inside) ∙ ranks_more is_kept 0 marks mark
    ∙ ap (λ b. kept_of marks ++ cond b ((0 + length marks) ∷ []) []) (mark_kept (get_or keep (get_or order rank 0) false))
    ∙ ap (λ n. kept_of marks ++ cond (get_or keep (get_or order rank 0) false) (n ∷ []) []) (zero-add (length marks) ∙ count)

-- marks by the rows that are left are those of the removed rows
pub marks_are_decided : (removed : List Removed) (order : List ℕ) (rows : ℕ) → ((k : ℕ) → k < length order → get_or order k 0 < rows)
    → marks_by (rows_left removed rows) order ≡ decided_marks removed order
marks_are_decided removed [] rows within = refl
marks_are_decided removed (index ∷ order) rows within =
    ap (λ (m : Mark). m ∷ marks_by (rows_left removed rows) order)
    (ap (λ (b : Bool). cond b M.Kept M.Removed) (row_left removed rows index (within 0 (omega arith))) ∙ turned (is_taken_out removed index))
    ∙ ap (λ (ms : List Mark). decided_mark removed index ∷ ms) (marks_are_decided removed order rows (λ k inside. within (suc k) (omega arith)))
  where
    turned : (taken : Bool) → cond (not taken) M.Kept M.Removed ≡ cond taken M.Removed M.Kept
    turned true = refl
    turned false = refl

-- ranks that stand at the places of their rows are those of the rows
pub ranks_are_rows : (order ranks : List ℕ) → ((rank : ℕ) → rank < length order → rank_of_row order (get_or order rank 0 + 1) ≡ rank)
    → length ranks ≡ length order → ((index : ℕ) → index < length order → Contains order index)
    → ((rank : ℕ) → rank < length order → get_or ranks (get_or order rank 0) 0 ≡ rank) → ranks ≡ row_ranks order
ranks_are_rows order ranks place many each set_at =
    ext_get_or 0 ranks (row_ranks order) (many ∙ sym (length-map-range_with_len (λ index. rank_of_row order (index + 1)) 0 (length order)))
    (λ index within.
    let below : index < length order = subst (λ n. index < n) many within in
    let held = each index below in
    let is : get_or order held.0 0 ≡ index = get_or_default order held.0 0 index held.1 ∙ held.2 in
    sym (ap (λ n. get_or ranks n 0) is) ∙ set_at held.0 held.1 ∙ sym (place held.0 held.1) ∙ ap (λ n. rank_of_row order (n + 1)) is
    ∙ sym (get_or-map-range_with_len (λ n. rank_of_row order (n + 1)) 0 (length order) index index 0 below (zero-add index)))

-- a number that is no row's has no rank
abbrev pub NoRank : Type 0
NoRank = (order : List ℕ) (row : ℕ) → ((k : ℕ) → k < length order → get_or order k 0 + 1 ≢ row) → rank_of_row order row ≡ length order

-- there are as many ranks as rows
pub length-row_ranks : (order : List ℕ) → length (row_ranks order) ≡ length order
length-row_ranks order = length-map-range_with_len (λ index. rank_of_row order (index + 1)) 0 (length order)

-- 0, and a number past the last row, have no rank
pub rank_past : NoRank → (order ranks : List ℕ) (row : ℕ) → HasItsRows order → ranks ≡ row_ranks order → (row ≡ 0) ⊎ (length ranks < row)
    → length ranks ≡ rank_of_row order row
rank_past none order ranks row has is past =
    let long : length ranks ≡ length order = ap length is ∙ length-row_ranks order in
    long ∙ sym (none order row (λ k inside same. differs (get_or order k 0) (has k inside) same (⊎_elim (λ first. inl first) (λ after. inr (omega (arith, after, long))) past)))
  where
    differs : (index : ℕ) → index < length order → index + 1 ≡ row → (row ≡ 0) ⊎ (length order < row) → ⊥
    differs index below same (inl first) = omega arith
    differs index below same (inr after) = omega arith

-- the rank of a row is at its place
pub rank_there : (order ranks : List ℕ) (row : ℕ) → ranks ≡ row_ranks order → 1 ≤ row → row ≤ length ranks
    → get_or ranks (row - 1) 0 ≡ rank_of_row order row
rank_there order ranks row is low high =
    let long : length ranks ≡ length order = ap length is ∙ length-row_ranks order in
    let below : row - 1 < length order = omega (arith, low, high, long) in
    let number : row - 1 + 1 ≡ row = omega (arith, low) in
    ap (λ (xs : List ℕ). get_or xs (row - 1) 0) is
    ∙ get_or-map-range_with_len (λ index. rank_of_row order (index + 1)) 0 (length order) (row - 1) (row - 1) 0 below (zero-add (row - 1))
    ∙ ap (rank_of_row order) number

-- a number past all of an ascending list may stand after it
ascend_push : (ranks : List ℕ) (rank : ℕ) → IsStrictlyIncreasing ranks → All (λ other. other < rank) ranks → IsStrictlyIncreasing (ranks ++ rank ∷ [])
ascend_push ranks rank ascends below k inside =
    let long = length_push ranks rank in
    ⊎_elim
    (λ (early : k + 1 < length ranks).
    subst (λ n. n < get_or (ranks ++ rank ∷ []) (k + 1) 0) (sym (get_or_append_left ranks (rank ∷ []) 0 k (omega (arith, early))))
    (subst (λ n. get_or ranks k 0 < n) (sym (get_or_append_left ranks (rank ∷ []) 0 (k + 1) early)) (ascends k early)))
    (λ (late : length ranks ≤ k + 1).
    let last : length ranks ≡ k + 1 = omega (arith, late, inside, long) in
    subst (λ n. n < get_or (ranks ++ rank ∷ []) (k + 1) 0) (sym (get_or_append_left ranks (rank ∷ []) 0 k (omega (arith, last))))
    (subst (λ n. get_or ranks k 0 < n) (sym (get_or_push ranks rank 0 (k + 1) last)) (All-get_or (λ other. other < rank) ranks k 0 (omega (arith, last)) below)))
    (cases_lt (k + 1) (length ranks))

-- ranks before a rank, and then it, are ranks of the case
pub up_to_are_ranks : (case : CaseView) (kept : List ℕ) (rank : ℕ) → AreRanksOf case kept → rank < length case.order → AreRanksOf case (ranks_up_to kept rank)
up_to_are_ranks case kept rank are inside = record {
  ascending = ascend_push (filter test kept) rank (IsStrictlyIncreasing-filter test kept are.ascending)
      (λ k d within. ltb-true (get_or (filter test kept) k d) rank (filter_passes test kept k d within));
  below = All-push (λ r. r < length case.order) (filter test kept) rank (All-filter test (λ r. r < length case.order) kept are.below) inside;
}
  where
    test : ℕ → Bool
    test other = nat_lt other rank

-- the number of a row has a rank
rank_found : (order : List ℕ) (row k : ℕ) → k < length order → get_or order k 0 + 1 ≡ row → rank_of_row order row < length order
rank_found [] row k inside is = absurd (omega (arith, inside))
rank_found (index ∷ order) row zero inside is =
    subst (λ b. cond b zero (suc (rank_of_row order row)) < suc (length order)) (sym (eq-eqb (index + 1) row is)) (omega arith)
rank_found (index ∷ order) row (suc k) inside is =
    let later = rank_found order row k (omega (arith, inside)) is in
    elim (index + 1 == row) as (λ b. cond b zero (suc (rank_of_row order row)) < suc (length order)) [ true ↦ omega arith | false ↦ omega (arith, later) ]

-- so has each row, if each is at some place of the order
pub row_has_rank : (order : List ℕ) (row : ℕ) → ((index : ℕ) → index < length order → Contains order index) → 1 ≤ row → row ≤ length order
    → rank_of_row order row < length order
row_has_rank order row each low high =
    let held = each (row - 1) (omega (arith, low, high)) in
    let is : get_or order held.0 0 ≡ row - 1 = get_or_default order held.0 0 (row - 1) held.1 ∙ held.2 in
    let number : row - 1 + 1 ≡ row = omega (arith, low) in
    rank_found order row held.0 held.1 (ap (λ n. n + 1) is ∙ number)

-- the rows of a case are at their places
pub case_has_rows : (case : CaseView) → IsCase case → HasItsRows case.order
case_has_rows case is k inside =
    subst (λ n. get_or case.order k 0 < n) (sym is.given.ranks) (All-get_or (λ r. r < length case.rows) case.order k 0 inside is.given.indexes)

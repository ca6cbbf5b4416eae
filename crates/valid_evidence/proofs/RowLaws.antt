-- Removed rows by their ranks.
use Rattle.std.proofs.Common.{◌≡◌, ℕ, suc, ◌+◌, ◌<◌, Bool, true, false, List, [], ◌∷◌, map, Contains, length, get_or, refl, ap, sym, subst, ◌∙◌, arith, ⊎_elim}
use Rattle.std.specs.Prelude.{◌↔◌, ◌==◌, not}
use Rattle.std.specs.List.{list_any, range_with_len}
use Rattle.std.proofs.lemmas.Bool.{cond-true, cond-false, cases_Bool, cases_lt, eqb-true, eq-eqb, not-true}
use Rattle.std.proofs.lemmas.List.{get_or-map, get_or_past, get_or_default, length-map}
use Rattle.std.proofs.lemmas.List.FromFn.{length-range_with_len, get_or-range_with_len}
use Rattle.std.proofs.lemmas.List.Folds.{list_any_at, Any-from_list_any}
use Rattle.accuse_core.specs.declared.mark.Mark.{Mark}
use Rattle.accuse_core.specs.declared.mark.Mark.TheVariants as M
use Rattle.accuse_core.specs.Marks.{mark_at, kept_of}
use Rattle.evidence_text.specs.declared.types.Removed.{Removed}
use Rattle.valid_evidence.specs.Rows.{is_taken_out, rows_left, decided_mark, decided_marks, ranks_left}
use Rattle.valid_evidence.specs.Shown.{rows_ranked}

-- the kept ranks are those with the mark
abbrev pub KeptHaveMark : Type 0
KeptHaveMark = (marks : List Mark) (rank : ℕ) → Contains (kept_of marks) rank ↔ (mark_at marks rank ≡ M.Kept)

-- two truth values, each true if the other is
same_truth : (one other : Bool) → (one ≡ true → other ≡ true) → (other ≡ true → one ≡ true) → one ≡ other
same_truth true other into back = sym (into refl)
same_truth false true into back = back refl
same_truth false false into back = refl

-- two functions that give the same of each element
map_within : {Y : Type 0} (f g : ℕ → Y) (xs : List ℕ) → ((k : ℕ) → k < length xs → f (get_or xs k 0) ≡ g (get_or xs k 0)) → map f xs ≡ map g xs
map_within f g [] same = refl
map_within {Y} f g (x ∷ xs) same =
    ap (λ (y : Y). y ∷ map f xs) (same 0 (omega arith)) ∙ ap (λ (ys : List Y). g x ∷ ys) (map_within f g xs (λ k inside. same (suc k) (omega arith)))

-- an element that passes a test
found : {X : Type 0} (test : X → Bool) (xs : List X) → list_any test xs ≡ true → (x : X) × Contains xs x × (test x ≡ true)
found test xs h = let any = Any-from_list_any test xs h in (any.1, (any.0, any.2, any.3), any.4)

-- an element that passes a test makes one pass
any_of : {X : Type 0} (test : X → Bool) (xs : List X) (x : X) → Contains xs x → test x ≡ true → list_any test xs ≡ true
any_of test xs x held passes = list_any_at test xs held.0 x held.1 (ap test held.2 ∙ passes)

-- a removed row with this index
pub removed_row : (removed : List Removed) (index : ℕ) → is_taken_out removed index ≡ true → (r : Removed) × Contains removed r × (r.row ≡ index + 1)
removed_row removed index h =
    let r = found (λ r. r.row == index + 1) removed h in (r.0, r.1, eqb-true r.0.row (index + 1) r.2)

module _ (law : KeptHaveMark) (removed : List Removed) (order : List ℕ) where
  abbrev marks : List Mark
  marks = decided_marks removed order

  mark_is : (rank : ℕ) → rank < length order → mark_at marks rank ≡ decided_mark removed (get_or order rank 0)
  mark_is rank inside = get_or-map (decided_mark removed) order rank 0 M.Open inside

  -- a rank of a row that is not removed is left
  pub left_is_kept : (rank : ℕ) → rank < length order → is_taken_out removed (get_or order rank 0) ≡ false → Contains (ranks_left removed order) rank
  left_is_kept rank inside stays = (law marks rank).1 (mark_is rank inside ∙ cond-false (is_taken_out removed (get_or order rank 0)) _ _ stays)

  -- ranks that are left are ranks
  pub kept_is_inside : (rank : ℕ) → Contains (ranks_left removed order) rank → rank < length order
  kept_is_inside rank held = ⊎_elim (λ inside. inside) (λ past. absurd (open_is_kept (sym (get_or_past marks rank M.Open (omega (arith, past, length-map order (decided_mark removed)))) ∙ (law marks rank).0 held))) (cases_lt rank (length order))
    where
      open_is_kept : M.Open ≡ M.Kept → ⊥
      open_is_kept h = cc

  -- and their rows are not removed
  pub kept_is_left : (rank : ℕ) → Contains (ranks_left removed order) rank → is_taken_out removed (get_or order rank 0) ≡ false
  kept_is_left rank held = ⊎_elim
      (λ taken. absurd (removed_is_kept (sym (cond-true (is_taken_out removed (get_or order rank 0)) _ _ taken) ∙ sym (mark_is rank (kept_is_inside rank held)) ∙ (law marks rank).0 held)))
      (λ stays. stays) (cases_Bool (is_taken_out removed (get_or order rank 0)))
    where
      removed_is_kept : M.Removed ≡ M.Kept → ⊥
      removed_is_kept h = cc

  -- a rank that is not left has a removed row
  pub not_kept : (rank : ℕ) → rank < length order → ¬ (Contains (ranks_left removed order) rank) → is_taken_out removed (get_or order rank 0) ≡ true
  not_kept rank inside gone = ⊎_elim (λ taken. taken) (λ stays. absurd (gone (left_is_kept rank inside stays))) (cases_Bool (is_taken_out removed (get_or order rank 0)))

  -- a row is left if and only if a rank of it is
  row_is_ranked : (index : ℕ) → Contains order index
      → not (is_taken_out removed index) ≡ list_any (λ rank. get_or order rank 0 == index) (ranks_left removed order)
  row_is_ranked index held = same_truth (not (is_taken_out removed index)) (list_any test (ranks_left removed order)) into back
    where
      test : ℕ → Bool
      test rank = get_or order rank 0 == index

      row_at : get_or order held.0 0 ≡ index
      row_at = get_or_default order held.0 0 index held.1 ∙ held.2

      into : not (is_taken_out removed index) ≡ true → list_any test (ranks_left removed order) ≡ true
      into h = any_of test (ranks_left removed order) held.0
          (left_is_kept held.0 held.1 (ap (is_taken_out removed) row_at ∙ not-true (is_taken_out removed index) h)) (eq-eqb (get_or order held.0 0) index row_at)

      back : list_any test (ranks_left removed order) ≡ true → not (is_taken_out removed index) ≡ true
      back h =
          let rank = found test (ranks_left removed order) h in
          ap not (sym (ap (is_taken_out removed) (eqb-true (get_or order rank.0 0) index rank.2)) ∙ kept_is_left rank.0 rank.1)

  -- the rows that are left are those whose ranks are
  pub rows_are_ranked : (rows : ℕ) → length order ≡ rows → ((index : ℕ) → index < rows → Contains order index)
      → rows_left removed rows ≡ rows_ranked order (ranks_left removed order)
  rows_are_ranked rows many each =
      map_within (λ index. not (is_taken_out removed index)) (λ index. list_any (λ rank. get_or order rank 0 == index) (ranks_left removed order))
      (range_with_len 0 rows) (λ k inside. row_is_ranked (get_or (range_with_len 0 rows) k 0) (subst (Contains order) (sym (number k inside)) (each k (below k inside))))
      ∙ ap (λ n. map (λ index. list_any (λ rank. get_or order rank 0 == index) (ranks_left removed order)) (range_with_len 0 n)) (sym many)
    where
      below : (k : ℕ) → k < length (range_with_len 0 rows) → k < rows
      below k inside = omega (arith, inside, length-range_with_len 0 rows)

      number : (k : ℕ) → k < length (range_with_len 0 rows) → get_or (range_with_len 0 rows) k 0 ≡ k
      number k inside = get_or-range_with_len 0 rows k 0 (below k inside) ∙ omega arith

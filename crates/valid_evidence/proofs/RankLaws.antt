-- The ranks whose marks pass a test, and the rank of a row.
use Rattle.std.proofs.Common.{◌≡◌, ◌≢◌, ℕ, zero, suc, ◌+◌, ◌<◌, ◌≤◌, Bool, true, false, cond, List, [], ◌∷◌, All, length, get_or, refl, ap, subst, ◌∙◌, arith, add-one, inl, inr}
use Rattle.std.specs.Prelude.{◌==◌}
use Rattle.std.proofs.lemmas.Bool.{cond-true, cond-false, eqb-true, eq-eqb, ne_eqb, cases_Bool}
use Rattle.std.proofs.lemmas.List.Elements.{All-nil, All-cons, All-weaker, All-get_or}
use Rattle.std.specs.List.Sorted.{IsStrictlyIncreasing}
use Rattle.accuse_core.specs.declared.mark.Mark.{Mark}
use Rattle.accuse_core.specs.Marks.{ranks_from}
use Rattle.valid_evidence.specs.Rows.{IsOnce, rank_of_row}

-- a number below all of an ascending list may stand before it
ascend_after : (first : ℕ) (ranks : List ℕ) → All (λ rank. first < rank) ranks → IsStrictlyIncreasing ranks → IsStrictlyIncreasing (first ∷ ranks)
ascend_after first ranks below ascends zero inside = All-get_or (λ rank. first < rank) ranks 0 0 (omega arith) below
ascend_after first ranks below ascends (suc k) inside = rw add-one (subst (λ n. get_or ranks k 0 < get_or ranks n 0) (add-one k) (ascends k (omega arith)))

module _ (passes : Mark → Bool) where
  -- ranks from one on are no smaller
  ranks_at_least : (first : ℕ) (marks : List Mark) → All (λ rank. first ≤ rank) (ranks_from passes first marks)
  ranks_at_least first [] = All-nil (λ rank. first ≤ rank)
  ranks_at_least first (mark ∷ marks) =
      let ranks = ranks_from passes (suc first) marks in
      let later = All-weaker (λ rank. suc first ≤ rank) (λ rank. first ≤ rank) (λ rank above. omega arith) ranks (ranks_at_least (suc first) marks) in
      elim (passes mark) as (λ b. All (λ rank. first ≤ rank) (cond b (first ∷ ranks) ranks))
      [ true ↦ All-cons (λ rank. first ≤ rank) first ranks (omega arith) later | false ↦ later ]

  -- they ascend
  pub ranks_ascend : (first : ℕ) (marks : List Mark) → IsStrictlyIncreasing (ranks_from passes first marks)
  ranks_ascend first [] = λ k inside. absurd (omega arith)
  ranks_ascend first (mark ∷ marks) =
      let ranks = ranks_from passes (suc first) marks in
      let above = All-weaker (λ rank. suc first ≤ rank) (λ rank. first < rank) (λ rank after. omega arith) ranks (ranks_at_least (suc first) marks) in
      elim (passes mark) as (λ b. IsStrictlyIncreasing (cond b (first ∷ ranks) ranks))
      [ true ↦ ascend_after first ranks above (ranks_ascend (suc first) marks) | false ↦ ranks_ascend (suc first) marks ]

-- the place of a row is its rank
pub rank_of_place : (order : List ℕ) (rank : ℕ) → IsOnce order → rank < length order → rank_of_row order (get_or order rank 0 + 1) ≡ rank
rank_of_place [] rank once inside = absurd (omega arith)
rank_of_place (index ∷ order) zero once inside = cond-true (index + 1 == index + 1) _ _ (eq-eqb (index + 1) (index + 1) refl)
rank_of_place (index ∷ order) (suc rank) once inside =
    elim (cases_Bool (index + 1 == get_or order rank 0 + 1)) [
      | inl same ↦ absurd (apart (once 0 (suc rank) (omega arith) inside (equal (eqb-true (index + 1) (get_or order rank 0 + 1) same))))
      | inr differs ↦
          cond-false (index + 1 == get_or order rank 0 + 1) _ _ differs
          ∙ ap suc (rank_of_place order rank (λ one other low high same. one_less one other (once (suc one) (suc other) (omega arith) (omega arith) same)) (omega arith))
    ]
  where
    apart : 0 ≡ suc rank → ⊥
    apart h = omega arith

    equal : index + 1 ≡ get_or order rank 0 + 1 → index ≡ get_or order rank 0
    equal h = omega arith

    one_less : (one other : ℕ) → suc one ≡ suc other → one ≡ other
    one_less one other h = omega arith

-- a number that is no row's has no rank
pub no_rank : (order : List ℕ) (row : ℕ) → ((k : ℕ) → k < length order → get_or order k 0 + 1 ≢ row) → rank_of_row order row ≡ length order
no_rank [] row none = refl
no_rank (index ∷ order) row none =
    cond-false (index + 1 == row) _ _ (ne_eqb (index + 1) row (none 0 (omega arith))) ∙ ap suc (no_rank order row (λ k inside. none (suc k) (omega arith)))

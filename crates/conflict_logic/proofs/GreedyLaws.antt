-- Accepting down the ranks, where a test tells which sets are incoherent.
use Rattle.std.proofs.Common.{◌≡◌, ℕ, zero, suc, ◌+◌, Bool, true, false, cond, List, [], ◌∷◌, ◌++◌, Contains, ⊎_elim, refl, subst, sym, ◌∙◌, true≢false, arith}
use Rattle.std.proofs.lemmas.Bool.{cases_lt}
use Rattle.std.proofs.lemmas.List.Elements.{Contains-append_left, Contains-push}
use Rattle.conflict_logic.specs.Sets.{IsClosedUnderAdding}
use Rattle.conflict_logic.specs.Accused.{IsAccused}
use Rattle.conflict_logic.specs.Greedy.{family_of, kept_below, IsExactRepair}
use Rattle.conflict_logic.proofs.RepairLaws.{repair_of_none, repair_with, repair_without, refused_is_accused}

module _ (test : List ℕ → Bool) where
  pub decide : (Goal : Type 0) (ranks : List ℕ) → (family_of test ranks → Goal) → (¬ (family_of test ranks) → Goal) → Goal
  decide Goal ranks if_clash if_not = by_answer (test ranks) refl
    where
      by_answer : (answer : Bool) → test ranks ≡ answer → Goal
      by_answer true is = if_clash is
      by_answer false is = if_not (λ clash. true≢false (sym clash ∙ is))

  module _ (closed : IsClosedUnderAdding (family_of test)) (rank : ℕ) (kept : List ℕ) (before : IsExactRepair (family_of test) rank kept) where
    -- what the test answers of the new rank decides which list is kept
    next : (answer : Bool) → test (kept ++ rank ∷ []) ≡ answer → IsExactRepair (family_of test) (rank + 1) (cond answer kept (kept ++ rank ∷ []))
    next true is = record {
      repair = repair_without (family_of test) closed rank kept before.repair is;
      removed_is_accused = λ other within removed. ⊎_elim (λ earlier. before.removed_is_accused other earlier removed)
          (λ late. let same : rank ≡ other = omega arith in
          subst (IsAccused (family_of test)) same
          (refused_is_accused (family_of test) closed rank kept before.repair (IsAccused (family_of test) rank) (decide (IsAccused (family_of test) rank)) is (λ accused. accused)))
          (cases_lt other rank);
    }
    next false is = record {
      repair = repair_with (family_of test) closed rank kept before.repair (λ clash. true≢false (sym clash ∙ is));
      removed_is_accused = λ other within removed. ⊎_elim (λ earlier. before.removed_is_accused other earlier (λ old. removed (Contains-append_left kept (rank ∷ []) other old)))
          (λ late. let same : rank ≡ other = omega arith in absurd (removed (subst (Contains (kept ++ rank ∷ [])) same (Contains-push kept rank))))
          (cases_lt other rank);
    }

  pub kept_below_is_exact : IsClosedUnderAdding (family_of test) → ¬ (family_of test []) → (count : ℕ) → IsExactRepair (family_of test) count (kept_below test count)
  kept_below_is_exact closed none zero = record {
    repair = repair_of_none (family_of test) none;
    removed_is_accused = λ rank within removed. absurd (omega arith);
  }
  kept_below_is_exact closed none (suc rank) = subst (λ count. IsExactRepair (family_of test) count (kept_below test (suc rank))) (omega arith)
      (next closed rank (kept_below test rank) (kept_below_is_exact closed none rank) (test (kept_below test rank ++ rank ∷ [])) refl)

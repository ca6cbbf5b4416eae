-- One rank more, over a repair of the ranks before it.
use Rattle.std.proofs.Common.{◌≡◌, ◌≢◌, ℕ, ◌<◌, ◌+◌, List, [], ◌∷◌, ◌++◌, Contains, ⊎_elim, subst, sym, arith}
use Rattle.std.proofs.lemmas.Bool.{cases_lt, cases_eq}
use Rattle.std.proofs.lemmas.List.Elements.{Contains-append_left, Contains-push, Contains-push_cases}
use Rattle.conflict_logic.specs.Sets.{IsPart, IsClosedUnderAdding}
use Rattle.conflict_logic.specs.Accused.{IsAccused, IsSpared}
use Rattle.conflict_logic.specs.Repair.{IsRepair}
use Rattle.conflict_logic.proofs.SetLemmas.{Contains-nil, contains_or_not, IsStrictlyIncreasing-push, IsStrictlyIncreasing-unique}
use Rattle.conflict_logic.proofs.AccusedLaws.{accused_opens, accused_closes}
use Rattle.conflict_logic.proofs.ConflictLaws.{with_conflict}

module _ (incoherent : List ℕ → Type 0) where
  pub repair_of_none : ¬ (incoherent []) → IsRepair incoherent 0 []
  repair_of_none coherent = record {
    ascending = λ k within. absurd (omega arith);
    below = λ rank held. absurd (Contains-nil rank held);
    coherent = coherent;
    kept_is_spared = λ rank held. absurd (Contains-nil rank held);
    spared_is_kept = λ rank within. absurd (omega arith);
  }

  -- both keep just the ranks below the count that are spared
  pub one_repair : (count : ℕ) (kept other : List ℕ) → IsRepair incoherent count kept → IsRepair incoherent count other → kept ≡ other
  one_repair count kept other repair repair_too = IsStrictlyIncreasing-unique kept other repair.ascending repair_too.ascending
      (λ rank held. repair_too.spared_is_kept rank (repair.below rank held) (repair.kept_is_spared rank held))
      (λ rank held. repair.spared_is_kept rank (repair_too.below rank held) (repair_too.kept_is_spared rank held))

  module _ (closed : IsClosedUnderAdding incoherent) (rank : ℕ) (kept : List ℕ) (repair : IsRepair incoherent rank kept) where
    holds_newest : (part : List ℕ) → IsPart part (kept ++ rank ∷ []) → incoherent part → Contains part rank
    holds_newest part within together = ⊎_elim (λ held. held)
        (λ lacked. absurd (repair.coherent (closed part kept
        (λ each inside. ⊎_elim (λ old. old) (λ same. absurd (lacked (subst (Contains part) (sym same) inside))) (Contains-push_cases kept rank each (within each inside)))
        together)))
        (contains_or_not part rank)

    others_are_spared : (other : ℕ) → Contains (kept ++ rank ∷ []) other → other ≢ rank → (other < rank) × IsSpared incoherent other
    others_are_spared other held differs =
        ⊎_elim (λ old. (repair.below other old, repair.kept_is_spared other old)) (λ same. absurd (differs (sym same))) (Contains-push_cases kept rank other held)

    -- a conflict among the kept ranks and the new one accuses the new one
    pub refused_is_accused : (Goal : Type 0) → ((ranks : List ℕ) → (incoherent ranks → Goal) → (¬ (incoherent ranks) → Goal) → Goal) → incoherent (kept ++ rank ∷ []) → (IsAccused incoherent rank → Goal) → Goal
    refused_is_accused Goal decide together found = with_conflict incoherent closed Goal decide (kept ++ rank ∷ []) together
        (λ conflict within is_conflict. found (accused_closes incoherent rank (record {
          conflict = conflict;
          is_conflict = is_conflict;
          held = holds_newest conflict within is_conflict.together;
          others = λ other held. others_are_spared other (within other held);
        })))

    -- the conflict that would accuse it is one among kept ranks
    pub accepted_is_spared : ¬ (incoherent (kept ++ rank ∷ [])) → IsSpared incoherent rank
    accepted_is_spared coherent accused =
        let last = accused_opens incoherent rank accused in
        coherent (closed last.conflict (kept ++ rank ∷ [])
        (λ other held. ⊎_elim (λ same. subst (Contains (kept ++ rank ∷ [])) (sym same) (Contains-push kept rank))
        (λ differs. let o = last.others other held differs in Contains-append_left kept (rank ∷ []) other (repair.spared_is_kept other o.0 o.1))
        (cases_eq other rank))
        last.is_conflict.together)

    pub repair_without : incoherent (kept ++ rank ∷ []) → IsRepair incoherent (rank + 1) kept
    repair_without together = record {
      ascending = repair.ascending;
      below = λ other held. omega (arith, repair.below other held);
      coherent = repair.coherent;
      kept_is_spared = repair.kept_is_spared;
      spared_is_kept = λ other within spared. ⊎_elim (λ earlier. repair.spared_is_kept other earlier spared)
          (λ late. let same : rank ≡ other = omega arith in
          absurd (refused_is_accused ⊥ (λ ranks if_clash if_not. if_not if_clash) together (subst (IsSpared incoherent) (sym same) spared)))
          (cases_lt other rank);
    }

    pub repair_with : ¬ (incoherent (kept ++ rank ∷ [])) → IsRepair incoherent (rank + 1) (kept ++ rank ∷ [])
    repair_with coherent = record {
      ascending = IsStrictlyIncreasing-push kept rank repair.ascending repair.below;
      below = λ other held. ⊎_elim (λ old. omega (arith, repair.below other old)) (λ same. omega arith) (Contains-push_cases kept rank other held);
      coherent = coherent;
      kept_is_spared = λ other held. ⊎_elim (repair.kept_is_spared other) (λ same. subst (IsSpared incoherent) same (accepted_is_spared coherent)) (Contains-push_cases kept rank other held);
      spared_is_kept = λ other within spared. ⊎_elim (λ earlier. Contains-append_left kept (rank ∷ []) other (repair.spared_is_kept other earlier spared))
          (λ late. let same : rank ≡ other = omega arith in subst (Contains (kept ++ rank ∷ [])) same (Contains-push kept rank))
          (cases_lt other rank);
    }

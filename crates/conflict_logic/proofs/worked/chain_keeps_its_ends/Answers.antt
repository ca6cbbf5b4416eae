use Rattle.std.proofs.Common.{◌≡◌, ℕ, [], ◌∷◌, Contains, ⊎_elim, subst, arith}
use Rattle.std.proofs.lemmas.Bool.{cases_eq}
use Rattle.std.proofs.lemmas.List.Elements.{Contains-push_cases}
use Rattle.conflict_logic.specs.Accused.{IsAccused}
use Rattle.conflict_logic.specs.Worked.{IsChained}
use Rattle.conflict_logic.proofs.SetLemmas.{Contains-nil, Contains-cons_head, Contains-cons_tail, Contains-pair_cases, IsStrictlyIncreasing-push}
use Rattle.conflict_logic.proofs.WorkedLaws.{chain_accuses_its_second, chain_accuses_no_other}
use Rattle.conflict_logic.proofs.worked.chain_keeps_its_ends.Goals as goal

lacks_middle : Contains {X = ℕ} (0 ∷ 2 ∷ []) 1 → ⊥
lacks_middle held = ⊎_elim (λ same. omega arith) (λ same. omega arith) (Contains-pair_cases 0 2 1 held)

pub returns : goal.returns
returns c = record {
  ascending = IsStrictlyIncreasing-push (0 ∷ []) 2 (λ k within. absurd (omega arith)) (λ other held. ⊎_elim (λ none. absurd (Contains-nil other none)) (λ same. omega arith) (Contains-push_cases [] 0 other held));
  below = λ rank held. ⊎_elim (λ same. omega arith) (λ same. omega arith) (Contains-pair_cases 0 2 rank held);
  coherent = λ clash. lacks_middle (⊎_elim (λ both. both.1) (λ both. both.0) clash);
  kept_is_spared = λ rank held accused.
      lacks_middle (subst (Contains {X = ℕ} (0 ∷ 2 ∷ [])) (chain_accuses_no_other rank accused) held);
  spared_is_kept = λ rank within spared. ⊎_elim
      (λ first. subst (Contains {X = ℕ} (0 ∷ 2 ∷ [])) first (Contains-cons_head 0 (2 ∷ [])))
      (λ not_first. ⊎_elim
      (λ middle. absurd (spared (subst (IsAccused IsChained) middle chain_accuses_its_second)))
      (λ not_middle. let third : 2 ≡ rank = omega arith in subst (Contains {X = ℕ} (0 ∷ 2 ∷ [])) third (Contains-cons_tail 0 (2 ∷ []) 2 (Contains-cons_head 2 [])))
      (cases_eq 1 rank))
      (cases_eq 0 rank);
}

-- Certificates: ranks that refute others, and ranks that are known to be the repair.
use Rattle.std.proofs.Common.{◌≡◌, ◌≢◌, ◌⊎◌, ℕ, zero, suc, ◌<◌, ◌≤◌, Bool, List, [], ◌∷◌, ◌++◌, Contains, inl, inr, ⊎_elim, refl, subst, sym, ◌∙◌, arith}
use Rattle.std.proofs.lemmas.Bool.{cases_lt, cases_eq}
use Rattle.std.proofs.lemmas.List.Elements.{Contains-append_left, Contains-push, Contains-push_cases}
use Rattle.conflict_logic.specs.Sets.{IsClosedUnderAdding, IsConflict}
use Rattle.conflict_logic.specs.Accused.{IsAccused, IsSpared}
use Rattle.conflict_logic.specs.Repair.{IsRepair}
use Rattle.conflict_logic.specs.Greedy.{family_of, IsExactRepair}
use Rattle.conflict_logic.specs.Certificate.{IsRefuted, IsCertified}
use Rattle.conflict_logic.proofs.SetLemmas.{Contains-nil, Contains-cons_head, Contains-cons_tail, Contains-cons_cases, contains_or_not}
use Rattle.conflict_logic.proofs.AccusedLaws.{accused_opens, accused_closes}
use Rattle.conflict_logic.proofs.ConflictLaws.{with_conflict}
use Rattle.conflict_logic.proofs.GreedyLaws.{decide}

-- the greatest rank of a list, and that it is one
record Greatest (ranks : List ℕ) : Type 0 where
  top : ℕ
  held : Contains ranks top
  above : (other : ℕ) → Contains ranks other → other ≤ top

-- one rank more in front of a list whose greatest rank is known
greatest_with : (first : ℕ) (ranks : List ℕ) → Greatest ranks → Greatest (first ∷ ranks)
greatest_with first ranks g = ⊎_elim
    (λ (less : first < g.top). record {
      top = g.top;
      held = Contains-cons_tail first ranks g.top g.held;
      above = λ other held. ⊎_elim (λ (same : first ≡ other). omega arith) (g.above other) (Contains-cons_cases first ranks other held);
    })
    (λ (more : g.top ≤ first). record {
      top = first;
      held = Contains-cons_head first ranks;
      above = λ other held. ⊎_elim (λ (same : first ≡ other). omega arith)
          (λ rest. let under = g.above other rest in omega arith) (Contains-cons_cases first ranks other held);
    })
    (cases_lt first g.top)

-- a list is empty or has a greatest rank
greatest : (ranks : List ℕ) → (ranks ≡ []) ⊎ Greatest ranks
greatest [] = inl refl
greatest (first ∷ ranks) = inr (⊎_elim
    (λ (none : ranks ≡ []). record {
      top = first;
      held = Contains-cons_head first ranks;
      above = λ other held. ⊎_elim (λ (same : first ≡ other). omega arith)
          (λ rest. absurd (Contains-nil other (subst (λ xs. Contains xs other) none rest))) (Contains-cons_cases first ranks other held);
    })
    (greatest_with first ranks) (greatest ranks))

module _ (incoherent : List ℕ → Type 0) (closed : IsClosedUnderAdding incoherent) where
  -- the greatest rank of a conflict is accused if the others are spared
  greatest_is_accused : (conflict : List ℕ) → IsConflict incoherent conflict → (g : Greatest conflict)
      → ((other : ℕ) → Contains conflict other → other ≢ g.top → IsSpared incoherent other) → IsAccused incoherent g.top
  greatest_is_accused conflict is g spared = accused_closes incoherent g.top (record {
    conflict = conflict;
    is_conflict = is;
    held = g.held;
    others = λ other held differs. let under = g.above other held in (omega arith, spared other held differs);
  })

  -- spared ranks before a rank that are incoherent with it hold a conflict, the last of which can only be that rank
  pub refuted_is_accused : (Goal : Type 0) → ((ranks : List ℕ) → (incoherent ranks → Goal) → (¬ (incoherent ranks) → Goal) → Goal)
      → ¬ (incoherent []) → (rank : ℕ) → IsRefuted incoherent (IsSpared incoherent) rank → (IsAccused incoherent rank → Goal) → Goal
  refuted_is_accused Goal decides none rank r found = with_conflict incoherent closed Goal decides (r.others ++ rank ∷ []) r.together
      (λ conflict within is. ⊎_elim
      (λ (empty : conflict ≡ []). absurd (none (subst incoherent empty is.together)))
      (λ (g : Greatest conflict).
      let each : (other : ℕ) → Contains conflict other → (Contains r.others other) ⊎ (rank ≡ other) = λ other held. Contains-push_cases r.others rank other (within other held) in
      let before : (other : ℕ) → Contains conflict other → other ≤ rank = λ other held. ⊎_elim (λ old. let e = (r.each other old).0 in omega arith) (λ (same : rank ≡ other). omega arith) (each other held) in
      ⊎_elim
      (λ old. absurd ((r.each g.top old).1 (greatest_is_accused conflict is g
      (λ other held differs. ⊎_elim (λ inside. (r.each other inside).1)
      (λ (same : rank ≡ other). let low = (r.each g.top old).0 in let under = g.above other held in absurd (omega arith))
      (each other held)))))
      (λ (same : rank ≡ g.top). found (subst (IsAccused incoherent) (sym same) (greatest_is_accused conflict is g
      (λ other held differs. ⊎_elim (λ inside. (r.each other inside).1) (λ is_rank. absurd (differs (sym is_rank ∙ same))) (each other held)))))
      (each g.top g.held))
      (greatest conflict))

  pub refuted_is_not_spared : ¬ (incoherent []) → (rank : ℕ) → IsRefuted incoherent (IsSpared incoherent) rank → ¬ (IsSpared incoherent rank)
  refuted_is_not_spared none rank r spared = refuted_is_accused ⊥ (λ ranks if_clash if_not. if_not if_clash) none rank r spared

  -- the conflict that would accuse it is among these ranks and itself
  pub spared_by_all : (rank : ℕ) (ranks : List ℕ) → ((other : ℕ) → other < rank → IsSpared incoherent other → Contains ranks other)
      → ¬ (incoherent (ranks ++ rank ∷ [])) → IsSpared incoherent rank
  spared_by_all rank ranks all coherent accused =
      let last = accused_opens incoherent rank accused in
      coherent (closed last.conflict (ranks ++ rank ∷ [])
      (λ other held. ⊎_elim (λ same. subst (Contains (ranks ++ rank ∷ [])) (sym same) (Contains-push ranks rank))
      (λ differs. let o = last.others other held differs in Contains-append_left ranks (rank ∷ []) other (all other o.0 o.1))
      (cases_eq other rank))
      last.is_conflict.together)

  module _ (count : ℕ) (kept : List ℕ) (certified : IsCertified incoherent count kept) where
    none : ¬ (incoherent [])
    none together = certified.coherent (closed [] kept (λ rank held. absurd (Contains-nil rank held)) together)

    -- if kept ranks before a rank are spared, what refutes it is spared
    refuted_too : (rank : ℕ) → ((other : ℕ) → other < rank → Contains kept other → IsSpared incoherent other)
        → rank < count → ¬ (Contains kept rank) → IsRefuted incoherent (IsSpared incoherent) rank
    refuted_too rank spared inside lacked =
        let r = certified.refuted rank inside lacked in
        record {
          others = r.others;
          each = λ other held. let e = r.each other held in (e.0, spared other e.0 e.1);
          together = r.together;
        }

    -- below a bound, a rank is kept exactly if it is spared
    settled : (bound rank : ℕ) → rank < bound → rank < count
        → (Contains kept rank → IsSpared incoherent rank) × (IsSpared incoherent rank → Contains kept rank)
    settled zero rank within inside = absurd (omega arith)
    settled (suc bound) rank within inside = (
      λ held accused. let last = accused_opens incoherent rank accused in
          certified.coherent (closed last.conflict kept
          (λ other stands. ⊎_elim (λ same. subst (Contains kept) (sym same) held)
          (λ differs. let o = last.others other stands differs in
          let low = o.0 in (settled bound other (omega arith) (omega arith)).1 o.1)
          (cases_eq other rank))
          last.is_conflict.together),
      λ spared. ⊎_elim (λ held. held)
          (λ lacked. absurd (refuted_is_not_spared none rank
          (refuted_too rank (λ other before held. (settled bound other (omega arith) (omega arith)).0 held) inside lacked) spared))
          (contains_or_not kept rank),
    )

    pub certified_repair : IsRepair incoherent count kept
    certified_repair = record {
      ascending = certified.ascending;
      below = certified.below;
      coherent = certified.coherent;
      kept_is_spared = λ rank held. let inside = certified.below rank held in (settled (suc rank) rank (omega arith) inside).0 held;
      spared_is_kept = λ rank inside spared. (settled (suc rank) rank (omega arith) inside).1 spared;
    }

    -- kept ranks are spared, so what they refute is refuted by spared ranks
    pub certified_refuted : (rank : ℕ) → rank < count → ¬ (Contains kept rank) → IsRefuted incoherent (IsSpared incoherent) rank
    certified_refuted rank = refuted_too rank (λ other before held. let inside = certified.below other held in (settled (suc other) other (omega arith) inside).0 held)

    pub nothing_is_coherent : ¬ (incoherent [])
    nothing_is_coherent = none

module _ (test : List ℕ → Bool) (closed : IsClosedUnderAdding (family_of test)) where
  pub refuted_is_accused_by_test : ¬ (family_of test []) → (rank : ℕ) → IsRefuted (family_of test) (IsSpared (family_of test)) rank → IsAccused (family_of test) rank
  refuted_is_accused_by_test none rank r = refuted_is_accused (family_of test) closed (IsAccused (family_of test) rank) (decide test (IsAccused (family_of test) rank)) none rank r (λ accused. accused)

  pub certified_exact : (count : ℕ) (kept : List ℕ) → IsCertified (family_of test) count kept → IsExactRepair (family_of test) count kept
  certified_exact count kept certified = record {
    repair = certified_repair (family_of test) closed count kept certified;
    removed_is_accused = λ rank inside lacked. refuted_is_accused_by_test
        (nothing_is_coherent (family_of test) closed count kept certified) rank (certified_refuted (family_of test) closed count kept certified rank inside lacked);
  }

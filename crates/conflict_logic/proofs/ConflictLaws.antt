-- Every incoherent set has a conflict in it, as far as incoherent sets can be told from others.
use Rattle.std.proofs.Common.{◌≡◌, ℕ, List, [], ◌∷◌, ◌++◌, Contains, append_assoc, ◌∙◌, refl, sym, subst, ⊎_elim}
use Rattle.std.proofs.lemmas.List.{append-nil}
use Rattle.std.proofs.lemmas.List.Elements.{Contains-push_cases}
use Rattle.conflict_logic.specs.Sets.{IsPart, IsClosedUnderAdding, IsConflict}
use Rattle.conflict_logic.proofs.SetLemmas.{Contains-nil, Contains-with_more, Contains-without_other}

-- no part of the whole that lacks one of these is incoherent
abbrev pub AreNeeded : (List ℕ → Type 0) → List ℕ → List ℕ → Type 0
AreNeeded incoherent needed whole = (rank : ℕ) → Contains needed rank → (part : List ℕ) → IsPart part whole → ¬ (Contains part rank) → ¬ (incoherent part)

-- each goal may ask in its own way which sets are incoherent: a truth value answers any goal, and with none the goal may still be ⊥
module _ (incoherent : List ℕ → Type 0) (closed : IsClosedUnderAdding incoherent) (Goal : Type 0) (decide : (ranks : List ℕ) → (incoherent ranks → Goal) → (¬ (incoherent ranks) → Goal) → Goal) where
  -- one rank after another is left out where the others are still incoherent, and else it is needed
  narrow : (whole needed rest : List ℕ) → needed ++ rest ≡ whole → incoherent whole → AreNeeded incoherent needed whole → ((conflict : List ℕ) → IsPart conflict whole → IsConflict incoherent conflict → Goal) → Goal
  narrow whole needed [] all together need found =
      found whole (λ rank held. held) (record {
        together = together;
        least = λ part proper. need proper.missing (subst (λ ranks. Contains ranks proper.missing) (sym all ∙ append-nil needed) proper.held) part proper.within proper.lacked;
      })
  narrow whole needed (rank ∷ rest) all together need found =
      let into : IsPart (needed ++ rest) whole = λ other held. subst (λ ranks. Contains ranks other) all (Contains-with_more needed rank rest other held) in
      decide (needed ++ rest)
      (λ still. narrow (needed ++ rest) needed rest refl still
      (λ other held part within. need other held part (λ each inside. into each (within each inside)))
      (λ conflict within. found conflict (λ each inside. into each (within each inside))))
      (λ coherent. narrow whole (needed ++ rank ∷ []) rest (append_assoc needed (rank ∷ []) rest ∙ all) together
      (λ other held part within lacked. ⊎_elim (λ old. need other old part within lacked)
      (λ (same : rank ≡ other) worse. coherent (closed part (needed ++ rest)
      (λ each inside. Contains-without_other needed rank rest each
      (λ same_too. lacked (subst (Contains part) (sym same_too ∙ same) inside))
      (subst (λ ranks. Contains ranks each) (sym all) (within each inside))) worse))
      (Contains-push_cases needed rank other held))
      found)

  pub with_conflict : (whole : List ℕ) → incoherent whole → ((conflict : List ℕ) → IsPart conflict whole → IsConflict incoherent conflict → Goal) → Goal
  with_conflict whole together = narrow whole [] whole refl together (λ rank held. absurd (Contains-nil rank held))

-- The recursion down the ranks answers the same from every bound above a rank.
use Rattle.std.proofs.Common.{ℕ, zero, suc, ◌<◌, List, arith}
use Rattle.conflict_logic.specs.Accused.{IsLastOfConflict, IsAccusedBelow, IsAccused, IsSpared}

module _ (incoherent : List ℕ → Type 0) where
  -- what each other rank needs may be said in other words
  pub other_words : (rank : ℕ) (spared spared' : ℕ → Type 0) → ((other : ℕ) → other < rank → spared other → spared' other) → IsLastOfConflict incoherent spared rank → IsLastOfConflict incoherent spared' rank
  other_words rank spared spared' turn last = record {
    conflict = last.conflict;
    is_conflict = last.is_conflict;
    held = last.held;
    others = λ other h differs. let o = last.others other h differs in (o.0, turn other o.0 o.1);
  }

  -- both ways at once, since each step down turns the direction
  pub from_any_bound : (bound bound' rank : ℕ) → rank < bound → rank < bound' → (IsAccusedBelow incoherent bound rank → IsAccusedBelow incoherent bound' rank) × (IsAccusedBelow incoherent bound' rank → IsAccusedBelow incoherent bound rank)
  from_any_bound zero bound' rank l m = absurd (omega arith)
  from_any_bound (suc bound) zero rank l m = absurd (omega arith)
  from_any_bound (suc bound) (suc bound') rank l m = (
    other_words rank (λ other. ¬ (IsAccusedBelow incoherent bound other)) (λ other. ¬ (IsAccusedBelow incoherent bound' other))
        (λ other lt spared accused. spared ((from_any_bound bound bound' other (omega arith) (omega arith)).1 accused)),
    other_words rank (λ other. ¬ (IsAccusedBelow incoherent bound' other)) (λ other. ¬ (IsAccusedBelow incoherent bound other))
        (λ other lt spared accused. spared ((from_any_bound bound bound' other (omega arith) (omega arith)).0 accused)),
  )

  pub accused_opens : (rank : ℕ) → IsAccused incoherent rank → IsLastOfConflict incoherent (IsSpared incoherent) rank
  accused_opens rank a = other_words rank (λ other. ¬ (IsAccusedBelow incoherent rank other)) (IsSpared incoherent)
      (λ other lt spared accused. spared ((from_any_bound (suc other) rank other (omega arith) lt).0 accused)) a

  pub accused_closes : (rank : ℕ) → IsLastOfConflict incoherent (IsSpared incoherent) rank → IsAccused incoherent rank
  accused_closes rank last = other_words rank (IsSpared incoherent) (λ other. ¬ (IsAccusedBelow incoherent rank other))
      (λ other lt spared accused. spared ((from_any_bound rank (suc other) other lt (omega arith)).0 accused)) last

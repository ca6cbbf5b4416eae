-- Families with the same incoherent sets have the same repairs.
use Rattle.std.proofs.Common.{ℕ, zero, suc, List}
use Rattle.conflict_logic.specs.Sets.{IsConflict}
use Rattle.conflict_logic.specs.Accused.{IsLastOfConflict, IsAccusedBelow}
use Rattle.conflict_logic.specs.Repair.{IsRepair}

-- a conflict of one is a conflict of the other
conflict_stays : (one other : List ℕ → Type 0) → ((ranks : List ℕ) → one ranks → other ranks)
    → ((ranks : List ℕ) → other ranks → one ranks) → (ranks : List ℕ) → IsConflict one ranks → IsConflict other ranks
conflict_stays one other into back ranks c = record {
  together = into ranks c.together;
  least = λ part proper h. c.least part proper (back part h);
}

-- the last rank of a conflict stays it, if the kind of the others stays
last_stays : (one other : List ℕ → Type 0) → ((ranks : List ℕ) → one ranks → other ranks)
    → ((ranks : List ℕ) → other ranks → one ranks) → (kind more : ℕ → Type 0) → ((rank : ℕ) → kind rank → more rank)
    → (rank : ℕ) → IsLastOfConflict one kind rank → IsLastOfConflict other more rank
last_stays one other into back kind more kinds rank h = record {
  conflict = h.conflict;
  is_conflict = conflict_stays one other into back h.conflict h.is_conflict;
  held = h.held;
  others = λ r c differs. let before = h.others r c differs in (before.0, kinds r before.1);
}

-- what is accused in one is accused in the other
accused_stays : (one other : List ℕ → Type 0) → ((ranks : List ℕ) → one ranks → other ranks)
    → ((ranks : List ℕ) → other ranks → one ranks) → (bound rank : ℕ) → IsAccusedBelow one bound rank → IsAccusedBelow other bound rank
accused_stays one other into back zero rank h = absurd h
accused_stays one other into back (suc bound) rank h =
    last_stays one other into back (λ r. ¬ (IsAccusedBelow one bound r)) (λ r. ¬ (IsAccusedBelow other bound r))
    (λ r spared accused. spared (accused_stays other one back into bound r accused)) rank h

-- a repair of one is a repair of the other
pub same_repair : (one other : List ℕ → Type 0) → ((ranks : List ℕ) → one ranks → other ranks)
    → ((ranks : List ℕ) → other ranks → one ranks) → (count : ℕ) (kept : List ℕ) → IsRepair one count kept → IsRepair other count kept
same_repair one other into back count kept r = record {
  ascending = r.ascending;
  below = r.below;
  coherent = λ h. r.coherent (back kept h);
  kept_is_spared = λ rank held accused. r.kept_is_spared rank held (accused_stays other one back into (suc rank) rank accused);
  spared_is_kept = λ rank below spared. r.spared_is_kept rank below (λ accused. spared (accused_stays one other into back (suc rank) rank accused));
}

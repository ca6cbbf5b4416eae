-- What the marks say of the ranks.
use Rattle.std.specs.Prelude.{◌≡◌, ℕ, ◌<◌, true, List, Contains}
use Rattle.std.specs.List.Sorted.{IsStrictlyIncreasing}
use Rattle.conflict_logic.specs.Accused.{IsSpared}
use Rattle.conflict_logic.specs.Certificate.{IsRefuted}
use Rattle.accuse_core.specs.declared.mark.Mark.{Mark}
use Rattle.accuse_core.specs.declared.mark.Mark.TheVariants.{Kept, Removed}
use Rattle.accuse_core.specs.Marks.{is_decided, mark_at, kept_of, front_of}

-- no rank from the front on is kept
abbrev pub AreKeptBeforeFront : List Mark → Type 0
AreKeptBeforeFront marks = (rank : ℕ) → Contains (kept_of marks) rank → rank < front_of marks

-- kept ranks are spared, removed ones are not, since kept ranks before them refute them; all ranks
-- before the front are decided; the kept ranks ascend, and together they are coherent
pub record AreSound (incoherent : List ℕ → Type 0) (marks : List Mark) : Type 0 where
  pub kept_is_spared : (rank : ℕ) → mark_at marks rank ≡ Kept → IsSpared incoherent rank
  pub removed_is_not_spared : (rank : ℕ) → mark_at marks rank ≡ Removed
      → ¬ (IsSpared incoherent rank)
  pub removed_is_refuted : (rank : ℕ) → mark_at marks rank ≡ Removed
      → IsRefuted incoherent (Contains (kept_of marks)) rank
  pub decided_before_front : (rank : ℕ) → rank < front_of marks
      → is_decided (mark_at marks rank) ≡ true
  pub kept_before_front : AreKeptBeforeFront marks
  pub kept_ascends : IsStrictlyIncreasing (kept_of marks)
  pub kept_is_coherent : ¬ (incoherent (kept_of marks))

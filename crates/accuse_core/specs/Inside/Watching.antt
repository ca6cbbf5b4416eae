-- What allowed events keep true of the marks.
use Rattle.std.specs.Prelude.{◌≡◌, ℕ, ◌≤◌, true, false, List, [], ◌∷◌, ◌++◌, take, length, Contains}
use Rattle.conflict_logic.specs.Certificate.{IsRefuted}
use Rattle.accuse_core.specs.declared.mark.Mark.{Mark}
use Rattle.accuse_core.specs.declared.mark.Mark.TheVariants.{Yes}
use Rattle.accuse_core.specs.Marks.{is_removed, is_yes_over, mark_at, kept_of, number_kept, front_of}
use Rattle.accuse_core.specs.Inside.Tracking.{NoneKeptFrom}

-- this number of the first kept ranks are coherent with a rank
pub record IsNoted (incoherent : List ℕ → Type 0) (kept : List ℕ) (seen rank : ℕ) : Type 0 where
  pub few : seen ≤ length kept
  pub coherent : ¬ (incoherent (take seen kept ++ rank ∷ []))

-- each removed rank is refuted by kept ones; nothing is kept from the front on; the kept ranks are
-- coherent; and each yes is over kept ranks, and true of them
pub record AreWatched (incoherent : List ℕ → Type 0) (marks : List Mark) : Type 0 where
  pub refuted : (rank : ℕ) → is_removed (mark_at marks rank) ≡ true
      → IsRefuted incoherent (Contains (kept_of marks)) rank
  pub ahead : NoneKeptFrom marks (front_of marks)
  pub coherent : ¬ (incoherent (kept_of marks))
  pub noted : (rank seen : ℕ) → mark_at marks rank ≡ Yes seen
      → ¬ (incoherent (take seen (kept_of marks) ++ rank ∷ []))
  pub seen : (rank seen : ℕ) → mark_at marks rank ≡ Yes seen → seen ≤ number_kept marks

-- and the rank at the front doesn't wait to be kept
pub record AreAtRest (incoherent : List ℕ → Type 0) (marks : List Mark) : Type 0 where
  pub watched : AreWatched incoherent marks
  pub rest : is_yes_over (number_kept marks) (mark_at marks (front_of marks)) ≡ false

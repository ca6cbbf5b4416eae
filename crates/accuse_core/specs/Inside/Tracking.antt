-- How the vectors of the core hold the marks.
use Rattle.std.specs.Prelude.{◌≡◌, ℕ, ◌≤◌, ◌<◌, ◌^◌, false, List, length}
use Rattle.accuse_core.specs.declared.mark.Mark.{Mark}
use Rattle.accuse_core.specs.Marks.{is_kept, mark_at, kept_of}

-- no rank from this one on is kept
abbrev pub NoneKeptFrom : List Mark → ℕ → Type 0
NoneKeptFrom marks first = (rank : ℕ) → first ≤ rank → is_kept (mark_at marks rank) ≡ false

-- the kept ranks are listed, all of them before this rank, and there is room for every rank
pub record AreTracked (marks : List Mark) (first : ℕ) (kept : List ℕ) (room : ℕ) : Type 0 where
  pub listed : kept ≡ kept_of marks
  pub ahead : NoneKeptFrom marks first
  pub enough : length marks ≤ room
  pub small : length marks < 2 ^ 32

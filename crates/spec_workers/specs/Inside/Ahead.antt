-- A verdict that was found before its rank was taken.
use Rattle.std.specs.Prelude.{ℕ, List, [], ◌∷◌, ◌++◌, ◌≡◌}
use Rattle.case_file.specs.Cases.{CaseView}
use Rattle.accuse_core.specs.declared.journal.Entry.{Entry}
use Rattle.commit_lock.specs.Entries.{IsBeginning}
use Rattle.saturate.specs.Decisions.{IsVerdict}
use Rattle.spec_workers.specs.declared.ahead.Ahead.{Ahead}
use Rattle.spec_workers.specs.Inside.Asked.{IsTakenAt}

-- it is of this rank, over what was kept after a beginning of these entries
pub record IsFoundAhead (case : CaseView) (entries : List Entry) (rank : ℕ) (found : Ahead)
    : Type 0 where
  pub rank_is : found.taken.rank ≡ rank
  pub earlier : List Entry
  pub begins : IsBeginning earlier entries
  pub taken : IsTakenAt case earlier found.taken
  pub verdict : IsVerdict case (found.taken.snapshot.ranks ++ found.taken.rank ∷ []) found.verdict

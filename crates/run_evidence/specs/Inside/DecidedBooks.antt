-- A book in which every rank is decided.
use Rattle.std.specs.Prelude.{◌≡◌, ◌↔◌, ℕ, ◌<◌, true, List, length, Option, Contains}
use Rattle.derivation.specs.declared.types.Step.{Step}
use Rattle.accuse_core.specs.declared.mark.Mark.{Mark}
use Rattle.accuse_core.specs.declared.mark.Mark.TheVariants.{Kept}
use Rattle.accuse_core.specs.Marks.{is_decided, mark_at, kept_of}
use Rattle.case_file.specs.Cases.{CaseView}
use Rattle.commit_book.specs.Books.{why_at, IsWhyOf}
use Rattle.run_evidence.specs.Tellable.{IsEachOnce}

-- each row has one rank, each rank is kept or removed, and each removed one has its derivation
pub record IsDecidedBook (case : CaseView) (marks : List Mark) (whys : List (Option (List Step)))
    : Type 0 where
  pub once : IsEachOnce case.order
  pub count : length marks ≡ length case.order
  pub each : (rank : ℕ) → IsWhyOf case (kept_of marks) rank (mark_at marks rank) (why_at whys rank)
  pub decided : (rank : ℕ) → rank < length case.order → is_decided (mark_at marks rank) ≡ true
  pub held : (rank : ℕ) → Contains (kept_of marks) rank ↔ (mark_at marks rank ≡ Kept)

-- How far a run from the front is known.
use Rattle.std.specs.Prelude.{◌≡◌, ℕ, ◌+◌, ◌≤◌, if◌then◌else◌, List, [], ◌∷◌, ◌++◌, MatchOption}
use Rattle.el_logic.specs.declared.types.Part.{Part}
use Rattle.case_file.specs.Incoherence.{IsIncoherentFor}
use Rattle.derivation.specs.declared.types.Step.{Step}
use Rattle.derivation.specs.Steps.{IsGoodDerivation}
use Rattle.accuse_core.specs.declared.mark.Mark.{Mark}
use Rattle.accuse_core.specs.Marks.{is_removed, mark_at, front_of, kept_of, block_of}
use Rattle.commit_book.specs.Books.{BookView, IsTableFor, ranks_of}
use Rattle.finish_book.specs.declared.runs.Run.{Run}

-- the rank, unless it is removed
abbrev pub open_at : List Mark → ℕ → List ℕ
open_at marks rank = if is_removed (mark_at marks rank) then [] else rank ∷ []

-- the kept ranks, followed by those of this number of ranks from the front on that are not removed
abbrev pub with_run : BookView → ℕ → List ℕ
with_run book count = kept_of book.marks ++ block_of book.marks (front_of book.marks) count

-- so many ranks from the front on are incoherent with the kept ones, as the derivation shows
pub record IsTooLong (book : BookView) (count : ℕ) (steps : List Step) : Type 0 where
  pub inside : front_of book.marks + count ≤ ranks_of book.case
  pub incoherent : IsIncoherentFor book.case Part.Both (with_run book count)
  pub good : IsGoodDerivation book.case Part.Both (with_run book count) steps

-- the known ranks are coherent with the kept ones, as the table shows. The further ones may be too.
-- One more is too many, or they end with the last rank.
pub record IsRun (book : BookView) (run : Run) : Type 0 where
  pub inside : front_of book.marks + (run.known + run.further) ≤ ranks_of book.case
  pub table : IsTableFor book.case (with_run book run.known) run.table
  pub end : MatchOption run.why
      (front_of book.marks + (run.known + run.further) ≡ ranks_of book.case)
      (IsTooLong book (run.known + run.further + 1))

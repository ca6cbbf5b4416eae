-- How a run ends: with the last rank, or with one that is removed.
use Rattle.std.proofs.Common.{◌≡◌, ℕ, ◌+◌, ◌<◌, ◌≤◌, false, List, [], ◌∷◌, ◌++◌, Contains, length, take, ap, sym, subst, ◌∙◌, arith}
use Rattle.std.specs.Prelude.{Option, Some, None, MatchOption}
use Rattle.el_logic.specs.declared.types.Part.{Part}
use Rattle.case_file.specs.Cases.{CaseView}
use Rattle.case_file.specs.Incoherence.{IsIncoherentFor}
use Rattle.derivation.specs.declared.types.Step.{Step}
use Rattle.derivation.specs.Steps.{IsGoodDerivation}
use Rattle.accuse_core.specs.declared.mark.Mark.TheVariants.{Kept}
use Rattle.accuse_core.specs.Marks.{is_decided, mark_at, front_of, kept_of, number_kept}
use Rattle.commit_book.specs.Books.{BookView, ranks_of}
use Rattle.finish_book.specs.declared.runs.Run.{Run}
use Rattle.finish_book.specs.Inside.Runs.{IsRun, IsTooLong, with_run}
use Rattle.finish_book.specs.Inside.Rounds.{KeepsRun}
use Rattle.finish_book.proofs.DecideLemmas.{next_is_undecided, why_is_over, enough_seen}

-- nothing was too long: the run ends with the last rank
pub ends_last : (book : BookView) (run : Run) → IsRun book run → run.further ≡ 0 → run.why ≡ None → front_of book.marks + run.known ≡ ranks_of book.case
ends_last book run is_run no_more none =
    let all : front_of book.marks + (run.known + run.further) ≡ ranks_of book.case =
    subst (λ (why : Option (List Step)). MatchOption why (front_of book.marks + (run.known + run.further) ≡ ranks_of book.case) (IsTooLong book (run.known + run.further + 1)))
    none is_run.end in omega arith

-- one rank more is too long
module _ (book kept : BookView) (run : Run) (why : List Step) (is_run : IsRun book run) (no_more : run.further ≡ 0) (has : run.why ≡ Some why)
    (keeps : KeepsRun run.known book kept) (counted : length book.marks ≡ ranks_of book.case)
    (more_stay : (case : CaseView) (part : Part) (ranks more : List ℕ) → ((rank : ℕ) → Contains ranks rank → Contains more rank) → IsIncoherentFor case part ranks → IsIncoherentFor case part more)
    (sound : IsIncoherentFor kept.case Part.Both (kept_of kept.marks) → ⊥)
    (listed : (rank : ℕ) → mark_at kept.marks rank ≡ Kept → Contains (kept_of kept.marks) rank) where
  abbrev incoherent : List ℕ → Type 0
  incoherent ranks = IsIncoherentFor book.case Part.Both ranks

  too_long : IsTooLong book (run.known + 1) why
  too_long =
      let one : run.known + run.further + 1 ≡ run.known + 1 = omega arith in
      subst (λ n. IsTooLong book n why) one
      (subst (λ (o : Option (List Step)). MatchOption o (front_of book.marks + (run.known + run.further) ≡ ranks_of book.case) (IsTooLong book (run.known + run.further + 1)))
      has is_run.end)

  inside : front_of book.marks + run.known < length book.marks
  inside = let last = too_long.inside in omega arith

  coherent : incoherent (kept_of kept.marks) → ⊥
  coherent together = sound (subst (λ (case : CaseView). IsIncoherentFor case Part.Both (kept_of kept.marks)) (sym keeps.goes_on.case_is) together)

  pub next_inside : front_of book.marks + run.known < ranks_of kept.case
  next_inside = let same = ap ranks_of keeps.goes_on.case_is in let here = inside in omega arith

  pub next_open : is_decided (mark_at kept.marks (front_of book.marks + run.known)) ≡ false
  next_open = next_is_undecided incoherent (more_stay book.case Part.Both) book.marks kept.marks (front_of book.marks) run.known keeps.rest inside keeps.kept coherent
      too_long.incoherent (keeps.removed (front_of book.marks + run.known)) (listed (front_of book.marks + run.known))

  run_is : (seen : ℕ) → seen ≡ length run.table.ranks → seen ≡ length (with_run book run.known)
  run_is seen same = same ∙ ap (λ (ranks : List ℕ). length ranks) is_run.table.ranks_are

  pub seen_enough : (seen : ℕ) → seen ≡ length run.table.ranks → seen ≤ number_kept kept.marks
  seen_enough seen same = enough_seen incoherent (more_stay book.case Part.Both) book.marks kept.marks (front_of book.marks) run.known keeps.rest inside keeps.kept coherent
      too_long.incoherent seen (run_is seen same)

  pub why_good : (seen : ℕ) → seen ≡ length run.table.ranks
      → IsGoodDerivation kept.case Part.Both (take seen (kept_of kept.marks) ++ (front_of book.marks + run.known) ∷ []) why
  why_good seen same =
      subst (λ (case : CaseView). IsGoodDerivation case Part.Both (take seen (kept_of kept.marks) ++ (front_of book.marks + run.known) ∷ []) why) (sym keeps.goes_on.case_is)
      (subst (λ (ranks : List ℕ). IsGoodDerivation book.case Part.Both ranks why)
      (sym (why_is_over incoherent (more_stay book.case Part.Both) book.marks kept.marks (front_of book.marks) run.known keeps.rest inside keeps.kept coherent
      too_long.incoherent seen (run_is seen same)))
      too_long.good)

-- What is found of a rank before it is taken, and what it says once the rank is taken.
use Rattle.std.proofs.Common.{◌≡◌, ◌⊎◌, ℕ, ◌<◌, false, true, List, [], ◌∷◌, ◌++◌, Contains, take, sym, ap, ◌∙◌, subst, arith, ⊎_elim}
use Rattle.std.proofs.lemmas.List.{take_all, take-take}
use Rattle.std.proofs.lemmas.List.Elements.{Contains-append_left, Contains-append_right, Contains-append_cases}
use Rattle.el_logic.specs.declared.types.Part.{Part}
use Rattle.derivation.specs.declared.types.Step.{Step}
use Rattle.derivation.specs.Steps.{IsGoodDerivation}
use Rattle.case_file.specs.Incoherence.{IsIncoherentFor}
use Rattle.saturate.specs.declared.types.Verdict.{Verdict}
use Rattle.saturate.specs.declared.types.Verdict.TheVariants.{No}
use Rattle.saturate.specs.Decisions.{IsVerdict}
use Rattle.commit_book.proofs.BackLaws.{contains_take}
use Rattle.commit_book.specs.declared.answers.Taken.{Taken}
use Rattle.case_file.specs.Cases.{CaseView}
use Rattle.closed_model.specs.ClosedTables.{TableView}
use Rattle.accuse_core.specs.declared.mark.Mark.{Mark}
use Rattle.accuse_core.specs.declared.mark.Mark.TheVariants.{Open, Yes}
use Rattle.accuse_core.specs.declared.journal.Entry.{Entry}
use Rattle.accuse_core.specs.Marks.{is_decided, mark_at, kept_of, number_kept, front_of}
use Rattle.accuse_core.specs.Sound.{AreKeptBeforeFront}
use Rattle.commit_book.specs.Books.{BookView, IsBook, IsTableFor, ranks_of}
use Rattle.spec_workers.specs.Inside.Asked.{marks_after, IsTakenAt, KeepsFirst}
use Rattle.spec_workers.proofs.GivenTakes.{front_le, taken_at}

-- a mark that is open or a yes is not decided
not_decided : (mark : Mark) → (mark ≡ Open) ⊎ ((seen : ℕ) × (mark ≡ Yes seen)) → is_decided mark ≡ false
not_decided mark is = ⊎_elim (λ open_is. ap is_decided open_is) (λ yes. ap is_decided yes.1) is

-- the table of a book is a snapshot for a rank that is not decided
pub newest_given : (book : BookView) (rank seen : ℕ) (snapshot : TableView) → IsBook book
    → AreKeptBeforeFront book.marks
    → ((other : ℕ) → other < front_of book.marks → is_decided (mark_at book.marks other) ≡ true)
    → rank < ranks_of book.case
    → (mark_at book.marks rank ≡ Open) ⊎ ((yes : ℕ) × (mark_at book.marks rank ≡ Yes yes))
    → seen ≡ number_kept book.marks → snapshot ≡ book.table
    → IsTakenAt book.case book.entries (record { rank = rank; seen = seen; snapshot = snapshot })
newest_given book rank seen snapshot is ahead decided inside undecided count same =
    let late = front_le book.marks rank decided (not_decided (mark_at book.marks rank) undecided) in
    let all : take seen (kept_of book.marks) ≡ kept_of book.marks =
    take_all seen (kept_of book.marks) (omega (arith, count)) in
    taken_at book.case book.entries book.marks (record { rank = rank; seen = seen; snapshot = snapshot }) is.core ahead late inside count
    (subst (λ (ranks : List ℕ). IsTableFor book.case ranks snapshot) (sym all)
    (subst (λ (table : TableView). IsTableFor book.case (kept_of book.marks) table) (sym same) is.table))

-- what was taken first, with its rank, and what was taken now of the same rank
module _ (case : CaseView) (earlier entries : List Entry) (first now : Taken)
    (first_is : IsTakenAt case earlier first) (now_is : IsTakenAt case entries now)
    (keeps : KeepsFirst case earlier entries) (all : now.seen ≡ number_kept (marks_after case entries))
    (rank : first.rank ≡ now.rank) where
  abbrev kept_now : List ℕ
  kept_now = kept_of (marks_after case entries)

  -- the ranks of the first snapshot are the first of those that are kept now
  first_ranks : first.snapshot.ranks ≡ take first.seen kept_now
  first_ranks = first_is.snapshot.ranks_are ∙ sym (keeps first.seen first_is.few).1

  -- so the snapshot now has them all
  within : (old : ℕ) → Contains first.snapshot.ranks old → Contains now.snapshot.ranks old
  within old held =
      let fewer = (keeps first.seen first_is.few).0 in
      let there = subst (λ (l : List ℕ). Contains l old) (first_ranks ∙ sym (take-take first.seen now.seen kept_now (omega (arith, fewer, all)))) held in
      subst (λ (l : List ℕ). Contains l old) (sym now_is.snapshot.ranks_are) (contains_take first.seen (take now.seen kept_now) old there)

  -- with the rank too
  within_all : (old : ℕ) → Contains (first.snapshot.ranks ++ first.rank ∷ []) old → Contains (now.snapshot.ranks ++ now.rank ∷ []) old
  within_all old held = ⊎_elim
      (λ before. Contains-append_left now.snapshot.ranks (now.rank ∷ []) old (within old before))
      (λ last. Contains-append_right now.snapshot.ranks (now.rank ∷ []) old (subst (λ (r : ℕ). Contains (r ∷ []) old) rank last))
      (Contains-append_cases first.snapshot.ranks (first.rank ∷ []) old held)

  -- a no holds now too
  pub no_holds : ((of : CaseView) (part : Part) (ranks more : List ℕ) → ((old : ℕ) → Contains ranks old → Contains more old)
      → IsIncoherentFor of part ranks → IsIncoherentFor of part more)
      → ((of : CaseView) (part : Part) (ranks more : List ℕ) (steps : List Step) → ((old : ℕ) → Contains ranks old → Contains more old)
      → IsGoodDerivation of part ranks steps → IsGoodDerivation of part more steps)
      → (steps : List Step) → IsVerdict case (first.snapshot.ranks ++ first.rank ∷ []) (No steps)
      → IsVerdict case (now.snapshot.ranks ++ now.rank ∷ []) (No steps)
  no_holds incoherent good steps verdict = (
    incoherent case Part.Both (first.snapshot.ranks ++ first.rank ∷ []) (now.snapshot.ranks ++ now.rank ∷ []) within_all verdict.0,
    good case Part.Both (first.snapshot.ranks ++ first.rank ∷ []) (now.snapshot.ranks ++ now.rank ∷ []) steps within_all verdict.1,
  )

  -- a yes holds if nothing was kept since
  pub yes_holds : first.seen ≡ now.seen → (verdict : Verdict) → IsVerdict case (first.snapshot.ranks ++ first.rank ∷ []) verdict
      → IsVerdict case (now.snapshot.ranks ++ now.rank ∷ []) verdict
  yes_holds same verdict is =
      let ranks : first.snapshot.ranks ≡ now.snapshot.ranks =
      first_ranks ∙ (ap (λ n. take n kept_now) same ∙ sym now_is.snapshot.ranks_are) in
      subst (λ (l : List ℕ). IsVerdict case l verdict) (λ i. ranks i ++ rank i ∷ []) is

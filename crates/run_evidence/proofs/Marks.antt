-- The marks of a book in which every rank is decided are those that its removed rows say.
use Rattle.std.proofs.Common.{◌≡◌, ◌⊎◌, inl, inr, ◌≤◌, ◌<◌, ◌+◌, ℕ, zero, suc, Bool, true, false, cond, List, [], ◌∷◌, length, map, get_or, refl, sym, ap, ◌∙◌, arith, eqb-true, eq-eqb, Contains, true≢false}
use Rattle.std.specs.Prelude.{Option, Some, None, is_some, not, nat_eq, slice_index, ◌||◌}
use Rattle.std.specs.List.{list_any, range_with_len}
use Rattle.std.proofs.lemmas.Bool.{cases_lt}
use Rattle.std.proofs.lemmas.List.{length-map, get_or-map, get_or_past}
use Rattle.std.proofs.lemmas.List.Folds.{list_any_at}
use Rattle.std.proofs.lemmas.List.Elements.{Contains-append_left, Contains-append_right, Contains-push}
use Rattle.derivation.specs.declared.types.Step.{Step}
use Rattle.accuse_core.specs.declared.mark.Mark.{Mark}
use Rattle.accuse_core.specs.declared.mark.Mark.TheVariants.{Open, Yes, Kept, Removed as RemovedMark}
use Rattle.accuse_core.specs.Marks.{is_decided, mark_at, kept_of}
use Rattle.case_file.specs.Cases.{CaseView}
use Rattle.commit_book.specs.Books.{why_at, IsWhyOf}
use Rattle.evidence_text.specs.declared.types.Removed.{Removed}
use Rattle.valid_evidence.specs.Rows.{rank_of_row, is_taken_out, rows_left, decided_mark, decided_marks, ranks_left}
use Rattle.valid_evidence.specs.Shown.{rows_ranked}
use Rattle.run_evidence.specs.Inside.DecidedBooks.{IsDecidedBook}
use Rattle.run_evidence.proofs.Ranks.{rank_again, row_again}
use Rattle.run_evidence.proofs.Taken.{removed_of, why_of, taken_if_removed}

-- two lists of one length with the same elements are the same
same_lists : {X : Type 0} (xs ys : List X) (d : X) → length xs ≡ length ys → ((k : ℕ) → k < length xs → get_or xs k d ≡ get_or ys k d) → xs ≡ ys
same_lists [] [] d size each = refl
same_lists [] (y ∷ ys) d size each = absurd (omega arith)
same_lists (x ∷ xs) [] d size each = absurd (omega arith)
same_lists {X} (x ∷ xs) (y ∷ ys) d size each =
    ap (λ (z : X). z ∷ xs) (each 0 (omega arith))
    ∙ ap (λ (zs : List X). y ∷ zs) (same_lists xs ys d (omega arith) (λ k inside. each (suc k) (omega arith)))

-- two functions that give the same of each number of a range
same_over_range : {X : Type 0} (f g : ℕ → X) (start count : ℕ) → ((k : ℕ) → start ≤ k → k < start + count → f k ≡ g k)
    → map f (range_with_len start count) ≡ map g (range_with_len start count)
same_over_range f g start zero same = refl
same_over_range {X} f g start (suc count) same =
    ap (λ (x : X). x ∷ map f (range_with_len (start + 1) count)) (same start (omega arith) (omega arith))
    ∙ ap (λ (xs : List X). g start ∷ xs) (same_over_range f g (start + 1) count (λ k low high. same k (omega arith) (omega arith)))

-- a test that one element passes, and one that none passes
any_held : (test : ℕ → Bool) (ranks : List ℕ) (rank : ℕ) → Contains ranks rank → test rank ≡ true → list_any test ranks ≡ true
any_held test ranks rank held passes = list_any_at test ranks held.0 rank held.1 (ap test held.2 ∙ passes)

none_held : (test : ℕ → Bool) (ranks : List ℕ) → ((rank : ℕ) → Contains ranks rank → test rank ≡ false) → list_any test ranks ≡ false
none_held test [] fails = refl
none_held test (rank ∷ ranks) fails =
    ap (λ (b : Bool). b || list_any test ranks) (fails rank (Contains-append_left (rank ∷ []) ranks rank (Contains-push [] rank)))
    ∙ none_held test ranks (λ r held. fails r (Contains-append_right (rank ∷ []) ranks r held))

-- the mark of a decided rank, by whether there is a reason for its removal
abbrev mark_by : Option (List Step) → Mark
mark_by why = cond (is_some why) RemovedMark Kept

mark_why : (case : CaseView) (kept : List ℕ) (rank : ℕ) (mark : Mark) (why : Option (List Step)) → IsWhyOf case kept rank mark why → is_decided mark ≡ true → mark ≡ mark_by why
mark_why case kept rank Open why is decided = absurd (true≢false (sym decided))
mark_why case kept rank (Yes seen) why is decided = absurd (true≢false (sym decided))
mark_why case kept rank Kept why is decided = sym (ap mark_by is)
mark_why case kept rank RemovedMark None is decided = absurd is
mark_why case kept rank RemovedMark (Some steps) is decided = refl

module _ (case : CaseView) (marks : List Mark) (whys : List (Option (List Step))) (book : IsDecidedBook case marks whys) where
  -- the removed rows of the book
  abbrev pub removed : List Removed
  removed = removed_of case.order whys (range_with_len 0 (length case.order))

  -- the mark of a rank, by why it is removed
  pub mark_is : (rank : ℕ) → rank < length case.order → mark_at marks rank ≡ mark_by (why_at whys rank)
  mark_is rank inside = mark_why case (kept_of marks) rank (mark_at marks rank) (why_at whys rank) (book.each rank) (book.decided rank inside)

  -- and as its row says it
  mark_of_row : (rank : ℕ) → rank < length case.order → mark_at marks rank ≡ decided_mark removed (slice_index case.order rank)
  mark_of_row rank inside =
      let row = slice_index case.order rank in
      let why : why_of case.order whys row ≡ why_at whys rank = ap (why_at whys) (rank_again case.order book.once rank inside) in
      let taken = taken_if_removed case.order whys (length case.order) row (book.once.within rank inside) in
      mark_is rank inside ∙ sym (ap (λ (b : Bool). cond b RemovedMark Kept) (taken ∙ ap is_some why))

  -- so all marks are
  pub marks_are : marks ≡ decided_marks removed case.order
  marks_are = same_lists marks (decided_marks removed case.order) Open (book.count ∙ sym (length-map case.order (decided_mark removed)))
      (λ rank inside. let within : rank < length case.order = omega (arith, book.count, inside) in
      mark_of_row rank within ∙ sym (get_or-map (decided_mark removed) case.order rank 0 Open within))

  -- the ranks that are left are the kept ones
  pub left_are : ranks_left removed case.order ≡ kept_of marks
  left_are = ap kept_of (sym marks_are)

  -- a kept rank is one of the case
  pub kept_below : (rank : ℕ) → Contains (kept_of marks) rank → rank < length case.order
  kept_below rank h = by (cases_lt rank (length case.order))
    where
      by : (rank < length case.order) ⊎ (length case.order ≤ rank) → rank < length case.order
      by (inl inside) = inside
      by (inr past) =
          let none : mark_at marks rank ≡ Open = get_or_past marks rank Open (omega (arith, book.count, past)) in
          let kept : mark_at marks rank ≡ Kept = (book.held rank).0 h in
          let bad : Open ≡ Kept = sym none ∙ kept in cc

  -- a kept rank that has a row is the row's rank
  same_rank : (index : ℕ) → index < length case.order → (rank : ℕ) → Contains (kept_of marks) rank → slice_index case.order rank ≡ index
      → rank ≡ rank_of_row case.order (index + 1)
  same_rank index inside rank held is =
      let own = row_again case.order book.once index inside in
      book.once.once rank (rank_of_row case.order (index + 1)) (kept_below rank held) own.0 (is ∙ sym own.1)

  -- so a removed row has no kept rank
  not_ranked : (index : ℕ) → index < length case.order → (steps : List Step) → why_of case.order whys index ≡ Some steps
      → (rank : ℕ) → Contains (kept_of marks) rank → nat_eq (slice_index case.order rank) index ≡ false
  not_ranked index inside steps some rank held = by (nat_eq (slice_index case.order rank) index) refl
    where
      by : (b : Bool) → nat_eq (slice_index case.order rank) index ≡ b → b ≡ false
      by false e = refl
      by true e =
          let same = same_rank index inside rank held (eqb-true (slice_index case.order rank) index e) in
          let own = row_again case.order book.once index inside in
          let gone : mark_at marks (rank_of_row case.order (index + 1)) ≡ RemovedMark =
          mark_is (rank_of_row case.order (index + 1)) own.0 ∙ ap mark_by some in
          let bad : Kept ≡ RemovedMark = sym ((book.held rank).0 held) ∙ ap (mark_at marks) same ∙ gone in
          cc

  -- a row has a kept rank if it is not among the removed ones
  ranked_if_left : (index : ℕ) → index < length case.order
      → list_any (λ rank. nat_eq (slice_index case.order rank) index) (kept_of marks) ≡ not (is_taken_out removed index)
  ranked_if_left index inside = by (why_of case.order whys index) refl
    where
      by : (why : Option (List Step)) → why_of case.order whys index ≡ why
          → list_any (λ rank. nat_eq (slice_index case.order rank) index) (kept_of marks) ≡ not (is_taken_out removed index)
      by None none =
          let own = row_again case.order book.once index inside in
          let kept : mark_at marks (rank_of_row case.order (index + 1)) ≡ Kept = mark_is (rank_of_row case.order (index + 1)) own.0 ∙ ap mark_by none in
          any_held (λ r. nat_eq (slice_index case.order r) index) (kept_of marks) (rank_of_row case.order (index + 1)) ((book.held (rank_of_row case.order (index + 1))).1 kept)
          (eq-eqb (slice_index case.order (rank_of_row case.order (index + 1))) index own.1)
          ∙ sym (ap not (taken_if_removed case.order whys (length case.order) index inside ∙ ap is_some none))
      by (Some steps) some =
          none_held (λ r. nat_eq (slice_index case.order r) index) (kept_of marks) (not_ranked index inside steps some)
          ∙ sym (ap not (taken_if_removed case.order whys (length case.order) index inside ∙ ap is_some some))

  -- so OUT with the kept ranks is OUT without the removed rows
  pub rows_are : (rows : ℕ) → length case.order ≡ rows → rows_ranked case.order (kept_of marks) ≡ rows_left removed rows
  rows_are rows same =
      same_over_range (λ index. list_any (λ rank. nat_eq (slice_index case.order rank) index) (kept_of marks)) (λ index. not (is_taken_out removed index)) 0 (length case.order)
      (λ index low high. ranked_if_left index (omega arith))
      ∙ ap (rows_left removed) same

-- Which rows are among the removed ones.
use Rattle.std.proofs.Common.{◌≡◌, ◌≤◌, ◌<◌, ◌+◌, ℕ, zero, suc, Bool, true, false, List, [], ◌∷◌, refl, sym, ap, ◌∙◌, arith, eqb-true, eq-eqb, lt-ltb, All}
use Rattle.std.specs.Prelude.{Option, Some, None, is_some, nat_eq, filter_map, ◌&&◌, ◌||◌}
use Rattle.std.specs.List.{list_any, range_with_len, cons_option}
use Rattle.std.specs.Option.{option_map}
use Rattle.std.proofs.lemmas.Bool.{eqb-false}
use Rattle.std.proofs.lemmas.List.Elements.{All-nil, All-cons}
use Rattle.derivation.specs.declared.types.Step.{Step}
use Rattle.evidence_text.specs.declared.types.Removed.{Removed}
use Rattle.evidence_text.specs.EvidenceText.{InOrder, row_before}
use Rattle.commit_book.specs.Books.{why_at}
use Rattle.valid_evidence.specs.Rows.{rank_of_row, is_taken_out}
use Rattle.run_evidence.specs.Inside.RowNumbers.{removed_row, removed_at}

-- nothing passes both of two tests, one of which nothing passes
and_no : (b : Bool) → (b && false) ≡ false
and_no true = refl
and_no false = refl

-- numbers that differ have next numbers that differ
next_differs : (a b : ℕ) → nat_eq a b ≡ false → nat_eq (a + 1) (b + 1) ≡ false
next_differs a b e = by (nat_eq (a + 1) (b + 1)) refl
  where
    by : (same : Bool) → nat_eq (a + 1) (b + 1) ≡ same → same ≡ false
    by false f = refl
    by true f =
        let next = eqb-true (a + 1) (b + 1) f in
        let one : a ≡ b = omega arith in
        absurd (eqb-false a b e one)

-- a number is in a range
in_range : (start count index : ℕ) → start ≤ index → index < start + count
    → list_any (λ i. nat_eq i index) (range_with_len start count) ≡ true
in_range start zero index low high = absurd (omega arith)
in_range start (suc count) index low high =
    by (nat_eq start index) refl (λ (later : start + 1 ≤ index). in_range (start + 1) count index later (omega arith))
  where
    by : (b : Bool) → nat_eq start index ≡ b → (start + 1 ≤ index → list_any (λ i. nat_eq i index) (range_with_len (start + 1) count) ≡ true)
        → (b || list_any (λ i. nat_eq i index) (range_with_len (start + 1) count)) ≡ true
    by true e rest = refl
    by false e rest = let differs = eqb-false start index e in rest (omega arith)

module _ (order : List ℕ) (whys : List (Option (List Step))) where
  -- why the row with this index is removed
  abbrev pub why_of : ℕ → Option (List Step)
  why_of index = why_at whys (rank_of_row order (index + 1))

  -- the removed ones of these rows
  abbrev pub removed_of : List ℕ → List Removed
  removed_of rows = filter_map (removed_at order whys) rows

  -- one row before others
  abbrev with_row : ℕ → Option (List Step) → List ℕ → List Removed
  with_row index why rows = cons_option (option_map (removed_row order index) why) (removed_of rows)

  -- of some rows one is among the removed ones if it is one of them, and is removed
  taken_in : (index : ℕ) (rows : List ℕ)
      → is_taken_out (removed_of rows) index ≡ (list_any (λ i. nat_eq i index) rows && is_some (why_of index))
  taken_in index [] = refl
  taken_in index (x ∷ rows) = by (why_of x) refl (nat_eq x index) refl (taken_in index rows)
    where
      by : (o : Option (List Step)) → why_of x ≡ o → (b : Bool) → nat_eq x index ≡ b
          → is_taken_out (removed_of rows) index ≡ (list_any (λ i. nat_eq i index) rows && is_some (why_of index))
          → is_taken_out (with_row x o rows) index ≡ ((b || list_any (λ i. nat_eq i index) rows) && is_some (why_of index))
      by None none true same rest =
          let no : is_some (why_of index) ≡ false = ap is_some (ap why_of (sym (eqb-true x index same)) ∙ none) in
          rest ∙ ap (λ (b : Bool). list_any (λ i. nat_eq i index) rows && b) no
          ∙ and_no (list_any (λ i. nat_eq i index) rows) ∙ sym no
      by None none false differs rest = rest
      by (Some steps) some true same rest =
          let yes : is_some (why_of index) ≡ true = ap is_some (ap why_of (sym (eqb-true x index same)) ∙ some) in
          ap (λ (b : Bool). b || is_taken_out (removed_of rows) index) (eq-eqb (x + 1) (index + 1) (ap (λ (i : ℕ). i + 1) (eqb-true x index same)))
          ∙ sym yes
      by (Some steps) some false differs rest =
          ap (λ (b : Bool). b || is_taken_out (removed_of rows) index) (next_differs x index differs) ∙ rest

  -- a row of the table is among them if it is removed
  pub taken_if_removed : (rows index : ℕ) → index < rows → is_taken_out (removed_of (range_with_len 0 rows)) index ≡ is_some (why_of index)
  taken_if_removed rows index inside =
      taken_in index (range_with_len 0 rows)
      ∙ ap (λ (b : Bool). b && is_some (why_of index)) (in_range 0 rows index (omega arith) (omega arith))

  -- what holds of each row that is removed
  pub each_removed : (P : Removed → Type 0) (start count : ℕ)
      → ((index : ℕ) → start ≤ index → index < start + count → (steps : List Step) → why_of index ≡ Some steps → P (removed_row order index steps))
      → All P (removed_of (range_with_len start count))
  each_removed P start zero h = All-nil P
  each_removed P start (suc count) h =
      by (why_of start) refl (each_removed P (start + 1) count (λ index low high. h index (omega arith) (omega arith)))
    where
      by : (o : Option (List Step)) → why_of start ≡ o → All P (removed_of (range_with_len (start + 1) count)) → All P (with_row start o (range_with_len (start + 1) count))
      by None none rest = rest
      by (Some steps) some rest = All-cons P (removed_row order start steps) (removed_of (range_with_len (start + 1) count)) (h start (omega arith) (omega arith) steps some) rest

  -- the row before, if there is one, has no greater number
  abbrev IsNotPast : Option Removed → ℕ → Type 0
  IsNotPast None number = Unit {0}
  IsNotPast (Some r) number = r.row ≤ number

  not_past_next : (before : Option Removed) (number : ℕ) → IsNotPast before number → IsNotPast before (number + 1)
  not_past_next None number h = tt
  not_past_next (Some r) number h = omega arith

  -- removed rows ascend
  ascend_from : (before : Option Removed) (start count : ℕ) → IsNotPast before start → InOrder row_before before (removed_of (range_with_len start count))
  ascend_from before start zero h = tt
  ascend_from before start (suc count) h =
      by (why_of start) (ascend_from before (start + 1) count (not_past_next before start h))
      (λ (steps : List Step). ascend_from (Some (removed_row order start steps)) (start + 1) count (omega arith))
    where
      after : (b : Option Removed) (steps : List Step) → IsNotPast b start
          → InOrder row_before (Some (removed_row order start steps)) (removed_of (range_with_len (start + 1) count))
          → InOrder row_before b (removed_row order start steps ∷ removed_of (range_with_len (start + 1) count))
      after None steps low rest = rest
      after (Some r) steps low rest = (lt-ltb r.row (start + 1) (omega arith), rest)

      by : (o : Option (List Step)) → InOrder row_before before (removed_of (range_with_len (start + 1) count))
          → ((steps : List Step) → InOrder row_before (Some (removed_row order start steps)) (removed_of (range_with_len (start + 1) count)))
          → InOrder row_before before (with_row start o (range_with_len (start + 1) count))
      by None same next = same
      by (Some steps) same next = after before steps h (next steps)

  pub removed_ascend : (rows : ℕ) → InOrder row_before None (removed_of (range_with_len 0 rows))
  removed_ascend rows = ascend_from None 0 rows tt

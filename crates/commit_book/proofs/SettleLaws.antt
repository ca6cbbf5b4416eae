-- When the front is taken anew: a rank that waits there is kept, and its table is held for it.
use Rattle.std.proofs.Common.{◌≡◌, ℕ, ◌<◌, ◌≤◌, true, false, ⊎_elim, inl, inr, List, [], ◌∷◌, ◌++◌, length, sym, ap, ◌∙◌}
use Rattle.std.proofs.Math.ListN.{get_or-eq_default}
use Rattle.std.proofs.lemmas.Bool.{cases_lt, cases_Bool}
use Rattle.std.proofs.lemmas.List.{get_or-set_other, get_or-set_same}
use Rattle.case_file.specs.Cases.{CaseView}
use Rattle.closed_model.specs.ClosedTables.{TableView}
use Rattle.accuse_core.specs.declared.mark.Mark.{Mark}
use Rattle.accuse_core.specs.declared.mark.Mark.TheVariants.{Open, Kept}
use Rattle.accuse_core.specs.Marks.{is_yes_over, with_kept, settled, mark_at, kept_of, number_kept, front_of}
use Rattle.accuse_core.specs.Sound.{AreKeptBeforeFront}
use Rattle.commit_book.specs.declared.held.Held.{Held}
use Rattle.commit_book.specs.declared.held.Held.TheVariants.{Nothing, Note}
use Rattle.commit_book.specs.Inside.Holdings.{held_at, IsSettled, IsLastHeld, IsNearlySettled}
use Rattle.commit_book.specs.Inside.Laws.{Laws}
use Rattle.commit_book.proofs.FrontLaws.{waiting_inside}
use Rattle.commit_book.proofs.BackLaws.{backed_more, IsNoteOfAll, waiting_note}

-- what holds a table is held for a rank
note_inside : (held : List Held) (rank : ℕ) (table : TableView) → held_at held rank ≡ Note table → rank < length held
note_inside held rank table is_held = ⊎_elim
    (λ (inside : rank < length held). inside)
    (λ (past : length held ≤ rank).
    let none : held_at held rank ≡ Nothing = get_or-eq_default held Nothing past in absurd (cc))
    (cases_lt rank (length held))

module _ (case : CaseView) (laws : Laws case) where
  -- the rank at the front is kept, and is the last of the kept ones
  last_held : (marks : List Mark) (held : List Held) (table : TableView) → AreKeptBeforeFront marks → IsSettled case marks held table
      → (waits : is_yes_over (number_kept marks) (mark_at marks (front_of marks)) ≡ true)
      → IsLastHeld case (with_kept marks (front_of marks)) held table (front_of marks)
  last_held marks held table ahead whole waits =
      let front = front_of marks in
      let note : IsNoteOfAll case (kept_of marks) front (held_at held front) =
      waiting_note case (kept_of marks) front (mark_at marks front) (held_at held front) waits (whole.backed front) in
      let inside = waiting_inside marks (number_kept marks) front waits in
      let kept : kept_of (with_kept marks front) ≡ kept_of marks ++ front ∷ [] = laws.kept.front marks ahead inside in
      record {
        kept = kept ∙ ap (λ ranks. ranks ++ front ∷ []) (sym whole.is_for.ranks_are);
        inside = note_inside held front note.table note.is_held;
        its_mark = get_or-set_same marks front Kept Open inside;
        others = λ rank differs.
            rw (kept, get_or-set_other marks front rank Kept Open differs)
            (backed_more case laws.verdict (kept_of marks) (front ∷ []) rank (mark_at marks rank) (held_at held rank) (whole.backed rank));
        its_table = note.table;
        is_held = note.is_held;
        is_for = record { case_is = note.is_for.case_is; ranks_are = note.is_for.ranks_are ∙ sym kept };
        closed = note.closed;
      }

  -- after any change
  pub nearly_settled : (marks : List Mark) (held : List Held) (table : TableView) → AreKeptBeforeFront marks → IsSettled case marks held table
      → IsNearlySettled case (settled marks) held table
  nearly_settled marks held table ahead whole = ⊎_elim
      (λ (waits : is_yes_over (number_kept marks) (mark_at marks (front_of marks)) ≡ true).
      rw waits (inr (front_of marks, last_held marks held table ahead whole waits)))
      (λ (not_over : is_yes_over (number_kept marks) (mark_at marks (front_of marks)) ≡ false). rw not_over (inl whole))
      (cases_Bool (is_yes_over (number_kept marks) (mark_at marks (front_of marks))))

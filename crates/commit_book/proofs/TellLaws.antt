-- What a reply says of the marks, and what a block leaves.
use Rattle.std.proofs.Common.{◌≡◌, ℕ, ◌+◌, ◌<◌, ◌≤◌, true, false, ⊎_elim, inl, inr, ◌⊎◌, List, ◌++◌, length, eqb, ltb, leb, refl, sym, ◌∙◌, arith}
use Rattle.std.proofs.lemmas.Bool.{cases_Bool, cases_lt, eqb-true, ltb-false}
use Rattle.case_file.specs.Cases.{CaseView}
use Rattle.closed_model.specs.ClosedTables.{TableView, IsClosedTable}
use Rattle.accuse_core.specs.declared.mark.Mark.{Mark}
use Rattle.accuse_core.specs.declared.mark.Mark.TheVariants.{Open, Yes, Kept, Removed}
use Rattle.accuse_core.specs.declared.event.Reply.{Reply}
use Rattle.accuse_core.specs.declared.event.Reply.TheVariants as R
use Rattle.accuse_core.specs.Marks.{is_decided, kept_unless_removed, with_kept, with_removed, with_note, with_block, block_of, settled, mark_at, kept_of, number_kept, front_of}
use Rattle.accuse_core.specs.Events.{on_no, on_yes}
use Rattle.accuse_core.specs.Sound.{AreKeptBeforeFront}
use Rattle.commit_book.specs.declared.held.Held.{Held}
use Rattle.commit_book.specs.declared.held.Held.TheVariants.{Nothing, Note, Why}
use Rattle.commit_book.specs.Books.{IsTableFor}
use Rattle.commit_book.specs.Inside.Holdings.{held_at, without_note, IsBacked, IsSettled}
use Rattle.commit_book.specs.Inside.Laws.{Laws}
use Rattle.commit_book.proofs.BackLaws.{backed_more}

-- a no that is marked removes a rank that wasn't decided
pub record IsMarked (marks : List Mark) (rank : ℕ) : Type 0 where
  pub undecided : is_decided (mark_at marks rank) ≡ false
  pub marks_are : (on_no marks rank).marks ≡ settled (with_removed marks rank)

pub no_marked : (marks : List Mark) (rank : ℕ) → (on_no marks rank).reply ≡ R.Marked → IsMarked marks rank
no_marked marks rank marked = ⊎_elim
    (λ (late : is_decided (mark_at marks rank) ≡ true).
    let reply : (on_no marks rank).reply ≡ R.Late = rw late refl in absurd (cc))
    (λ (undecided : is_decided (mark_at marks rank) ≡ false). record { undecided = undecided; marks_are = rw undecided refl })
    (cases_Bool (is_decided (mark_at marks rank)))

-- any other leaves the marks
pub no_late : (marks : List Mark) (rank : ℕ) → ((on_no marks rank).reply ≡ R.Marked → ⊥) → (on_no marks rank).marks ≡ marks
no_late marks rank not_marked = ⊎_elim
    (λ (late : is_decided (mark_at marks rank) ≡ true). rw late refl)
    (λ (undecided : is_decided (mark_at marks rank) ≡ false). absurd (not_marked (rw undecided refl)))
    (cases_Bool (is_decided (mark_at marks rank)))

-- a yes that is kept is over all kept ranks, and at the front
pub record IsKeptYes (marks : List Mark) (rank seen : ℕ) : Type 0 where
  pub undecided : is_decided (mark_at marks rank) ≡ false
  pub all : number_kept marks ≤ seen
  pub at : rank ≡ front_of marks
  pub reply_is : (on_yes marks rank seen).reply ≡ R.Kept
  pub marks_are : (on_yes marks rank seen).marks ≡ settled (with_kept marks rank)

-- one that is noted is of a rank that isn't decided
pub record IsNotedYes (marks : List Mark) (rank seen : ℕ) : Type 0 where
  pub undecided : is_decided (mark_at marks rank) ≡ false
  pub reply_is : (on_yes marks rank seen).reply ≡ R.Noted
  pub marks_are : (on_yes marks rank seen).marks ≡ settled (with_note marks rank seen)

-- any other leaves the marks
pub record IsLostYes (marks : List Mark) (rank seen : ℕ) : Type 0 where
  pub not_kept : (on_yes marks rank seen).reply ≡ R.Kept → ⊥
  pub not_noted : (on_yes marks rank seen).reply ≡ R.Noted → ⊥
  pub marks_are : (on_yes marks rank seen).marks ≡ marks

-- the reply leaves the marks, as it is neither of the two
lost : (marks : List Mark) (rank seen : ℕ) (reply : Reply) → (reply ≡ R.Kept → ⊥) → (reply ≡ R.Noted → ⊥)
    → (on_yes marks rank seen).reply ≡ reply → (on_yes marks rank seen).marks ≡ marks → IsLostYes marks rank seen
lost marks rank seen reply not_kept not_noted is same =
    record { not_kept = λ kept. not_kept (sym is ∙ kept); not_noted = λ noted. not_noted (sym is ∙ noted); marks_are = same }

pub yes_cases : (marks : List Mark) (rank seen : ℕ) → IsKeptYes marks rank seen ⊎ (IsNotedYes marks rank seen ⊎ IsLostYes marks rank seen)
yes_cases marks rank seen = ⊎_elim
    (λ (late : is_decided (mark_at marks rank) ≡ true).
    inr (inr (lost marks rank seen R.Late (λ (e : R.Late ≡ R.Kept). cc) (λ (e : R.Late ≡ R.Noted). cc) (rw late refl) (rw late refl))))
    (λ (undecided : is_decided (mark_at marks rank) ≡ false). ⊎_elim
    (λ (stale : ltb seen (number_kept marks) ≡ true).
    inr (inr (lost marks rank seen (R.Stale (number_kept marks)) (λ (e : R.Stale (number_kept marks) ≡ R.Kept). cc) (λ (e : R.Stale (number_kept marks) ≡ R.Noted). cc) (rw (undecided, stale) refl) (rw (undecided, stale) refl))))
    (λ (fresh : ltb seen (number_kept marks) ≡ false). ⊎_elim
    (λ (here : eqb rank (front_of marks) ≡ true).
    inl (record {
      undecided = undecided;
      all = ltb-false seen (number_kept marks) fresh;
      at = eqb-true rank (front_of marks) here;
      reply_is = rw (undecided, fresh, here) refl;
      marks_are = rw (undecided, fresh, here) refl;
    }))
    (λ (elsewhere : eqb rank (front_of marks) ≡ false). ⊎_elim
    (λ (far : leb (front_of marks + 64) rank ≡ true).
    inr (inr (lost marks rank seen R.Far (λ (e : R.Far ≡ R.Kept). cc) (λ (e : R.Far ≡ R.Noted). cc) (rw (undecided, fresh, elsewhere, far) refl) (rw (undecided, fresh, elsewhere, far) refl))))
    (λ (near : leb (front_of marks + 64) rank ≡ false).
    inr (inl (record { undecided = undecided; reply_is = rw (undecided, fresh, elsewhere, near) refl; marks_are = rw (undecided, fresh, elsewhere, near) refl })))
    (cases_Bool (leb (front_of marks + 64) rank)))
    (cases_Bool (eqb rank (front_of marks))))
    (cases_Bool (ltb seen (number_kept marks))))
    (cases_Bool (is_decided (mark_at marks rank)))

pub yes_kept : (marks : List Mark) (rank seen : ℕ) → (on_yes marks rank seen).reply ≡ R.Kept → IsKeptYes marks rank seen
yes_kept marks rank seen kept = ⊎_elim
    (λ (is : IsKeptYes marks rank seen). is)
    (λ other. ⊎_elim
    (λ (noted : IsNotedYes marks rank seen). let n = noted.reply_is in absurd (cc))
    (λ (none : IsLostYes marks rank seen). absurd (none.not_kept kept))
    other)
    (yes_cases marks rank seen)

pub yes_noted : (marks : List Mark) (rank seen : ℕ) → (on_yes marks rank seen).reply ≡ R.Noted → IsNotedYes marks rank seen
yes_noted marks rank seen noted = ⊎_elim
    (λ (kept : IsKeptYes marks rank seen). let k = kept.reply_is in absurd (cc))
    (λ other. ⊎_elim
    (λ (is : IsNotedYes marks rank seen). is)
    (λ (none : IsLostYes marks rank seen). absurd (none.not_noted noted))
    other)
    (yes_cases marks rank seen)

pub yes_lost : (marks : List Mark) (rank seen : ℕ) → ((on_yes marks rank seen).reply ≡ R.Kept → ⊥) → ((on_yes marks rank seen).reply ≡ R.Noted → ⊥)
    → (on_yes marks rank seen).marks ≡ marks
yes_lost marks rank seen not_kept not_noted = ⊎_elim
    (λ (kept : IsKeptYes marks rank seen). absurd (not_kept kept.reply_is))
    (λ other. ⊎_elim
    (λ (noted : IsNotedYes marks rank seen). absurd (not_noted noted.reply_is))
    (λ (none : IsLostYes marks rank seen). none.marks_are)
    other)
    (yes_cases marks rank seen)

-- what is held in a block once its tables are taken away
pub record HasLostNotes (held later : List Held) (first count : ℕ) : Type 0 where
  pub within : (rank : ℕ) → first ≤ rank → rank < first + count → held_at later rank ≡ without_note (held_at held rank)
  pub before : (rank : ℕ) → rank < first → held_at later rank ≡ held_at held rank
  pub past : (rank : ℕ) → first + count ≤ rank → held_at later rank ≡ held_at held rank

module _ (case : CaseView) (laws : Laws case) where
  -- a mark that is kept unless it is removed needs no table
  block_backed : (kept more : List ℕ) (rank : ℕ) (mark : Mark) (item : Held) → IsBacked case kept rank mark item
      → IsBacked case (kept ++ more) rank (kept_unless_removed mark) (without_note item)
  block_backed kept more rank Open Nothing b = tt
  block_backed kept more rank Open (Note table) b = tt
  block_backed kept more rank Open (Why steps) b = absurd b
  block_backed kept more rank (Yes seen) Nothing b = tt
  block_backed kept more rank (Yes seen) (Note table) b = tt
  block_backed kept more rank (Yes seen) (Why steps) b = absurd b
  block_backed kept more rank Kept Nothing b = tt
  block_backed kept more rank Kept (Note table) b = tt
  block_backed kept more rank Kept (Why steps) b = absurd b
  block_backed kept more rank Removed Nothing b = absurd b
  block_backed kept more rank Removed (Note table) b = absurd b
  block_backed kept more rank Removed (Why steps) b = backed_more case laws.verdict kept more rank Removed (Why steps) b

  -- a block is kept
  pub block_settled : (marks : List Mark) (held later : List Held) (table new : TableView) (count : ℕ)
      → AreKeptBeforeFront marks → IsSettled case marks held table → front_of marks + count ≤ length marks
      → HasLostNotes held later (front_of marks) count
      → IsTableFor case (kept_of marks ++ block_of marks (front_of marks) count) new → IsClosedTable new
      → IsSettled case (with_block marks (front_of marks) count) later new
  block_settled marks held later table new count ahead whole inside lost_notes is_for closed =
      let front = front_of marks in
      let more = block_of marks front count in
      let kept : kept_of (with_block marks front count) ≡ kept_of marks ++ more = laws.kept.block marks count ahead in
      record {
        backed = λ rank. rw kept (⊎_elim
            (λ (before : rank < front).
            rw (laws.block.before marks front count rank before, lost_notes.before rank before)
            (backed_more case laws.verdict (kept_of marks) more rank (mark_at marks rank) (held_at held rank) (whole.backed rank)))
            (λ (from : front ≤ rank). ⊎_elim
            (λ (within : rank < front + count).
            rw (laws.block.within marks front count rank from within (omega arith), lost_notes.within rank from within)
            (block_backed (kept_of marks) more rank (mark_at marks rank) (held_at held rank) (whole.backed rank)))
            (λ (past : front + count ≤ rank).
            rw (laws.block.past marks front count rank past, lost_notes.past rank past)
            (backed_more case laws.verdict (kept_of marks) more rank (mark_at marks rank) (held_at held rank) (whole.backed rank)))
            (cases_lt rank (front + count)))
            (cases_lt rank front));
        is_for = record { case_is = is_for.case_is; ranks_are = is_for.ranks_are ∙ sym kept };
        closed = closed;
      }

-- What events add to the kept ranks: a longer journal keeps what a shorter one keeps, in the same
-- places.
use Rattle.std.proofs.Common.{◌≡◌, ℕ, ◌+◌, ◌<◌, ◌≤◌, true, false, ⊎_elim, List, [], ◌∷◌, ◌++◌, length, take, append_assoc, refl, sym, subst, ap, ◌∙◌, arith}
use Rattle.std.proofs.lemmas.Bool.{cases_Bool}
use Rattle.std.proofs.lemmas.List.{length-append, append-nil, take-append-le}
use Rattle.accuse_core.specs.declared.mark.Mark.{Mark}
use Rattle.accuse_core.specs.declared.event.Event.{Event}
use Rattle.accuse_core.specs.declared.event.Event.TheVariants as E
use Rattle.accuse_core.specs.declared.journal.Entry.{Entry}
use Rattle.accuse_core.specs.Marks.{is_decided, is_yes_over, with_kept, with_removed, with_note, with_block, block_of, settled, mark_at, kept_of, number_kept, front_of}
use Rattle.accuse_core.specs.Events.{outcome, on_no, on_yes, IsFitting}
use Rattle.accuse_core.specs.Journal.{after, AreAllowed, events_of}
use Rattle.accuse_core.specs.Sound.{AreKeptBeforeFront}
use Rattle.commit_book.specs.Inside.Laws.{KeptLaws, BlockLaws}
use Rattle.commit_book.proofs.FrontLaws.{removed_ahead, noted_ahead, front_ahead, settled_ahead, block_ahead}
use Rattle.commit_book.proofs.TellLaws.{IsKeptYes, IsNotedYes, IsLostYes, yes_cases}

-- the marks after a change keep more, and their kept ranks are before the front
record IsGrown (marks later : List Mark) : Type 0 where
  pub more : List ℕ
  pub kept_are : kept_of later ≡ kept_of marks ++ more
  pub ahead : AreKeptBeforeFront later

grown_same : (marks later : List Mark) → later ≡ marks → AreKeptBeforeFront marks → IsGrown marks later
grown_same marks later same ahead = record {
  more = [];
  kept_are = ap kept_of same ∙ sym (append-nil (kept_of marks));
  ahead = subst AreKeptBeforeFront (sym same) ahead;
}

grown_further : (marks later last : List Mark) → IsGrown marks later → IsGrown later last → IsGrown marks last
grown_further marks later last first then = record {
  more = first.more ++ then.more;
  kept_are = then.kept_are ∙ ap (λ (kept : List ℕ). kept ++ then.more) first.kept_are ∙ append_assoc (kept_of marks) first.more then.more;
  ahead = then.ahead;
}

module _ (kept : KeptLaws) (block : BlockLaws) where
  -- after a change the front is taken anew
  grown_settled : (marks changed : List Mark) (more : List ℕ) → kept_of changed ≡ kept_of marks ++ more → AreKeptBeforeFront changed
      → IsGrown marks (settled changed)
  grown_settled marks changed more kept_are ahead =
      let first : IsGrown marks changed = record { more = more; kept_are = kept_are; ahead = ahead } in
      ⊎_elim
      (λ (waits : is_yes_over (number_kept changed) (mark_at changed (front_of changed)) ≡ true).
      grown_further marks changed (settled changed) first (record {
        more = front_of changed ∷ [];
        kept_are = kept.waiting changed ahead waits;
        ahead = settled_ahead kept changed ahead waits;
      }))
      (λ (not_over : is_yes_over (number_kept changed) (mark_at changed (front_of changed)) ≡ false). rw not_over first)
      (cases_Bool (is_yes_over (number_kept changed) (mark_at changed (front_of changed))))

  -- nothing more is kept by a change itself
  grown_none : (marks changed : List Mark) → kept_of changed ≡ kept_of marks → AreKeptBeforeFront changed → IsGrown marks (settled changed)
  grown_none marks changed same ahead = grown_settled marks changed [] (same ∙ sym (append-nil (kept_of marks))) ahead

  no_grows : (marks : List Mark) (rank : ℕ) → rank < length marks → AreKeptBeforeFront marks → IsGrown marks (on_no marks rank).marks
  no_grows marks rank inside ahead = ⊎_elim
      (λ (late : is_decided (mark_at marks rank) ≡ true). rw late (grown_same marks marks refl ahead))
      (λ (undecided : is_decided (mark_at marks rank) ≡ false).
      rw undecided (grown_none marks (with_removed marks rank) (kept.removed marks rank undecided) (removed_ahead kept marks rank ahead inside undecided)))
      (cases_Bool (is_decided (mark_at marks rank)))

  yes_grows : (marks : List Mark) (rank seen : ℕ) → rank < length marks → AreKeptBeforeFront marks → IsGrown marks (on_yes marks rank seen).marks
  yes_grows marks rank seen inside ahead = ⊎_elim
      (λ (yes : IsKeptYes marks rank seen).
      let front : rank ≡ front_of marks = yes.at in
      let front_inside : front_of marks < length marks = subst (λ r. r < length marks) front inside in
      subst (IsGrown marks) (sym (yes.marks_are ∙ ap (λ r. settled (with_kept marks r)) front))
      (grown_settled marks (with_kept marks (front_of marks)) (front_of marks ∷ []) (kept.front marks ahead front_inside) (front_ahead kept marks ahead front_inside)))
      (λ other. ⊎_elim
      (λ (noted : IsNotedYes marks rank seen).
      subst (IsGrown marks) (sym noted.marks_are)
      (grown_none marks (with_note marks rank seen) (kept.noted marks rank seen noted.undecided) (noted_ahead kept marks rank seen ahead inside noted.undecided)))
      (λ (lost : IsLostYes marks rank seen). grown_same marks (on_yes marks rank seen).marks lost.marks_are ahead)
      other)
      (yes_cases marks rank seen)

  -- each event
  event_grows : (marks : List Mark) (event : Event) → IsFitting marks event → AreKeptBeforeFront marks → IsGrown marks (outcome marks event).marks
  event_grows marks (E.Take worker rank) fits ahead = grown_same marks (outcome marks (E.Take worker rank)).marks (kept.asking marks rank) ahead
  event_grows marks (E.TakeFront worker) fits ahead = grown_same marks (outcome marks (E.TakeFront worker)).marks (kept.asking_front marks) ahead
  event_grows marks (E.No worker rank seen) fits ahead = no_grows marks rank fits.0 ahead
  event_grows marks (E.Yes worker rank seen) fits ahead = yes_grows marks rank seen fits.0 ahead
  event_grows marks (E.Block worker rank count seen) fits ahead =
      let front : rank ≡ front_of marks = fits.0 in
      let inside : front_of marks + count ≤ length marks = subst (λ r. r + count ≤ length marks) front fits.3 in
      subst (λ r. IsGrown marks (settled (with_block marks r count))) (sym front)
      (grown_settled marks (with_block marks (front_of marks) count) (block_of marks (front_of marks) count) (kept.block marks count ahead)
      (block_ahead kept block marks count ahead inside))

  module _ (incoherent : List ℕ → Type 0) where
    -- and events one after another
    events_grow : (marks : List Mark) (events : List Event) → AreAllowed incoherent marks events → AreKeptBeforeFront marks → IsGrown marks (after marks events)
    events_grow marks [] allowed ahead = grown_same marks marks refl ahead
    events_grow marks (event ∷ events) allowed ahead =
        let first = event_grows marks event allowed.0.fits ahead in
        grown_further marks (outcome marks event).marks (after (outcome marks event).marks events) first
        (events_grow (outcome marks event).marks events allowed.1 first.ahead)

    -- the entries of a journal after some are allowed after those
    allowed_rest : (marks : List Mark) (earlier more : List Entry) → AreAllowed incoherent marks (events_of (earlier ++ more))
        → AreAllowed incoherent (after marks (events_of earlier)) (events_of more)
    allowed_rest marks [] more allowed = allowed
    allowed_rest marks (entry ∷ earlier) more allowed = allowed_rest (outcome marks entry.event).marks earlier more allowed.1

    -- and those before them are allowed
    allowed_first : (marks : List Mark) (earlier more : List Entry) → AreAllowed incoherent marks (events_of (earlier ++ more))
        → AreAllowed incoherent marks (events_of earlier)
    allowed_first marks [] more allowed = tt
    allowed_first marks (entry ∷ earlier) more allowed = (allowed.0, allowed_first (outcome marks entry.event).marks earlier more allowed.1)

    after_rest : (marks : List Mark) (earlier more : List Entry) → after marks (events_of (earlier ++ more)) ≡ after (after marks (events_of earlier)) (events_of more)
    after_rest marks [] more = refl
    after_rest marks (entry ∷ earlier) more = after_rest (outcome marks entry.event).marks earlier more

    -- the ranks that a longer journal keeps begin with those of a shorter one
    pub first_stay : (marks : List Mark) (earlier more : List Entry) (seen : ℕ) → AreKeptBeforeFront marks
        → AreAllowed incoherent marks (events_of (earlier ++ more)) → seen ≤ number_kept (after marks (events_of earlier))
        → (seen ≤ number_kept (after marks (events_of (earlier ++ more))))
        × (take seen (kept_of (after marks (events_of (earlier ++ more)))) ≡ take seen (kept_of (after marks (events_of earlier))))
    first_stay marks earlier more seen ahead allowed few =
        let then = after marks (events_of earlier) in
        let first = events_grow marks (events_of earlier) (allowed_first marks earlier more allowed) ahead in
        let grown = events_grow then (events_of more) (allowed_rest marks earlier more allowed) first.ahead in
        let kept_are : kept_of (after marks (events_of (earlier ++ more))) ≡ kept_of then ++ grown.more = ap kept_of (after_rest marks earlier more) ∙ grown.kept_are in (
          omega (arith, ap length kept_are, length-append (kept_of then) grown.more),
          ap (take seen) kept_are ∙ take-append-le seen (kept_of then) grown.more few,
        )

-- What each event does to sound marks, and events one after another.
use Rattle.std.proofs.Common.{◌≡◌, ℕ, ◌+◌, ◌<◌, ◌≤◌, true, false, ⊎_elim, List, [], ◌∷◌, ◌++◌, length, take, refl, ap, sym, subst, ◌∙◌, arith, eqb, ltb, leb, length-set}
use Rattle.std.proofs.lemmas.Bool.{cases_Bool, eqb-true, ltb-false}
use Rattle.std.proofs.Math.Seq.{take-length}
use Rattle.accuse_core.specs.declared.mark.Mark.{Mark}
use Rattle.accuse_core.specs.declared.event.Event.{Event}
use Rattle.accuse_core.specs.declared.event.Event.TheVariants.{Take, TakeFront, No, Yes, Block}
use Rattle.accuse_core.specs.Marks.{is_decided, is_yes_over, mark_at, kept_of, number_kept, front_of, with_kept, with_removed, with_note, with_block, settled}
use Rattle.accuse_core.specs.Events.{outcome, on_yes, IsAllowed}
use Rattle.accuse_core.specs.Journal.{after, AreAllowed}
use Rattle.accuse_core.specs.Inside.Watching.{AreWatched, AreAtRest}
use Rattle.accuse_core.proofs.BlockLaws.{block_length}
use Rattle.accuse_core.proofs.SoundLaws.{keep_watched, settle_to_rest, remove_watched, note_watched, block_watched}

-- settling leaves the number of ranks
settled_length : (marks : List Mark) → length (settled marks) ≡ length marks
settled_length marks = ⊎_elim
    (λ (waits : is_yes_over (number_kept marks) (mark_at marks (front_of marks)) ≡ true). rw (waits, length-set) refl)
    (λ (not_over : is_yes_over (number_kept marks) (mark_at marks (front_of marks)) ≡ false). rw not_over refl)
    (cases_Bool (is_yes_over (number_kept marks) (mark_at marks (front_of marks))))

yes_length : (marks : List Mark) (rank seen : ℕ) → length (on_yes marks rank seen).marks ≡ length marks
yes_length marks rank seen = ⊎_elim
    (λ (late : is_decided (mark_at marks rank) ≡ true). rw late refl)
    (λ (undecided : is_decided (mark_at marks rank) ≡ false). ⊎_elim
    (λ (stale : ltb seen (number_kept marks) ≡ true). rw (undecided, stale) refl)
    (λ (fresh : ltb seen (number_kept marks) ≡ false). ⊎_elim
    (λ (here : eqb rank (front_of marks) ≡ true). rw (undecided, fresh, here, settled_length (with_kept marks rank), length-set) refl)
    (λ (elsewhere : eqb rank (front_of marks) ≡ false). ⊎_elim
    (λ (far : leb (front_of marks + 64) rank ≡ true). rw (undecided, fresh, elsewhere, far) refl)
    (λ (near : leb (front_of marks + 64) rank ≡ false). rw (undecided, fresh, elsewhere, near, settled_length (with_note marks rank seen), length-set) refl)
    (cases_Bool (leb (front_of marks + 64) rank)))
    (cases_Bool (eqb rank (front_of marks))))
    (cases_Bool (ltb seen (number_kept marks))))
    (cases_Bool (is_decided (mark_at marks rank)))

-- an event leaves the number of ranks
pub outcome_length : (marks : List Mark) (event : Event) → length (outcome marks event).marks ≡ length marks
outcome_length marks (Take worker rank) = ⊎_elim
    (λ (over : is_decided (mark_at marks rank) ≡ true). rw over refl)
    (λ (undecided : is_decided (mark_at marks rank) ≡ false). rw undecided refl)
    (cases_Bool (is_decided (mark_at marks rank)))
outcome_length marks (TakeFront worker) = ⊎_elim
    (λ (done : eqb (front_of marks) (length marks) ≡ true). rw done refl)
    (λ (more : eqb (front_of marks) (length marks) ≡ false). rw more refl)
    (cases_Bool (eqb (front_of marks) (length marks)))
outcome_length marks (No worker rank seen) = ⊎_elim
    (λ (late : is_decided (mark_at marks rank) ≡ true). rw late refl)
    (λ (undecided : is_decided (mark_at marks rank) ≡ false). rw (undecided, settled_length (with_removed marks rank), length-set) refl)
    (cases_Bool (is_decided (mark_at marks rank)))
outcome_length marks (Yes worker rank seen) = yes_length marks rank seen
outcome_length marks (Block worker rank count seen) = settled_length (with_block marks rank count) ∙ block_length marks rank count

pub after_length : (marks : List Mark) (events : List Event) → length (after marks events) ≡ length marks
after_length marks [] = refl
after_length marks (event ∷ events) = after_length (outcome marks event).marks events ∙ outcome_length marks event

module _ (incoherent : List ℕ → Type 0) where
  yes_at_rest : (marks : List Mark) (rank seen : ℕ) → rank < length marks → seen ≤ number_kept marks
      → ¬ (incoherent (take seen (kept_of marks) ++ rank ∷ [])) → AreAtRest incoherent marks → AreAtRest incoherent (on_yes marks rank seen).marks
  yes_at_rest marks rank seen inside few coherent w = ⊎_elim
      (λ (late : is_decided (mark_at marks rank) ≡ true). rw late w)
      (λ (undecided : is_decided (mark_at marks rank) ≡ false). ⊎_elim
      (λ (stale : ltb seen (number_kept marks) ≡ true). rw (undecided, stale) w)
      (λ (fresh : ltb seen (number_kept marks) ≡ false). ⊎_elim
      (λ (here : eqb rank (front_of marks) ≡ true).
      let at : rank ≡ front_of marks = eqb-true rank (front_of marks) here in
      let most = ltb-false seen (number_kept marks) fresh in
      let all : seen ≡ number_kept marks = omega arith in
      let with_all : ¬ (incoherent (kept_of marks ++ rank ∷ [])) =
      subst (λ ranks. ¬ (incoherent (ranks ++ rank ∷ []))) (ap (λ n. take n (kept_of marks)) all ∙ take-length (kept_of marks)) coherent in
      let kept : AreWatched incoherent (with_kept marks rank) =
      subst (λ r. AreWatched incoherent (with_kept marks r)) (sym at) (keep_watched incoherent marks w.watched (rw at at inside) (rw at at with_all)) in
      rw (undecided, fresh, here) (settle_to_rest incoherent (with_kept marks rank) kept))
      (λ (elsewhere : eqb rank (front_of marks) ≡ false). ⊎_elim
      (λ (far : leb (front_of marks + 64) rank ≡ true). rw (undecided, fresh, elsewhere, far) w)
      (λ (near : leb (front_of marks + 64) rank ≡ false). rw (undecided, fresh, elsewhere, near)
      (settle_to_rest incoherent (with_note marks rank seen) (note_watched incoherent marks w.watched rank seen inside undecided few coherent)))
      (cases_Bool (leb (front_of marks + 64) rank)))
      (cases_Bool (eqb rank (front_of marks))))
      (cases_Bool (ltb seen (number_kept marks))))
      (cases_Bool (is_decided (mark_at marks rank)))

  pub outcome_at_rest : (marks : List Mark) (event : Event) → IsAllowed incoherent marks event → AreAtRest incoherent marks
      → AreAtRest incoherent (outcome marks event).marks
  outcome_at_rest marks (Take worker rank) allowed w = ⊎_elim
      (λ (over : is_decided (mark_at marks rank) ≡ true). rw over w)
      (λ (undecided : is_decided (mark_at marks rank) ≡ false). rw undecided w)
      (cases_Bool (is_decided (mark_at marks rank)))
  outcome_at_rest marks (TakeFront worker) allowed w = ⊎_elim
      (λ (done : eqb (front_of marks) (length marks) ≡ true). rw done w)
      (λ (more : eqb (front_of marks) (length marks) ≡ false). rw more w)
      (cases_Bool (eqb (front_of marks) (length marks)))
  outcome_at_rest marks (No worker rank seen) allowed w = ⊎_elim
      (λ (late : is_decided (mark_at marks rank) ≡ true). rw late w)
      (λ (undecided : is_decided (mark_at marks rank) ≡ false). rw undecided
      (settle_to_rest incoherent (with_removed marks rank) (remove_watched incoherent marks w.watched rank seen allowed.fits.0 undecided allowed.verdict)))
      (cases_Bool (is_decided (mark_at marks rank)))
  outcome_at_rest marks (Yes worker rank seen) allowed w = yes_at_rest marks rank seen allowed.fits.0 allowed.fits.1 allowed.verdict w
  outcome_at_rest marks (Block worker rank count seen) allowed w =
      let at = allowed.fits.0 in
      settle_to_rest incoherent (with_block marks rank count)
      (subst (λ r. AreWatched incoherent (with_block marks r count)) (sym at) (block_watched incoherent marks w.watched count (rw at at allowed.fits.3) (rw at at allowed.verdict)))

  pub after_at_rest : (marks : List Mark) (events : List Event) → AreAllowed incoherent marks events → AreAtRest incoherent marks
      → AreAtRest incoherent (after marks events)
  after_at_rest marks [] allowed w = w
  after_at_rest marks (event ∷ events) allowed w = after_at_rest (outcome marks event).marks events allowed.1 (outcome_at_rest marks event allowed.0 w)

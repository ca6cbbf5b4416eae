-- Sound marks from the opening on, and journals that grow.
use Rattle.std.proofs.Common.{◌≡◌, ℕ, ◌<◌, ◌≤◌, ⊎_elim, List, [], ◌∷◌, ◌++◌, Contains, length, refl, ap, ◌∙◌}
use Rattle.std.proofs.lemmas.Bool.{cases_lt, both_ways}
use Rattle.std.proofs.lemmas.List.{length-replicate}
use Rattle.conflict_logic.specs.Accused.{IsSpared}
use Rattle.conflict_logic.specs.Repair.{IsRepair}
use Rattle.conflict_logic.specs.Certificate.{IsRefuted, IsCertified}
use Rattle.accuse_core.specs.declared.mark.Mark.{Mark}
use Rattle.accuse_core.specs.declared.mark.Mark.TheVariants.{Open, Yes, Removed}
use Rattle.accuse_core.specs.declared.event.Event.{Event}
use Rattle.accuse_core.specs.declared.journal.Entry.{Entry}
use Rattle.accuse_core.specs.Marks.{is_kept, is_removed, is_yes_over, opening, mark_at, kept_of, number_kept, front_of}
use Rattle.accuse_core.specs.Events.{outcome, IsFitting, IsAllowed}
use Rattle.accuse_core.specs.Journal.{after, AreAllowed, events_of, AreReplied, replayed, IsJournal}
use Rattle.accuse_core.specs.Sound.{AreSound}
use Rattle.accuse_core.specs.Inside.Watching.{AreWatched, AreAtRest}
use Rattle.accuse_core.proofs.RankLaws.{no_ranks, ranks_ascend}
use Rattle.accuse_core.proofs.FrontLaws.{decided_before}
use Rattle.accuse_core.proofs.TrackLaws.{open_at}
use Rattle.accuse_core.proofs.MarkLaws.{into_kept, out_of_kept, kept_or_removed}
use Rattle.accuse_core.proofs.EventLaws.{after_at_rest, after_length}

-- a mark of the opening is none of the others
opening_has_no_yes : (ranks rank seen : ℕ) → mark_at (opening ranks) rank ≡ Yes seen → ⊥
opening_has_no_yes ranks rank seen same = let undecided = open_at ranks rank in cc

opening_keeps_nothing : (ranks : ℕ) → kept_of (opening ranks) ≡ []
opening_keeps_nothing ranks = no_ranks is_kept 0 (opening ranks) (λ rank. ap is_kept (open_at ranks rank))

pub events_grow : (entries : List Entry) (entry : Entry) → events_of (entries ++ entry ∷ []) ≡ events_of entries ++ entry.event ∷ []
events_grow [] entry = refl
events_grow (first ∷ entries) entry = ap (λ events. first.event ∷ events) (events_grow entries entry)

after_grows : (marks : List Mark) (events : List Event) (event : Event) → after marks (events ++ event ∷ []) ≡ (outcome (after marks events) event).marks
after_grows marks [] event = refl
after_grows marks (first ∷ events) event = after_grows (outcome marks first).marks events event

pub replayed_grows : (ranks : ℕ) (entries : List Entry) (entry : Entry)
    → replayed ranks (entries ++ entry ∷ []) ≡ (outcome (replayed ranks entries) entry.event).marks
replayed_grows ranks entries entry = ap (after (opening ranks)) (events_grow entries entry) ∙ after_grows (opening ranks) (events_of entries) entry.event

replied_grow : (marks : List Mark) (entries : List Entry) (entry : Entry) → AreReplied marks entries
    → IsFitting (after marks (events_of entries)) entry.event → entry.reply ≡ (outcome (after marks (events_of entries)) entry.event).reply
    → AreReplied marks (entries ++ entry ∷ [])
replied_grow marks [] entry replied fits reply = (fits, reply, tt)
replied_grow marks (first ∷ entries) entry replied fits reply = (replied.0, replied.1, replied_grow (outcome marks first.event).marks entries entry replied.2 fits reply)

pub replayed_length : (ranks : ℕ) (entries : List Entry) → length (replayed ranks entries) ≡ ranks
replayed_length ranks entries = after_length (opening ranks) (events_of entries) ∙ length-replicate ranks Open

module _ (incoherent : List ℕ → Type 0) where
  opening_at_rest : ¬ (incoherent []) → (ranks : ℕ) → AreAtRest incoherent (opening ranks)
  opening_at_rest nothing ranks = record {
    watched = record {
      refuted = λ rank gone. absurd (both_ways (is_removed (mark_at (opening ranks) rank)) (ap is_removed (open_at ranks rank)) gone);
      ahead = λ rank past. ap is_kept (open_at ranks rank);
      coherent = rw (opening_keeps_nothing ranks) nothing;
      noted = λ rank seen same. absurd (opening_has_no_yes ranks rank seen same);
      seen = λ rank seen same. absurd (opening_has_no_yes ranks rank seen same);
    };
    rest = ap (is_yes_over (number_kept (opening ranks))) (open_at ranks (front_of (opening ranks)));
  }

  pub allowed_at_rest : ¬ (incoherent []) → (ranks : ℕ) (events : List Event) → AreAllowed incoherent (opening ranks) events
      → AreAtRest incoherent (after (opening ranks) events)
  allowed_at_rest nothing ranks events allowed = after_at_rest incoherent (opening ranks) events allowed (opening_at_rest nothing ranks)

  module _ (marks : List Mark) (w : AreWatched incoherent marks) where
    kept_before : (rank : ℕ) → Contains (kept_of marks) rank → rank < front_of marks
    kept_before rank held = ⊎_elim
        (λ (low : rank < front_of marks). low)
        (λ (high : front_of marks ≤ rank). absurd (both_ways (is_kept (mark_at marks rank)) (w.ahead rank high) (out_of_kept marks rank held)))
        (cases_lt rank (front_of marks))

    -- the kept ranks are certified among those before the front
    pub certified : IsCertified incoherent (front_of marks) (kept_of marks)
    certified = record {
      ascending = ranks_ascend is_kept 0 marks;
      below = kept_before;
      coherent = w.coherent;
      refuted = λ rank before lacked. ⊎_elim
          (λ kept. absurd (lacked (into_kept marks rank kept)))
          (λ gone. w.refuted rank gone)
          (kept_or_removed (mark_at marks rank) (decided_before marks rank before));
    }

    -- kept ranks are spared, so what they refute is refuted by spared ranks
    pub refuted_by_spared : IsRepair incoherent (front_of marks) (kept_of marks) → (rank : ℕ) → mark_at marks rank ≡ Removed
        → IsRefuted incoherent (IsSpared incoherent) rank
    refuted_by_spared repair rank gone =
        let r = w.refuted rank (ap is_removed gone) in
        record {
          others = r.others;
          each = λ other held. let e = r.each other held in (e.0, repair.kept_is_spared other e.1);
          together = r.together;
        }

    pub sound : IsRepair incoherent (front_of marks) (kept_of marks)
        → ((rank : ℕ) → IsRefuted incoherent (IsSpared incoherent) rank → ¬ (IsSpared incoherent rank)) → AreSound incoherent marks
    sound repair refutes = record {
      kept_is_spared = λ rank kept. repair.kept_is_spared rank (into_kept marks rank (ap is_kept kept));
      removed_is_not_spared = λ rank gone. refutes rank (refuted_by_spared repair rank gone);
      removed_is_refuted = λ rank gone. w.refuted rank (ap is_removed gone);
      decided_before_front = λ rank before. decided_before marks rank before;
      kept_before_front = kept_before;
      kept_ascends = ranks_ascend is_kept 0 marks;
      kept_is_coherent = w.coherent;
    }

  -- one event more at the end
  allowed_grow : (marks : List Mark) (events : List Event) (event : Event) → AreAllowed incoherent marks events
      → IsAllowed incoherent (after marks events) event → AreAllowed incoherent marks (events ++ event ∷ [])
  allowed_grow marks [] event allowed last = (last, tt)
  allowed_grow marks (first ∷ events) event allowed last = (allowed.0, allowed_grow (outcome marks first).marks events event allowed.1 last)

  pub journal_grows : (ranks : ℕ) (entries : List Entry) (entry : Entry) → IsJournal incoherent ranks entries
      → IsAllowed incoherent (replayed ranks entries) entry.event → entry.reply ≡ (outcome (replayed ranks entries) entry.event).reply
      → IsJournal incoherent ranks (entries ++ entry ∷ [])
  journal_grows ranks entries entry journal allowed reply = record {
    allowed = rw (events_grow entries entry) (allowed_grow (opening ranks) (events_of entries) entry.event journal.allowed allowed);
    replied = replied_grow (opening ranks) entries entry journal.replied allowed.fits reply;
  }

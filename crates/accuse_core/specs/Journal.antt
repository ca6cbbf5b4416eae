-- Events one after another, and the journals that tell of them.
use Rattle.std.specs.Prelude.{◌≡◌, ℕ, List, [], ◌∷◌}
use Rattle.accuse_core.specs.declared.mark.Mark.{Mark}
use Rattle.accuse_core.specs.declared.event.Event.{Event}
use Rattle.accuse_core.specs.declared.journal.Entry.{Entry}
use Rattle.accuse_core.specs.Marks.{opening}
use Rattle.accuse_core.specs.Events.{outcome, IsFitting, IsAllowed}

-- the marks after events
abbrev pub after : List Mark → List Event → List Mark
after marks [] = marks
after marks (event ∷ events) = after (outcome marks event).marks events

-- each event is allowed at its place
abbrev pub AreAllowed : (List ℕ → Type 0) → List Mark → List Event → Type 0
AreAllowed incoherent marks [] = Unit {0}
AreAllowed incoherent marks (event ∷ events) =
    IsAllowed incoherent marks event × AreAllowed incoherent (outcome marks event).marks events

-- the events of a journal
abbrev pub events_of : List Entry → List Event
events_of [] = []
events_of (entry ∷ entries) = entry.event ∷ events_of entries

-- each event fits at its place, and has the reply that the core gives to it there
abbrev pub AreReplied : List Mark → List Entry → Type 0
AreReplied marks [] = Unit {0}
AreReplied marks (entry ∷ entries) =
    IsFitting marks entry.event × (entry.reply ≡ (outcome marks entry.event).reply)
    × AreReplied (outcome marks entry.event).marks entries

-- the marks that a journal over this number of ranks leads to
abbrev pub replayed : ℕ → List Entry → List Mark
replayed ranks entries = after (opening ranks) (events_of entries)

-- entries from the opening on: each event is allowed, and has the core's reply
pub record IsJournal (incoherent : List ℕ → Type 0) (ranks : ℕ) (entries : List Entry)
    : Type 0 where
  pub allowed : AreAllowed incoherent (opening ranks) (events_of entries)
  pub replied : AreReplied (opening ranks) entries

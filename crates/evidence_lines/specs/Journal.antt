-- Lines of a journal: how each entry is spelled and read, and which entries have a line.
use Rattle.std.specs.Prelude.{◌≡◌, ℕ, ◌<◌, ◌^◌, ⊤, Bool, true, false, if◌then◌else◌, List, [], ◌∷◌, ◌++◌, codes, bytes_eq, decimal, Option, Some, None}
use Rattle.accuse_core.specs.declared.event.Event.{Event}
use Rattle.accuse_core.specs.declared.event.Event.TheVariants.{Take, TakeFront, No, Yes, Block}
use Rattle.accuse_core.specs.declared.event.Reply.{Reply}
use Rattle.accuse_core.specs.declared.event.Reply.TheVariants.{Over, Seen, Done, Front, Late, Marked, Stale, Kept, Far, Noted}
use Rattle.accuse_core.specs.declared.journal.Entry.{Entry}
use Rattle.line_fields.specs.Lines.{Fields}
use Rattle.line_fields.specs.Numbers.{short_number}
use Rattle.line_fields.specs.Reading.{◌>>=◌, short_in, is_end}

abbrev pub event_fields : Event → Fields
event_fields (Take worker rank) = decimal worker ∷ codes "take" ∷ decimal rank ∷ []
event_fields (TakeFront worker) = decimal worker ∷ codes "front" ∷ []
event_fields (No worker rank seen) =
    decimal worker ∷ codes "no" ∷ decimal rank ∷ decimal seen ∷ []
event_fields (Yes worker rank seen) =
    decimal worker ∷ codes "yes" ∷ decimal rank ∷ decimal seen ∷ []
event_fields (Block worker rank count seen) =
    decimal worker ∷ codes "block" ∷ decimal rank ∷ decimal count ∷ decimal seen ∷ []

-- the word of a reply; the reply with the rank at the front has none
abbrev pub reply_word : Reply → List ℕ
reply_word Over = codes "over"
reply_word (Seen seen) = codes "seen"
reply_word Done = codes "done"
reply_word (Front rank seen) = []
reply_word Late = codes "late"
reply_word Marked = codes "marked"
reply_word (Stale kept) = codes "stale"
reply_word Kept = codes "kept"
reply_word Far = codes "far"
reply_word Noted = codes "noted"

abbrev pub reply_fields : Reply → Fields
reply_fields Over = reply_word Over ∷ []
reply_fields (Seen seen) = codes "seen" ∷ decimal seen ∷ []
reply_fields Done = reply_word Done ∷ []
reply_fields (Front rank seen) = decimal rank ∷ decimal seen ∷ []
reply_fields Late = reply_word Late ∷ []
reply_fields Marked = reply_word Marked ∷ []
reply_fields (Stale kept) = codes "stale" ∷ decimal kept ∷ []
reply_fields Kept = reply_word Kept ∷ []
reply_fields Far = reply_word Far ∷ []
reply_fields Noted = reply_word Noted ∷ []

abbrev pub entry_fields : Entry → Fields
entry_fields e = event_fields e.event ++ reply_fields e.reply

-- the replies that an event may have
abbrev pub answers_take : Reply → Bool
answers_take Over = true
answers_take (Seen seen) = true
answers_take _ = false

abbrev pub answers_front : Reply → Bool
answers_front Done = true
answers_front (Front rank seen) = true
answers_front _ = false

abbrev pub answers_no : Reply → Bool
answers_no Late = true
answers_no Marked = true
answers_no _ = false

abbrev pub answers_yes : Reply → Bool
answers_yes Kept = true
answers_yes Noted = true
answers_yes Far = true
answers_yes Late = true
answers_yes (Stale kept) = true
answers_yes _ = false

abbrev pub answers_block : Reply → Bool
answers_block Kept = true
answers_block _ = false

abbrev pub is_answer : Event → Reply → Bool
is_answer (Take worker rank) reply = answers_take reply
is_answer (TakeFront worker) reply = answers_front reply
is_answer (No worker rank seen) reply = answers_no reply
is_answer (Yes worker rank seen) reply = answers_yes reply
is_answer (Block worker rank count seen) reply = answers_block reply

-- the entry has a line
abbrev pub HasEntryLine : Entry → Type 0
HasEntryLine e = is_answer e.event e.reply ≡ true

abbrev pub take_in : ℕ → Fields → Option (Event × Fields)
take_in worker fields = do
  rank ← short_in fields
  Some (Take worker rank.0, rank.1)

abbrev pub no_in : ℕ → Fields → Option (Event × Fields)
no_in worker fields = do
  rank ← short_in fields
  seen ← short_in rank.1
  Some (No worker rank.0 seen.0, seen.1)

abbrev pub yes_in : ℕ → Fields → Option (Event × Fields)
yes_in worker fields = do
  rank ← short_in fields
  seen ← short_in rank.1
  Some (Yes worker rank.0 seen.0, seen.1)

abbrev pub block_in : ℕ → Fields → Option (Event × Fields)
block_in worker fields = do
  rank ← short_in fields
  count ← short_in rank.1
  seen ← short_in count.1
  Some (Block worker rank.0 count.0 seen.0, seen.1)

abbrev pub verb_in : ℕ → Fields → Option (Event × Fields)
verb_in worker [] = None
verb_in worker (word ∷ rest) =
    if bytes_eq word (codes "take") then take_in worker rest else
    if bytes_eq word (codes "front") then Some (TakeFront worker, rest) else
    if bytes_eq word (codes "no") then no_in worker rest else
    if bytes_eq word (codes "yes") then yes_in worker rest else
    if bytes_eq word (codes "block") then block_in worker rest else None

abbrev pub event_in : Fields → Option (Event × Fields)
event_in fields = do
  worker ← short_in fields
  verb_in worker.0 worker.1

-- the replies that are one word
abbrev pub word_replies : List Reply
word_replies = Over ∷ Done ∷ Late ∷ Marked ∷ Kept ∷ Far ∷ Noted ∷ []

abbrev pub first_reply : List Reply → List ℕ → Option Reply
first_reply [] word = None
first_reply (r ∷ rs) word = if bytes_eq word (reply_word r) then Some r else first_reply rs word

abbrev pub seen_of : Fields → Option Reply
seen_of fields = do
  seen ← short_in fields
  if is_end seen.1 then Some (Seen seen.0) else None

abbrev pub stale_of : Fields → Option Reply
stale_of fields = do
  kept ← short_in fields
  if is_end kept.1 then Some (Stale kept.0) else None

abbrev pub front_of : List ℕ → Fields → Option Reply
front_of word rest = do
  rank ← short_number word
  seen ← short_in rest
  if is_end seen.1 then Some (Front rank seen.0) else None

-- a reply of one word, or one that begins with a rank
abbrev pub word_or_front : Option Reply → List ℕ → Fields → Option Reply
word_or_front None word rest = front_of word rest
word_or_front (Some reply) word rest = if is_end rest then Some reply else None

abbrev pub reply_of : Fields → Option Reply
reply_of [] = None
reply_of (word ∷ rest) =
    if bytes_eq word (codes "seen") then seen_of rest else
    if bytes_eq word (codes "stale") then stale_of rest else
    word_or_front (first_reply word_replies word) word rest

abbrev pub if_answer : Event → Reply → Option Entry
if_answer event reply =
    if is_answer event reply then Some (record { event = event; reply = reply }) else None

-- the entry that a line with these fields is
unfoldable pub entry_of : Fields → Option Entry
entry_of fields = do
  event ← event_in fields
  reply ← reply_of event.1
  if_answer event.0 reply

-- the numbers of an entry are below 2 ^ 32
abbrev pub AreEventNumbers : Event → Type 0
AreEventNumbers (Take worker rank) = (worker < 2 ^ 32) × (rank < 2 ^ 32)
AreEventNumbers (TakeFront worker) = worker < 2 ^ 32
AreEventNumbers (No worker rank seen) = (worker < 2 ^ 32) × (rank < 2 ^ 32) × (seen < 2 ^ 32)
AreEventNumbers (Yes worker rank seen) = (worker < 2 ^ 32) × (rank < 2 ^ 32) × (seen < 2 ^ 32)
AreEventNumbers (Block worker rank count seen) =
    (worker < 2 ^ 32) × (rank < 2 ^ 32) × (count < 2 ^ 32) × (seen < 2 ^ 32)

abbrev pub AreReplyNumbers : Reply → Type 0
AreReplyNumbers (Seen seen) = seen < 2 ^ 32
AreReplyNumbers (Front rank seen) = (rank < 2 ^ 32) × (seen < 2 ^ 32)
AreReplyNumbers (Stale kept) = kept < 2 ^ 32
AreReplyNumbers _ = ⊤

pub record AreEntryNumbers (e : Entry) : Type 0 where
  pub event : AreEventNumbers e.event
  pub reply : AreReplyNumbers e.reply

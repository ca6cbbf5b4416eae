-- What each event does, when it fits, and when it is allowed.
use Rattle.std.specs.Prelude.{◌≡◌, ℕ, ◌+◌, ◌≤◌, ◌<◌, nat_lt, nat_le, ◌==◌, if◌then◌else◌, List, [], ◌∷◌, ◌++◌, take, length}
use Rattle.accuse_core.specs.declared.mark.Mark.{Mark}
use Rattle.accuse_core.specs.declared.event.Event.{Event}
use Rattle.accuse_core.specs.declared.event.Event.TheVariants.{Take, TakeFront, No, Yes, Block}
use Rattle.accuse_core.specs.declared.event.Reply.{Reply}
use Rattle.accuse_core.specs.declared.event.Reply.TheVariants.{Over, Seen, Done, Front, Late, Marked, Stale, Kept, Far, Noted}
use Rattle.accuse_core.specs.Marks.{is_decided, mark_at, kept_of, number_kept, front_of, with_kept, with_removed, with_note, with_block, block_of, settled}

-- the marks after an event, and the reply to it
pub record Stepped : Type 0 where
  pub marks : List Mark
  pub reply : Reply

-- only a reply
abbrev pub replies : List Mark → Reply → Stepped
replies marks reply = record { marks = marks; reply = reply }

-- after a change the front is taken anew
abbrev pub changes : List Mark → Reply → Stepped
changes marks reply = record { marks = settled marks; reply = reply }

abbrev pub on_take : List Mark → ℕ → Stepped
on_take marks rank =
    if is_decided (mark_at marks rank) then replies marks Over
    else replies marks (Seen (number_kept marks))

abbrev pub on_take_front : List Mark → Stepped
on_take_front marks =
    if front_of marks == length marks then replies marks Done
    else replies marks (Front (front_of marks) (number_kept marks))

abbrev pub on_no : List Mark → ℕ → Stepped
on_no marks rank =
    if is_decided (mark_at marks rank) then replies marks Late
    else changes (with_removed marks rank) Marked

-- a yes over all kept ranks keeps the rank at the front; ahead of it, but less than 64 ranks ahead,
-- it is noted
abbrev pub on_yes : List Mark → ℕ → ℕ → Stepped
on_yes marks rank seen =
    if is_decided (mark_at marks rank) then replies marks Late
    else (if nat_lt seen (number_kept marks) then replies marks (Stale (number_kept marks))
    else (if rank == front_of marks then changes (with_kept marks rank) Kept
    else (if nat_le (front_of marks + 64) rank then replies marks Far
    else changes (with_note marks rank seen) Noted)))

abbrev pub on_block : List Mark → ℕ → ℕ → Stepped
on_block marks rank count = changes (with_block marks rank count) Kept

abbrev pub outcome : List Mark → Event → Stepped
outcome marks (Take worker rank) = on_take marks rank
outcome marks (TakeFront worker) = on_take_front marks
outcome marks (No worker rank seen) = on_no marks rank
outcome marks (Yes worker rank seen) = on_yes marks rank seen
outcome marks (Block worker rank count seen) = on_block marks rank count

-- a verdict on a rank fits if its rank is a rank and what it has seen is kept
abbrev pub IsFittingVerdict : List Mark → ℕ → ℕ → Type 0
IsFittingVerdict marks rank seen = (rank < length marks) × (seen ≤ number_kept marks)

-- a block fits if it begins at the front, has seen all kept ranks, is not empty, and ends within
-- the ranks
abbrev pub IsFittingBlock : List Mark → ℕ → ℕ → ℕ → Type 0
IsFittingBlock marks rank count seen =
    (rank ≡ front_of marks) × (seen ≡ number_kept marks)
    × (1 ≤ count) × (rank + count ≤ length marks)

abbrev pub IsFitting : List Mark → Event → Type 0
IsFitting marks (Take worker rank) = rank < length marks
IsFitting marks (TakeFront worker) = Unit {0}
IsFitting marks (No worker rank seen) = IsFittingVerdict marks rank seen
IsFitting marks (Yes worker rank seen) = IsFittingVerdict marks rank seen
IsFitting marks (Block worker rank count seen) = IsFittingBlock marks rank count seen

-- its verdict is true: the first kept ranks that it has seen are incoherent together with the rank,
-- or are coherent with it; all kept ranks are coherent with those of the block that are not removed
abbrev pub IsTrueVerdict : (List ℕ → Type 0) → List Mark → Event → Type 0
IsTrueVerdict incoherent marks (Take worker rank) = Unit {0}
IsTrueVerdict incoherent marks (TakeFront worker) = Unit {0}
IsTrueVerdict incoherent marks (No worker rank seen) =
    incoherent (take seen (kept_of marks) ++ rank ∷ [])
IsTrueVerdict incoherent marks (Yes worker rank seen) =
    ¬ (incoherent (take seen (kept_of marks) ++ rank ∷ []))
IsTrueVerdict incoherent marks (Block worker rank count seen) =
    ¬ (incoherent (kept_of marks ++ block_of marks rank count))

-- an event that workers may tell
pub record IsAllowed (incoherent : List ℕ → Type 0) (marks : List Mark) (event : Event)
    : Type 0 where
  pub fits : IsFitting marks event
  pub verdict : IsTrueVerdict incoherent marks event

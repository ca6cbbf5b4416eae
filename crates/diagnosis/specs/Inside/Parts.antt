-- The parts that workers have in a lock and a draw word.
use Rattle.std.specs.Prelude.{◌≡◌, ◌≢◌, ℕ, ◌+◌, ◌-◌, ◌^◌, ◌<◌, List, [], ◌∷◌, ◌++◌, All, length}
use Rattle.commit_book.specs.Books.{BookView}
use Rattle.commit_lock.specs.declared.draw_word.DrawWord.{DrawWord}
use Rattle.commit_lock.specs.Entries.{IsBeginning}
use Rattle.commit_lock.specs.Passes.{ranks_of as draw_ranks, IsPassOf, IsWholePass, IsEachBelow, drawn, pass_room, passes_for}
use Rattle.commit_lock.specs.Seats.{IsSeatOf, IsIdle, number, seen, seat_room, seats_for}
use Rattle.spec_workers.specs.declared.types.Worked.{Worked}
use Rattle.spec_workers.specs.declared.types.WorkEnd.TheVariants.{OutOfMemory}
use Rattle.spec_workers.specs.Books.{BookLock, lock_case, ranks_at, own_of}
use Rattle.spec_workers.specs.Turns.{IsWork}
use Rattle.diagnosis.specs.declared.parts.Part.{Part}

-- the seat is of this lock and doesn't hold the turn, and the pass is of this word
pub record IsPartOf (lock : BookLock) (word : DrawWord) (part : Part) : Type 0 where
  pub seat : IsSeatOf lock part.seat
  pub idle : IsIdle part.seat
  pub pass : IsPassOf word part.pass

-- how many seats and passes may still be split off, and how many the part stands for, together
abbrev pub seats_in : Part → ℕ
seats_in part = seat_room part.seat + seats_for part.seat

abbrev pub passes_in : Part → ℕ
passes_in part = pass_room part.pass + passes_for part.pass

-- the part counts for itself alone
abbrev pub IsOne : Part → Type 0
IsOne part = (seats_in part ≡ 1) × (passes_in part ≡ 1)

-- a book was put under a lock, with a draw word for its ranks, and this is the first part in both
pub record IsOpened (book : BookView) (lock : BookLock) (word : DrawWord) (first : Part)
    : Type 0 where
  pub part : IsPartOf lock word first
  pub case_is : lock_case lock ≡ book.case
  pub ranks : draw_ranks word ≡ ranks_at lock
  pub zero : number first.seat ≡ 0
  pub undrawn : drawn first.pass ≡ []
  pub seats : (seat_room first.seat ≡ 2 ^ 32 - 2) × (seats_for first.seat ≡ 1)
  pub passes : (pass_room first.pass ≡ 2 ^ 32 - 2) × (passes_for first.pass ≡ 1)

-- this number of parts were split from one
pub record HasSplit (lock : BookLock) (word : DrawWord) (count : ℕ) (before after : Part)
    : Type 0 where
  pub part : IsPartOf lock word after
  pub same : number after.seat ≡ number before.seat
  pub draws : drawn after.pass ≡ drawn before.pass
  pub seats : (seat_room after.seat + count ≡ seat_room before.seat)
      × (seats_for after.seat ≡ seats_for before.seat)
  pub passes : (pass_room after.pass + count ≡ pass_room before.pass)
      × (passes_for after.pass ≡ passes_for before.pass)

-- the part of a worker other than worker 0, which has told and drawn nothing
pub record IsFresh (lock : BookLock) (word : DrawWord) (part : Part) : Type 0 where
  pub is_part : IsPartOf lock word part
  pub one : IsOne part
  pub other : number part.seat ≢ 0
  pub told : own_of (number part.seat) (seen part.seat) ≡ []
  pub undrawn : drawn part.pass ≡ []

-- the part that a worker gives back
abbrev pub part_of : Worked → Part
part_of worked = record { seat = worked.seat; pass = worked.pass }

-- what a worker gives back is a part that counts for itself alone
abbrev pub IsBack : BookLock → DrawWord → Worked → Type 0
IsBack lock word worked = IsPartOf lock word (part_of worked) × IsOne (part_of worked)

-- what the worker told, and what it drew, is the work of a worker of this budget
pub record HasWorked (lock : BookLock) (word : DrawWord) (budget : ℕ) (worked : Worked)
    : Type 0 where
  pub back : IsBack lock word worked
  pub other : number worked.seat ≢ 0
  pub work : IsWork (ranks_at lock) (number worked.seat) budget (drawn worked.pass)
      (own_of (number worked.seat) (seen worked.seat)) worked.end

-- all that these workers drew
abbrev pub drawn_by : List Worked → List ℕ
drawn_by [] = []
drawn_by (worked ∷ all) = drawn worked.pass ++ drawn_by all

-- the seat has seen all that the worker told, and memory did not run out for it
abbrev pub HasSeen : Part → Worked → Type 0
HasSeen part worked = IsBeginning (seen worked.seat) (seen part.seat) × (worked.end ≢ OutOfMemory)

-- the parts of these workers were joined into one
pub record HasJoined (lock : BookLock) (word : DrawWord) (all : List Worked) (before after : Part)
    : Type 0 where
  pub part : IsPartOf lock word after
  pub kept : IsBeginning (seen before.seat) (seen after.seat)
  pub told : All (HasSeen after) all
  pub draws : drawn after.pass ≡ drawn before.pass ++ drawn_by all
  pub seats : seats_in after ≡ seats_in before + length all
  pub passes : passes_in after ≡ passes_in before + length all
  pub each : 0 < length all → IsWholePass after.pass
      → IsEachBelow (length (drawn after.pass)) (drawn after.pass)

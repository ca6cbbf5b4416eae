-- The parts of the workers, from the first split to the last join.
use Rattle.std.proofs.Common.{◌≡◌, ◌∙◌, ℕ, ◌+◌, ◌≤◌, List, ◌++◌, length, refl, sym, ap, subst, arith}
use Rattle.std.specs.List.{All}
use Rattle.accuse_core.specs.declared.journal.Entry.{Entry}
use Rattle.commit_book.specs.Books.{BookView, ranks_of}
use Rattle.commit_lock.specs.declared.draw_word.DrawWord.{DrawWord}
use Rattle.commit_lock.specs.Passes.{KeepsPass, IsWholePass, drawn}
use Rattle.commit_lock.specs.Seats.{KeepsPlace, IsWholeSeat, number, seen}
use Rattle.spec_workers.specs.declared.types.Worked.{Worked}
use Rattle.spec_workers.specs.Books.{BookLock, ranks_at, own_of, Tells}
use Rattle.spec_workers.specs.Turns.{IsWork}
use Rattle.finish_book.specs.Finishing.{IsFinishedBy}
use Rattle.diagnosis.specs.declared.parts.Part.{Part}
use Rattle.diagnosis.specs.Shares.{IsShared}
use Rattle.diagnosis.specs.Inside.Parts.{IsPartOf, part_of, IsOpened, HasSplit, IsFresh, HasWorked, HasJoined}
use Rattle.diagnosis.proofs.ShareLaws.{share_done, share_grows}

module _ (lock : BookLock) (word : DrawWord) where
  -- nothing is split yet
  pub split_none : (first : Part) → IsPartOf lock word first → HasSplit lock word 0 first first
  split_none first is = record {
    part = is;
    same = refl;
    draws = refl;
    seats = (omega arith, refl);
    passes = (omega arith, refl);
  }

  -- one more is split
  pub split_more : (count : ℕ) (first between last : Part) → HasSplit lock word count first between
      → HasSplit lock word 1 between last → HasSplit lock word (count + 1) first last
  split_more count first between last before one =
      let seats_before = before.seats.0 in
      let passes_before = before.passes.0 in
      let seats = one.seats.0 in
      let passes = one.passes.0 in
      record {
        part = one.part;
        same = one.same ∙ before.same;
        draws = one.draws ∙ before.draws;
        seats = (omega (arith, seats_before, seats), one.seats.1 ∙ before.seats.1);
        passes = (omega (arith, passes_before, passes), one.passes.1 ∙ before.passes.1);
      }

  -- what a worker gives back, that was given a fresh part
  pub work_done : (budget : ℕ) (part : Part) (worked : Worked) → IsFresh lock word part
      → IsPartOf lock word (part_of worked) → KeepsPlace part.seat worked.seat → KeepsPass part.pass worked.pass
      → (draws : List ℕ) × (told : List Entry) × (drawn worked.pass ≡ drawn part.pass ++ draws)
      × Tells (number part.seat) (seen part.seat) (seen worked.seat) told
      × IsWork (ranks_at lock) (number part.seat) budget draws told worked.end
      → HasWorked lock word budget worked
  work_done budget part worked fresh is seat pass (draws, told, drew, tells, work) =
      let n = ranks_at lock in
      let one = fresh.one in
      let drawn_is : drawn worked.pass ≡ draws = drew ∙ ap (λ (l : List ℕ). l ++ draws) fresh.undrawn in
      let own_is : own_of (number part.seat) (seen worked.seat) ≡ told =
      tells.own ∙ ap (λ (l : List Entry). l ++ told) fresh.told in
      let here : IsWork n (number part.seat) budget (drawn worked.pass) (own_of (number part.seat) (seen worked.seat)) worked.end =
      subst (λ (d : List ℕ). IsWork n (number part.seat) budget d (own_of (number part.seat) (seen worked.seat)) worked.end) (sym drawn_is)
      (subst (λ (t : List Entry). IsWork n (number part.seat) budget draws t worked.end) (sym own_is) work) in
      record {
        back = (is, (omega (arith, one, seat), omega (arith, one, pass)));
        other = λ none. fresh.other (sym seat.0 ∙ none);
        work = subst (λ (k : ℕ). IsWork n k budget (drawn worked.pass) (own_of k (seen worked.seat)) worked.end) (sym seat.0) here;
      }

  module _ (book : BookView) (workers : ℕ) (all : List Worked) (first between last : Part)
      (begun : IsOpened book lock word first) (split : HasSplit lock word workers first between)
      (joined : HasJoined lock word all between last) (count : length all ≡ workers) where
    -- all seats came back
    pub whole_seat : IsWholeSeat last.seat
    whole_seat =
        let at_first = begun.seats in
        let at_split = split.seats in
        let at_last = joined.seats in
        omega (arith, at_first, at_split, at_last, count)

    -- all passes came back
    pub whole_pass : IsWholePass last.pass
    whole_pass =
        let at_first = begun.passes in
        let at_split = split.passes in
        let at_last = joined.passes in
        omega (arith, at_first, at_split, at_last, count)

    -- and the workers have done their share
    pub share_of_all : (ranks : ℕ) → ranks ≡ ranks_of book.case → 1 ≤ workers
        → All (HasWorked lock word ranks) all → IsShared (ranks_of book.case) (seen last.seat)
    share_of_all ranks is some work =
        let same : ranks_at lock ≡ ranks = ap ranks_of begun.case_is ∙ sym is in
        subst (λ (n : ℕ). IsShared n (seen last.seat)) is
        (share_done lock word ranks all between last same (omega (arith, some, count)) (split.draws ∙ begun.undrawn) whole_pass work joined)

-- a book that was finished begins with what the workers told
pub share_finished : (n : ℕ) (before after : List Entry) → IsShared n before → IsFinishedBy before after → IsShared n after
share_finished n before after share finished =
    share_grows n before after (finished.0, sym finished.1) share

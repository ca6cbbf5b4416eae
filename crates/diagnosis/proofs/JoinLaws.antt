-- Parts that are joined one after another.
use Rattle.std.proofs.Common.{◌≡◌, ◌≢◌, ◌∙◌, ℕ, zero, suc, ◌+◌, List, [], ◌∷◌, ◌++◌, length, refl, sym, ap, arith}
use Rattle.std.specs.List.{All}
use Rattle.std.proofs.lemmas.List.{append_assoc, append-nil, length-append}
use Rattle.std.proofs.lemmas.List.Elements.{All-push, All-weaker}
use Rattle.commit_lock.specs.declared.draw_word.DrawWord.{DrawWord}
use Rattle.commit_lock.specs.Entries.{IsBeginning}
use Rattle.commit_lock.specs.Passes.{IsWholePass, IsEachBelow, drawn, pass_room, passes_for}
use Rattle.commit_lock.specs.Seats.{seen, seat_room, seats_for}
use Rattle.spec_workers.specs.declared.types.Worked.{Worked}
use Rattle.spec_workers.specs.declared.types.WorkEnd.TheVariants.{OutOfMemory}
use Rattle.spec_workers.specs.Books.{BookLock}
use Rattle.spec_workers.proofs.Holds.{begins_through}
use Rattle.diagnosis.specs.declared.parts.Part.{Part}
use Rattle.diagnosis.specs.Inside.Parts.{IsPartOf, IsBack, drawn_by, HasSeen, HasJoined}

-- a fact of the first element and of the rest
pub all_cons : {X : Type 0} (P : X → Type 0) (first : X) (rest : List X) → P first → All P rest → All P (first ∷ rest)
all_cons P first rest one more zero d within = one
all_cons P first rest one more (suc k) d within = more k d (omega arith)

-- what two lists of workers drew
drawn_by_both : (some more : List Worked) → drawn_by (some ++ more) ≡ drawn_by some ++ drawn_by more
drawn_by_both [] more = refl
drawn_by_both (worked ∷ some) more =
    ap (λ (l : List ℕ). drawn worked.pass ++ l) (drawn_by_both some more)
    ∙ sym (append_assoc (drawn worked.pass) (drawn_by some) (drawn_by more))

module _ (lock : BookLock) (word : DrawWord) where
  -- nothing is joined yet
  pub joined_none : (first : Part) → IsPartOf lock word first → HasJoined lock word [] first first
  joined_none first is = record {
    part = is;
    kept = ([], append-nil (seen first.seat));
    told = λ k d within. absurd (omega arith);
    draws = sym (append-nil (drawn first.pass));
    seats = omega arith;
    passes = omega arith;
    each = λ some. absurd (omega arith);
  }

  -- the first one is joined
  pub joined_one : (worked : Worked) (first last : Part) → IsBack lock word worked → worked.end ≢ OutOfMemory
      → IsPartOf lock word last
      → IsBeginning (seen first.seat) (seen last.seat) → IsBeginning (seen worked.seat) (seen last.seat)
      → drawn last.pass ≡ drawn first.pass ++ drawn worked.pass
      → (seat_room last.seat ≡ seat_room first.seat + seat_room worked.seat)
      × (seats_for last.seat ≡ seats_for first.seat + seats_for worked.seat)
      → (pass_room last.pass ≡ pass_room first.pass + pass_room worked.pass)
      × (passes_for last.pass ≡ passes_for first.pass + passes_for worked.pass)
      → (IsWholePass last.pass → IsEachBelow (length (drawn last.pass)) (drawn last.pass))
      → HasJoined lock word (worked ∷ []) first last
  joined_one worked first last back memory is kept told draws seats passes each =
      let one = back.1 in
      record {
        part = is;
        kept = kept;
        told = all_cons (HasSeen last) worked [] (told, memory) (λ k d within. absurd (omega arith));
        draws = draws ∙ ap (λ (l : List ℕ). drawn first.pass ++ l) (sym (append-nil (drawn worked.pass)));
        seats = omega (arith, seats, one);
        passes = omega (arith, passes, one);
        each = λ some. each;
      }

  -- one more is joined
  pub joined_more : (some : List Worked) (worked : Worked) (first between last : Part)
      → HasJoined lock word some first between → HasJoined lock word (worked ∷ []) between last
      → HasJoined lock word (some ++ worked ∷ []) first last
  joined_more some worked first between last before one =
      let told : All (HasSeen last) some = All-weaker (HasSeen between) (HasSeen last)
      (λ other saw. (begins_through (seen other.seat) (seen between.seat) (seen last.seat) saw.0 one.kept, saw.1))
      some before.told in
      let seats = one.seats in
      let passes = one.passes in
      let seats_before = before.seats in
      let passes_before = before.passes in
      let count = length-append some (worked ∷ []) in
      record {
        part = one.part;
        kept = begins_through (seen first.seat) (seen between.seat) (seen last.seat) before.kept one.kept;
        told = All-push (HasSeen last) some worked told (one.told 0 worked (omega arith));
        draws =
            one.draws
            ∙ (ap (λ (l : List ℕ). l ++ drawn_by (worked ∷ [])) before.draws
            ∙ (append_assoc (drawn first.pass) (drawn_by some) (drawn_by (worked ∷ []))
            ∙ ap (λ (l : List ℕ). drawn first.pass ++ l) (sym (drawn_by_both some (worked ∷ [])))));
        seats = omega (arith, seats, seats_before, count);
        passes = omega (arith, passes, passes_before, count);
        each = λ more. one.each (omega arith);
      }

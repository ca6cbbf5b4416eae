-- Why the workers have done their share.
use Rattle.std.proofs.Common.{◌≡◌, ◌≢◌, ◌∙◌, ◌==◌, ◌⊎◌, ℕ, zero, suc, ◌<◌, ◌≤◌, Bool, true, false, not, cond, List, [], ◌∷◌, ◌++◌, length, refl, sym, ap, subst, arith, ⊎_elim, inl, inr, eq-eqb, ne_eqb, lt_of_not-le, Contains}
use Rattle.std.specs.List.{All}
use Rattle.std.proofs.lemmas.Bool.{cases_Bool, eqb-true}
use Rattle.std.proofs.lemmas.List.Sums.{sum_by-cons}
use Rattle.std.proofs.lemmas.List.Elements.{filter-append, All-weaker, Contains-append_left, Contains-append_right, Contains-append_cases}
use Rattle.accuse_core.specs.declared.event.Event.TheVariants.{Take, TakeFront}
use Rattle.accuse_core.specs.declared.event.Reply.TheVariants.{Over, Seen, Done as AllDone}
use Rattle.accuse_core.specs.declared.journal.Entry.{Entry}
use Rattle.commit_book.specs.Books.{worker_of}
use Rattle.commit_lock.specs.declared.draw_word.DrawWord.{DrawWord}
use Rattle.commit_lock.specs.Entries.{IsBeginning}
use Rattle.commit_lock.specs.Passes.{drawn, times, IsEachBelow, IsWholePass}
use Rattle.commit_lock.specs.Seats.{number, seen}
use Rattle.spec_workers.specs.declared.types.WorkEnd.{WorkEnd}
use Rattle.spec_workers.specs.declared.types.WorkEnd.TheVariants.{Done, Budget, OutOfMemory}
use Rattle.spec_workers.specs.declared.types.Worked.{Worked}
use Rattle.spec_workers.specs.Books.{BookLock, ranks_at, own_of}
use Rattle.spec_workers.specs.Turns.{entry, IsTake, AreTaken, IsAtFront, IsEnd, is_verdict, verdicts_in}
use Rattle.spec_workers.proofs.StageLemmas.{verdicts_of_both}
use Rattle.diagnosis.specs.declared.parts.Part.{Part}
use Rattle.diagnosis.specs.Shares.{others_of, IsTakenBy, IsTakenByAnother, IsShared}
use Rattle.diagnosis.proofs.JoinLaws.{all_cons}
use Rattle.diagnosis.specs.Inside.Parts.{HasSeen, HasWorked, HasJoined, drawn_by}

abbrev by : Entry → ℕ
by entry = worker_of entry.event

abbrev one_if_verdict : Entry → ℕ
one_if_verdict e = cond {A = ℕ} (is_verdict e.event) 1 0

-- what holds of all elements holds of one
of_all : {X : Type 0} (P : X → Type 0) (xs : List X) (x : X) → All P xs → Contains xs x → P x
of_all P xs x all at = subst P at.2 (all at.0 x at.1)

-- an element of the rest
later : {X : Type 0} (first : X) (rest : List X) (x : X) → Contains rest x → Contains (first ∷ rest) x
later first rest x there = Contains-append_right (first ∷ []) rest x there

-- the one element of a list
only_one : {X : Type 0} (first x : X) → Contains (first ∷ []) x → first ≡ x
only_one first x (zero, within, at) = at
only_one first x (suc k, within, at) = absurd (omega arith)

-- the other workers' entries in two lists
others_of_both : (one other : List Entry) → others_of (one ++ other) ≡ others_of one ++ others_of other
others_of_both one other = filter-append (λ (e : Entry). not (by e == 0)) one other

-- a list that begins with another has its other workers' entries first
others_begin : (front whole : List Entry) → IsBeginning front whole → IsBeginning (others_of front) (others_of whole)
others_begin front whole begins =
    (others_of begins.0, sym (others_of_both front begins.0) ∙ ap others_of begins.1)

-- the element of a beginning is in the whole
in_beginning : (front whole : List Entry) (e : Entry) → IsBeginning front whole → Contains front e → Contains whole e
in_beginning front whole e begins there =
    subst (λ (l : List Entry). Contains l e) begins.1 (Contains-append_left front begins.0 e there)

-- a beginning has no more verdicts
verdicts_grow : (front whole : List Entry) → IsBeginning front whole → verdicts_in front ≤ verdicts_in whole
verdicts_grow front whole begins =
    let both = verdicts_of_both front begins.0 in
    let all = ap verdicts_in begins.1 in
    omega (arith, both, all)

module _ (worker : ℕ) (other : worker ≢ 0) where
  -- a worker's own entry is one of another worker than worker 0
  own_is_other : (e : Entry) → (by e == worker) ≡ true → (not (by e == 0)) ≡ true
  own_is_other e is =
      let none : (by e == 0) ≡ false = ne_eqb (by e) 0 (λ zero. other (sym (eqb-true (by e) worker is) ∙ zero)) in
      ap not none

  -- what is among a worker's own entries is among those of the other workers
  own_in_others : (entries : List Entry) (e : Entry) → Contains (own_of worker entries) e → Contains (others_of entries) e
  own_in_others [] e there = there
  own_in_others (x ∷ xs) e there = ⊎_elim
      (λ (own : (by x == worker) ≡ true).
      rw (own_is_other x own)
      (⊎_elim
      (λ (first : Contains (x ∷ []) e). Contains-append_left (x ∷ []) (others_of xs) e first)
      (λ rest. later x (others_of xs) e (own_in_others xs e rest))
      (Contains-append_cases (x ∷ []) (own_of worker xs) e
      (subst (λ (b : Bool). Contains (cond {A = List Entry} b (x ∷ own_of worker xs) (own_of worker xs)) e) own there))))
      (λ (not_own : (by x == worker) ≡ false).
      let rest = own_in_others xs e (subst (λ (b : Bool). Contains (cond {A = List Entry} b (x ∷ own_of worker xs) (own_of worker xs)) e) not_own there) in
      ⊎_elim
      (λ (kept : not (by x == 0) ≡ true). rw kept (later x (others_of xs) e rest))
      (λ (dropped : not (by x == 0) ≡ false). rw dropped rest)
      (cases_Bool (not (by x == 0))))
      (cases_Bool (by x == worker))

  -- a worker's own entries have no more verdicts than those of the other workers
  own_verdicts : (entries : List Entry) → verdicts_in (own_of worker entries) ≤ verdicts_in (others_of entries)
  own_verdicts [] = omega arith
  own_verdicts (x ∷ xs) =
      let rest = own_verdicts xs in
      let more_own = sum_by-cons one_if_verdict x (own_of worker xs) in
      let more_others = sum_by-cons one_if_verdict x (others_of xs) in
      ⊎_elim
      (λ (own : (by x == worker) ≡ true). rw (own, own_is_other x own) (omega (arith, rest, more_own, more_others)))
      (λ (not_own : (by x == worker) ≡ false). ⊎_elim
      (λ (kept : not (by x == 0) ≡ true). rw (not_own, kept) (omega (arith, rest, more_others)))
      (λ (dropped : not (by x == 0) ≡ false). rw (not_own, dropped) rest)
      (cases_Bool (not (by x == 0))))
      (cases_Bool (by x == worker))

-- a rank that is taken among some entries is taken among more
taken_within : (worker rank : ℕ) (some more : List Entry) → ((e : Entry) → Contains some e → Contains more e)
    → IsTakenBy worker rank some → IsTakenBy worker rank more
taken_within worker rank some more within taken = ⊎_elim
    (λ over. inl (within (entry (Take worker rank) Over) over))
    (λ tested. inr (tested.0, tested.1, within (entry (Take worker rank) (Seen tested.0)) tested.2, tested.3, within tested.1 tested.4))
    taken

-- a take, in the words of the share
take_is_taken : (worker rank : ℕ) (told : List Entry) → IsTake worker rank told → IsTakenBy worker rank told
take_is_taken worker rank told take = ⊎_elim
    (λ over. inl (subst (λ (l : List Entry). Contains l (entry (Take worker rank) Over)) (sym over) (0, omega arith, refl)))
    (λ tested.
    let asked = entry (Take worker rank) (Seen tested.0) in
    let verdict = tested.1.0 in
    let two : List Entry = asked ∷ verdict ∷ [] in
    let here : IsTakenBy worker rank two = inr (tested.0, verdict, (0, omega arith, refl), tested.1.1, (1, omega arith, refl)) in
    subst (IsTakenBy worker rank) (sym tested.1.2) here)
    take

-- each of the ranks is taken
all_taken : (worker : ℕ) (ranks : List ℕ) (told : List Entry) (rank : ℕ) → AreTaken worker ranks told
    → Contains ranks rank → IsTakenBy worker rank told
all_taken worker [] told rank taken there = absurd (omega (arith, there.1))
all_taken worker (r ∷ rs) told rank taken there =
    let first = taken.0 in
    let rest = taken.1 in
    let whole : IsTakenBy worker rank (first ++ rest) = ⊎_elim
    (λ (here : Contains (r ∷ []) rank).
    let same : r ≡ rank = only_one r rank here in
    taken_within worker rank first (first ++ rest) (λ e at. Contains-append_left first rest e at)
    (subst (λ (x : ℕ). IsTakenBy worker x first) same (take_is_taken worker r first taken.3)))
    (λ (further : Contains rs rank). taken_within worker rank rest (first ++ rest)
    (λ e at. Contains-append_right first rest e at)
    (all_taken worker rs rest rank taken.4 further))
    (Contains-append_cases (r ∷ []) rs rank there) in
    subst (IsTakenBy worker rank) (sym taken.2) whole

-- what is in a list stands there at least once
counted : (xs : List ℕ) (x : ℕ) → Contains xs x → 1 ≤ times x xs
counted [] x there = absurd (omega (arith, there.1))
counted (y ∷ ys) x (zero, within, at) =
    let one = sum_by-cons (λ (z : ℕ). cond {A = ℕ} (z == x) 1 0) y ys in
    let same = ap (λ (b : Bool). cond {A = ℕ} b 1 0) (eq-eqb y x at) in
    omega (arith, one, same)
counted (y ∷ ys) x (suc k, within, at) =
    let one = sum_by-cons (λ (z : ℕ). cond {A = ℕ} (z == x) 1 0) y ys in
    let rest = counted ys x (k, omega arith, at) in
    omega (arith, one, rest)

-- what stands in a list at least once is in it
found : (xs : List ℕ) (x : ℕ) → 1 ≤ times x xs → Contains xs x
found [] x some = absurd (omega arith)
found (y ∷ ys) x some =
    let one = sum_by-cons (λ (z : ℕ). cond {A = ℕ} (z == x) 1 0) y ys in
    ⊎_elim
    (λ (same : (y == x) ≡ true). (0, omega arith, eqb-true y x same))
    (λ (apart : (y == x) ≡ false).
    let none = ap (λ (b : Bool). cond {A = ℕ} b 1 0) apart in
    later y ys x (found ys x (omega (arith, one, none, some))))
    (cases_Bool (y == x))

-- what one of the workers drew is in all that they drew
draws_in : (all : List Worked) (worked : Worked) (rank : ℕ) → Contains all worked → Contains (drawn worked.pass) rank
    → Contains (drawn_by all) rank
draws_in [] worked rank at there = absurd (omega (arith, at.1))
draws_in (w ∷ ws) worked rank (zero, within, at) there =
    Contains-append_left (drawn w.pass) (drawn_by ws) rank
    (subst (λ (x : Worked). Contains (drawn x.pass) rank) (sym at) there)
draws_in (w ∷ ws) worked rank (suc k, within, at) there =
    Contains-append_right (drawn w.pass) (drawn_by ws) rank
    (draws_in ws worked rank (k, omega arith, at) there)

-- what is in all that the workers drew, one of them drew
drawn_by_one : (all : List Worked) (rank : ℕ) → Contains (drawn_by all) rank
    → (worked : Worked) × Contains all worked × Contains (drawn worked.pass) rank
drawn_by_one [] rank there = absurd (omega (arith, there.1))
drawn_by_one (w ∷ ws) rank there = ⊎_elim
    (λ (here : Contains (drawn w.pass) rank). (w, (0, omega arith, refl), here))
    (λ (further : Contains (drawn_by ws) rank).
    let one = drawn_by_one ws rank further in (one.0, later w ws one.0 one.1, one.2))
    (Contains-append_cases (drawn w.pass) (drawn_by ws) rank there)

abbrev IsAtBudget : List Worked → Type 0
IsAtBudget all = (worked : Worked) × Contains all worked × (worked.end ≡ Budget)

-- a worker that has not run out of memory is at its budget, or knows that all is decided
one_end : (end : WorkEnd) → end ≢ OutOfMemory → (end ≡ Budget) ⊎ (end ≡ Done)
one_end Done some = inr refl
one_end Budget some = inl refl
one_end OutOfMemory some = absurd (some refl)

-- so one of the workers is at its budget, or all know it
ends : (all : List Worked) → All (λ worked. worked.end ≢ OutOfMemory) all
    → IsAtBudget all ⊎ All (λ worked. worked.end ≡ Done) all
ends [] some = inr (λ k d within. absurd (omega arith))
ends (w ∷ ws) some = ⊎_elim
    (λ budget. inl (w, (0, omega arith, refl), budget))
    (λ done. ⊎_elim
    (λ (one : IsAtBudget ws). inl (one.0, later w ws one.0 one.1, one.2))
    (λ rest. inr (all_cons (λ (x : Worked). x.end ≡ Done) w ws done rest))
    (ends ws (λ k d within. some (suc k) d (omega arith))))
    (one_end w.end (some 0 w (omega arith)))

module _ (n : ℕ) (before after : List Entry) (begins : IsBeginning before after) where
  -- a share stays one when a journal grows
  pub share_grows : IsShared n before → IsShared n after
  share_grows share =
      let others = others_begin before after begins in
      ⊎_elim
      (λ verdicts. let more = verdicts_grow (others_of before) (others_of after) others in inl (omega (arith, verdicts, more)))
      (λ taken. inr (λ rank inside. let one = taken rank inside in (
        one.0,
        taken_within one.0 rank (others_of before) (others_of after)
            (λ e at. in_beginning (others_of before) (others_of after) e others at) one.1,
      )))
      share

module _ (lock : BookLock) (word : DrawWord) (n : ℕ) (all : List Worked) (first last : Part)
    (ranks : ranks_at lock ≡ n) (work : All (HasWorked lock word n) all)
    (joined : HasJoined lock word all first last) where
  -- the work of one of the workers
  work_of : (worked : Worked) → Contains all worked → HasWorked lock word n worked
  work_of worked at = of_all (HasWorked lock word n) all worked work at

  -- the entries of one of them are among those that the last part has seen
  told_in : (worked : Worked) (at : Contains all worked) (e : Entry)
      → Contains (own_of (number worked.seat) (seen worked.seat)) e → Contains (others_of (seen last.seat)) e
  told_in worked at e there =
      let saw = of_all (HasSeen last) all worked joined.told at in
      in_beginning (others_of (seen worked.seat)) (others_of (seen last.seat)) e
      (others_begin (seen worked.seat) (seen last.seat) saw.0)
      (own_in_others (number worked.seat) (work_of worked at).other (seen worked.seat) e there)

  -- a worker at its budget has told a verdict for each of n ranks
  by_budget : IsAtBudget all → n ≤ verdicts_in (others_of (seen last.seat))
  by_budget (worked, at, end) =
      let saw = of_all (HasSeen last) all worked joined.told at in
      let has = work_of worked at in
      let told = own_of (number worked.seat) (seen worked.seat) in
      let is : IsEnd (ranks_at lock) (number worked.seat) n (drawn worked.pass) told Budget =
      subst (λ (e : WorkEnd). IsEnd (ranks_at lock) (number worked.seat) n (drawn worked.pass) told e) end has.work.ends in
      let own = own_verdicts (number worked.seat) has.other (seen worked.seat) in
      let grown = verdicts_grow (others_of (seen worked.seat)) (others_of (seen last.seat)) (others_begin (seen worked.seat) (seen last.seat) saw.0) in
      let tests = is.1 in
      omega (arith, tests, own, grown)

  module _ (done : All (λ worked. worked.end ≡ Done) all) where
    -- a worker that knows that all is decided came to the front
    at_front : (worked : Worked) → Contains all worked
        → (before : List Entry)
        × (own_of (number worked.seat) (seen worked.seat) ≡ before ++ entry (TakeFront (number worked.seat)) AllDone ∷ [])
        × IsAtFront n (number worked.seat) (drawn worked.pass) before
    at_front worked at =
        let has = work_of worked at in
        let end : worked.end ≡ Done = of_all (λ (w : Worked). w.end ≡ Done) all worked done at in
        let told = own_of (number worked.seat) (seen worked.seat) in
        subst (λ (k : ℕ). IsEnd k (number worked.seat) n (drawn worked.pass) told Done) ranks
        (subst (λ (e : WorkEnd). IsEnd (ranks_at lock) (number worked.seat) n (drawn worked.pass) told e) end has.work.ends)

    -- each rank that it drew, it took
    took : (worked : Worked) → Contains all worked → (rank : ℕ) → rank < n → Contains (drawn worked.pass) rank
        → IsTakenBy (number worked.seat) rank (others_of (seen last.seat))
    took worked at rank inside there =
        let front = at_front worked at in
        let is = front.2 in
        let takes = is.takes in
        ⊎_elim
        (λ (mine : Contains is.ranks rank).
        taken_within (number worked.seat) rank takes (others_of (seen last.seat))
        (λ e here. told_in worked at e
        (subst (λ (l : List Entry). Contains l e) (sym front.1)
        (Contains-append_left front.0 (entry (TakeFront (number worked.seat)) AllDone ∷ []) e
        (subst (λ (l : List Entry). Contains l e) (sym is.told)
        (Contains-append_left takes is.fronts e here)))))
        (all_taken (number worked.seat) is.ranks takes rank is.taken mine))
        (λ (none : Contains (is.past ∷ []) rank).
        let same : is.past ≡ rank = only_one is.past rank none in
        let past = is.none in
        absurd (omega (arith, same, past, inside)))
        (Contains-append_cases is.ranks (is.past ∷ []) rank
        (subst (λ (l : List ℕ). Contains l rank) is.drawn there))

    -- each rank was drawn by one of them
    by_draws : (one : Worked) → Contains all one → drawn first.pass ≡ []
        → IsEachBelow (length (drawn last.pass)) (drawn last.pass)
        → (rank : ℕ) → rank < n → IsTakenByAnother (seen last.seat) rank
    by_draws one at none each rank inside =
        let draws : drawn last.pass ≡ drawn_by all = joined.draws ∙ ap (λ (l : List ℕ). l ++ drawn_by all) none in
        let front = (at_front one at).2 in
        let past_there : Contains (drawn one.pass) front.past =
        subst (λ (l : List ℕ). Contains l front.past) (sym front.drawn)
        (Contains-append_right front.ranks (front.past ∷ []) front.past (0, omega arith, refl)) in
        let past_drawn : Contains (drawn last.pass) front.past =
        subst (λ (l : List ℕ). Contains l front.past) (sym draws) (draws_in all one front.past at past_there) in
        let once = counted (drawn last.pass) front.past past_drawn in
        let below : front.past < length (drawn last.pass) =
        lt_of_not-le (λ (over : length (drawn last.pass) ≤ front.past). let no = each.1 front.past over in absurd (omega (arith, no, once))) in
        let past = front.none in
        let times_one = each.0 rank (omega (arith, below, past, inside)) in
        let there = found (drawn last.pass) rank (omega (arith, times_one)) in
        let who = drawn_by_one all rank (subst (λ (l : List ℕ). Contains l rank) draws there) in
        (number who.0.seat, took who.0 who.1 rank inside who.2)

-- the workers that were joined have done their share
pub share_done : (lock : BookLock) (word : DrawWord) (n : ℕ) (all : List Worked) (first last : Part)
    → ranks_at lock ≡ n → 0 < length all → drawn first.pass ≡ [] → IsWholePass last.pass
    → All (HasWorked lock word n) all → HasJoined lock word all first last → IsShared n (seen last.seat)
share_done lock word n [] first last ranks some none whole work joined = absurd (omega arith)
share_done lock word n (w ∷ ws) first last ranks some none whole work joined =
    let all : List Worked = w ∷ ws in
    ⊎_elim
    (λ budget. inl (by_budget lock word n all first last ranks work joined budget))
    (λ done. inr (by_draws lock word n all first last ranks work joined done w (0, omega arith, refl) none (joined.each some whole)))
    (ends all (All-weaker (HasSeen last) (λ (x : Worked). x.end ≢ OutOfMemory) (λ x saw. saw.1) all joined.told))

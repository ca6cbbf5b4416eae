-- A whole seat is the only live one: the value is at home, with exactly the entries that the seat has seen.
use Rattle.std.proofs.Common.{◌≡◌, ◌≢◌, ◌+◌, ℕ, List, [], ◌∷◌, Option, Some, None, sym, ap, ◌∙◌, subst, arith}
use Rattle.std.specs.List.{sum_by}
use mathlib.Core.Logic.{dite}
use mathlib.Core.Option as maybe
use native.Mathlib.Decide.{ℕ_discrete}
use lib.ListN.{get_elem?}
use Rattle.atomic_table.specs.Table.{State, Me, Seen, Final}
use Rattle.commit_lock.specs.declared.lock.SeatView.{SeatView}
use Rattle.commit_lock.specs.Inside.LockRule.{turn, stands_for, room, most, LockRule}
use Rattle.commit_lock.specs.Inside.LockSteps.{Rests}
use Rattle.commit_lock.proofs.Sums.{sum_by-at_most, sum_by-two_at_most, sum_by-some}
use Rattle.commit_lock.proofs.Witness.{at_one_place}

module _ {V C E : Type 0} (case_of : V → C) (entries_of : V → List E) (worker : E → ℕ) (key : C) where
  abbrev Table : Type 0
  Table = State (Option V) (SeatView C E)

  abbrev Rule : Table → Type 0
  Rule = LockRule case_of entries_of worker key

  -- beside a whole seat no other stands for any
  no_other : (id : ℕ) (view : SeatView C E) (state : Table) → view.room + view.stands_for ≡ most
      → Seen Rule id view state
      → (place : ℕ) (other : SeatView C E) → get_elem? state.views place ≡ maybe.some other
      → place ≢ id → other.stands_for ≡ 0
  no_other id view state whole seen place other at_other apart =
      let rule = seen.0 in
      let both = sum_by-two_at_most stands_for state.views place id other view at_other seen.1 apart in
      let part = sum_by-at_most room state.views id view seen.1 in
      let standing = rule.counts.standing in
      let rooms = rule.counts.rooms in
      omega arith

  -- beside a whole seat that rests the turn is free
  turn_is_free : (id : ℕ) (view : SeatView C E) (state : Table) → view.turn ≡ 0
      → view.room + view.stands_for ≡ most → Seen Rule id view state → sum_by turn state.views ≡ 0
  turn_is_free id view state idle whole seen = dite (ℕ_discrete (sum_by turn state.views) 0) (λ e. e)
      (λ some_turn.
      let rule = seen.0 in
      let (place, holder, at, has) = sum_by-some turn state.views (omega arith) in
      let its = rule.each place holder at in
      let apart : place ≢ id = λ same.
      let one : holder ≡ view = at_one_place state.views id place view holder seen.1 at same in
      let idle_too : holder.turn ≡ view.turn = ap turn one in omega arith in
      let none = no_other id view state whole seen place holder at apart in
      let lives = its.holder in
      let stands = its.standing in
      absurd (omega arith))

  -- the whole seat has seen every entry
  has_seen_all : (id : ℕ) (view : SeatView C E) (state : Table) → view.room + view.stands_for ≡ most
      → (seen : Seen Rule id view state) → view.seen ≡ seen.0.log
  has_seen_all id view state whole seen =
      let (place, witness, at, stands, all) = seen.0.witness in
      dite (ℕ_discrete place id)
      (λ here.
      let same = at_one_place state.views id place view witness seen.1 at here in
      subst (λ (v : SeatView C E). v.seen ≡ seen.0.log) same all)
      (λ apart. let none = no_other id view state whole seen place witness at apart in absurd (omega arith))

  -- the value at home
  at_home : (id : ℕ) (view : SeatView C E) (state : Table) → view.turn ≡ 0
      → view.room + view.stands_for ≡ most → Seen Rule id view state
      → (value : V) × (state.homes ≡ maybe.some (Some value) ∷ [])
      × (case_of value ≡ key) × (entries_of value ≡ view.seen)
  at_home id view state idle whole seen =
      let (value, home, case_is, entries_are) = seen.0.free (turn_is_free id view state idle whole seen) in
      (value, home, case_is, entries_are ∙ sym (has_seen_all id view state whole seen))

  -- the slot of the closed table has the value
  pub closed : (id : ℕ) (me : Me (Option V) (SeatView C E)) (words : List ℕ)
      (slots : List (Option V)) (out : Option V)
      → Rests me → me.0.room + me.0.stands_for ≡ most
      → Final (Seen Rule id me.0) words slots → get_elem? slots 0 ≡ maybe.some out
      → (value : V) × (out ≡ Some value) × (case_of value ≡ key) × (entries_of value ≡ me.0.seen)
  closed id me words slots out rests whole final first =
      let (state, seen, words_are, long, back) = final in
      let (value, home, case_is, entries_are) = at_home id me.0 state rests.1 whole seen in
      let there : get_elem? state.homes 0 ≡ maybe.some (maybe.some (Some value)) =
      ap (λ (homes : List (maybe.Option (Option V))). get_elem? homes 0) home in
      (value, maybe.some-injective out (Some value) (sym first ∙ back 0 (Some value) there), case_is, entries_are)

  -- the value of the option, or another
  value_or : V → Option V → V
  value_or other (Some value) = value
  value_or other None = other

  -- the same of the value that came out
  pub closed_with : (id : ℕ) (me : Me (Option V) (SeatView C E)) (words : List ℕ)
      (slots : List (Option V)) (out : Option V) (value : V)
      → Rests me → me.0.room + me.0.stands_for ≡ most
      → Final (Seen Rule id me.0) words slots → get_elem? slots 0 ≡ maybe.some out
      → out ≡ Some value → (case_of value ≡ key) × (entries_of value ≡ me.0.seen)
  unfolding value_or
  closed_with id me words slots out value rests whole final first is =
      let (it, out_is, case_is, entries_are) = closed id me words slots out rests whole final first in
      let same : it ≡ value = ap (value_or value) (sym out_is ∙ is) in
      (ap case_of (sym same) ∙ case_is, subst (λ (v : V). entries_of v ≡ me.0.seen) same entries_are)

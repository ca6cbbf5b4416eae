-- The steps that take the turn and give it back keep the rule of the lock.
use Rattle.std.proofs.Common.{◌≡◌, ◌≢◌, ◌%◌, ◌-◌, ◌+◌, ◌*◌, ◌^◌, ℕ, List, [], ◌∷◌, ◌++◌, length, set, slice_index, bit_or, bit_and, Option, Some, None, refl, sym, ap, ◌∙◌, subst, arith}
use Rattle.std.specs.List.{sum_by}
use mathlib.Core.Logic.{dite}
use mathlib.Core.Option as maybe
use native.Mathlib.Decide.{ℕ_discrete}
use lib.ListN.{get_elem?}
use Rattle.atomic_table.specs.Table.{State, Me, Act, Valid, carried_after, step, keeps, takes, gives, stepped, Allows, rest}
use Rattle.atomic_table.proofs.Lists.{set_again}
use Rattle.commit_lock.specs.declared.lock.SeatView.{SeatView}
use Rattle.commit_lock.specs.Entries.{IsBeginning, GrowsBy, made_by}
use Rattle.commit_lock.specs.Inside.LockRule.{turn, Knows, LockRule}
use Rattle.commit_lock.specs.Inside.LockSteps.{with_turn, without_turn, Rests, TakesTurn, GivesTurn, MayLeave}
use Rattle.commit_lock.proofs.Sums.{sum_by-set_at, sum_by-at_most, sum_by-two_at_most}
use Rattle.commit_lock.proofs.Views.{set_there, each_changed}
use Rattle.commit_lock.proofs.Words.{word_found, word_left, word_kept, or_even, or_odd, and_odd}
use Rattle.commit_lock.proofs.EntryLemmas.{begins_itself, begins_more, made_by-other}
use Rattle.commit_lock.proofs.SeatNumbers.{differ, was_drawn, same_counts, few_made}
use Rattle.commit_lock.proofs.Witness.{seen_changed}

-- the homes of a table with one slot
one_home : {A : Type 0} (homes : List (maybe.Option A)) (x : maybe.Option A) → length homes ≡ 1
    → set homes 0 x ≡ x ∷ []
one_home [] x is = absurd (omega arith)
one_home (h ∷ []) x is = refl
one_home (h ∷ k ∷ more) x is = absurd (omega arith)

module _ {V C E : Type 0} (case_of : V → C) (entries_of : V → List E) (worker : E → ℕ) (key : C) where
  abbrev Table : Type 0
  Table = State (Option V) (SeatView C E)

  abbrev Rule : Table → Type 0
  Rule = LockRule case_of entries_of worker key

  abbrev Known : List E → SeatView C E → Type 0
  Known = Knows case_of entries_of worker key

  abbrev Mine : Type 0
  Mine = Me (Option V) (SeatView C E)

  -- the seat may try to take the turn
  abbrev MayTry : ℕ → ℕ → ℕ → ℕ → Mine → Type 0
  MayTry slots id first second me =
      Allows Rule slots id me 0 (λ n. bit_or n 1)
      (TakesTurn case_of entries_of worker (step slots 0 first second maybe.none) me)

  -- the seat may give the turn back
  abbrev MayGive : ℕ → ℕ → ℕ → ℕ → Mine → Type 0
  MayGive slots id first second me =
      Allows Rule slots id me 0 (λ n. bit_and n (2 ^ 64 - 2))
      (GivesTurn entries_of (step slots 0 first second maybe.none) me)

  -- what a step that sets the turn bit may make of a seat
  abbrev Takes : ℕ → ℕ → ℕ → ℕ → SeatView C E → Table → Type 0
  Takes slots id first second view state =
      (after : SeatView C E) × (act : Act (Option V)) × Valid state.homes [] act
      × Rule (stepped state 0 (bit_or (slice_index state.words 0) 1) id [] after act)
      × TakesTurn case_of entries_of worker (step slots 0 first second maybe.none) (view, [])
      (slice_index state.words 0) (after, carried_after [] act)

  -- the turn is free: the seat takes it, and the slot with the value
  takes_free : (slots id first second : ℕ) (view : SeatView C E)
      → slots ≡ 1 → view.live ≡ 1 → view.turn ≡ 0
      → (state : Table) → Rule state → length state.homes ≡ slots
      → get_elem? state.views id ≡ maybe.some view → sum_by turn state.views ≡ 0
      → Takes slots id first second view state
  takes_free slots id first second view one_slot live idle state rule deep at free =
      let views = state.views in
      let made = rule.made in
      let (value, home, case_is, entries_are) = rule.free free in
      let mine = rule.each id view at in
      let after : SeatView C E = with_turn (entries_of value) view in
      let changed = sum_by-set_at turn views id view after at in
      let now : sum_by turn (set views id after) ≡ 1 = omega arith in
      let word_is : ℕ = 2 * made + sum_by turn views in
      let found : slice_index state.words 0 ≡ 2 * made + 0 =
      word_found state.words word_is rule.word ∙ ap (λ (t : ℕ). 2 * made + t) free in
      let taken : bit_or word_is 1 ≡ 2 * made + sum_by turn (set views id after) =
      ap (λ (t : ℕ). bit_or (2 * made + t) 1) free
      ∙ (or_even made ∙ ap (λ (t : ℕ). 2 * made + t) (sym now)) in
      let even : slice_index state.words 0 % 2 ≡ 0 = omega arith in (
        after,
        takes 0 (Some value),
        ap (λ (homes : List (maybe.Option (Option V))). get_elem? homes 0) home,
        record {
          log = rule.log;
          made = made;
          word = word_left state.words (λ n. bit_or n 1) word_is _ rule.word taken;
          one_holder = omega arith;
          free = λ none. absurd (omega arith);
          held = λ _. one_home state.homes maybe.none (deep ∙ one_slot);
          each = each_changed (Known rule.log) views id after
              (record {
                case = mine.case;
                seen = mine.seen;
                own = mine.own;
                holder = omega arith;
                entered = λ _. entries_are;
                standing = mine.standing;
                before = mine.before;
                beside = mine.beside;
                kept = mine.kept;
                kept_beside = mine.kept_beside;
                partner = mine.partner;
              })
              (λ place other apart at_other. rule.each place other at_other);
          counts = same_counts made views id view after at refl refl refl refl rule.counts;
          numbers = rule.numbers;
          witness =
              seen_changed rule.log views id view after at (λ stands all. (stands, all)) rule.witness;
        },
        rw even (
          value,
          (
            (λ c e. case_is ∙ sym (mine.case c e)),
            subst (IsBeginning view.seen) (sym entries_are) mine.seen,
            ap (made_by worker view.number) entries_are ∙ mine.own live,
          ),
          refl,
        ),
      )

  -- another seat holds the turn: nothing changes
  takes_none : (slots id first second : ℕ) (view : SeatView C E) (state : Table) → Rule state
      → get_elem? state.views id ≡ maybe.some view → sum_by turn state.views ≡ 1
      → Takes slots id first second view state
  takes_none slots id first second view state rule at held =
      let views = state.views in
      let made = rule.made in
      let word_is : ℕ = 2 * made + sum_by turn views in
      let found : slice_index state.words 0 ≡ 2 * made + 1 =
      word_found state.words word_is rule.word ∙ ap (λ (t : ℕ). 2 * made + t) held in
      let odd : slice_index state.words 0 % 2 ≡ 1 = omega arith in
      let stays : bit_or word_is 1 ≡ word_is =
      ap (λ (t : ℕ). bit_or (2 * made + t) 1) held
      ∙ (or_odd made ∙ ap (λ (t : ℕ). 2 * made + t) (sym held)) in
      let same = word_kept state.words (λ n. bit_or n 1) word_is rule.word stays in
      let same_views = set_again views id view at in (
        view,
        keeps,
        tt,
        subst (λ (t : List ℕ × List (SeatView C E)). Rule record { words = t.0; homes = state.homes; views = t.1 })
            (λ i. (sym same i, sym same_views i)) rule,
        rw odd refl,
      )

  -- the step that tries to take the turn
  takes_turn : (slots id first second : ℕ) (view : SeatView C E)
      → slots ≡ 1 → view.live ≡ 1 → view.turn ≡ 0 → MayTry slots id first second (view, [])
  takes_turn slots id first second view one_slot live idle state rule deep at bounded =
      let most = rule.one_holder in
      dite (ℕ_discrete (sum_by turn state.views) 0)
      (λ free. takes_free slots id first second view one_slot live idle state rule deep at free)
      (λ not_free. takes_none slots id first second view state rule at (omega arith))

  -- the same for a seat as it holds its slots
  pub takes_by : (slots id first second : ℕ) (me : Mine) → slots ≡ 1 → Rests me
      → MayTry slots id first second me
  takes_by slots id first second (view, slot) one_slot rests =
      subst (λ (held : List (ℕ × Option V)). MayTry slots id first second (view, held)) (sym rests.2)
      (takes_turn slots id first second view one_slot rests.0 rests.1)

  -- the value in the slot that a seat holds, or another
  slot_value : V → List (ℕ × Option V) → V
  slot_value other [] = other
  slot_value other ((place, Some value) ∷ more) = value
  slot_value other ((place, None) ∷ more) = other

  -- the step that gives the turn back with a grown value
  gives_turn : (slots id first second : ℕ) (view : SeatView C E) (value : V)
      → slots ≡ 1 → view.live ≡ 1 → view.turn ≡ 1 → MayLeave case_of entries_of worker view value
      → MayGive slots id first second (view, (0, Some value) ∷ [])
  unfolding slot_value
  gives_turn slots id first second view value one_slot live held may state rule deep at bounded =
      let (case_is, grown) = may in
      let (more, is_more, its_own) = grown in
      let views = state.views in
      let made = rule.made in
      let log = rule.log in
      let mine = rule.each id view at in
      let entries : List E = entries_of value in
      let after : SeatView C E = without_turn entries view in
      let changed = sum_by-set_at turn views id view after at in
      let most = rule.one_holder in
      let part = sum_by-at_most turn views id view at in
      let was : sum_by turn views ≡ 1 = omega arith in
      let now : sum_by turn (set views id after) ≡ 0 = omega arith in
      let word_is : ℕ = 2 * made + sum_by turn views in
      let given : bit_and word_is (2 ^ 64 - 2) ≡ 2 * made + sum_by turn (set views id after) =
      ap (λ (t : ℕ). bit_and (2 * made + t) (2 ^ 64 - 2)) was
      ∙ (and_odd made (few_made made views rule.counts) ∙ ap (λ (t : ℕ). 2 * made + t) (sym now)) in
      let home = one_home state.homes (maybe.some (Some value)) (deep ∙ one_slot) in
      let grows : entries ≡ log ++ more =
      is_more ∙ ap (λ (l : List E). l ++ more) (mine.entered held) in
      let grows_other : (n : ℕ) → view.number ≢ n → made_by worker n entries ≡ made_by worker n log = λ n apart.
      ap (made_by worker n) grows ∙ made_by-other worker n view.number log more apart its_own in (
        after,
        gives,
        tt,
        record {
          log = entries;
          made = made;
          word = word_left state.words (λ n. bit_and n (2 ^ 64 - 2)) word_is _ rule.word given;
          one_holder = omega arith;
          free = λ _. (value, home, mine.case (case_of value) case_is, refl);
          held = λ one. absurd (omega arith);
          each = each_changed (Known entries) views id after
              (record {
                case = mine.case;
                seen = begins_itself entries;
                own = λ _. refl;
                holder = omega arith;
                entered = λ e. absurd (omega arith);
                standing = mine.standing;
                before = begins_itself entries;
                beside = begins_itself entries;
                kept = refl;
                kept_beside = refl;
                partner = mine.partner;
              })
              (λ place other apart at_other.
              let its = rule.each place other at_other in
              let both = sum_by-two_at_most turn views place id other view at_other at apart in
              let idle : other.turn ≡ 0 = omega arith in
              let numbers_differ : other.live ≡ 1 → view.number ≢ other.number = λ lives same.
              differ made views place id other view rule.counts at_other at apart lives live (sym same) in record {
                case = its.case;
                seen =
                    subst (IsBeginning other.seen) (sym grows) (begins_more other.seen log more its.seen);
                own = λ lives. grows_other other.number (numbers_differ lives) ∙ its.own lives;
                holder = its.holder;
                entered = λ e. absurd (omega arith);
                standing = its.standing;
                before = its.before;
                beside = its.beside;
                kept = its.kept;
                kept_beside = its.kept_beside;
                partner = its.partner;
              });
          counts = same_counts made views id view after at refl refl refl refl rule.counts;
          numbers = λ n above.
              grows_other n (was_drawn made views id view rule.counts at live n above)
              ∙ rule.numbers n above;
          witness =
              let stands = mine.standing in
              (id, after, set_there views id view after at, omega arith, refl);
        },
        (λ other e.
            let same : value ≡ other = ap (slot_value value) e in
            ap (λ (v : V). (without_turn (entries_of v) view, [])) same),
      )

  -- the same for a seat that has put the value into its slot
  pub gives_by : (slots id first second : ℕ) (me after : Mine) (value : V)
      → after ≡ (me.0, (0, Some value) ∷ rest me.1) → slots ≡ 1
      → (me.0.live ≡ 1) × (me.0.turn ≡ 1) × (me.1 ≡ (0, None) ∷ [])
      → me.0.case ≡ Some key → case_of value ≡ key
      → GrowsBy worker me.0.number me.0.entered (entries_of value) → MayGive slots id first second after
  gives_by slots id first second me after value stored one_slot has_turn case value_case grown =
      let is : after ≡ (me.0, (0, Some value) ∷ []) =
      stored ∙ ap (λ (held : List (ℕ × Option V)). (me.0, (0, Some value) ∷ rest held)) has_turn.2 in
      subst (MayGive slots id first second) (sym is)
      (gives_turn slots id first second me.0 value one_slot has_turn.0 has_turn.1 (case ∙ ap Some (sym value_case), grown))

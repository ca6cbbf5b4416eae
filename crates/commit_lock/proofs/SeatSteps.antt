-- The steps that split, number, join and settle seats keep the rule of the lock.
use Rattle.std.proofs.Common.{◌≡◌, ◌%◌, ◌/◌, ◌-◌, ◌+◌, ◌*◌, ◌^◌, ◌<◌, ◌≤◌, ℕ, List, [], ◌∷◌, ◌++◌, set, slice_index, Option, refl, sym, ap, ◌∙◌, subst, arith}
use Rattle.std.specs.List.{sum_by}
use Rattle.std.proofs.lemmas.List.Sums.{sum_by_push}
use mathlib.Core.Option as maybe
use lib.ListN.{get_elem?}
use Rattle.atomic_table.specs.Table.{State, Me, step, keeps, Allows, Splits, Joins}
use Rattle.atomic_table.proofs.Lists.{set_else}
use Rattle.commit_lock.specs.declared.lock.SeatView.{SeatView}
use Rattle.commit_lock.specs.Entries.{longer, made_by}
use Rattle.commit_lock.specs.Inside.LockRule.{turn, stands_for, room, Knows, LockRule}
use Rattle.commit_lock.specs.Inside.LockSteps.{one_less, unnumbered, numbered, joined, spent_seat, settled, Rests, DrawsNumber, SettlesJoin}
use Rattle.commit_lock.proofs.Sums.{sum_by-set_at, sum_by-at_most}
use Rattle.commit_lock.proofs.Views.{each_changed, each_added}
use Rattle.commit_lock.proofs.Words.{word_found, word_left}
use Rattle.commit_lock.proofs.EntryLemmas.{begins_itself, merged, made_by-between, made_by-front}
use Rattle.commit_lock.proofs.SeatNumbers.{differ, same_counts}
use Rattle.commit_lock.proofs.SeatCounts.{split_counts, numbered_counts, joined_counts}
use Rattle.commit_lock.proofs.Witness.{seen_changed, seen_added, seen_joined}

module _ {V C E : Type 0} (case_of : V → C) (entries_of : V → List E) (worker : E → ℕ) (key : C) where
  abbrev Table : Type 0
  Table = State (Option V) (SeatView C E)

  abbrev Rule : Table → Type 0
  Rule = LockRule case_of entries_of worker key

  abbrev Known : List E → SeatView C E → Type 0
  Known = Knows case_of entries_of worker key

  abbrev Mine : Type 0
  Mine = Me (Option V) (SeatView C E)

  -- the seat may draw its number
  abbrev MayDraw : ℕ → ℕ → ℕ → ℕ → Mine → Type 0
  MayDraw slots id first second me =
      Allows Rule slots id me 0 (λ n. (n + 2) % 2 ^ 64)
      (DrawsNumber worker (step {S = Option V} slots 0 first second maybe.none) me)

  -- the seat may look at the turn word after a join
  abbrev MaySettle : ℕ → ℕ → ℕ → ℕ → Mine → Type 0
  MaySettle slots id first second me =
      Allows Rule slots id me 0 (λ n. n)
      (SettlesJoin worker (step {S = Option V} slots 0 first second maybe.none) me)

  -- a split
  pub splits : (id : ℕ) (view : SeatView C E) → 1 ≤ view.room
      → Splits Rule id view (one_less view) (unnumbered view)
  splits id view roomy state rule at =
      let views = state.views in
      let made = rule.made in
      let mine = rule.each id view at in
      let left : SeatView C E = one_less view in
      let right : SeatView C E = unnumbered view in
      let kept : List (SeatView C E) = set views id left in
      let changed = sum_by-set_at turn views id view left at in
      let most = rule.one_holder in
      let same : sum_by turn (kept ++ right ∷ []) ≡ sum_by turn views =
      omega (arith, sum_by_push turn kept right) in
      let seen = seen_changed rule.log views id view left at (λ stands all. (stands, all)) rule.witness in record {
        log = rule.log;
        made = made;
        word = rule.word ∙ ap (λ (t : ℕ). (2 * made + t) ∷ []) (sym same);
        one_holder = omega arith;
        free = λ none. rule.free (omega arith);
        held = λ one. rule.held (omega arith);
        each = each_added (Known rule.log) kept right
            (record {
              case = mine.case;
              seen = mine.seen;
              own = λ e. absurd (omega arith);
              holder = omega arith;
              entered = λ e. absurd (omega arith);
              standing = omega arith;
              before = begins_itself view.seen;
              beside = begins_itself view.seen;
              kept = refl;
              kept_beside = refl;
              partner = λ e. absurd (omega arith);
            })
            (each_changed (Known rule.log) views id left
            (record {
              case = mine.case;
              seen = mine.seen;
              own = mine.own;
              holder = mine.holder;
              entered = mine.entered;
              standing = mine.standing;
              before = mine.before;
              beside = mine.beside;
              kept = mine.kept;
              kept_beside = mine.kept_beside;
              partner = mine.partner;
            })
            (λ place other apart at_other. rule.each place other at_other));
        counts = split_counts made views id view at roomy rule.counts;
        numbers = rule.numbers;
        witness = seen_added rule.log kept right seen;
      }

  -- the step that draws the number of a seat that was split off
  draws_number : (slots id first second : ℕ) (view : SeatView C E)
      → view.live ≡ 0 → view.turn ≡ 0 → view.stands_for ≡ 0 → view.room ≡ 1
      → MayDraw slots id first second (view, [])
  draws_number slots id first second view dead idle no_seat one_room state rule deep at bounded =
      let views = state.views in
      let made = rule.made in
      let mine = rule.each id view at in
      let after : SeatView C E = numbered made view in
      let changed = sum_by-set_at turn views id view after at in
      let part = sum_by-at_most room views id view at in
      let all = rule.counts.rooms in
      let small : made + 1 < 2 ^ 32 = omega arith in
      let most = rule.one_holder in
      let same : sum_by turn (set views id after) ≡ sum_by turn views = omega arith in
      let word_is : ℕ = 2 * made + sum_by turn views in
      let found : slice_index state.words 0 ≡ word_is = word_found state.words word_is rule.word in
      let next : (word_is + 2) % 2 ^ 64 ≡ 2 * (made + 1) + sum_by turn (set views id after) = omega arith in
      let half : slice_index state.words 0 / 2 ≡ made = omega arith in
      let none : made_by worker made rule.log ≡ [] = rule.numbers made (omega arith) in
      let none_seen : made_by worker made view.seen ≡ [] =
      made_by-front worker made view.seen rule.log mine.seen none in (
        after,
        keeps,
        tt,
        record {
          log = rule.log;
          made = made + 1;
          word = word_left state.words (λ n. (n + 2) % 2 ^ 64) word_is _ rule.word next;
          one_holder = omega arith;
          free = λ none. rule.free (omega arith);
          held = λ one. rule.held (omega arith);
          each = each_changed (Known rule.log) views id after
              (record {
                case = mine.case;
                seen = mine.seen;
                own = λ _. none ∙ sym none_seen;
                holder = omega arith;
                entered = λ e. absurd (omega arith);
                standing = omega arith;
                before = begins_itself view.seen;
                beside = begins_itself view.seen;
                kept = refl;
                kept_beside = refl;
                partner = λ _ e. omega arith;
              })
              (λ place other apart at_other. rule.each place other at_other);
          counts = numbered_counts made views id view at dead no_seat one_room rule.counts;
          numbers = λ n above. rule.numbers n (omega arith);
          witness =
              seen_changed rule.log views id view after at (λ stands all. absurd (omega arith)) rule.witness;
        },
        (
          omega arith,
          (λ e. let below = rule.counts.below id view at in omega arith),
          subst (λ (n : ℕ). made_by worker n view.seen ≡ []) (sym half) none_seen,
          ap (λ (n : ℕ). (numbered n view, [])) (sym half),
        ),
      )

  -- the same for a seat that was just split off
  pub draws_by : (slots id first second : ℕ) (me : Mine) (view : SeatView C E)
      → me ≡ (unnumbered view, []) → MayDraw slots id first second me
  draws_by slots id first second me view is =
      subst (MayDraw slots id first second) (sym is)
      (draws_number slots id first second (unnumbered view) refl refl refl refl)

  -- a join
  pub joins : (id other_id : ℕ) (view other : SeatView C E)
      → view.live ≡ 1 → other.live ≡ 1 → other.turn ≡ 0
      → Joins Rule id view other_id other (joined longer view other) spent_seat
  joins id other_id view other live lives idle state rule at apart at_other =
      let views = state.views in
      let made = rule.made in
      let log = rule.log in
      let both : SeatView C E = joined longer view other in
      let kept : List (SeatView C E) = set views id both in
      let was_there : get_elem? views other_id ≡ maybe.some other =
      sym (set_else views id other_id both apart) ∙ at_other in
      let mine = rule.each id view at in
      let its = rule.each other_id other was_there in
      let (begins, mine_begins, other_begins) = merged view.seen other.seen log mine.seen its.seen in
      let of_mine : made_by worker view.number log ≡ made_by worker view.number both.seen =
      made_by-between worker view.number view.seen both.seen log mine_begins begins (mine.own live) in
      let of_other : made_by worker other.number log ≡ made_by worker other.number both.seen =
      made_by-between worker other.number other.seen both.seen log other_begins begins (its.own lives) in
      let one = sum_by-set_at turn views id view both at in
      let two = sum_by-set_at turn kept other_id other spent_seat at_other in
      let most = rule.one_holder in
      let same : sum_by turn (set kept other_id spent_seat) ≡ sum_by turn views = omega arith in
      let stands = mine.standing in record {
        log = log;
        made = made;
        word = rule.word ∙ ap (λ (t : ℕ). (2 * made + t) ∷ []) (sym same);
        one_holder = omega arith;
        free = λ none. rule.free (omega arith);
        held = λ one. rule.held (omega arith);
        each = each_changed (Known log) kept other_id spent_seat
            (record {
              case = λ c e. absurd (cc e);
              seen = (log, refl);
              own = λ e. absurd (omega arith);
              holder = omega arith;
              entered = λ e. absurd (omega arith);
              standing = omega arith;
              before = ([], refl);
              beside = ([], refl);
              kept = refl;
              kept_beside = refl;
              partner = λ e. absurd (omega arith);
            })
            (λ place v _ at_place. each_changed (Known log) views id both
            (record {
              case = mine.case;
              seen = begins;
              own = λ _. of_mine;
              holder = mine.holder;
              entered = mine.entered;
              standing = omega arith;
              before = mine_begins;
              beside = other_begins;
              kept = sym of_mine ∙ mine.own live;
              kept_beside = sym of_other ∙ its.own lives;
              partner = λ _.
                  differ made views other_id id other view rule.counts was_there at apart lives live;
            })
            (λ place v _ at_place. rule.each place v at_place) place v at_place);
        counts = joined_counts made views id other_id view other at at_other rule.counts;
        numbers = rule.numbers;
        witness =
            seen_joined log views id other_id view other both spent_seat at was_there apart (omega arith)
            begins mine_begins other_begins rule.witness;
      }

  -- the look at the turn word after a join
  settles : (slots id first second : ℕ) (view : SeatView C E) → view.live ≡ 1
      → MaySettle slots id first second (view, [])
  settles slots id first second view live state rule deep at bounded =
      let views = state.views in
      let made = rule.made in
      let mine = rule.each id view at in
      let after : SeatView C E = settled view in
      let changed = sum_by-set_at turn views id view after at in
      let same : sum_by turn (set views id after) ≡ sum_by turn views = omega arith in
      let most = rule.one_holder in
      let fits : view.room + view.stands_for ≤ 2 ^ 32 - 1 =
      let rooms = sum_by-at_most room views id view at in
      let standing = sum_by-at_most stands_for views id view at in
      let seats = rule.counts.standing in
      let all = rule.counts.rooms in
      omega arith in (
        after,
        keeps,
        tt,
        record {
          log = rule.log;
          made = made;
          word = word_left state.words (λ n. n) _ _ rule.word (ap (λ (t : ℕ). 2 * made + t) (sym same));
          one_holder = omega arith;
          free = λ none. rule.free (omega arith);
          held = λ one. rule.held (omega arith);
          each = each_changed (Known rule.log) views id after
              (record {
                case = mine.case;
                seen = mine.seen;
                own = mine.own;
                holder = mine.holder;
                entered = mine.entered;
                standing = mine.standing;
                before = begins_itself view.seen;
                beside = begins_itself view.seen;
                kept = refl;
                kept_beside = refl;
                partner = λ _ e. omega arith;
              })
              (λ place other apart at_other. rule.each place other at_other);
          counts = same_counts made views id view after at refl refl refl refl rule.counts;
          numbers = rule.numbers;
          witness =
              seen_changed rule.log views id view after at (λ stands all. (stands, all)) rule.witness;
        },
        (mine.before, mine.beside, mine.kept, mine.kept_beside, mine.partner live, fits, refl),
      )

  -- the same for a seat that rests
  pub settles_by : (slots id first second : ℕ) (me : Mine) → Rests me
      → MaySettle slots id first second me
  settles_by slots id first second (view, slot) rests =
      subst (λ (held : List (ℕ × Option V)). MaySettle slots id first second (view, held)) (sym rests.2)
      (settles slots id first second view rests.0)

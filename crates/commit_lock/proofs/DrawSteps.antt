-- Each step of a draw word keeps its rule.
use Rattle.std.proofs.Common.{◌≡◌, ◌≢◌, ◌==◌, ◌%◌, ◌-◌, ◌+◌, ◌^◌, ◌<◌, ◌≤◌, ℕ, suc, Bool, List, [], ◌∷◌, ◌++◌, length, set, slice_index, cond, refl, sym, ap, ◌∙◌, subst, arith, ne_eqb, eq-eqb}
use Rattle.std.specs.List.{All, sum_by}
use Rattle.std.proofs.lemmas.List.{length-append}
use Rattle.std.proofs.lemmas.List.Sums.{sum_by-cons, sum_by-append, sum_by_push}
use mathlib.Core.Logic.{dite}
use mathlib.Core.Option as maybe
use native.Mathlib.Decide.{ℕ_discrete, dec_lt}
use lib.ListN.{get_elem?}
use Rattle.atomic_table.specs.Table.{State, Me, step, keeps, stepped, opening, Allows, Splits, Joins}
use Rattle.atomic_table.proofs.Lists.{set_again, set_else}
use Rattle.commit_lock.specs.declared.draw_word.PassView.{PassView}
use Rattle.commit_lock.specs.Passes.{times}
use Rattle.commit_lock.specs.Inside.LockRule.{most}
use Rattle.commit_lock.specs.Inside.DrawRule.{draws, times_by, overs, overs_by, room, stands_for, first_pass, one_pass_less, split_pass, with_draw, joined_pass, spent_pass, IsFair, Fits, DrawRule, DrawsNext, ReadsWord}
use Rattle.commit_lock.proofs.Sums.{sum_by-set_at, sum_by-at_most, sum_by-two_at_most, sum_by-only, sum_by-pointwise}
use Rattle.commit_lock.proofs.Views.{only_one, set_there, each_changed, each_added}
use Rattle.commit_lock.proofs.Words.{word_found, word_left, word_kept}

-- the same number counts once
counts_same : (y x : ℕ) → y ≡ x → cond {A = ℕ} (y == x) 1 0 ≡ 1
counts_same y x same = ap (λ (b : Bool). cond {A = ℕ} b 1 0) (eq-eqb y x same)

-- another number counts nothing
counts_other : (y x : ℕ) → y ≢ x → cond {A = ℕ} (y == x) 1 0 ≡ 0
counts_other y x apart = ap (λ (b : Bool). cond {A = ℕ} b 1 0) (ne_eqb y x apart)

-- how often x stands in a list to which a number is appended
times_push : (x : ℕ) (numbers : List ℕ) (y : ℕ)
    → times x (numbers ++ y ∷ []) ≡ times x numbers + cond (y == x) 1 0
times_push x numbers y = sum_by_push (λ z. cond (z == x) 1 0) numbers y

-- how often x stands in two lists
times-append : (x : ℕ) (one other : List ℕ) → times x (one ++ other) ≡ times x one + times x other
times-append x one other = sum_by-append (λ z. cond (z == x) 1 0) one other

-- how many numbers of two lists are n or more
overs-append : (n : ℕ) (one other : List ℕ) → overs n (one ++ other) ≡ overs n one + overs n other
overs-append n one other = sum_by-append (λ x. 1 - (n - x)) one other

-- no number of a list is n or more
overs_none : (n : ℕ) (numbers : List ℕ) → All (λ x. x < n) numbers → overs n numbers ≡ 0
overs_none n [] all = refl
overs_none n (x ∷ xs) all =
    let below : x < n = all 0 x (omega arith) in
    let rest = overs_none n xs (λ k d l. all (suc k) d (omega arith)) in
    omega (arith, sum_by-cons (λ y. 1 - (n - y)) x xs)

-- what a step tells, of the pass after it
pub fair_after : {S : Type 0} → (after : Me S PassView) (view : PassView)
    → (after ≡ (view, [])) × IsFair view → IsFair after.0
fair_after {S = S} after view told = subst (λ (me : Me S PassView). IsFair me.0) (sym told.0) told.1

module _ (S : Type 0) (n : ℕ) where
  abbrev Table : Type 0
  Table = State S PassView

  abbrev Rule : Table → Type 0
  Rule = DrawRule n {S = S}

  -- the pass may draw
  abbrev MayDraw : ℕ → ℕ → ℕ → ℕ → Me S PassView → Type 0
  MayDraw slots id first second me =
      Allows Rule slots id me 0 (λ x. (x + 1) % 2 ^ 64)
      (DrawsNext (step slots 0 first second maybe.none) me)

  -- the pass may look at the word
  abbrev MayRead : ℕ → ℕ → ℕ → ℕ → Me S PassView → Type 0
  MayRead slots id first second me =
      Allows Rule slots id me 0 (λ x. x) (ReadsWord (step slots 0 first second maybe.none) me)

  -- a new word has its rule
  pub opens : (slots : List S) → Rule (opening (0 ∷ []) slots first_pass)
  opens slots = record {
    word = refl;
    once = λ x below. absurd (omega arith);
    never = λ x above. refl;
    each = λ place view at.
        subst (Fits n) (only_one first_pass view place at) (record { few_over = omega arith; spent = λ _. refl });
    rooms = refl;
    bound = omega arith;
  }

  -- beside a whole pass no other has drawn anything
  others_spent : (state : Table) (id : ℕ) (view : PassView) → Rule state
      → get_elem? state.views id ≡ maybe.some view → view.room + view.stands_for ≡ most
      → (place : ℕ) (other : PassView) → place ≢ id → get_elem? state.views place ≡ maybe.some other
      → other.drawn ≡ []
  others_spent state id view rule at is_whole place other apart at_other =
      let both = sum_by-two_at_most stands_for state.views place id other view at_other at apart in
      let roomy = sum_by-at_most room state.views id view at in
      let all = rule.rooms in
      (rule.each place other at_other).spent (omega arith)

  -- what the rule says of one pass
  pub fair : (state : Table) (id : ℕ) (view : PassView) → Rule state
      → get_elem? state.views id ≡ maybe.some view → IsFair view
  fair state id view rule at =
      let views = state.views in
      let roomy = sum_by-at_most room views id view at in
      let standing = sum_by-at_most stands_for views id view at in
      let all = rule.rooms in record {
        none_twice = λ x.
            let part = sum_by-at_most (times_by x) views id view at in
            dite (dec_lt x (sum_by draws views))
            (λ below. let one = rule.once x below in omega arith)
            (λ not_below. let none = rule.never x (omega arith) in omega arith);
        whole = λ is_whole.
            let long : sum_by draws views ≡ draws view =
            sum_by-only draws views id view at (λ place other apart at_other.
            ap length (others_spent state id view rule at is_whole place other apart at_other)) in
            let same : (x : ℕ) → sum_by (times_by x) views ≡ times_by x view = λ x.
            sum_by-only (times_by x) views id view at (λ place other apart at_other.
            ap (times x) (others_spent state id view rule at is_whole place other apart at_other)) in (
              (λ x below. sym (same x) ∙ rule.once x (omega arith)),
              (λ x above. sym (same x) ∙ rule.never x (omega arith)),
            );
        small = omega arith;
      }

  -- a draw: the number found is new, and the word is one more
  draws_next : (slots id first second : ℕ) (view : PassView)
      → n < 2 ^ 32 → 1 ≤ view.stands_for → overs n view.drawn ≡ 0
      → MayDraw slots id first second (view, [])
  draws_next slots id first second view small live none_over state rule deep at bounded =
      let views = state.views in
      let total : ℕ = sum_by draws views in
      let after : PassView = with_draw total view in
      let found : slice_index state.words 0 ≡ total = word_found state.words total rule.word in
      let all_over : sum_by (overs_by n) views ≤ sum_by stands_for views =
      sum_by-pointwise (overs_by n) stands_for views
      (λ place other at_other. (rule.each place other at_other).few_over) in
      let bound = rule.bound in
      let rooms = rule.rooms in
      let no_wrap : total < 2 ^ 34 = omega arith in
      let longer : draws after ≡ draws view + 1 = length-append view.drawn (total ∷ []) in
      let changed_draws = sum_by-set_at draws views id view after at in
      let one_more : sum_by draws (set views id after) ≡ total + 1 = omega arith in
      let over_after : overs_by n after ≡ overs_by n view + (1 - (n - total)) =
      overs-append n view.drawn (total ∷ []) ∙ omega arith in
      let pushed : (x : ℕ) → times_by x after ≡ times_by x view + cond (total == x) 1 0 = λ x.
      times_push x view.drawn total in
      let next : Rule (stepped state 0 ((slice_index state.words 0 + 1) % 2 ^ 64) id [] after keeps) = record {
        word = word_left state.words (λ x. (x + 1) % 2 ^ 64) total _ rule.word (omega arith);
        once = λ x below.
            let changed = sum_by-set_at (times_by x) views id view after at in
            let more = pushed x in
            dite (ℕ_discrete total x)
            (λ is.
            let one = counts_same total x is in
            let before = rule.never x (omega arith) in
            omega arith)
            (λ is_not.
            let none = counts_other total x is_not in
            let before = rule.once x (omega arith) in
            omega arith);
        never = λ x above.
            let changed = sum_by-set_at (times_by x) views id view after at in
            let more = pushed x in
            let none = counts_other total x (λ e. omega arith) in
            let before = rule.never x (omega arith) in
            omega arith;
        each = each_changed (Fits n) views id after
            (record { few_over = omega arith; spent = λ e. absurd (omega arith) })
            (λ place other apart. rule.each place other);
        rooms =
            let roomy = sum_by-set_at room views id view after at in
            let standing = sum_by-set_at stands_for views id view after at in
            let before = rule.rooms in
            omega arith;
        bound = let changed = sum_by-set_at (overs_by n) views id view after at in omega arith;
      } in (
        after,
        keeps,
        tt,
        next,
        (
          ap (λ (x : ℕ). (with_draw x view, [])) (sym found),
          subst (λ (x : ℕ). IsFair (with_draw x view)) (sym found)
              (fair _ id after next (set_there views id view after at)),
        ),
      )

  -- a look at the word changes nothing
  reads_word : (slots id first second : ℕ) (view : PassView)
      → MayRead slots id first second (view, [])
  reads_word slots id first second view state rule deep at bounded =
      let same = word_kept state.words (λ x. x) (sum_by draws state.views) rule.word refl in
      let same_views = set_again state.views id view at in (
        view,
        keeps,
        tt,
        subst (λ (t : List ℕ × List PassView). Rule record { words = t.0; homes = state.homes; views = t.1 })
            (λ i. (sym same i, sym same_views i)) rule,
        (refl, fair state id view rule at),
      )

  -- a split: the new pass has drawn nothing
  pub splits : (id : ℕ) (view : PassView) → 1 ≤ view.stands_for → 1 ≤ view.room
      → Splits Rule id view (one_pass_less view) (split_pass view)
  splits id view live roomy state rule at =
      let views = state.views in
      let left : PassView = one_pass_less view in
      let right : PassView = split_pass view in
      let kept : List PassView = set views id left in
      let mine = rule.each id view at in
      let same : sum_by draws (kept ++ right ∷ []) ≡ sum_by draws views =
      let changed = sum_by-set_at draws views id view left at in
      omega (arith, sum_by_push draws kept right) in
      let same_times : (x : ℕ) → sum_by (times_by x) (kept ++ right ∷ []) ≡ sum_by (times_by x) views = λ x.
      let changed = sum_by-set_at (times_by x) views id view left at in
      omega (arith, sum_by_push (times_by x) kept right) in record {
        word = rule.word ∙ ap (λ (x : ℕ). x ∷ []) (sym same);
        once = λ x below. same_times x ∙ rule.once x (omega arith);
        never = λ x above. same_times x ∙ rule.never x (omega arith);
        each = each_added (Fits n) kept right (record { few_over = omega arith; spent = λ e. refl })
            (each_changed (Fits n) views id left (record { few_over = mine.few_over; spent = mine.spent })
            (λ place other apart. rule.each place other));
        rooms =
            let room_less = sum_by-set_at room views id view left at in
            let standing = sum_by-set_at stands_for views id view left at in
            let before = rule.rooms in
            omega (arith, sum_by_push room kept right, sum_by_push stands_for kept right);
        bound =
            let changed = sum_by-set_at (overs_by n) views id view left at in
            let before = rule.bound in
            omega (arith, sum_by_push (overs_by n) kept right);
      }

  -- a join: the pass that stays has the numbers of both
  pub joins : (id other_id : ℕ) (view other : PassView) → 1 ≤ view.stands_for
      → Joins Rule id view other_id other (joined_pass view other) spent_pass
  joins id other_id view other live state rule at apart at_other =
      let views = state.views in
      let both : PassView = joined_pass view other in
      let kept : List PassView = set views id both in
      let mine = rule.each id view at in
      let its = rule.each other_id other (sym (set_else views id other_id both apart) ∙ at_other) in
      let long = length-append view.drawn other.drawn in
      let over_both = overs-append n view.drawn other.drawn in
      let few_mine = mine.few_over in
      let few_its = its.few_over in
      let same : sum_by draws (set kept other_id spent_pass) ≡ sum_by draws views =
      let one = sum_by-set_at draws views id view both at in
      let two = sum_by-set_at draws kept other_id other spent_pass at_other in
      omega arith in
      let after : List PassView = set kept other_id spent_pass in
      let same_times : (x : ℕ) → sum_by (times_by x) after ≡ sum_by (times_by x) views = λ x.
      let one = sum_by-set_at (times_by x) views id view both at in
      let two = sum_by-set_at (times_by x) kept other_id other spent_pass at_other in
      let added : times_by x both ≡ times_by x view + times_by x other =
      times-append x view.drawn other.drawn in
      omega arith in record {
        word = rule.word ∙ ap (λ (x : ℕ). x ∷ []) (sym same);
        once = λ x below. same_times x ∙ rule.once x (omega arith);
        never = λ x above. same_times x ∙ rule.never x (omega arith);
        each = each_changed (Fits n) kept other_id spent_pass (record { few_over = omega arith; spent = λ e. refl })
            (λ place v apart. each_changed (Fits n) views id both
            (record { few_over = omega arith; spent = λ e. absurd (omega arith) })
            (λ place v apart. rule.each place v) place v);
        rooms =
            let room_one = sum_by-set_at room views id view both at in
            let room_two = sum_by-set_at room kept other_id other spent_pass at_other in
            let one = sum_by-set_at stands_for views id view both at in
            let two = sum_by-set_at stands_for kept other_id other spent_pass at_other in
            let before = rule.rooms in
            omega arith;
        bound =
            let one = sum_by-set_at (overs_by n) views id view both at in
            let two = sum_by-set_at (overs_by n) kept other_id other spent_pass at_other in
            let before = rule.bound in
            omega arith;
      }

  -- a draw of a pass that has no slot
  pub draws_by : (slots id first second : ℕ) (me : Me S PassView)
      → n < 2 ^ 32 → 1 ≤ me.0.stands_for → me.1 ≡ [] → All (λ x. x < n) me.0.drawn
      → MayDraw slots id first second me
  draws_by slots id first second (view, slot) small live none all =
      subst (λ (held : List (ℕ × S)). MayDraw slots id first second (view, held)) (sym none)
      (draws_next slots id first second view small live (overs_none n view.drawn all))

  -- a look of a pass that has no slot
  pub reads_by : (slots id first second : ℕ) (me : Me S PassView) → me.1 ≡ []
      → MayRead slots id first second me
  reads_by slots id first second (view, slot) none =
      subst (λ (held : List (ℕ × S)). MayRead slots id first second (view, held)) (sym none)
      (reads_word slots id first second view)

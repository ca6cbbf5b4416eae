-- The rule of a draw word, and what each of its atomic steps makes of a pass and tells it.
use Rattle.std.specs.Prelude.{◌≡◌, ◌+◌, ◌-◌, ◌^◌, ◌<◌, ◌≤◌, ℕ, List, [], ◌∷◌, ◌++◌, length}
use Rattle.std.specs.List.{sum_by}
use mathlib.Core.Option as maybe
use lib.ListN.{get_elem?}
use Rattle.atomic_table.specs.Table.{State, Me, Step}
use Rattle.commit_lock.specs.declared.draw_word.PassView.{PassView}
use Rattle.commit_lock.specs.Passes.{times, NoneTwice, IsEachBelow}
use Rattle.commit_lock.specs.Inside.LockRule.{most}

-- how many numbers it drew
abbrev pub draws : PassView → ℕ
draws view = length view.drawn

-- how often it drew x
abbrev pub times_by : ℕ → PassView → ℕ
times_by x view = times x view.drawn

-- how many numbers of the list are n or more
abbrev pub overs : ℕ → List ℕ → ℕ
overs n numbers = sum_by (λ x. 1 - (n - x)) numbers

abbrev pub overs_by : ℕ → PassView → ℕ
overs_by n view = overs n view.drawn

abbrev pub room : PassView → ℕ
room view = view.room

abbrev pub stands_for : PassView → ℕ
stands_for view = view.stands_for

-- the pass that a new word has
abbrev pub first_pass : PassView
first_pass = record { drawn = []; room = 2 ^ 32 - 2; stands_for = 1 }

-- the pass that was split
abbrev pub one_pass_less : PassView → PassView
one_pass_less view = record view { room = view.room - 1 }

-- the pass that was split off
abbrev pub split_pass : PassView → PassView
split_pass view = record { drawn = []; room = 0; stands_for = 1 }

-- the pass after it drew x
abbrev pub with_draw : ℕ → PassView → PassView
with_draw x view = record view { drawn = view.drawn ++ x ∷ [] }

-- the pass that stays at a join
abbrev pub joined_pass : PassView → PassView → PassView
joined_pass view other = record {
  drawn = view.drawn ++ other.drawn;
  room = view.room + other.room;
  stands_for = view.stands_for + other.stands_for;
}

-- the pass that was joined into another
abbrev pub spent_pass : PassView
spent_pass = record { drawn = []; room = 0; stands_for = 0 }

-- What a pass is told of its own numbers.
pub record IsFair (view : PassView) : Type 0 where
  pub none_twice : NoneTwice view.drawn
  -- once every other pass was joined into it, it has each number that was drawn
  pub whole : view.room + view.stands_for ≡ most → IsEachBelow (length view.drawn) view.drawn
  pub small : view.room + view.stands_for ≤ most

-- What holds of one pass of a word with n ranks.
pub record Fits (n : ℕ) (view : PassView) : Type 0 where
  -- each pass goes past the last rank once at most
  pub few_over : overs_by n view ≤ view.stands_for
  -- a spent pass has no numbers
  pub spent : view.stands_for ≡ 0 → view.drawn ≡ []

-- What holds of the word and the views of its passes between any two steps.
pub record DrawRule (n : ℕ) {S : Type 0} (state : State S PassView) : Type 0 where
  -- the word is how many numbers were drawn
  pub word : state.words ≡ sum_by draws state.views ∷ []
  -- each number below it was drawn once
  pub once : (x : ℕ) → x < sum_by draws state.views → sum_by (times_by x) state.views ≡ 1
  -- and no other
  pub never : (x : ℕ) → sum_by draws state.views ≤ x → sum_by (times_by x) state.views ≡ 0
  pub each : (place : ℕ) (view : PassView) → get_elem? state.views place ≡ maybe.some view
      → Fits n view
  -- no more than this number of passes is ever made
  pub rooms : sum_by room state.views + sum_by stands_for state.views ≡ most
  -- so the word never wraps: all but n draws went past the last rank
  pub bound : sum_by draws state.views ≤ n + sum_by (overs_by n) state.views

-- the number found is appended
abbrev pub DrawsNext : {S : Type 0} → Step S → Me S PassView → ℕ → Me S PassView → Type 0
DrawsNext step me found after = (after ≡ (with_draw found me.0, [])) × IsFair (with_draw found me.0)

-- nothing changes
abbrev pub ReadsWord : {S : Type 0} → Step S → Me S PassView → ℕ → Me S PassView → Type 0
ReadsWord step me found after = (after ≡ (me.0, [])) × IsFair me.0

-- What a clause says of a draw word and of its passes.
use Rattle.std.specs.Prelude.{◌≡◌, ◌==◌, ◌+◌, ◌-◌, ◌^◌, ◌<◌, ◌≤◌, ℕ, List}
use Rattle.std.specs.List.{count_by}
use Rattle.commit_lock.specs.declared.draw_word.DrawWord.{DrawWord}
use Rattle.commit_lock.specs.declared.draw_word.DrawPass.{DrawPass}

-- how often the number stands in the list
abbrev pub times : ℕ → List ℕ → ℕ
times x numbers = count_by (λ y. y == x) numbers

-- no number stands in the list twice
abbrev pub NoneTwice : List ℕ → Type 0
NoneTwice numbers = (x : ℕ) → times x numbers ≤ 1

-- the list has exactly the numbers below n, each once
abbrev pub IsEachBelow : ℕ → List ℕ → Type 0
IsEachBelow n numbers =
    ((x : ℕ) → x < n → times x numbers ≡ 1) × ((x : ℕ) → n ≤ x → times x numbers ≡ 0)

-- from how many ranks the word draws
abbrev pub ranks_of : DrawWord → ℕ
ranks_of word = word.ranks

-- the pass is one of this word
abbrev pub IsPassOf : DrawWord → DrawPass → Type 0
IsPassOf word pass = pass.token.table_id ≡ word.table.shared.table_id

-- the numbers that it drew, and those that were drawn by passes joined into it
abbrev pub drawn : DrawPass → List ℕ
drawn pass = pass.token.me.0.drawn

-- how many passes may still be split from it
abbrev pub pass_room : DrawPass → ℕ
pass_room pass = pass.token.me.0.room

-- how many passes it stands for: itself, and those that were joined into it
abbrev pub passes_for : DrawPass → ℕ
passes_for pass = pass.token.me.0.stands_for

-- every pass that was split off was joined again
abbrev pub IsWholePass : DrawPass → Type 0
IsWholePass pass = pass_room pass + passes_for pass ≡ 2 ^ 32 - 1

-- the room and the passes that it stands for stay
abbrev pub KeepsPass : DrawPass → DrawPass → Type 0
KeepsPass before after =
    (pass_room after ≡ pass_room before) × (passes_for after ≡ passes_for before)

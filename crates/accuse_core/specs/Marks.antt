-- The state of the core: a mark for each rank. The kept ranks and the front are read off the marks.
use Rattle.std.specs.Prelude.{ℕ, suc, Bool, true, false, not, if◌then◌else◌, ◌==◌, List, [], ◌∷◌, ◌++◌, map, take, drop, length, slice_index_or, slice_set, replicate}
use Rattle.std.specs.List.{prefix_len}
use Rattle.accuse_core.specs.declared.mark.Mark.{Mark}
use Rattle.accuse_core.specs.declared.mark.Mark.TheVariants.{Open, Yes, Kept, Removed}

abbrev pub is_kept : Mark → Bool
is_kept Open = false
is_kept (Yes seen) = false
is_kept Kept = true
is_kept Removed = false

abbrev pub is_removed : Mark → Bool
is_removed Open = false
is_removed (Yes seen) = false
is_removed Kept = false
is_removed Removed = true

-- kept or removed
abbrev pub is_decided : Mark → Bool
is_decided Open = false
is_decided (Yes seen) = false
is_decided Kept = true
is_decided Removed = true

-- nothing is known of any rank
abbrev pub opening : ℕ → List Mark
opening ranks = replicate ranks Open

-- the mark of a rank; past the last rank nothing is known
abbrev pub mark_at : List Mark → ℕ → Mark
mark_at marks rank = slice_index_or marks rank Open

-- in ascending order the ranks whose marks pass a test, where the marks are those of this rank and
-- the ones after it
abbrev pub ranks_from : (Mark → Bool) → ℕ → List Mark → List ℕ
ranks_from passes rank [] = []
ranks_from passes rank (mark ∷ marks) =
    if passes mark then rank ∷ ranks_from passes (suc rank) marks
    else ranks_from passes (suc rank) marks

abbrev pub kept_of : List Mark → List ℕ
kept_of marks = ranks_from is_kept 0 marks

abbrev pub number_kept : List Mark → ℕ
number_kept marks = length (kept_of marks)

-- the least rank that is not decided, or the number of ranks
abbrev pub front_of : List Mark → ℕ
front_of marks = prefix_len is_decided marks

-- the marks with another one at a rank
abbrev pub with_kept : List Mark → ℕ → List Mark
with_kept marks rank = slice_set marks rank Kept

abbrev pub with_removed : List Mark → ℕ → List Mark
with_removed marks rank = slice_set marks rank Removed

abbrev pub with_note : List Mark → ℕ → ℕ → List Mark
with_note marks rank seen = slice_set marks rank (Yes seen)

-- kept, unless it is removed
abbrev pub kept_unless_removed : Mark → Mark
kept_unless_removed Open = Kept
kept_unless_removed (Yes seen) = Kept
kept_unless_removed Kept = Kept
kept_unless_removed Removed = Removed

-- this number of the first ranks are kept unless they are removed
abbrev pub with_first_kept : ℕ → List Mark → List Mark
with_first_kept count marks = map kept_unless_removed (take count marks) ++ drop count marks

-- the same from a rank on
abbrev pub with_block : List Mark → ℕ → ℕ → List Mark
with_block marks rank count = take rank marks ++ with_first_kept count (drop rank marks)

-- the ranks of a block that are not removed
abbrev pub block_of : List Mark → ℕ → ℕ → List ℕ
block_of marks rank count =
    ranks_from (λ mark. not (is_removed mark)) rank (take count (drop rank marks))

-- a yes over just this number of kept ranks
abbrev pub is_yes_over : ℕ → Mark → Bool
is_yes_over count Open = false
is_yes_over count (Yes seen) = seen == count
is_yes_over count Kept = false
is_yes_over count Removed = false

-- the rank at the front is kept if its mark is a yes over all kept ranks
abbrev pub settled : List Mark → List Mark
settled marks =
    if is_yes_over (number_kept marks) (mark_at marks (front_of marks))
    then with_kept marks (front_of marks) else marks

-- Which rows of a table are kept, where the order has the row with each rank.
use Rattle.std.specs.Prelude.{ℕ, Bool, ◌==◌, List, length, map, slice_index}
use Rattle.std.specs.List.{list_any, range_with_len}

-- the row has one of these ranks
abbrev pub has_rank_of : List ℕ → List ℕ → ℕ → Bool
has_rank_of order ranks row = list_any (λ rank. slice_index order rank == row) ranks

-- for each row, from the first on, whether its rank is kept
abbrev pub keep_of : List ℕ → List ℕ → List Bool
keep_of order kept = map (has_rank_of order kept) (range_with_len 0 (length order))

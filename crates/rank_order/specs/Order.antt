-- The order of rows by confidence, and their ranks.
use Rattle.std.specs.Prelude.{◌≡◌, ◌⊎◌, ℕ, ◌+◌, ◌<◌, Bool, ◌&&◌, ◌||◌, ◌==◌, nat_lt, List, length, slice_index, count_by, IsPermutation}
use Rattle.std.specs.List.{range_with_len}
use Rattle.rank_order.specs.declared.order.RankKey.{RankKey}

-- row a stands before row b: it has the greater confidence, or both have the same and a has the smaller number
abbrev pub IsBefore : RankKey → RankKey → Type 0
IsBefore a b = (b.confidence < a.confidence) ⊎ ((a.confidence ≡ b.confidence) × (a.row < b.row))

-- the same as a test
abbrev pub is_before : RankKey → RankKey → Bool
is_before a b = nat_lt b.confidence a.confidence || (a.confidence == b.confidence && nat_lt a.row b.row)

-- a row, where these are the confidences of rows 0, 1, 2 and so on
abbrev pub key_at : List ℕ → ℕ → RankKey
key_at confidences row = record { confidence = slice_index confidences row; row = row }

-- the rank of a row: how many rows stand before it
abbrev pub rank_of : List ℕ → ℕ → ℕ
rank_of confidences row = count_by (λ other. is_before (key_at confidences other) (key_at confidences row)) (range_with_len 0 (length confidences))

-- the list has every row once, and each stands before the next: so the row at a place has this place as its rank
pub record IsRanking (confidences rows : List ℕ) : Type 0 where
  pub each_once : IsPermutation (range_with_len 0 (length confidences)) rows
  pub in_order : (k : ℕ) → k + 1 < length rows → IsBefore (key_at confidences (slice_index rows k)) (key_at confidences (slice_index rows (k + 1)))

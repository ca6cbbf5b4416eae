-- Bytes by name.
use Rattle.std.specs.Prelude.{ℕ, Bool, ◌&&◌, ◌||◌, ◌==◌, nat_le, List}
use Rattle.std.specs.List.{list_any}

abbrev pub is_line_feed : ℕ → Bool
is_line_feed b = b == 10

abbrev pub is_space : ℕ → Bool
is_space b = b == 32

-- one of these bytes
abbrev pub is_one_of : List ℕ → ℕ → Bool
is_one_of bytes b = list_any (λ c. b == c) bytes

-- an ASCII digit
abbrev pub is_digit : ℕ → Bool
is_digit b = nat_le 48 b && nat_le b 57

-- an ASCII letter or digit
abbrev pub is_letter_or_digit : ℕ → Bool
is_letter_or_digit b = is_digit b || (nat_le 65 b && nat_le b 90) || (nat_le 97 b && nat_le b 122)

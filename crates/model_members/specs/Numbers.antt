-- Numbers in lists.
use Rattle.std.specs.Prelude.{ℕ, Bool, nat_eq, List}
use Rattle.std.specs.List.{list_any}

-- the numbers have this one
abbrev pub has_number : List ℕ → ℕ → Bool
has_number numbers x = list_any (nat_eq x) numbers

-- Lists of entries: beginnings, and the entries that carry one number.
use Rattle.std.specs.Prelude.{◌≡◌, ◌==◌, ◌++◌, ℕ, List, length, nat_le, if◌then◌else◌}
use Rattle.std.specs.List.{All, filter}

module _ {E : Type 0} where
  -- the second list begins with the first
  abbrev pub IsBeginning : List E → List E → Type 0
  IsBeginning front whole = (rest : List E) × (front ++ rest ≡ whole)

  -- the longer of two lists
  abbrev pub longer : List E → List E → List E
  longer one other = if nat_le (length other) (length one) then one else other

  -- the entries that carry this number, in their order
  abbrev pub made_by : (E → ℕ) → ℕ → List E → List E
  made_by worker number entries = filter (λ entry. worker entry == number) entries

  -- the entries after are those before, followed by entries that all carry this number
  abbrev pub GrowsBy : (E → ℕ) → ℕ → List E → List E → Type 0
  GrowsBy worker number before after =
      (more : List E) × (after ≡ before ++ more) × All (λ entry. worker entry ≡ number) more

-- Two small families of incoherent sets, to check the definitions on.
use Rattle.std.specs.Prelude.{◌⊎◌, ℕ, List, Contains}

-- 0 clashes with 1, and 1 with 2
abbrev pub IsChained : List ℕ → Type 0
IsChained ranks = (Contains ranks 0 × Contains ranks 1) ⊎ (Contains ranks 1 × Contains ranks 2)

-- 0 clashes with 1, and again with 2
abbrev pub IsRepeated : List ℕ → Type 0
IsRepeated ranks = (Contains ranks 0 × Contains ranks 1) ⊎ (Contains ranks 0 × Contains ranks 2)

-- How a table keeps its names: each under its hash and how many names of this hash stand before it.
use Rattle.std.specs.Prelude.{◌≡◌, ℕ, ◌^◌, ◌<◌, ◌≤◌, ◌==◌, List, [], ◌∷◌, ◌++◌, length, count_by}
use Rattle.std.specs.Hash.FoldHasher.{initial, write, finish}
use Rattle.text_names.specs.Names.{AreDistinct}

abbrev pub hash_of : List ℕ → ℕ
hash_of name = finish (write initial name)

-- how many of the names have this hash
abbrev pub count_with_hash : List (List ℕ) → ℕ → ℕ
count_with_hash names hash = count_by (λ other. hash_of other == hash) names

-- the key of a name after others
abbrev pub key_behind : List (List ℕ) → List ℕ → ℕ × ℕ
key_behind before name = (hash_of name, count_with_hash before (hash_of name))

-- the keys of names after others
abbrev pub keys_behind : List (List ℕ) → List (List ℕ) → List (ℕ × ℕ)
keys_behind before [] = []
keys_behind before (name ∷ names) = key_behind before name ∷ keys_behind (before ++ name ∷ []) names

pub record IsKept (keys : List (ℕ × ℕ)) (names : List (List ℕ)) (most : ℕ) : Type 0 where
  pub keyed : keys ≡ keys_behind [] names
  pub distinct : AreDistinct names
  pub bounded : length names ≤ most
  pub fits : most < 2 ^ 32

-- The entries of a map whose keys are texts.
use Rattle.std.specs.Prelude.{ℕ, List, map}

-- the entries, each with the bytes of its key
abbrev pub by_bytes : {K X : Type 0} → (K → List ℕ) → List (K × X) → List (List ℕ × X)
by_bytes {K} {X} bytes entries = map {B = List ℕ × X} (λ (e : K × X). (bytes e.0, e.1)) entries

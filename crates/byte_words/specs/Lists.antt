-- Lists whose elements pass a test.
use Rattle.std.specs.Prelude.{◌≡◌, Bool, true, false, List, [], ◌∷◌, ⊤}
use Rattle.std.specs.List.{AllByRecursion}

-- each element passes
abbrev pub AllPassing : {X : Type 0} → (X → Bool) → List X → Type 0
AllPassing passes xs = AllByRecursion (λ x. passes x ≡ true) xs

-- each element fails
abbrev pub AllFailing : {X : Type 0} → (X → Bool) → List X → Type 0
AllFailing passes xs = AllByRecursion (λ x. passes x ≡ false) xs

-- the list is empty, or its first element fails
abbrev pub BeginsWithout : {X : Type 0} → (X → Bool) → List X → Type 0
BeginsWithout passes [] = ⊤
BeginsWithout passes (x ∷ xs) = passes x ≡ false

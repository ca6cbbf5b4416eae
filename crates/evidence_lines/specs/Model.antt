-- Lines of a model: the members of a class, and the pairs of a property.
use Rattle.std.specs.Prelude.{◌≡◌, ℕ, ◌+◌, ◌<◌, ◌^◌, ◌==◌, nat_lt, Bool, true, ◌&&◌, ◌||◌, if◌then◌else◌, List, [], ◌∷◌, codes, bytes_eq, decimal, Option, Some, None, ⊤}
use Rattle.line_fields.specs.Lines.{Fields}
use Rattle.line_fields.specs.Numbers.{short_number}
use Rattle.line_fields.specs.Reading.{◌>>=◌, short_in}

abbrev pub element_fields : List ℕ → Fields
element_fields [] = []
element_fields (x ∷ xs) = decimal x ∷ element_fields xs

abbrev pub pair_fields : List (ℕ × ℕ) → Fields
pair_fields [] = []
pair_fields (p ∷ ps) = decimal p.0 ∷ decimal p.1 ∷ pair_fields ps

-- the class with this place, from 0: its node comes after `top` and `bottom`
abbrev pub class_fields : ℕ → List ℕ → Fields
class_fields place members = codes "class" ∷ decimal (place + 2) ∷ element_fields members

-- the property with this place, from 0
abbrev pub property_fields : ℕ → List (ℕ × ℕ) → Fields
property_fields place pairs = codes "role" ∷ decimal place ∷ pair_fields pairs

-- the element, or the pair, may follow the one before it
abbrev pub number_follows : Option ℕ → ℕ → Bool
number_follows None x = true
number_follows (Some before) x = nat_lt before x

abbrev pub is_pair_before : ℕ × ℕ → ℕ × ℕ → Bool
is_pair_before p q = nat_lt p.0 q.0 || (p.0 == q.0 && nat_lt p.1 q.1)

abbrev pub pair_follows : Option (ℕ × ℕ) → ℕ × ℕ → Bool
pair_follows None p = true
pair_follows (Some before) p = is_pair_before before p

-- elements, or pairs, ascend without repeats
abbrev pub ElementsAscend : Option ℕ → List ℕ → Type 0
ElementsAscend before [] = ⊤
ElementsAscend before (x ∷ xs) = (number_follows before x ≡ true) × ElementsAscend (Some x) xs

abbrev pub PairsAscend : Option (ℕ × ℕ) → List (ℕ × ℕ) → Type 0
PairsAscend before [] = ⊤
PairsAscend before (p ∷ ps) = (pair_follows before p ≡ true) × PairsAscend (Some p) ps

-- the elements in fields after one
abbrev pub onto : {X : Type 0} → X → Option (List X) → Option (List X)
onto x None = None
onto x (Some xs) = Some (x ∷ xs)

abbrev pub if_follows : {X : Type 0} → Bool → Option X → Option X
if_follows follows found = if follows then found else None

abbrev pub elements_in : Option ℕ → Fields → Option (List ℕ)
elements_in before [] = Some []
elements_in before (field ∷ rest) =
    short_number field >>= λ x.
    if_follows (number_follows before x) (onto x (elements_in (Some x) rest))

-- a pair, the first number of which is this field
abbrev pub pair_in : List ℕ → Fields → Option ((ℕ × ℕ) × Fields)
pair_in field [] = None
pair_in field (next ∷ rest) =
    short_number field >>= λ a. short_number next >>= λ b. Some ((a, b), rest)

abbrev pub pairs_in : Option (ℕ × ℕ) → Fields → Option (List (ℕ × ℕ))
pairs_in before [] = Some []
pairs_in before (field ∷ []) = None
pairs_in before (field ∷ next ∷ rest) =
    short_number field >>= λ a. short_number next >>= λ b.
    if_follows (pair_follows before (a, b)) (onto (a, b) (pairs_in (Some (a, b)) rest))

-- the fields after a word and this number
abbrev pub after_number : ℕ → Fields → Option Fields
after_number number fields = do
  found ← short_in fields
  if found.0 == number then Some found.1 else None

abbrev pub after_word : List ℕ → Fields → Option Fields
after_word word [] = None
after_word word (field ∷ rest) = if bytes_eq field word then Some rest else None

-- the members of the class with this place, and the pairs of the property with this place
unfoldable pub members_of : ℕ → Fields → Option (List ℕ)
members_of place fields = do
  numbered ← after_word (codes "class") fields
  rest ← after_number (place + 2) numbered
  elements_in None rest

unfoldable pub pairs_of : ℕ → Fields → Option (List (ℕ × ℕ))
pairs_of place fields = do
  numbered ← after_word (codes "role") fields
  rest ← after_number place numbered
  pairs_in None rest

-- the numbers of elements and of pairs are below 2 ^ 32
abbrev pub AreElementNumbers : List ℕ → Type 0
AreElementNumbers [] = ⊤
AreElementNumbers (x ∷ xs) = (x < 2 ^ 32) × AreElementNumbers xs

abbrev pub ArePairNumbers : List (ℕ × ℕ) → Type 0
ArePairNumbers [] = ⊤
ArePairNumbers (p ∷ ps) = (p.0 < 2 ^ 32) × (p.1 < 2 ^ 32) × ArePairNumbers ps

-- the class, or the property, has a line: its place is small enough, and its list ascends
pub record HasClassLine (place : ℕ) (members : List ℕ) : Type 0 where
  pub small : place + 2 < 2 ^ 32
  pub ascend : ElementsAscend None members

pub record HasPropertyLine (place : ℕ) (pairs : List (ℕ × ℕ)) : Type 0 where
  pub small : place < 2 ^ 32
  pub ascend : PairsAscend None pairs

-- What lists of entries contain.
use Rattle.std.proofs.Common.{◌≡◌, ◌∙◌, ℕ, zero, suc, ◌+◌, ◌==◌, ◌⊎◌, inl, inr, Bool, true, false, if◌then◌else◌, List, [], ◌∷◌, map, Some, slice_get, Contains, refl, sym, ap, subst, arith}
use Rattle.std.specs.List.{flat_map}
use Rattle.std.proofs.lemmas.Bool.{eq-eqb, eqb-true}
use Rattle.std.proofs.lemmas.Option.{none-some}
use Rattle.std.proofs.lemmas.List.Elements.{Contains-append_left, Contains-append_right, Contains-append_cases}
use Rattle.case_tables.specs.Keyed.{of_key, numbered_from}

-- the first element, a later one, and which of these an element is
pub first : {X : Type 0} (x : X) (xs : List X) → Contains (x ∷ xs) x
first x xs = (0, omega arith, refl)

pub later : {X : Type 0} (x : X) (xs : List X) (y : X) → Contains xs y → Contains (x ∷ xs) y
later x xs y (k, within, at) = (suc k, omega (arith, within), at)

pub met : {X : Type 0} (x : X) (xs : List X) (y : X) → Contains (x ∷ xs) y → (x ≡ y) ⊎ Contains xs y
met x xs y (zero, within, at) = inl at
met x xs y (suc k, within, at) = inr (k, omega (arith, within), at)

pub none : {X : Type 0} (y : X) → Contains [] y → ⊥
none y (k, within, at) = omega (arith, within)

pub only : {X : Type 0} (x y : X) → Contains (x ∷ []) y → x ≡ y
only x y (zero, within, at) = at
only x y (suc k, within, at) = absurd (omega (arith, within))

-- an entry of a key is one with this key
pair_is : {T : Type 0} (pair : ℕ × T) (key : ℕ) (entry : T) → pair.0 ≡ key → pair.1 ≡ entry → pair ≡ (key, entry)
pair_is pair key entry one other i = (one i, other i)

tested : {T : Type 0} (pair : ℕ × T) (pairs : List (ℕ × T)) (key : ℕ) (entry : T) (b : Bool) → (pair.0 == key) ≡ b → (Contains (of_key pairs key) entry → Contains pairs (key, entry)) →
    Contains (if b then pair.1 ∷ of_key pairs key else of_key pairs key) entry → Contains (pair ∷ pairs) (key, entry)
tested pair pairs key entry true is rest in' = by (met (pair.1) (of_key pairs key) entry in')
  where
    by : (pair.1 ≡ entry) ⊎ Contains (of_key pairs key) entry → Contains (pair ∷ pairs) (key, entry)
    by (inl same) = subst (λ other. Contains (pair ∷ pairs) other) (pair_is pair key entry (eqb-true (pair.0) key is) same) (first pair pairs)
    by (inr in'') = later pair pairs (key, entry) (rest in'')
tested pair pairs key entry false is rest in' = later pair pairs (key, entry) (rest in')

pub of_key_has : {T : Type 0} (pairs : List (ℕ × T)) (key : ℕ) (entry : T) → Contains (of_key pairs key) entry → Contains pairs (key, entry)
of_key_has [] key entry in' = absurd (none entry in')
of_key_has (pair ∷ pairs) key entry in' = tested pair pairs key entry (pair.0 == key) refl (of_key_has pairs key entry) in'

kept : {T : Type 0} (pair : ℕ × T) (found : List T) (entry : T) (b : Bool) → Contains found entry → Contains (if b then pair.1 ∷ found else found) entry
kept pair found entry true in' = later (pair.1) found entry in'
kept pair found entry false in' = in'

-- and an entry with this key is one of the key
pub has_of_key : {T : Type 0} (pairs : List (ℕ × T)) (key : ℕ) (entry : T) → Contains pairs (key, entry) → Contains (of_key pairs key) entry
has_of_key [] key entry in' = absurd (none (key, entry) in')
has_of_key (pair ∷ pairs) key entry (zero, within, at) =
    let found = of_key pairs key in
    let yes : true ≡ (pair.0 == key) = sym (eq-eqb (pair.0) key (ap (λ p. p.0) at)) in
    subst (λ b. Contains (if b then pair.1 ∷ found else found) entry) yes
    (subst (λ other. Contains (pair.1 ∷ found) other) (ap (λ p. p.1) at) (first (pair.1) found))
has_of_key (pair ∷ pairs) key entry (suc k, within, at) =
    kept pair (of_key pairs key) entry (pair.0 == key) (has_of_key pairs key entry (k, omega (arith, within), at))

-- what is in the lists of a list's elements
pub in_flat : {X Y : Type 0} (f : X → List Y) (xs : List X) (y : Y) → Contains (flat_map f xs) y → (x : X) × Contains xs x × Contains (f x) y
in_flat f [] y in' = absurd (none y in')
in_flat f (x ∷ xs) y in' = by (Contains-append_cases (f x) (flat_map f xs) y in') (in_flat f xs y)
  where
    by : Contains (f x) y ⊎ Contains (flat_map f xs) y → (Contains (flat_map f xs) y → (z : _) × Contains xs z × Contains (f z) y) → (z : _) × Contains (x ∷ xs) z × Contains (f z) y
    by (inl here) rest = (x, first x xs, here)
    by (inr there) rest = let found = rest there in (found.0, later x xs (found.0) found.1, found.2)

pub flat_in : {X Y : Type 0} (f : X → List Y) (xs : List X) (y : Y) (x : X) → Contains xs x → Contains (f x) y → Contains (flat_map f xs) y
flat_in f [] y x in' here = absurd (none x in')
flat_in f (z ∷ xs) y x (zero, within, at) here = Contains-append_left (f z) (flat_map f xs) y (subst (λ w. Contains (f w) y) (sym at) here)
flat_in f (z ∷ xs) y x (suc k, within, at) here = Contains-append_right (f z) (flat_map f xs) y (flat_in f xs y x (k, omega (arith, within), at) here)

-- what a mapped list has
pub in_map : {X Y : Type 0} (f : X → Y) (xs : List X) (y : Y) → Contains (map f xs) y → (x : X) × Contains xs x × (f x ≡ y)
in_map f [] y in' = absurd (none y in')
in_map f (x ∷ xs) y (zero, within, at) = (x, first x xs, at)
in_map f (x ∷ xs) y (suc k, within, at) =
    let found = in_map f xs y (k, omega (arith, within), at) in
    (found.0, later x xs (found.0) found.1, found.2)

pub map_in : {X Y : Type 0} (f : X → Y) (xs : List X) (x : X) → Contains xs x → Contains (map f xs) (f x)
map_in f [] x in' = absurd (none x in')
map_in f (z ∷ xs) x (zero, within, at) = subst (λ w. Contains (f z ∷ map f xs) (f w)) at (first (f z) (map f xs))
map_in f (z ∷ xs) x (suc k, within, at) = later (f z) (map f xs) (f x) (map_in f xs x (k, omega (arith, within), at))

-- the element that is there
pub some_is : {X : Type 0} (x y : X) → Some x ≡ Some y → x ≡ y
some_is x y same = cc same

-- elements with their numbers
pub in_numbered : {A B : Type 0} (name : ℕ → A) (number : ℕ) (xs : List B) (a : A) (x : B) → Contains (numbered_from name number xs) (a, x) → (k : ℕ) × (a ≡ name (number + k)) × (slice_get xs k ≡ Some x)
in_numbered name number [] a x in' = absurd (none (a, x) in')
in_numbered name number (y ∷ xs) a x (zero, within, at) =
    let e : number ≡ number + 0 = omega arith in
    (0, sym (ap (λ p. p.0) at) ∙ ap name e, ap (λ p. Some (p.1)) at)
in_numbered name number (y ∷ xs) a x (suc k, within, at) =
    let found = in_numbered name (number + 1) xs a x (k, omega (arith, within), at) in
    let e : number + 1 + found.0 ≡ number + suc (found.0) = omega arith in
    (suc (found.0), found.1 ∙ ap name e, found.2)

pub numbered_in : {A B : Type 0} (name : ℕ → A) (number : ℕ) (xs : List B) (k : ℕ) (x : B) → slice_get xs k ≡ Some x → Contains (numbered_from name number xs) (name (number + k), x)
numbered_in name number [] k x at = absurd (none-some x at)
numbered_in name number (y ∷ xs) zero x at =
    let e : number ≡ number + 0 = omega arith in
    (0, omega arith, λ i. (name (e i), some_is y x at i))
numbered_in name number (y ∷ xs) (suc k) x at =
    let rest = numbered_from name (number + 1) xs in
    let e : number + 1 + k ≡ number + suc k = omega arith in
    later (name number, y) rest (name (number + suc k), x)
    (subst (λ n. Contains rest (name n, x)) e (numbered_in name (number + 1) xs k x at))

-- Parts of lists, and the axioms of ranks.
use Rattle.std.proofs.Common.{◌≡◌, ℕ, zero, suc, List, [], ◌∷◌, ◌++◌, map, length, All, Contains, Some, slice_get, refl, sym, subst, ⊎_elim, arith}
use Rattle.std.specs.Prelude.{slice_index_or, flat_map}
use Rattle.std.proofs.Math.ListN.{get_or-eq_default}
use Rattle.std.proofs.lemmas.Bool.{cases_lt}
use Rattle.std.proofs.lemmas.Option.{slice_get_within, get_or_from_slice_get}
use Rattle.std.proofs.lemmas.List.Elements.{All-nil, All-append, All-get_or, All-weaker, All-contains, All-contains_itself, Contains-append_left, Contains-append_right}
use Rattle.el_logic.specs.declared.types.Axiom.{Axiom}
use Rattle.case_file.specs.Cases.{row_at, row_over, rows_over}

-- what holds of each element holds of the one at a place
pub all_at : {X : Type 0} (P : X → Type 0) (xs : List X) (k : ℕ) (x : X) → All P xs → slice_get xs k ≡ Some x → P x
all_at P xs k x all at = All-contains P xs x all (k, slice_get_within xs k x at, get_or_from_slice_get xs k x x at)

-- what holds of each element of two lists holds of the first
pub all_first : {X : Type 0} (P : X → Type 0) (xs ys : List X) → All P (xs ++ ys) → All P xs
all_first P xs ys all = All-weaker (Contains xs) P (λ x there. All-contains P (xs ++ ys) x all (Contains-append_left xs ys x there)) xs (All-contains_itself xs)

-- and of the second
pub all_second : {X : Type 0} (P : X → Type 0) (xs ys : List X) → All P (xs ++ ys) → All P ys
all_second P xs ys all = All-weaker (Contains ys) P (λ y there. All-contains P (xs ++ ys) y all (Contains-append_right xs ys y there)) ys (All-contains_itself ys)

-- what holds of each element of lists in a row holds of each list
pub all_of : {X A : Type 0} (P : A → Type 0) (f : X → List A) (xs : List X) (x : X) → Contains xs x → All P (flat_map f xs) → All P (f x)
all_of P f [] x there all = let none = there.1 in absurd (omega arith)
all_of P f (first ∷ xs) x (zero, within, same) all = subst (λ y. All P (f y)) same (all_first P (f first) (flat_map f xs) all)
all_of P f (first ∷ xs) x (suc k, within, same) all = all_of P f xs x (k, omega (arith, within), same) (all_second P (f first) (flat_map f xs) all)

-- and the other way round
pub all_each : {X A : Type 0} (P : A → Type 0) (f : X → List A) (xs : List X) → ((x : X) → Contains xs x → All P (f x)) → All P (flat_map f xs)
all_each P f [] each = All-nil P
all_each P f (first ∷ xs) each =
    All-append P (f first) (flat_map f xs) (each first (0, omega arith, refl))
    (all_each P f xs (λ x there. each x (suc there.0, omega (arith, there.1), there.2)))

-- what holds of each row, and of no axioms, holds of the row with a rank
pub row_has : (P : List Axiom → Type 0) (rows : List (List Axiom)) → P [] → All P rows → (order : List ℕ) (rank : ℕ) → P (slice_index_or (map (row_at rows) order) rank [])
row_has P rows none all [] rank = none
row_has P rows none all (index ∷ order) zero = ⊎_elim
    (λ within. All-get_or P rows index [] within all)
    (λ past. subst P (sym (get_or-eq_default rows [] past)) none)
    (cases_lt index (length rows))
row_has P rows none all (index ∷ order) (suc rank) = row_has P rows none all order rank

-- the axioms over nodes of the row with a rank
pub over_of_row : (rows : List (List Axiom)) (order : List ℕ) (rank : ℕ) → slice_index_or (rows_over rows order) rank [] ≡ map row_over (slice_index_or (map (row_at rows) order) rank [])
over_of_row rows [] rank = refl
over_of_row rows (index ∷ order) zero = refl
over_of_row rows (index ∷ order) (suc rank) = over_of_row rows order rank

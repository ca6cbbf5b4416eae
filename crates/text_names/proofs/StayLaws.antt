-- Names keep their numbers, and stay distinct.
use Rattle.std.proofs.Common.{◌≡◌, ℕ, Bool, true, false, cond, List, [], ◌∷◌, ◌++◌, length, Option, Some, None, is_some, refl, sym, ap, ◌∙◌}
use Rattle.std.specs.Prelude.{nat_lt, bytes_eq, if◌then◌else◌}
use Rattle.std.specs.Option.{option_or}
use Rattle.std.specs.Cmp.Lexicographic.{bytes_decides}
use Rattle.std.proofs.lemmas.List.{append-nil, append_assoc}
use Rattle.text_names.specs.Names.{number_of, number_or_next, is_held, with_name, AreDistinct}
use Rattle.text_names.proofs.NameLaws.{number_push, distinct_push, next_number}

-- a name that is held keeps its number
pub held_stays : (names later : List (List ℕ)) (name : List ℕ) (number : ℕ) → number_of names name ≡ Some number → number_of (names ++ later) name ≡ Some number
held_stays names [] name number held = ap (λ (l : List (List ℕ)). number_of l name) (append-nil names) ∙ held
held_stays names (other ∷ later) name number held =
    ap (λ (l : List (List ℕ)). number_of l name) (sym (append_assoc names (other ∷ []) later))
    ∙ held_stays (names ++ other ∷ []) later name number
    (number_push names other name ∙ ap (λ (o : Option ℕ). option_or o (cond (bytes_eq name other) (Some (length names)) None)) held)

-- a name that is held has a number, and one that is not has none
number_there : (names : List (List ℕ)) (name : List ℕ) → is_held names name ≡ true → number_of names name ≡ Some (number_or_next names name)
number_there names name held = by (nat_lt (number_or_next names name) (length names)) refl
  where
    by : (b : Bool) → nat_lt (number_or_next names name) (length names) ≡ b → number_of names name ≡ Some (number_or_next names name)
    by true e = rw e refl
    by false e = let none : is_held names name ≡ false = rw e refl in cc

-- a name that is not held has no number
pub no_number : (names : List (List ℕ)) (name : List ℕ) → is_held names name ≡ false → number_of names name ≡ None
no_number names name missing = by (number_of names name) missing
  where
    by : (o : Option ℕ) → is_some o ≡ false → o ≡ None
    by None e = refl
    by (Some k) e = cc

-- a name that is put after the others has the next number
number_added : (names : List (List ℕ)) (name : List ℕ) → number_of names name ≡ None → number_of (names ++ name ∷ []) name ≡ Some (number_or_next names name)
number_added names name missing =
    number_push names name name
    ∙ ap (λ (o : Option ℕ). option_or o (cond (bytes_eq name name) (Some (length names)) None)) missing
    ∙ ap (λ (b : Bool). cond b (Some (length names)) None) ((bytes_decides name name).1 refl)
    ∙ ap (λ (k : ℕ). Some k) (next_number names name missing)

-- a name that was added keeps its number
pub added_stays : (names later : List (List ℕ)) (name : List ℕ) → number_of (with_name names name ++ later) name ≡ Some (number_or_next names name)
added_stays names later name = by (is_held names name) refl
  where
    by : (b : Bool) → is_held names name ≡ b → number_of ((if b then names else names ++ name ∷ []) ++ later) name ≡ Some (number_or_next names name)
    by true e = held_stays names later name (number_or_next names name) (number_there names name e)
    by false e = held_stays (names ++ name ∷ []) later name (number_or_next names name) (number_added names name (no_number names name e))

-- a number that is there is the number or the next
next_is : (names : List (List ℕ)) (name : List ℕ) (number : ℕ) → number_of names name ≡ Some number → number_or_next names name ≡ number
next_is names name number there =
    let held : is_held names name ≡ true = ap is_some there in
    let both : Some (number_or_next names name) ≡ Some number = sym (number_there names name held) ∙ there in cc

-- the same of the number that it has or gets
pub next_stays : (names later : List (List ℕ)) (name : List ℕ) → number_or_next (with_name names name ++ later) name ≡ number_or_next names name
next_stays names later name = next_is (with_name names name ++ later) name (number_or_next names name) (added_stays names later name)

-- a name that is held keeps its number when another is added
pub held_by_more : (names : List (List ℕ)) (other name : List ℕ) (number : ℕ) → number_of names name ≡ Some number → number_of (with_name names other) name ≡ Some number
held_by_more names other name number held = by (is_held names other)
  where
    by : (b : Bool) → number_of (if b then names else names ++ other ∷ []) name ≡ Some number
    by true = held
    by false = held_stays names (other ∷ []) name number held

-- names stay distinct when one is added
pub distinct_more : (names : List (List ℕ)) (name : List ℕ) → AreDistinct names → AreDistinct (with_name names name)
distinct_more names name distinct = by (is_held names name) refl
  where
    by : (b : Bool) → is_held names name ≡ b → AreDistinct (if b then names else names ++ name ∷ [])
    by true e = distinct
    by false e = distinct_push names name distinct (no_number names name e)

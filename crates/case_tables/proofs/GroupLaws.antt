-- Entries by their keys.
use Rattle.std.proofs.Common.{◌≡◌, ◌∙◌, map, ℕ, zero, suc, ◌+◌, ◌<◌, ◌==◌, Bool, true, false, if◌then◌else◌, List, [], ◌∷◌, ◌++◌, take, length, slice_index_or, slice_set, refl, sym, ap, arith}
use Rattle.std.proofs.lemmas.List.{take_more, append-nil}
use Rattle.std.proofs.Math.Dec.{eqb-zero-suc, eqb-suc-zero, eqb-suc-suc}
use Rattle.case_tables.specs.Keyed.{at_key, of_key}

-- an empty list at the end changes the list at no key
pub empty_added : {T : Type 0} (lists : List (List T)) (key : ℕ) → at_key (lists ++ [] ∷ []) key ≡ at_key lists key
empty_added [] zero = refl
empty_added [] (suc key) = refl
empty_added (list ∷ lists) zero = refl
empty_added (list ∷ lists) (suc key) = empty_added lists key

-- one more pair at the front of two lists
pair_before : {T : Type 0} (pair : ℕ × T) (key : ℕ) (whole one other : List T) → whole ≡ one ++ other → (b : Bool) → (if b then pair.1 ∷ whole else whole) ≡ (if b then pair.1 ∷ one else one) ++ other
pair_before pair key whole one other same true = ap (λ entries. pair.1 ∷ entries) same
pair_before pair key whole one other same false = same

-- the entries of two lists after each other
pub of_key_append : {T : Type 0} (one other : List (ℕ × T)) (key : ℕ) → of_key (one ++ other) key ≡ of_key one key ++ of_key other key
of_key_append [] other key = refl
of_key_append (pair ∷ pairs) other key = pair_before pair key (of_key (pairs ++ other) key) (of_key pairs key) (of_key other key) (of_key_append pairs other key) (pair.0 == key)

-- the entries of a list up to a place and of the element there
pub of_key_more : {T : Type 0} (pairs : List (ℕ × T)) (place : ℕ) (pair : ℕ × T) → place < length pairs → slice_index_or pairs place pair ≡ pair → (key : ℕ) → of_key (take (place + 1) pairs) key ≡ of_key (take place pairs) key ++ of_key (pair ∷ []) key
of_key_more pairs place pair within at key =
    ap (λ front. of_key front key) (take_more pairs place pair within)
    ∙ of_key_append (take place pairs) (slice_index_or pairs place pair ∷ []) key
    ∙ ap (λ found. of_key (take place pairs) key ++ of_key (found ∷ []) key) at

-- an entry at the end of the list of a key
pub set_at : {A T : Type 0} (f : A → List T) (lists : List A) (place : ℕ) (longer before : A) (entry : T) → place < length lists → slice_index_or lists place before ≡ before → f longer ≡ f before ++ entry ∷ [] → (key : ℕ) →
    at_key (map f (slice_set lists place longer)) key ≡ at_key (map f lists) key ++ of_key ((place, entry) ∷ []) key
set_at f [] place longer before entry within at is key = absurd (omega arith)
set_at f (list ∷ lists) zero longer before entry within at is zero = is ∙ ap (λ old. f old ++ entry ∷ []) (sym at)
set_at f (list ∷ lists) zero longer before entry within at is (suc key) =
    sym (append-nil (at_key (map f lists) key))
    ∙ ap (λ b. at_key (map f lists) key ++ (if b then entry ∷ [] else [])) (sym (eqb-zero-suc key))
set_at f (list ∷ lists) (suc place) longer before entry within at is zero =
    sym (append-nil (f list))
    ∙ ap (λ b. f list ++ (if b then entry ∷ [] else [])) (sym (eqb-suc-zero place))
set_at f (list ∷ lists) (suc place) longer before entry within at is (suc key) =
    set_at f lists place longer before entry (omega arith) at is key
    ∙ ap (λ b. at_key (map f lists) key ++ (if b then entry ∷ [] else [])) (sym (eqb-suc-suc place key))

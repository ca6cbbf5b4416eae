-- One more name.
use Rattle.std.proofs.Common.{◌≡◌, ℕ, zero, suc, ◌+◌, ◌<◌, ◌≤◌, Bool, true, false, cond, ◌⊎◌, ⊎_elim, inl, inr, List, [], ◌∷◌, ◌++◌, length, length-append, Option, Some, None, is_some, refl, sym, ap, ◌∙◌, arith}
use Rattle.std.specs.Prelude.{not, nat_lt, bytes_eq, slice_get}
use Rattle.std.specs.List.{position_from}
use Rattle.std.specs.Option.{option_or, option_map}
use Rattle.std.proofs.lemmas.Option.{slice_get-map}
use Rattle.std.specs.Map.{lookup, keys_of, values_of}
use Rattle.std.specs.Cmp.Lexicographic.{bytes_decides}
use Rattle.std.proofs.lemmas.Iterator.Adapters.{position_from-zero}
use Rattle.std.proofs.lemmas.Bool.Decides.{nat_tests}
use Rattle.std.proofs.lemmas.List.Sums.{prefix_len-le-length}
use Rattle.std.proofs.lemmas.List.{append-nil, append_assoc, map_push}
use Rattle.text_names.specs.Names.{number_of, number_or_next, AreDistinct}
use Rattle.indexmap.specs.IndexMap.{IndexMap, insert_entry}
use Rattle.indexmap.proofs.CallerLemmas.{insert_entry-new}
use Rattle.text_names.specs.Inside.NameKeys.{hash_of, count_with_hash, key_behind, keys_behind, IsKept}
use Rattle.text_names.proofs.Lookups.{is_key, counted}

-- one more name after the others
pub absent_at : (q o : ℕ) (name : List ℕ) (es : List ((ℕ × ℕ) × List ℕ)) → keys_of es ≡ keys_behind [] (values_of es) → q ≡ hash_of name → o ≡ count_with_hash (values_of es) (hash_of name) → lookup (is_key q o) es ≡ None
absent_at q o name es keyed hash all =
    let t : nat_lt o (count_with_hash (values_of es) (hash_of name)) ≡ false = grind (arith, nat_tests) in
    none_from (lookup (is_key q o) es) (counted q o name es keyed hash (lookup (is_key q o) es) refl ∙ t)
  where
    none_from : (v : Option (List ℕ)) → is_some v ≡ false → v ≡ None
    none_from None h = refl
    none_from (Some n) h = cc

-- the keys of one more name
pub keys_push : (before names : List (List ℕ)) (n : List ℕ) → keys_behind before (names ++ n ∷ []) ≡ keys_behind before names ++ key_behind (before ++ names) n ∷ []
keys_push before [] n = rw append-nil refl
keys_push before (m ∷ names) n =
    ap (λ (l : List (ℕ × ℕ)). key_behind before m ∷ l) (keys_push (before ++ m ∷ []) names n)
    ∙ ap (λ (l : List (List ℕ)). key_behind before m ∷ (keys_behind (before ++ m ∷ []) names ++ key_behind l n ∷ [])) (append_assoc before (m ∷ []) names)

-- entries stay under their keys
keyed_push : (es new : List ((ℕ × ℕ) × List ℕ)) (key : ℕ × ℕ) (n : List ℕ) → keys_of es ≡ keys_behind [] (values_of es) → new ≡ es ++ (key, n) ∷ [] → key ≡ key_behind (values_of es) n →
    keys_of new ≡ keys_behind [] (values_of new)
keyed_push es new key n keyed more new_key =
    ap keys_of more ∙ map_push (λ (e : (ℕ × ℕ) × List ℕ). e.0) es (key, n)
    ∙ ap (λ (l : List (ℕ × ℕ)). l ++ key ∷ []) keyed ∙ ap (λ (k : ℕ × ℕ). keys_behind [] (values_of es) ++ k ∷ []) new_key
    ∙ sym (keys_push [] (values_of es) n) ∙ ap (keys_behind []) (sym (ap values_of more ∙ map_push (λ (e : (ℕ × ℕ) × List ℕ). e.1) es (key, n)))

-- the place of an element, with one more at the end
position_push : (t : List ℕ → Bool) (k : ℕ) (names : List (List ℕ)) (n : List ℕ) → position_from t k (names ++ n ∷ []) ≡ option_or (position_from t k names) (cond (t n) (Some (k + length names)) None)
position_push t k [] n = ap (λ (i : ℕ). cond (t n) (Some i) None) (let z : k ≡ k + 0 = omega arith in z)
position_push t k (m ∷ names) n = by (t m) refl (position_push t (k + 1) names n)
  where
    by : (b : Bool) → t m ≡ b → position_from t (k + 1) (names ++ n ∷ []) ≡ option_or (position_from t (k + 1) names) (cond (t n) (Some (k + 1 + length names)) None) →
        position_from t k (m ∷ names ++ n ∷ []) ≡ option_or (position_from t k (m ∷ names)) (cond (t n) (Some (k + length (m ∷ names))) None)
    by true e rest = rw e refl
    by false e rest = rw e (rest ∙ ap (λ (i : ℕ). option_or (position_from t (k + 1) names) (cond (t n) (Some i) None)) (let z : k + 1 + length names ≡ k + suc (length names) = omega arith in z))

-- the number of a name, with one more name at the end
pub number_push : (names : List (List ℕ)) (n name : List ℕ) → number_of (names ++ n ∷ []) name ≡ option_or (number_of names name) (cond (bytes_eq name n) (Some (length names)) None)
number_push names n name =
    position_from-zero (bytes_eq name) (names ++ n ∷ []) ∙ position_push (bytes_eq name) 0 names n
    ∙ ap (λ (r : Option ℕ). option_or r (cond (bytes_eq name n) (Some (0 + length names)) None)) (sym (position_from-zero (bytes_eq name) names))
    ∙ ap (λ (i : ℕ). option_or (number_of names name) (cond (bytes_eq name n) (Some i) None)) (let z : 0 + length names ≡ length names = omega arith in z)

-- the place of a name is among the old ones, or the last
place_push : (names : List (List ℕ)) (n name : List ℕ) (k : ℕ) → slice_get (names ++ n ∷ []) k ≡ Some name → (slice_get names k ≡ Some name) ⊎ ((k ≡ length names) × (name ≡ n))
place_push [] n name zero at = inr (refl, cc)
place_push [] n name (suc k) at = cc
place_push (m ∷ names) n name zero at = inl at
place_push (m ∷ names) n name (suc k) at = ⊎_elim inl (λ last. inr (ap suc last.0, last.1)) (place_push names n name k at)

-- names stay distinct with a new one
pub distinct_push : (names : List (List ℕ)) (n : List ℕ) → AreDistinct names → number_of names n ≡ None → AreDistinct (names ++ n ∷ [])
distinct_push names n distinct new = λ k name at.
    ⊎_elim
    (λ old. number_push names n name ∙ ap (λ (r : Option ℕ). option_or r (cond (bytes_eq name n) (Some (length names)) None)) (distinct k name old))
    (λ last. number_push names n name ∙ ap (λ (m : List ℕ). option_or (number_of names m) (cond (bytes_eq m n) (Some (length names)) None)) last.1
    ∙ ap (λ (r : Option ℕ). option_or r (cond (bytes_eq n n) (Some (length names)) None)) new
    ∙ ap (λ (b : Bool). cond b (Some (length names)) None) ((bytes_decides n n).1 refl)
    ∙ ap (λ (i : ℕ). Some i) (sym last.0))
    (place_push names n name k at)

-- the name of an entry
pub name_at : (es : List ((ℕ × ℕ) × List ℕ)) (i : ℕ) (key : ℕ × ℕ) (n : List ℕ) → Some (key, n) ≡ slice_get es i → slice_get (values_of es) i ≡ Some n
name_at es i key n at = slice_get-map (λ (e : (ℕ × ℕ) × List ℕ). e.1) es i ∙ ap (λ (o : Option ((ℕ × ℕ) × List ℕ)). option_map (λ e. e.1) o) (sym at)

-- a name that is not held has the next number
pub next_number : (names : List (List ℕ)) (name : List ℕ) → number_of names name ≡ None → length names ≡ number_or_next names name
next_number names name missing = by (nat_lt (number_or_next names name) (length names)) refl
  where
    by : (b : Bool) → nat_lt (number_or_next names name) (length names) ≡ b → length names ≡ number_or_next names name
    by true e = absurd (let some : number_of names name ≡ Some (number_or_next names name) = rw e refl in let h : ⊥ = cc in h)
    by false e =
        let low : number_or_next names name ≤ length names = prefix_len-le-length (λ (other : List ℕ). not (bytes_eq name other)) names in
        grind (arith, nat_tests)

-- the entries after a new name is inserted
pub grown : {S : Type 0} (m new : IndexMap (ℕ × ℕ) (List ℕ) S) (key : ℕ × ℕ) (text name : List ℕ) → keys_of m.entries ≡ keys_behind [] (values_of m.entries) →
    new.entries ≡ insert_entry (λ (a b : ℕ × ℕ). is_key a.0 a.1 b) m.entries key text → text ≡ name → key ≡ key_behind (values_of m.entries) name →
    new.entries ≡ m.entries ++ (key, name) ∷ []
grown m new key text name keyed inserted same new_key =
    inserted ∙ insert_entry-new (λ (a b : ℕ × ℕ). is_key a.0 a.1 b) m key text (absent_at key.0 key.1 name m.entries keyed (ap (λ (k : ℕ × ℕ). k.0) new_key) (ap (λ (k : ℕ × ℕ). k.1) new_key))
    ∙ ap (λ (n : List ℕ). m.entries ++ (key, n) ∷ []) same

-- the names after one more entry
pub values_grown : (es new : List ((ℕ × ℕ) × List ℕ)) (key : ℕ × ℕ) (n : List ℕ) → new ≡ es ++ (key, n) ∷ [] → values_of new ≡ values_of es ++ n ∷ []
values_grown es new key n more = rw (more, map_push) refl

-- a table is kept as before, with one more name
pub kept_push : (es new : List ((ℕ × ℕ) × List ℕ)) (key : ℕ × ℕ) (most : ℕ) (n : List ℕ) → IsKept (keys_of es) (values_of es) most → new ≡ es ++ (key, n) ∷ [] → key ≡ key_behind (values_of es) n →
    number_of (values_of es) n ≡ None → length (values_of es) < most → IsKept (keys_of new) (values_of new) most
kept_push es new key most n kept more new_key absent room =
    let values = values_grown es new key n more in
    record {
      keyed = keyed_push es new key n kept.keyed more new_key;
      distinct = rw values (distinct_push (values_of es) n kept.distinct absent);
      bounded = omega (arith, ap length values, length-append (values_of es) (n ∷ []), room);
      fits = kept.fits;
    }

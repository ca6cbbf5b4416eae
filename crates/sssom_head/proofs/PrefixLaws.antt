-- Prefixes that are declared one after another.
use Rattle.std.proofs.Common.{◌≡◌, ◌≢◌, ◌∙◌, ℕ, Bool, true, false, cond, List, [], ◌∷◌, ◌++◌, refl, ap, sym, bytes_eq}
use Rattle.std.specs.Prelude.{Option, Some, None, is_some, not, IsSomeAnd}
use Rattle.std.specs.Cmp.Lexicographic.{bytes_decides}
use Rattle.text_names.specs.Prefixes.{Prefixes, iri_of, with_prefix}
use Rattle.sssom_head.specs.BuiltIn.{with_all}
use Rattle.sssom_head.specs.HeaderSteps.{is_other}

-- the first of two
abbrev pub or_iri : Option (List ℕ) → Option (List ℕ) → Option (List ℕ)
or_iri None other = other
or_iri (Some iri) other = Some iri

-- nothing on the right
or_none : (o : Option (List ℕ)) → or_iri o None ≡ o
or_none None = refl
or_none (Some iri) = refl

-- three in a row
or_assoc : (a b c : Option (List ℕ)) → or_iri (or_iri a b) c ≡ or_iri a (or_iri b c)
or_assoc None b c = refl
or_assoc (Some iri) b c = refl

-- a value on the left
some_or : (o other : Option (List ℕ)) → is_some o ≡ true → or_iri o other ≡ o
some_or None other e = absurd cc
some_or (Some iri) other e = refl

-- what is not there is None
none_is : (o : Option (List ℕ)) → is_some o ≡ false → o ≡ None
none_is None e = refl
none_is (Some iri) e = absurd cc

-- the IRI of a prefix, with one more at the front
iri_cons : (a v k : List ℕ) (ps : Prefixes) → iri_of ((a, v) ∷ ps) k ≡ or_iri (iri_of ((a, v) ∷ []) k) (iri_of ps k)
iri_cons a v k ps = by (bytes_eq k a)
  where
    by : (d : Bool) → cond d (Some v) (iri_of ps k) ≡ or_iri (cond d (Some v) None) (iri_of ps k)
    by true = refl
    by false = refl

-- the IRI of a prefix in two lists
pub iri_append : (xs ys : Prefixes) (k : List ℕ) → iri_of (xs ++ ys) k ≡ or_iri (iri_of xs k) (iri_of ys k)
iri_append [] ys k = refl
iri_append (x ∷ xs) ys k = by (bytes_eq k x.0) (iri_append xs ys k)
  where
    by : (d : Bool) → iri_of (xs ++ ys) k ≡ or_iri (iri_of xs k) (iri_of ys k) → cond d (Some x.1) (iri_of (xs ++ ys) k) ≡ or_iri (cond d (Some x.1) (iri_of xs k)) (iri_of ys k)
    by true e = refl
    by false e = e

-- the IRI of a prefix, with one more declared
with_prefix_iri : (held : Prefixes) (a v k : List ℕ) → iri_of (with_prefix held a v) k ≡ or_iri (iri_of held k) (iri_of ((a, v) ∷ []) k)
with_prefix_iri held a v k = by (is_some (iri_of held a)) refl
  where
    same : (d : Bool) → bytes_eq k a ≡ d → is_some (iri_of held a) ≡ true → iri_of held k ≡ or_iri (iri_of held k) (cond d (Some v) None)
    same true e h =
        let equal : k ≡ a = (bytes_decides k a).0 e in
        sym (some_or (iri_of held k) (Some v) (ap (λ (l : List ℕ). is_some (iri_of held l)) equal ∙ h))
    same false e h = sym (or_none (iri_of held k))

    by : (d : Bool) → is_some (iri_of held a) ≡ d → iri_of (cond d held (held ++ (a, v) ∷ [])) k ≡ or_iri (iri_of held k) (iri_of ((a, v) ∷ []) k)
    by true e = same (bytes_eq k a) refl e
    by false e = iri_append held ((a, v) ∷ []) k

-- the earlier prefixes take precedence
pub with_all_iri : (held pairs : Prefixes) (k : List ℕ) → iri_of (with_all held pairs) k ≡ or_iri (iri_of held k) (iri_of pairs k)
with_all_iri held [] k = sym (or_none (iri_of held k))
with_all_iri held (p ∷ ps) k =
    with_all_iri (with_prefix held p.0 p.1) ps k
    ∙ ap (λ (o : Option (List ℕ)). or_iri o (iri_of ps k)) (with_prefix_iri held p.0 p.1 k)
    ∙ or_assoc (iri_of held k) (iri_of ((p.0, p.1) ∷ []) k) (iri_of ps k)
    ∙ ap (or_iri (iri_of held k)) (sym (iri_cons p.0 p.1 k ps))

-- one more of all
pub with_all_push : (held pairs : Prefixes) (k v : List ℕ) → with_all held (pairs ++ (k, v) ∷ []) ≡ with_prefix (with_all held pairs) k v
with_all_push held [] k v = refl
with_all_push held (p ∷ ps) k v = with_all_push (with_prefix held p.0 p.1) ps k v

-- the test for another value
pub other_is : (o : Option (List ℕ)) (value : List ℕ) → is_other o value ≡ true → IsSomeAnd o (λ held. held ≢ value)
other_is None value e = absurd cc
other_is (Some held) value e = λ same. by (bytes_eq held value) refl e ((bytes_decides held value).1 same)
  where
    by : (d : Bool) → bytes_eq held value ≡ d → not d ≡ true → bytes_eq held value ≡ true → ⊥
    by true e h k = cc
    by false e h k = cc

-- another value than the one that is held
pub is_other_value : (o : Option (List ℕ)) (value : List ℕ) → IsSomeAnd o (λ held. held ≢ value) → is_other o value ≡ true
is_other_value None value h = absurd h
is_other_value (Some held) value h = by (bytes_eq held value) refl
  where
    by : (d : Bool) → bytes_eq held value ≡ d → not d ≡ true
    by true e = absurd (h ((bytes_decides held value).0 e))
    by false e = refl

-- the same value
pub same_value : (o : Option (List ℕ)) (value : List ℕ) → is_other o value ≡ false → or_iri o (Some value) ≡ Some value
same_value None value e = refl
same_value (Some held) value e = by (bytes_eq held value) refl e
  where
    by : (d : Bool) → bytes_eq held value ≡ d → not d ≡ false → Some held ≡ Some value
    by true t h = ap (λ (l : List ℕ). Some l) ((bytes_decides held value).0 t)
    by false t h = absurd cc

-- no other value
pub no_other_value : (o rest : Option (List ℕ)) (value : List ℕ) → or_iri o rest ≡ Some value → is_other o value ≡ false
no_other_value None rest value e = refl
no_other_value (Some held) rest value e =
    let same : held ≡ value = cc in
    ap (λ (d : Bool). not d) ((bytes_decides held value).1 same)

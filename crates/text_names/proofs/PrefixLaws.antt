-- Entries by the bytes of their keys, and the first colon.
use Rattle.std.proofs.Common.{◌≡◌, ℕ, ◌+◌, ◌<◌, Bool, true, false, cond, ◌||◌, List, [], ◌∷◌, ◌++◌, length, Option, Some, None, refl, sym, ap, ◌∙◌, arith}
use Rattle.std.specs.Prelude.{bytes_eq, MatchOption, IfNone}
use Rattle.std.specs.String.{string_bytes}
use Rattle.std.specs.declared.string.String.{String}
use Rattle.std.specs.List.{list_any, position_or_len}
use Rattle.std.specs.Map.{lookup}
use Rattle.std.specs.Cmp.Lexicographic.{bytes_decides}
use Rattle.std.proofs.lemmas.List.{map_push}
use Rattle.text_names.specs.Inside.Entries.{by_bytes}

-- a look-up by the bytes of keys
pub lookup_by_bytes : {K X : Type 0} (bytes : K → List ℕ) (test : List ℕ → Bool) (es : List (K × X)) → lookup test (by_bytes bytes es) ≡ lookup (λ k. test (bytes k)) es
lookup_by_bytes bytes test [] = refl
lookup_by_bytes {K} {X} bytes test (e ∷ es) = ap (λ (o : Option X). cond (test (bytes e.0)) (Some e.1) o) (lookup_by_bytes bytes test es)

-- one more entry
pub by_bytes_push : {K X : Type 0} (bytes : K → List ℕ) (es new : List (K × X)) (k : K) (x y : X) (name : List ℕ) → new ≡ es ++ (k, x) ∷ [] → bytes k ≡ name → x ≡ y →
    by_bytes bytes new ≡ by_bytes bytes es ++ (name, y) ∷ []
by_bytes_push {K} {X} bytes es new k x y name e b v = rw (e, map_push, b, v) refl

-- the first place passes, or is the end
at_step : (p : ℕ → Bool) (x : ℕ) (xs : List ℕ) → p x ≡ false → position_or_len p (x ∷ xs) ≡ 1 + position_or_len p xs
at_step p x xs e = rw e refl

-- the first element passes
at_head : (p : ℕ → Bool) (x : ℕ) (xs : List ℕ) → p x ≡ true → position_or_len p (x ∷ xs) ≡ 0
at_head p x xs e = rw e refl

-- a place within the list has an element that passes
pub any_at : (p : ℕ → Bool) (xs : List ℕ) → position_or_len p xs < length xs → list_any p xs ≡ true
any_at p [] h = absurd (omega arith)
any_at p (x ∷ xs) h = by (p x) refl (any_at p xs)
  where
    by : (b : Bool) → p x ≡ b → (position_or_len p xs < length xs → list_any p xs ≡ true) → (p x || list_any p xs) ≡ true
    by true e rest = rw e refl
    by false e rest = rw e (rest (omega (arith, at_step p x xs e)))

-- with no such place no element passes
pub none_at : (p : ℕ → Bool) (xs : List ℕ) → position_or_len p xs ≡ length xs → list_any p xs ≡ false
none_at p [] h = refl
none_at p (x ∷ xs) h = by (p x) refl (none_at p xs)
  where
    by : (b : Bool) → p x ≡ b → (position_or_len p xs ≡ length xs → list_any p xs ≡ false) → (p x || list_any p xs) ≡ false
    by true e rest = absurd (omega (arith, at_head p x xs e))
    by false e rest = rw e (rest (omega (arith, at_step p x xs e)))

-- a look-up among the entries is one among their bytes
pub found_by_bytes : {X Z : Type 0} (es : List (String Z × X)) (ps : List (List ℕ × X)) (q name : List ℕ) → q ≡ name → by_bytes string_bytes es ≡ ps → lookup (λ k. bytes_eq q (string_bytes k)) es ≡ lookup (bytes_eq name) ps
found_by_bytes {X} es ps q name same view = sym (lookup_by_bytes string_bytes (bytes_eq q) es) ∙ ap (λ (n : List ℕ). lookup (bytes_eq n) (by_bytes string_bytes es)) same ∙ ap (λ (l : List (List ℕ × X)). lookup (bytes_eq name) l) view

-- a split that finds no place tells that no element passes
pub missing_at : {X : Type 0} (p : ℕ → Bool) (xs : List ℕ) (r : Option X) (Q : X → Type 0) → MatchOption r (position_or_len p xs ≡ length xs) Q → IfNone r (list_any p xs ≡ false)
missing_at p xs None Q h = none_at p xs h
missing_at p xs (Some x) Q h = tt

-- a new prefix has its IRI
pub iri_added : (ps new : List (List ℕ × List ℕ)) (prefix iri : List ℕ) → lookup (bytes_eq prefix) ps ≡ None → new ≡ ps ++ (prefix, iri) ∷ [] → lookup (bytes_eq prefix) new ≡ Some iri
iri_added ps new prefix iri missing more = ap (lookup (bytes_eq prefix)) more ∙ last ps missing
  where
    last : (es : List (List ℕ × List ℕ)) → lookup (bytes_eq prefix) es ≡ None → lookup (bytes_eq prefix) (es ++ (prefix, iri) ∷ []) ≡ Some iri
    last [] h = ap (λ (b : Bool). cond b (Some iri) None) ((bytes_decides prefix prefix).1 refl)
    last (e ∷ es) h = by (bytes_eq prefix e.0) refl h (last es)
      where
        by : (b : Bool) → bytes_eq prefix e.0 ≡ b → lookup (bytes_eq prefix) (e ∷ es) ≡ None → (lookup (bytes_eq prefix) es ≡ None → lookup (bytes_eq prefix) (es ++ (prefix, iri) ∷ []) ≡ Some iri) → lookup (bytes_eq prefix) (e ∷ es ++ (prefix, iri) ∷ []) ≡ Some iri
        by true same none rest = absurd (let some : lookup (bytes_eq prefix) (e ∷ es) ≡ Some e.1 = rw same refl in let h : ⊥ = cc in h)
        by false other none rest = rw other (rest (let skip : lookup (bytes_eq prefix) (e ∷ es) ≡ lookup (bytes_eq prefix) es = rw other refl in sym skip ∙ none))

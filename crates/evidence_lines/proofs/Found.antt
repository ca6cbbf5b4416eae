-- What readers of fields find.
use Rattle.std.proofs.Common.{◌≡◌, ℕ, ◌^◌, ◌<◌, Bool, true, false, cond, ◌⊎◌, inl, inr, List, [], ◌∷◌, ◌++◌, refl, ap, subst, ◌∙◌, Option, Some, None}
use Rattle.std.specs.Prelude.{decimal, bytes_eq}
use Rattle.std.specs.Cmp.Lexicographic.{bytes_decides}
use Rattle.line_fields.specs.Lines.{Fields, IsField}
use Rattle.line_fields.specs.Numbers.{long_number, short_number}
use Rattle.line_fields.specs.Reading.{◌>>=◌, with_rest, long_in, short_in, is_end}

-- a field is read as a number exactly if it is the number in decimal
pub record NumberLaw : Type 0 where
  pub long : (field : List ℕ) (n : ℕ) → long_number field ≡ Some n → (field ≡ decimal n) × (n < 2 ^ 64)
  pub long_again : (n : ℕ) → n < 2 ^ 64 → long_number (decimal n) ≡ Some n
  pub short : (field : List ℕ) (n : ℕ) → short_number field ≡ Some n → (field ≡ decimal n) × (n < 2 ^ 32)
  pub short_again : (n : ℕ) → n < 2 ^ 32 → short_number (decimal n) ≡ Some n
  pub field : (n : ℕ) → n < 2 ^ 64 → IsField (decimal n)

-- what was found, and what was made of it
pub record Bound {A B : Type 0} (o : Option A) (next : A → Option B) (b : B) : Type 0 where
  pub found : A
  pub is : o ≡ Some found
  pub later : next found ≡ Some b

pub bound : {A B : Type 0} → (o : Option A) (next : A → Option B) (b : B) → (o >>= next) ≡ Some b → Bound o next b
bound None next b e = absurd cc
bound (Some a) next b e = record { found = a; is = refl; later = e }

pub some_is : {A : Type 0} → (x y : A) → Some x ≡ Some y → x ≡ y
some_is x y e = cc

pub none_is : {A B : Type 0} → (x : A) → let none : Option A = None in none ≡ Some x → B
none_is x e = absurd cc

-- a word that is this one, or not
pub word_case : {A : Type 0} → (word is : List ℕ) (this other : Option A) (x : A) → cond (bytes_eq word is) this other ≡ Some x
    → ((word ≡ is) × (this ≡ Some x)) ⊎ (other ≡ Some x)
word_case word is this other x e = by (bytes_eq word is) refl e
  where
    by : (b : Bool) → bytes_eq word is ≡ b → cond b this other ≡ Some x → ((word ≡ is) × (this ≡ Some x)) ⊎ (other ≡ Some x)
    by true t e = inl ((bytes_decides word is).0 t, e)
    by false t e = inr e

pub end_is : (fields : Fields) → is_end fields ≡ true → fields ≡ []
end_is [] e = refl
end_is (field ∷ rest) e = absurd cc

-- the fields are what is found and then these fields
pub record Takes {X : Type 0} (spell : X → Fields) (Fits : X → Type 0) (fields : Fields) (found : X × Fields) : Type 0 where
  pub whole : fields ≡ spell found.0 ++ found.1
  pub fits : Fits found.0

pub taken : {X : Type 0} → (spell : X → Fields) (Fits : X → Type 0) (fields : Fields) (made found : X × Fields) → Some made ≡ Some found
    → fields ≡ spell made.0 ++ made.1 → Fits made.0 → Takes spell Fits fields found
taken spell Fits fields made found e whole fits =
    subst (λ x. Takes spell Fits fields x) (some_is made found e) (record { whole = whole; fits = fits })

-- the fields are what is found
pub record Makes {X : Type 0} (spell : X → Fields) (Fits : X → Type 0) (fields : Fields) (found : X) : Type 0 where
  pub whole : fields ≡ spell found
  pub fits : Fits found

pub makes : {X : Type 0} → (spell : X → Fields) (Fits : X → Type 0) (fields : Fields) (made found : X) → Some made ≡ Some found
    → fields ≡ spell made → Fits made → Makes spell Fits fields found
makes spell Fits fields made found e whole fits =
    subst (λ x. Makes spell Fits fields x) (some_is made found e) (record { whole = whole; fits = fits })

abbrev pub one_number : ℕ → Fields
one_number n = decimal n ∷ []

-- what is made of the first field is found, with the rest
pub rest_is : {X : Type 0} → (rest : Fields) (o : Option X) (found : X × Fields) → with_rest rest o ≡ Some found → (o ≡ Some found.0) × (rest ≡ found.1)
rest_is rest None found e = none_is found e
rest_is rest (Some x) found e =
    let same = some_is (x, rest) found e in (ap (λ p. Some p.0) same, ap (λ p. p.1) same)

pub short_takes : NumberLaw → (fields : Fields) (found : ℕ × Fields) → short_in fields ≡ Some found → Takes one_number (λ n. n < 2 ^ 32) fields found
short_takes law [] found e = none_is found e
short_takes law (field ∷ rest) found e =
    let is = rest_is rest (short_number field) found e in
    let number = law.short field found.0 is.0 in
    record { whole = ap (λ f. f ∷ rest) number.0 ∙ ap (λ r. decimal found.0 ∷ r) is.1; fits = number.1 }

pub long_takes : NumberLaw → (fields : Fields) (found : ℕ × Fields) → long_in fields ≡ Some found → Takes one_number (λ n. n < 2 ^ 64) fields found
long_takes law [] found e = none_is found e
long_takes law (field ∷ rest) found e =
    let is = rest_is rest (long_number field) found e in
    let number = law.long field found.0 is.0 in
    record { whole = ap (λ f. f ∷ rest) number.0 ∙ ap (λ r. decimal found.0 ∷ r) is.1; fits = number.1 }

-- Words as `clap` cuts them.
use Rattle.std.proofs.Common.{◌≡◌, ◌∙◌, ℕ, suc, ◌+◌, ◌==◌, ◌&&◌, ◌||◌, Bool, true, false, not, cond, List, [], ◌∷◌, ◌++◌, length, take, drop, refl, ap, ap₂, sym, arith, nat_le, nat_lt, Option, Some, None, option_and_then, codes, bytes_eq}
use Rattle.std.specs.List.{list_any, prefix_len}
use Rattle.std.specs.Str.Parse.{digits_value}
use Rattle.std.proofs.lemmas.Bool.{eqb-true}
use Rattle.clap.specs.Lexer.{long_of, long_of_rest, name_and_value, short_of, short_of_rest, strip_byte}
use Rattle.command_words.specs.Words.{is_plain, number_up_to}

-- what follows the name of an option in its word
abbrev pub joined : Option (List ℕ) → List ℕ
joined None = []
joined (Some v) = codes "=" ++ v

cut : (xs : List ℕ) → xs ≡ (name_and_value xs).0 ++ joined (name_and_value xs).1
cut [] = refl
cut (x ∷ xs) = by (x == 61) refl (cut xs)
  where
    n : ℕ
    n = prefix_len (λ y. not (y == 61)) xs

    -- cut after m elements
    parts : ℕ → Bool → List ℕ
    parts m has = take m (x ∷ xs) ++ joined (cond has (Some (drop (m + 1) (x ∷ xs))) None)

    later_parts : (has : Bool) → x ∷ (take n xs ++ joined (cond has (Some (drop (n + 1) xs)) None)) ≡ parts (1 + n) has
    later_parts has =
        let one : suc n ≡ 1 + n = omega arith in
        let two : suc (n + 1) ≡ suc n + 1 = omega arith in
        ap (λ (m : ℕ). x ∷ (take n xs ++ joined (cond has (Some (drop m (x ∷ xs))) None))) two ∙ ap (λ (m : ℕ). parts m has) one

    by : (b : Bool) → (x == 61) ≡ b → xs ≡ (name_and_value xs).0 ++ joined (name_and_value xs).1
        → x ∷ xs ≡ (name_and_value (x ∷ xs)).0 ++ joined (name_and_value (x ∷ xs)).1
    by true e later = rw e (ap (λ (c : ℕ). c ∷ xs) (eqb-true x 61 e))
    by false e later = rw e (ap (λ (ys : List ℕ). x ∷ ys) later ∙ later_parts (list_any (λ y. y == 61) xs))

-- a long option is its name and what follows
pub long_is : (word name : List ℕ) (v : Option (List ℕ)) → long_of word ≡ Some (name, v) → word ≡ codes "--" ++ name ++ joined v
long_is [] name v e = absurd cc
long_is (x ∷ []) name v e = absurd (by (x == 45) e)
  where
    by : (b : Bool) → option_and_then long_of_rest (option_and_then (strip_byte 45) (cond b (Some []) None)) ≡ Some (name, v) → ⊥
    by true e = absurd cc
    by false e = absurd cc
long_is (x ∷ y ∷ zs) name v e = by (x == 45) (y == 45) refl refl zs e
  where
    by : (a b : Bool) → (x == 45) ≡ a → (y == 45) ≡ b → (zs : List ℕ) → option_and_then long_of_rest (option_and_then (strip_byte 45) (cond a (Some (y ∷ zs)) None)) ≡ Some (name, v)
        → x ∷ y ∷ zs ≡ codes "--" ++ name ++ joined v
    by false b s t zs e = absurd cc
    by true b s t zs e = second b t zs e
      where
        second : (b : Bool) → (y == 45) ≡ b → (zs : List ℕ) → option_and_then long_of_rest (cond (y == 45) (Some zs) None) ≡ Some (name, v) → x ∷ y ∷ zs ≡ codes "--" ++ name ++ joined v
        second false t zs e = let bad : ◌≡◌ {A = Option (List ℕ × Option (List ℕ))} None (Some (name, v)) = ap (λ (c : Bool). option_and_then long_of_rest (cond c (Some zs) None)) (sym t) ∙ e in absurd cc
        second true t [] e = let bad : ◌≡◌ {A = Option (List ℕ × Option (List ℕ))} None (Some (name, v)) = ap (λ (c : Bool). option_and_then long_of_rest (cond c (Some []) None)) (sym t) ∙ e in absurd cc
        second true t (z ∷ zs) e =
            let whole : Some (name_and_value (z ∷ zs)) ≡ Some (name, v) = ap (λ (c : Bool). option_and_then long_of_rest (cond c (Some (z ∷ zs)) None)) (sym t) ∙ e in
            let parts : name_and_value (z ∷ zs) ≡ (name, v) = cc in
            let rest : z ∷ zs ≡ name ++ joined v = cut (z ∷ zs) ∙ ap (λ (q : List ℕ × Option (List ℕ)). q.0 ++ joined q.1) parts in
            ap₂ (λ (c d : ℕ). c ∷ d ∷ z ∷ zs) (eqb-true x 45 s) (eqb-true y 45 t) ∙ ap (λ (ws : List ℕ). 45 ∷ 45 ∷ ws) rest

-- any other word but `--` is a name, or begins with one hyphen
pub plain_if : (word : List ℕ) → bytes_eq word (codes "--") ≡ false → long_of word ≡ None → short_of word ≡ None → is_plain word ≡ true
plain_if [] apart long short = refl
plain_if (x ∷ []) apart long short = by (x == 45)
  where
    by : (b : Bool) → (not b || true) ≡ true
    by true = refl
    by false = refl
plain_if (x ∷ y ∷ zs) apart long short = by (x == 45) refl (y == 45) refl zs apart long short
  where
    -- by the tests of the two bytes
    tests : (a b : Bool) (zs : List ℕ) → (a && (b && bytes_eq zs [])) ≡ false → option_and_then long_of_rest (option_and_then (λ (ws : List ℕ). cond b (Some zs) None) (cond a (Some (y ∷ zs)) None)) ≡ None
        → option_and_then (λ (ws : List ℕ). cond b None (Some ws)) (cond a (Some (y ∷ zs)) None) ≡ None → (not a || (length (y ∷ zs) == 0)) ≡ true
    tests false b zs apart long short = refl
    tests true false zs apart long short = absurd cc
    tests true true [] apart long short = absurd cc
    tests true true (z ∷ zs) apart long short = absurd cc

    by : (a : Bool) → (x == 45) ≡ a → (b : Bool) → (y == 45) ≡ b → (zs : List ℕ) → ((x == 45) && ((y == 45) && bytes_eq zs [])) ≡ false
        → option_and_then long_of_rest (option_and_then (strip_byte 45) (cond (x == 45) (Some (y ∷ zs)) None)) ≡ None
        → option_and_then short_of_rest (cond (x == 45) (Some (y ∷ zs)) None) ≡ None → (not (x == 45) || (length (y ∷ zs) == 0)) ≡ true
    by false s b t zs apart long short = rw s refl
    by true s b t zs apart long short =
        let apart : ((x == 45) && ((y == 45) && bytes_eq zs [])) ≡ false = apart in
        rw s (tests true (y == 45) zs (rw s at apart) (rw s at long) (rw s at short))

-- and a name is neither
pub is_other : (word : List ℕ) → is_plain word ≡ true → (bytes_eq word (codes "--") ≡ false) × (long_of word ≡ None) × (short_of word ≡ None)
is_other [] plain = (refl, refl, refl)
is_other (x ∷ []) plain = by (x == 45)
  where
    by : (b : Bool) → ((b && false) ≡ false) × (option_and_then long_of_rest (option_and_then (strip_byte 45) (cond b (Some []) None)) ≡ None)
        × (option_and_then short_of_rest (cond b (Some []) None) ≡ None)
    by true = (refl, refl, refl)
    by false = (refl, refl, refl)
is_other (x ∷ y ∷ zs) plain = by (x == 45) plain
  where
    by : (a : Bool) → (not a || (length (y ∷ zs) == 0)) ≡ true
        → ((a && ((y == 45) && bytes_eq zs [])) ≡ false) × (option_and_then long_of_rest (option_and_then (strip_byte 45) (cond a (Some (y ∷ zs)) None)) ≡ None)
        × (option_and_then short_of_rest (cond a (Some (y ∷ zs)) None) ≡ None)
    by true p = let none = eqb-true (length (y ∷ zs)) 0 p in absurd (omega arith)
    by false p = (refl, refl, refl)

-- so is a number
pub number_is_plain : (most n : ℕ) (word : List ℕ) → number_up_to most word ≡ Some n → is_plain word ≡ true
number_is_plain most n [] e = refl
number_is_plain most n (x ∷ xs) e = by (x == 45) refl
  where
    hyphen : (a c d : Bool) (v : ℕ) → cond {A = Option ℕ} (a && false && c && d) (Some v) None ≡ None
    hyphen true c d v = refl
    hyphen false c d v = refl

    none : number_up_to most (45 ∷ xs) ≡ None
    none =
        let v = digits_value 10 (45 ∷ xs) in
        hyphen (nat_le (length (45 ∷ xs)) 9) (nat_lt 0 v) (nat_le v most) v

    by : (b : Bool) → (x == 45) ≡ b → (not b || (length xs == 0)) ≡ true
    by false s = refl
    by true s = let bad : None ≡ Some n = sym none ∙ ap (λ (c : ℕ). number_up_to most (c ∷ xs)) (sym (eqb-true x 45 s)) ∙ e in absurd cc

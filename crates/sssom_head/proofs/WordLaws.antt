-- Spaces, quotes and fronts that pass a test, at the front of a text.
use Rattle.std.proofs.Common.{◌≡◌, ◌∙◌, ℕ, zero, suc, ◌+◌, ◌≤◌, ◌<◌, Bool, true, false, cond, List, [], ◌∷◌, ◌++◌, length, take, drop, get_or, refl, ap, sym, subst, arith, length-append}
use Rattle.std.specs.Prelude.{Option, Some, None, IsUtf8, ◌==◌, replicate}
use Rattle.std.specs.List.{prefix_len}
use Rattle.std.proofs.Math.Seq.{take-append_seam}
use Rattle.std.proofs.lemmas.Bool.{eq-eqb, eqb-true}
use Rattle.std.proofs.lemmas.Bool.Decides.{nat_tests}
use Rattle.std.proofs.lemmas.Str.{IsUtf8-take, IsUtf8-drop, IsCharBoundary-before_ascii, IsCharBoundary-after_ascii}
use Rattle.byte_words.specs.Bytes.{is_space}
use Rattle.byte_words.specs.Lists.{AllPassing, BeginsWithout}
use Rattle.sssom_head.specs.Contents.{behind_spaces, indentation}
use Rattle.sssom_head.specs.Entries.{is_quoted_byte}
use Rattle.sssom_head.specs.HeaderSteps.{Pair, split_some, quote_at, split_quote}

-- a text in UTF-8 may be cut round an ASCII byte
pub get_mid : (xs ys : List ℕ) (b : ℕ) → get_or (xs ++ b ∷ ys) (length xs) 0 ≡ b
get_mid [] ys b = refl
get_mid (x ∷ xs) ys b = get_mid xs ys b

-- what follows an element
pub drop_mid : (xs ys : List ℕ) (b : ℕ) → drop (suc (length xs)) (xs ++ b ∷ ys) ≡ ys
drop_mid [] ys b = refl
drop_mid (x ∷ xs) ys b = drop_mid xs ys b

-- both parts of a text in UTF-8 are so
pub utf8_parts : (xs ys : List ℕ) (b : ℕ) → b < 128 → IsUtf8 (xs ++ b ∷ ys) → IsUtf8 xs × IsUtf8 ys
utf8_parts xs ys b small h =
    let whole = xs ++ b ∷ ys in
    let within : length xs < length whole = omega (arith, length-append xs (b ∷ ys)) in
    let low : get_or whole (length xs) 0 < 128 = omega (arith, get_mid xs ys b) in
    let next : length xs + 1 ≡ suc (length xs) = omega arith in (
      subst IsUtf8 (take-append_seam xs (b ∷ ys)) (IsUtf8-take whole (length xs) h (IsCharBoundary-before_ascii whole (length xs) within low)),
      subst IsUtf8 (ap (λ (k : ℕ). drop k whole) next ∙ drop_mid xs ys b) (IsUtf8-drop whole (length xs + 1) h (IsCharBoundary-after_ascii whole (length xs) h within low)),
    )

-- spaces at the front
pub spaces_join : (text : List ℕ) → text ≡ replicate (indentation text) 32 ++ behind_spaces text
spaces_join [] = refl
spaces_join (b ∷ bs) = by (b == 32) refl (spaces_join bs)
  where
    by : (d : Bool) → (b == 32) ≡ d → bs ≡ replicate (indentation bs) 32 ++ behind_spaces bs → b ∷ bs ≡ replicate (cond d (1 + indentation bs) 0) 32 ++ cond d (behind_spaces bs) (b ∷ bs)
    by true e rest =
        let more : suc (indentation bs) ≡ 1 + indentation bs = omega arith in
        ap (λ (k : ℕ). k ∷ bs) (eqb-true b 32 e) ∙ ap (λ (l : List ℕ). 32 ∷ l) rest ∙ ap (λ (k : ℕ). replicate k 32 ++ behind_spaces bs) more
    by false e rest = refl

-- what follows the spaces begins with none
pub spaces_end : (text : List ℕ) → BeginsWithout is_space (behind_spaces text)
spaces_end [] = tt
spaces_end (b ∷ bs) = by (b == 32) refl (spaces_end bs)
  where
    by : (d : Bool) → (b == 32) ≡ d → BeginsWithout is_space (behind_spaces bs) → BeginsWithout is_space (cond d (behind_spaces bs) (b ∷ bs))
    by true e rest = rest
    by false e rest = e

-- without spaces nothing is left out
pub no_spaces : (rest : List ℕ) → BeginsWithout is_space rest → behind_spaces rest ≡ rest
no_spaces [] h = refl
no_spaces (b ∷ bs) h = ap (λ (d : Bool). cond d (behind_spaces bs) (b ∷ bs)) h

-- spaces are read back
pub spaces_back : (n : ℕ) (rest : List ℕ) → BeginsWithout is_space rest → behind_spaces (replicate n 32 ++ rest) ≡ rest
spaces_back zero rest h = no_spaces rest h
spaces_back (suc n) rest h = spaces_back n rest h

-- quotes
pub record QuoteFound (quote n m : ℕ) (bytes : List ℕ) : Type 0 where
  pub own : List ℕ
  pub rest : List ℕ
  pub whole : bytes ≡ own ++ quote ∷ rest
  pub all : AllPassing (is_quoted_byte quote) own
  pub at : m ≡ n + length own

-- a quote that is found is the first
pub quote_found : (quote n m : ℕ) (bytes : List ℕ) → quote_at quote n bytes ≡ Some m → QuoteFound quote n m bytes
quote_found quote n m [] e = absurd cc
quote_found quote n m (b ∷ bs) e = first (b == quote) refl e (quote_found quote (n + 1) m bs)
  where
    second : (d : Bool) → is_quoted_byte quote b ≡ d → cond d (quote_at quote (n + 1) bs) None ≡ Some m →
        (quote_at quote (n + 1) bs ≡ Some m → QuoteFound quote (n + 1) m bs) → QuoteFound quote n m (b ∷ bs)
    second true t h rest =
        let found = rest h in
        record { own = b ∷ found.own; rest = found.rest; whole = ap (λ (l : List ℕ). b ∷ l) found.whole; all = (t, found.all); at = omega (arith, found.at) }
    second false t h rest = absurd cc

    first : (d : Bool) → (b == quote) ≡ d → cond d (Some n) (cond (is_quoted_byte quote b) (quote_at quote (n + 1) bs) None) ≡ Some m →
        (quote_at quote (n + 1) bs ≡ Some m → QuoteFound quote (n + 1) m bs) → QuoteFound quote n m (b ∷ bs)
    first true t h rest = record { own = []; rest = bs; whole = ap (λ (k : ℕ). k ∷ bs) (eqb-true b quote t); all = tt; at = let same : n ≡ m = cc in omega (arith, same) }
    first false t h rest = second (is_quoted_byte quote b) refl h rest

-- a byte between quotes is no such quote
pub no_quote : (quote b : ℕ) → is_quoted_byte quote b ≡ true → (b == quote) ≡ false
no_quote quote b e = grind (arith, nat_tests)

-- a quote is found where it stands
pub quote_back : (quote n : ℕ) (own rest : List ℕ) → AllPassing (is_quoted_byte quote) own → quote_at quote n (own ++ quote ∷ rest) ≡ Some (n + length own)
quote_back quote n [] rest all =
    ap (λ (d : Bool). cond d (Some n) (cond (is_quoted_byte quote quote) (quote_at quote (n + 1) rest) None)) (eq-eqb quote quote refl)
    ∙ ap (λ (k : ℕ). Some k) (let e : n ≡ n + 0 = omega arith in e)
quote_back quote n (b ∷ bs) rest all =
    let more : n + 1 + length bs ≡ n + length (b ∷ bs) = omega arith in
    ap (λ (d : Bool). cond d (Some n) (cond (is_quoted_byte quote b) (quote_at quote (n + 1) (bs ++ quote ∷ rest)) None)) (no_quote quote b all.0)
    ∙ ap (λ (d : Bool). cond d (quote_at quote (n + 1) (bs ++ quote ∷ rest)) None) all.0
    ∙ quote_back quote (n + 1) bs rest all.1
    ∙ ap (λ (k : ℕ). Some k) more

-- two parts
abbrev pub some_pair : List ℕ → List ℕ → Option Pair
some_pair front back = Some (front, back)

-- a front that passes, and the rest
pub record Split (p : ℕ → Bool) (text : List ℕ) (parts : Pair) : Type 0 where
  pub all : AllPassing p parts.0
  pub some : 1 ≤ length parts.0
  pub whole : text ≡ parts.0 ++ parts.1

-- a quoted front, and the rest
pub record QuoteSplit (quote : ℕ) (text : List ℕ) (parts : Pair) : Type 0 where
  pub all : AllPassing (is_quoted_byte quote) parts.0
  pub whole : text ≡ parts.0 ++ quote ∷ parts.1

-- what follows an element, one further
pub next : (xs ys : List ℕ) (b : ℕ) → drop (length xs + 1) (xs ++ b ∷ ys) ≡ ys
next xs ys b = let e : length xs + 1 ≡ suc (length xs) = omega arith in ap (λ (k : ℕ). drop k (xs ++ b ∷ ys)) e ∙ drop_mid xs ys b

-- a split at a quote
pub quote_split : (quote : ℕ) (text : List ℕ) (parts : Pair) → split_quote text (quote_at quote 0 text) ≡ Some parts → QuoteSplit quote text parts
quote_split quote text parts h = by (quote_at quote 0 text) refl h
  where
    by : (o : Option ℕ) → quote_at quote 0 text ≡ o → split_quote text o ≡ Some parts → QuoteSplit quote text parts
    by None e h = absurd cc
    by (Some m) e h =
        let found = quote_found quote 0 m text e in
        let at : m ≡ length found.own = omega (arith, found.at) in
        let front : take m text ≡ found.own = ap (λ (k : ℕ). take k text) at ∙ ap (λ (l : List ℕ). take (length found.own) l) found.whole ∙ take-append_seam found.own (quote ∷ found.rest) in
        let back : drop (m + 1) text ≡ found.rest = ap (λ (k : ℕ). drop (k + 1) text) at ∙ ap (λ (l : List ℕ). drop (length found.own + 1) l) found.whole ∙ next found.own found.rest quote in
        let pair : Pair = (take m text, drop (m + 1) text) in
        let same : pair ≡ parts = cc in
        subst (QuoteSplit quote text) same
        (record { all = subst (AllPassing (is_quoted_byte quote)) (sym front) found.all; whole = found.whole ∙ ap (λ (l : List ℕ). l ++ quote ∷ found.rest) (sym front) ∙ ap (λ (l : List ℕ). take m text ++ quote ∷ l) (sym back) })

-- a split at a quote is read back
pub quote_again : (quote : ℕ) (own rest : List ℕ) → AllPassing (is_quoted_byte quote) own → split_quote (own ++ quote ∷ rest) (quote_at quote 0 (own ++ quote ∷ rest)) ≡ Some (own, rest)
quote_again quote own rest all =
    let text = own ++ quote ∷ rest in
    let at : 0 + length own ≡ length own = omega arith in
    ap (split_quote text) (quote_back quote 0 own rest all ∙ ap (λ (k : ℕ). Some k) at)
    ∙ ap (λ (l : List ℕ). some_pair l (drop (length own + 1) text)) (take-append_seam own (quote ∷ rest))
    ∙ ap (λ (l : List ℕ). some_pair own l) (next own rest quote)

-- the longest front that passes a test
pub front_split : (p : ℕ → Bool) (text : List ℕ) → AllPassing p (take (prefix_len p text) text) × (text ≡ take (prefix_len p text) text ++ drop (prefix_len p text) text)
front_split p [] = (tt, refl)
front_split p (b ∷ bs) = by (p b) refl (front_split p bs)
  where
    by : (d : Bool) → p b ≡ d → AllPassing p (take (prefix_len p bs) bs) × (bs ≡ take (prefix_len p bs) bs ++ drop (prefix_len p bs) bs) →
        AllPassing p (take (cond d (1 + prefix_len p bs) 0) (b ∷ bs)) × (b ∷ bs ≡ take (cond d (1 + prefix_len p bs) 0) (b ∷ bs) ++ drop (cond d (1 + prefix_len p bs) 0) (b ∷ bs))
    by true e rest =
        let more : suc (prefix_len p bs) ≡ 1 + prefix_len p bs = omega arith in
        subst (λ (k : ℕ). AllPassing p (take k (b ∷ bs)) × (b ∷ bs ≡ take k (b ∷ bs) ++ drop k (b ∷ bs))) more
        ((e, rest.0), ap (λ (l : List ℕ). b ∷ l) rest.1)
    by false e rest = (tt, refl)

-- the front is within the text
pub front_len : (p : ℕ → Bool) (text : List ℕ) → prefix_len p text ≤ length text
front_len p [] = omega arith
front_len p (b ∷ bs) = by (p b) (front_len p bs)
  where
    by : (d : Bool) → prefix_len p bs ≤ length bs → cond d (1 + prefix_len p bs) 0 ≤ length (b ∷ bs)
    by true h = omega arith
    by false h = omega arith

-- the length of a front
pub length_front : (n : ℕ) (text : List ℕ) → n ≤ length text → length (take n text) ≡ n
length_front zero text h = refl
length_front (suc n) [] h = absurd (omega arith)
length_front (suc n) (b ∷ bs) h = let rest = length_front n bs (omega arith) in omega arith

-- a number that is not 0
pub not_zero : (n : ℕ) → (n == 0) ≡ false → 1 ≤ n
not_zero n e = grind (arith, nat_tests)

-- a number of 1 or more is not 0
pub is_not_zero : (n : ℕ) → 1 ≤ n → (n == 0) ≡ false
is_not_zero n h = grind (arith, nat_tests)

-- a split of a front that is not empty
pub some_split : (p : ℕ → Bool) (text : List ℕ) (parts : Pair) → split_some (prefix_len p text) text ≡ Some parts → Split p text parts
some_split p text parts = by (prefix_len p text == 0) refl
  where
    pair : Pair
    pair = (take (prefix_len p text) text, drop (prefix_len p text) text)

    by : (d : Bool) → (prefix_len p text == 0) ≡ d → cond d None (Some pair) ≡ Some parts → Split p text parts
    by true e h = absurd cc
    by false e h =
        let same : pair ≡ parts = cc in
        let front = front_split p text in
        subst (Split p text) same
        (record { all = front.0; some = omega (arith, length_front (prefix_len p text) text (front_len p text), not_zero (prefix_len p text) e); whole = front.1 })

-- the longest front is read back
pub front_back : (p : ℕ → Bool) (own rest : List ℕ) → AllPassing p own → BeginsWithout p rest → prefix_len p (own ++ rest) ≡ length own
front_back p [] [] all h = refl
front_back p [] (b ∷ bs) all h = ap (λ (d : Bool). cond d (1 + prefix_len p bs) 0) h
front_back p (b ∷ bs) rest all h =
    let more = front_back p bs rest all.1 h in
    ap (λ (d : Bool). cond d (1 + prefix_len p (bs ++ rest)) 0) all.0 ∙ omega (arith, more)

-- what follows a front
pub drop_front : (xs ys : List ℕ) → drop (length xs) (xs ++ ys) ≡ ys
drop_front [] ys = refl
drop_front (x ∷ xs) ys = drop_front xs ys

-- a split of a front is read back
pub some_again : (p : ℕ → Bool) (own rest : List ℕ) → AllPassing p own → 1 ≤ length own → BeginsWithout p rest → split_some (prefix_len p (own ++ rest)) (own ++ rest) ≡ Some (own, rest)
some_again p own rest all some h =
    let text = own ++ rest in
    ap (λ (k : ℕ). split_some k text) (front_back p own rest all h)
    ∙ ap (λ (d : Bool). cond d None (some_pair (take (length own) text) (drop (length own) text))) (is_not_zero (length own) some)
    ∙ ap (λ (l : List ℕ). some_pair l (drop (length own) text)) (take-append_seam own rest)
    ∙ ap (λ (l : List ℕ). some_pair own l) (drop_front own rest)

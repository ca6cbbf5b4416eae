-- Keys and values, read and spelled.
use Rattle.std.proofs.Common.{◌≡◌, ◌∙◌, ℕ, ◌≤◌, Bool, true, false, cond, List, [], ◌∷◌, ◌++◌, length, refl, ap, sym, subst, arith, append_assoc}
use Rattle.std.specs.Prelude.{Option, Some, None}
use Rattle.std.specs.List.{prefix_len}
use Rattle.std.proofs.lemmas.Bool.Decides.{nat_tests}
use Rattle.byte_words.specs.Lists.{BeginsWithout}
use Rattle.sssom_head.specs.Entries.{is_quote, is_key_byte, is_indicator, is_value_byte, Word, word_text, word_bytes, IsKey, BeginsValue, IsValue}
use Rattle.sssom_head.specs.HeaderSteps.{Pair, split_some, quote_at, split_quote, key_in, value_in}
use Rattle.sssom_head.proofs.WordLaws.{quote_split, quote_again, some_split, some_again}

-- keys
pub record KeyRead (text : List ℕ) (parts : Pair) : Type 0 where
  pub word : Word
  pub form : IsKey word
  pub own : parts.0 ≡ word_bytes word
  pub whole : text ≡ word_text word ++ parts.1

-- a key that is read has its form
pub key_read : (text : List ℕ) (parts : Pair) → key_in text ≡ Some parts → KeyRead text parts
key_read [] parts h = absurd cc
key_read (b ∷ bs) parts h = by (is_quote b) refl h
  where
    by : (d : Bool) → is_quote b ≡ d → cond d (split_quote bs (quote_at b 0 bs)) (split_some (prefix_len is_key_byte (b ∷ bs)) (b ∷ bs)) ≡ Some parts → KeyRead (b ∷ bs) parts
    by true e h =
        let split = quote_split b bs parts h in
        record { word = Word.quoted b parts.0; form = (e, split.all); own = refl; whole = ap (λ (l : List ℕ). b ∷ l) (split.whole ∙ sym (append_assoc parts.0 (b ∷ []) parts.1)) }
    by false e h =
        let split = some_split is_key_byte (b ∷ bs) parts h in
        record { word = Word.plain parts.0; form = (split.some, split.all); own = refl; whole = split.whole }

-- a byte of a key is no quote
pub key_no_quote : (b : ℕ) → is_key_byte b ≡ true → is_quote b ≡ false
key_no_quote b e = grind (arith, nat_tests)

-- a key is read back
pub key_again : (word : Word) (rest : List ℕ) → IsKey word → BeginsWithout is_key_byte rest → key_in (word_text word ++ rest) ≡ Some (word_bytes word, rest)
key_again (Word.plain []) rest form h = absurd (omega (arith, form.0))
key_again (Word.plain (b ∷ bs)) rest form h =
    ap (λ (d : Bool). cond d (split_quote (bs ++ rest) (quote_at b 0 (bs ++ rest))) (split_some (prefix_len is_key_byte (b ∷ bs ++ rest)) (b ∷ bs ++ rest))) (key_no_quote b form.1.0)
    ∙ some_again is_key_byte (b ∷ bs) rest form.1 form.0 h
key_again (Word.quoted quote own) rest form h =
    let text = (own ++ quote ∷ []) ++ rest in
    ap (λ (d : Bool). cond d (split_quote text (quote_at quote 0 text)) (split_some (prefix_len is_key_byte (quote ∷ text)) (quote ∷ text))) form.0
    ∙ ap (λ (l : List ℕ). split_quote l (quote_at quote 0 l)) (append_assoc own (quote ∷ []) rest)
    ∙ quote_again quote own rest form.1

-- values
pub record ValueRead (text : List ℕ) (parts : Pair) : Type 0 where
  pub word : Word
  pub form : IsValue word
  pub own : parts.0 ≡ word_bytes word
  pub whole : text ≡ word_text word ++ parts.1

-- the first byte of a value
pub begins_value : (b : ℕ) (bs own rest : List ℕ) → b ∷ bs ≡ own ++ rest → 1 ≤ length own → is_indicator b ≡ false → BeginsValue own
begins_value b bs [] rest e some h = absurd (omega arith)
begins_value b bs (c ∷ cs) rest e some h = let same : b ≡ c = cc in subst (λ (k : ℕ). is_indicator k ≡ false) same h

-- a value that is read has its form
pub value_read : (text : List ℕ) (parts : Pair) → value_in text ≡ Some parts → ValueRead text parts
value_read [] parts h = absurd cc
value_read (b ∷ bs) parts h = first (is_quote b) refl h
  where
    plain : Option Pair
    plain = split_some (prefix_len is_value_byte (b ∷ bs)) (b ∷ bs)

    second : (d : Bool) → is_indicator b ≡ d → cond d None plain ≡ Some parts → ValueRead (b ∷ bs) parts
    second true e h = absurd cc
    second false e h =
        let split = some_split is_value_byte (b ∷ bs) parts h in
        record { word = Word.plain parts.0; form = (begins_value b bs parts.0 parts.1 split.whole split.some e, split.all); own = refl; whole = split.whole }

    first : (d : Bool) → is_quote b ≡ d → cond d (split_quote bs (quote_at b 0 bs)) (cond (is_indicator b) None plain) ≡ Some parts → ValueRead (b ∷ bs) parts
    first true e h =
        let split = quote_split b bs parts h in
        record { word = Word.quoted b parts.0; form = (e, split.all); own = refl; whole = ap (λ (l : List ℕ). b ∷ l) (split.whole ∙ sym (append_assoc parts.0 (b ∷ []) parts.1)) }
    first false e h = second (is_indicator b) refl h

-- a quote is an indicator
pub value_no_quote : (b : ℕ) → is_indicator b ≡ false → is_quote b ≡ false
value_no_quote b e = grind (arith, nat_tests)

-- a value is read back
pub value_again : (word : Word) (rest : List ℕ) → IsValue word → BeginsWithout is_value_byte rest → value_in (word_text word ++ rest) ≡ Some (word_bytes word, rest)
value_again (Word.plain []) rest form h = absurd form.0
value_again (Word.plain (b ∷ bs)) rest form h =
    let text = b ∷ bs ++ rest in
    let plain = split_some (prefix_len is_value_byte text) text in
    ap (λ (d : Bool). cond d (split_quote (bs ++ rest) (quote_at b 0 (bs ++ rest))) (cond (is_indicator b) None plain)) (value_no_quote b form.0)
    ∙ ap (λ (d : Bool). cond d None plain) form.0
    ∙ some_again is_value_byte (b ∷ bs) rest form.1 (omega arith) h
value_again (Word.quoted quote own) rest form h =
    let text = (own ++ quote ∷ []) ++ rest in
    ap (λ (d : Bool). cond d (split_quote text (quote_at quote 0 text)) (cond (is_indicator quote) None (split_some (prefix_len is_value_byte (quote ∷ text)) (quote ∷ text)))) form.0
    ∙ ap (λ (l : List ℕ). split_quote l (quote_at quote 0 l)) (append_assoc own (quote ∷ []) rest)
    ∙ quote_again quote own rest form.1

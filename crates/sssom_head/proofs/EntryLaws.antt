-- What is read as an entry, and its key and value in UTF-8.
use Rattle.std.proofs.Common.{◌≡◌, ◌∙◌, ℕ, zero, suc, ◌≤◌, ◌<◌, Bool, true, false, cond, List, [], ◌∷◌, ◌++◌, drop, refl, ap, sym, subst, arith, append_assoc, append-nil}
use Rattle.std.specs.Prelude.{Option, Some, None, IsUtf8, ◌==◌, replicate}
use Rattle.std.specs.Str.{is_utf8}
use Rattle.std.proofs.lemmas.Bool.{and_parts, eqb-true}
use Rattle.std.proofs.lemmas.Bool.Decides.{nat_tests}
use Rattle.std.proofs.lemmas.Str.{IsUtf8-from_is_utf8, is_utf8-from_IsUtf8}
use Rattle.byte_words.specs.Bytes.{is_space}
use Rattle.byte_words.specs.Lists.{BeginsWithout}
use Rattle.sssom_head.specs.Lines.{begins_with_hash}
use Rattle.sssom_head.specs.Contents.{behind_spaces, indentation}
use Rattle.sssom_head.specs.Entries.{is_quote, is_value_byte, Word, word_text, word_bytes, IsKey, IsValue, Comment, comment_text, IsComment, Entry, entry_text, IsEntry}
use Rattle.sssom_head.specs.HeaderSteps.{Pair, key_in, value_in, behind_some_spaces, behind_colon, ends_entry, entry_with_value, entry_behind_colon, entry_with_key, entry_in, entry_of}
use Rattle.sssom_head.proofs.WordLaws.{utf8_parts, spaces_join, spaces_end, spaces_back, some_pair}
use Rattle.sssom_head.proofs.KeyLaws.{KeyRead, key_read, key_again, value_read, value_again}

-- the colon and the spaces after it
record ColonRead (text rest : List ℕ) : Type 0 where
  spaces : ℕ
  some : 1 ≤ spaces
  free : BeginsWithout is_space rest
  whole : text ≡ 58 ∷ (replicate spaces 32 ++ rest)

-- spaces, and what follows them
record SpacesRead (text rest : List ℕ) : Type 0 where
  spaces : ℕ
  some : 1 ≤ spaces
  free : BeginsWithout is_space rest
  whole : text ≡ replicate spaces 32 ++ rest

-- some spaces are read
spaces_read : (text rest : List ℕ) → behind_some_spaces text ≡ Some rest → SpacesRead text rest
spaces_read [] rest h = absurd cc
spaces_read (b ∷ bs) rest h = by (b == 32) refl h
  where
    by : (d : Bool) → (b == 32) ≡ d → cond d (Some (behind_spaces bs)) None ≡ Some rest → SpacesRead (b ∷ bs) rest
    by true e h =
        let same : behind_spaces bs ≡ rest = cc in
        subst (SpacesRead (b ∷ bs)) same
        (record { spaces = suc (indentation bs); some = omega arith; free = spaces_end bs; whole = ap (λ (k : ℕ). k ∷ bs) (eqb-true b 32 e) ∙ ap (λ (l : List ℕ). 32 ∷ l) (spaces_join bs) })
    by false e h = absurd cc

-- a colon and some spaces are read
colon_read : (text rest : List ℕ) → behind_colon text ≡ Some rest → ColonRead text rest
colon_read [] rest h = absurd cc
colon_read (b ∷ bs) rest h = by (b == 58) refl h
  where
    by : (d : Bool) → (b == 58) ≡ d → cond d (behind_some_spaces bs) None ≡ Some rest → ColonRead (b ∷ bs) rest
    by true e h =
        let spaces = spaces_read bs rest h in
        record { spaces = spaces.spaces; some = spaces.some; free = spaces.free; whole = ap (λ (k : ℕ). k ∷ bs) (eqb-true b 58 e) ∙ ap (λ (l : List ℕ). 58 ∷ l) spaces.whole }
    by false e h = absurd cc

-- they are read back
colon_again : (n : ℕ) (rest : List ℕ) → 1 ≤ n → BeginsWithout is_space rest → behind_colon (58 ∷ (replicate n 32 ++ rest)) ≡ Some rest
colon_again zero rest some h = absurd (omega arith)
colon_again (suc n) rest some h = ap (λ (l : List ℕ). Some l) (spaces_back n rest h)

-- what an entry ends with
record EndRead (text : List ℕ) : Type 0 where
  comment : Option Comment
  form : IsComment comment
  whole : text ≡ comment_text comment

-- a text that begins with #
hash_first : (bytes : List ℕ) → begins_with_hash bytes ≡ true → bytes ≡ 35 ∷ drop 1 bytes
hash_first [] e = absurd cc
hash_first (b ∷ bs) e = ap (λ (k : ℕ). k ∷ bs) (eqb-true b 35 e)

-- an end is nothing or a comment
end_read : (text : List ℕ) → ends_entry text ≡ true → EndRead text
end_read [] h = record { comment = None; form = tt; whole = refl }
end_read (b ∷ bs) h =
    let both = and_parts (b == 32) (begins_with_hash (behind_spaces bs)) h in
    record {
      comment = Some (record { spaces = suc (indentation bs); inner = drop 1 (behind_spaces bs) });
      form = omega arith;
      whole = ap (λ (k : ℕ). k ∷ bs) (eqb-true b 32 both.0) ∙ ap (λ (l : List ℕ). 32 ∷ l) (spaces_join bs ∙ ap (λ (l : List ℕ). replicate (indentation bs) 32 ++ l) (hash_first (behind_spaces bs) both.1));
    }

-- an end is read back
end_again : (comment : Option Comment) → IsComment comment → ends_entry (comment_text comment) ≡ true
end_again None h = refl
end_again (Some comment) h = by comment.spaces h
  where
    by : (n : ℕ) → 1 ≤ n → ends_entry (replicate n 32 ++ 35 ∷ comment.inner) ≡ true
    by zero some = absurd (omega arith)
    by (suc n) some = ap begins_with_hash (spaces_back n (35 ∷ comment.inner) refl)

-- a comment begins with a space
comment_free : (comment : Option Comment) → IsComment comment → BeginsWithout is_value_byte (comment_text comment)
comment_free None h = tt
comment_free (Some comment) h = by comment.spaces h
  where
    by : (n : ℕ) → 1 ≤ n → BeginsWithout is_value_byte (replicate n 32 ++ 35 ∷ comment.inner)
    by zero some = absurd (omega arith)
    by (suc n) some = refl

-- a byte of a value is no space
value_byte_no_space : (b : ℕ) → is_value_byte b ≡ true → is_space b ≡ false
value_byte_no_space b e = grind (arith, nat_tests)

-- a quote is no space
quote_no_space : (b : ℕ) → is_quote b ≡ true → is_space b ≡ false
quote_no_space b e = grind (arith, nat_tests)

-- a value does not begin with a space
value_free : (word : Word) (rest : List ℕ) → IsValue word → BeginsWithout is_space (word_text word ++ rest)
value_free (Word.plain []) rest form = absurd form.0
value_free (Word.plain (b ∷ bs)) rest form = value_byte_no_space b form.1.0
value_free (Word.quoted quote own) rest form = quote_no_space quote form.0

-- an entry is read as it is spelled
record EntryRead (text : List ℕ) (parts : Pair) : Type 0 where
  entry : Entry
  spelled : text ≡ entry_text entry
  key_form : IsKey entry.key
  space : 1 ≤ entry.spaces
  value_form : IsValue entry.value
  comment_form : IsComment entry.comment
  key_is : parts.0 ≡ word_bytes entry.key
  value_is : parts.1 ≡ word_bytes entry.value

module _ (text : List ℕ) (parts key : Pair) (key_at : KeyRead text key) where
  -- an entry, by its value
  with_value : (rest : List ℕ) (colon : ColonRead key.1 rest) (o : Option Pair) → value_in rest ≡ o → entry_with_value key.0 o ≡ Some parts → EntryRead text parts
  with_value rest colon None e h = absurd cc
  with_value rest colon (Some value) e h = by (ends_entry value.1) refl h
    where
      by : (d : Bool) → ends_entry value.1 ≡ d → cond d (some_pair key.0 value.0) None ≡ Some parts → EntryRead text parts
      by true t h =
          let value_at = value_read rest value e in
          let end = end_read value.1 t in
          let same : some_pair key.0 value.0 ≡ Some parts = h in
          let pair : Pair = (key.0, value.0) in
          let equal : pair ≡ parts = cc in
          subst (EntryRead text) equal
          (record {
            entry = record { key = key_at.word; spaces = colon.spaces; value = value_at.word; comment = end.comment };
            spelled =
                key_at.whole
                ∙ ap (λ (l : List ℕ). word_text key_at.word ++ l) (colon.whole ∙ ap (λ (l : List ℕ). 58 ∷ (replicate colon.spaces 32 ++ l)) (value_at.whole ∙ ap (λ (l : List ℕ). word_text value_at.word ++ l) end.whole));
            key_form = key_at.form;
            space = colon.some;
            value_form = value_at.form;
            comment_form = end.form;
            key_is = key_at.own;
            value_is = value_at.own;
          })
      by false t h = absurd cc

  -- an entry, by what follows its key
  behind_key : (o : Option (List ℕ)) → behind_colon key.1 ≡ o → entry_behind_colon key.0 o ≡ Some parts → EntryRead text parts
  behind_key None e h = absurd cc
  behind_key (Some rest) e h = with_value rest (colon_read key.1 rest e) (value_in rest) refl h

-- an entry that is read is spelled so
entry_read : (text : List ℕ) (parts : Pair) → entry_in text ≡ Some parts → EntryRead text parts
entry_read text parts h = by (key_in text) refl h
  where
    by : (o : Option Pair) → key_in text ≡ o → entry_with_key o ≡ Some parts → EntryRead text parts
    by None e h = absurd cc
    by (Some key) e h = behind_key text parts key (key_read text key e) (behind_colon key.1) refl h

-- an entry is read as it is spelled
entry_again : (e : Entry) → IsKey e.key → 1 ≤ e.spaces → IsValue e.value → IsComment e.comment → entry_in (entry_text e) ≡ Some (word_bytes e.key, word_bytes e.value)
entry_again e key space value comment =
    let end = comment_text e.comment in
    let rest = word_text e.value ++ end in
    let tail = 58 ∷ (replicate e.spaces 32 ++ rest) in
    ap entry_with_key (key_again e.key tail key refl)
    ∙ ap (entry_behind_colon (word_bytes e.key)) (colon_again e.spaces rest space (value_free e.value end value))
    ∙ ap (entry_with_value (word_bytes e.key)) (value_again e.value end value (comment_free e.comment comment))
    ∙ ap (λ (d : Bool). cond d (some_pair (word_bytes e.key) (word_bytes e.value)) None) (end_again e.comment comment)

-- what is read is an entry
pub entry_is : (content : List ℕ) (parts : Pair) → entry_of content ≡ Some parts → IsEntry content parts.0 parts.1
entry_is content parts h = by (is_utf8 content) refl h
  where
    by : (d : Bool) → is_utf8 content ≡ d → cond d (entry_in (behind_spaces content)) None ≡ Some parts → IsEntry content parts.0 parts.1
    by true e h =
        let read = entry_read (behind_spaces content) parts h in
        record {
          entry = read.entry;
          spelled = read.spelled;
          key_form = read.key_form;
          space = read.space;
          value_form = read.value_form;
          comment_form = read.comment_form;
          key_is = read.key_is;
          value_is = read.value_is;
          utf8 = IsUtf8-from_is_utf8 content e;
        }
    by false e h = absurd cc

-- an entry is read
pub entry_of_is : (content key value : List ℕ) → IsEntry content key value → entry_of content ≡ Some (key, value)
entry_of_is content key value h =
    ap (λ (d : Bool). cond d (entry_in (behind_spaces content)) None) (is_utf8-from_IsUtf8 content h.utf8)
    ∙ ap entry_in h.spelled
    ∙ entry_again h.entry h.key_form h.space h.value_form h.comment_form
    ∙ ap (λ (l : List ℕ). some_pair l (word_bytes h.entry.value)) (sym h.key_is)
    ∙ ap (λ (l : List ℕ). some_pair key l) (sym h.value_is)

-- the key and the value of an entry are in UTF-8
utf8_spaces : (n : ℕ) (rest : List ℕ) → IsUtf8 (replicate n 32 ++ rest) → IsUtf8 rest
utf8_spaces zero rest h = h
utf8_spaces (suc n) rest h = utf8_spaces n rest (utf8_parts [] (replicate n 32 ++ rest) 32 (omega arith) h).1

-- a quote is ASCII
quote_small : (b : ℕ) → is_quote b ≡ true → b < 128
quote_small b e = grind (arith, nat_tests)

-- a text between quotes in UTF-8
utf8_quoted : (quote : ℕ) (own rest : List ℕ) → is_quote quote ≡ true → IsUtf8 (quote ∷ (own ++ quote ∷ []) ++ rest) → IsUtf8 own × IsUtf8 rest
utf8_quoted quote own rest e h =
    let inner = (utf8_parts [] ((own ++ quote ∷ []) ++ rest) quote (quote_small quote e) h).1 in
    utf8_parts own rest quote (quote_small quote e) (subst IsUtf8 (append_assoc own (quote ∷ []) rest) inner)

-- a key in UTF-8
utf8_key : (word : Word) (rest : List ℕ) → IsKey word → IsUtf8 (word_text word ++ 58 ∷ rest) → IsUtf8 (word_bytes word) × IsUtf8 rest
utf8_key (Word.plain own) rest form h = utf8_parts own rest 58 (omega arith) h
utf8_key (Word.quoted quote own) rest form h =
    let parts = utf8_quoted quote own (58 ∷ rest) form.0 h in
    (parts.0, (utf8_parts [] rest 58 (omega arith) parts.1).1)

-- a plain value in UTF-8
utf8_plain : (own : List ℕ) (comment : Option Comment) → IsComment comment → IsUtf8 (own ++ comment_text comment) → IsUtf8 own
utf8_plain own None form h = subst IsUtf8 (append-nil own) h
utf8_plain own (Some comment) form h = by comment.spaces form h
  where
    by : (n : ℕ) → 1 ≤ n → IsUtf8 (own ++ (replicate n 32 ++ 35 ∷ comment.inner)) → IsUtf8 own
    by zero some h = absurd (omega arith)
    by (suc n) some h = (utf8_parts own (replicate n 32 ++ 35 ∷ comment.inner) 32 (omega arith) h).0

-- a value in UTF-8
utf8_value : (word : Word) (comment : Option Comment) → IsValue word → IsComment comment → IsUtf8 (word_text word ++ comment_text comment) → IsUtf8 (word_bytes word)
utf8_value (Word.plain own) comment form end h = utf8_plain own comment end h
utf8_value (Word.quoted quote own) comment form end h = (utf8_quoted quote own (comment_text comment) form.0 h).0

-- the key and the value of an entry in UTF-8
pub entry_utf8 : (content key value : List ℕ) → IsEntry content key value → IsUtf8 key × IsUtf8 value
entry_utf8 content key value h =
    let e = h.entry in
    let text = utf8_spaces (indentation content) (behind_spaces content) (subst IsUtf8 (spaces_join content) h.utf8) in
    let parts = utf8_key e.key (replicate e.spaces 32 ++ (word_text e.value ++ comment_text e.comment)) h.key_form (subst IsUtf8 h.spelled text) in (
      subst IsUtf8 (sym h.key_is) parts.0,
      subst IsUtf8 (sym h.value_is) (utf8_value e.value e.comment h.value_form h.comment_form (utf8_spaces e.spaces (word_text e.value ++ comment_text e.comment) parts.1)),
    )

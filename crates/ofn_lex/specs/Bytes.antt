-- The bytes that gaps and tokens are made of. Each byte that a test names is ASCII, so that a character
-- past ASCII and each of its bytes pass the same tests.
use Rattle.std.specs.Prelude.{ℕ, Bool, not, ◌&&◌, ◌||◌, ◌==◌, nat_lt, codes}
use Rattle.byte_words.specs.Bytes.{is_letter_or_digit, is_one_of}

-- line feed, carriage return
abbrev pub ends_line : ℕ → Bool
ends_line b = b == 10 || b == 13

-- space, tab, line feed, carriage return
abbrev pub is_white_space : ℕ → Bool
is_white_space b = b == 32 || b == 9 || ends_line b

-- white space, or the # of a comment
abbrev pub begins_gap : ℕ → Bool
begins_gap b = is_white_space b || b == 35

-- neither < nor > nor one of U+0000 to U+0020
abbrev pub is_iri_byte : ℕ → Bool
is_iri_byte b = nat_lt 32 b && not (b == 60) && not (b == 62)

-- " or \, which a quoted text has only after a \
abbrev pub is_escaped : ℕ → Bool
is_escaped b = b == 34 || b == 92

-- a letter, a digit or -
abbrev pub is_language_byte : ℕ → Bool
is_language_byte b = is_letter_or_digit b || b == 45

-- ( ) < > " = # @ ^ \
abbrev pub is_mark : ℕ → Bool
is_mark b = is_one_of (codes "()<>\"=#@^\\") b

-- neither white space nor a mark
abbrev pub is_run_byte : ℕ → Bool
is_run_byte b = not (is_white_space b) && not (is_mark b)

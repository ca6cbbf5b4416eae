-- The next token of a text.
use Rattle.std.specs.Prelude.{ℕ, ◌+◌, ◌==◌, if◌then◌else◌, List, [], ◌∷◌, drop, Option, Some, None, Result, Ok, Err}
use Rattle.ofn_lex.specs.Bytes.{is_language_byte, is_run_byte}
use Rattle.ofn_lex.specs.Ends.{gap_end, iri_end, quoted_end, span_end, some_span_end, carets_end}
use Rattle.ofn_lex.specs.declared.token.TokenKind.{TokenKind}
use Rattle.ofn_lex.specs.declared.token.TokenKind.TheVariants.{Open, Close, Equals, FullIri, Quoted, Lang, Carets, Run}
use Rattle.ofn_lex.specs.declared.token.Token.{Token}
use Rattle.ofn_lex.specs.declared.token.LexFault.{LexFault}

-- the token of a kind, if it has an end
abbrev pub token_to : TokenKind → ℕ → Option ℕ → Option Token
token_to kind start None = None
token_to kind start (Some end) = Some (record { kind = kind; start = start; end = end })

-- the token at the offset n, with the byte b before these; None if b begins no token
abbrev pub token_at : ℕ → ℕ → List ℕ → Option Token
token_at n b bs =
    if b == 40 then token_to Open n (Some (n + 1)) else
    if b == 41 then token_to Close n (Some (n + 1)) else
    if b == 61 then token_to Equals n (Some (n + 1)) else
    if b == 60 then token_to FullIri n (iri_end (n + 1) bs) else
    if b == 34 then token_to Quoted n (quoted_end (n + 1) bs) else
    if b == 64 then token_to Lang n (some_span_end is_language_byte (n + 1) bs) else
    if b == 94 then token_to Carets n (carets_end (n + 1) bs) else
    if is_run_byte b then token_to Run n (Some (span_end is_run_byte (n + 1) bs)) else None

abbrev pub or_fault : ℕ → Option Token → Result (Option Token) LexFault
or_fault n None = Err (record { offset = n })
or_fault n (Some token) = Ok (Some token)

-- the token with which these bytes begin
abbrev pub first_of : ℕ → List ℕ → Result (Option Token) LexFault
first_of n [] = Ok None
first_of n (b ∷ bs) = or_fault n (token_at n b bs)

-- where the gap ends that stands at an offset
abbrev pub past_gap : List ℕ → ℕ → ℕ
past_gap text from = gap_end from (drop from text)

-- the next token from an offset on
abbrev pub next_of : List ℕ → ℕ → Result (Option Token) LexFault
next_of text from = first_of (past_gap text from) (drop (past_gap text from) text)

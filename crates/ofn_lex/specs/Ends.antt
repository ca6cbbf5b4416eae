-- Where gaps and tokens end. Each list holds the bytes of a text from the offset n on.
use Rattle.std.specs.Prelude.{ℕ, ◌+◌, ◌==◌, Bool, if◌then◌else◌, List, [], ◌∷◌, Option, Some, None}
use Rattle.std.specs.List.{prefix_len}
use Rattle.ofn_lex.specs.Bytes.{ends_line, is_white_space, is_iri_byte, is_escaped}

-- the end of white space and comments, and of the comment that n stands in with what follows it
abbrev mutual
  pub gap_end : ℕ → List ℕ → ℕ
  gap_end n [] = n
  gap_end n (b ∷ bs) = if is_white_space b then gap_end (n + 1) bs else if b == 35 then comment_end (n + 1) bs else n

  pub comment_end : ℕ → List ℕ → ℕ
  comment_end n [] = n
  comment_end n (b ∷ bs) = if ends_line b then gap_end (n + 1) bs else comment_end (n + 1) bs

-- the end of a full IRI, after its <
abbrev pub iri_end : ℕ → List ℕ → Option ℕ
iri_end n [] = None
iri_end n (b ∷ bs) = if b == 62 then Some (n + 1) else if is_iri_byte b then iri_end (n + 1) bs else None

-- the end of a quoted text, after its first ", and after a \ in it
abbrev mutual
  pub quoted_end : ℕ → List ℕ → Option ℕ
  quoted_end n [] = None
  quoted_end n (b ∷ bs) = if b == 34 then Some (n + 1) else if b == 92 then escape_end (n + 1) bs else quoted_end (n + 1) bs

  pub escape_end : ℕ → List ℕ → Option ℕ
  escape_end n [] = None
  escape_end n (b ∷ bs) = if is_escaped b then quoted_end (n + 1) bs else None

-- the end of the bytes that pass a test
abbrev pub span_end : (ℕ → Bool) → ℕ → List ℕ → ℕ
span_end passes n bs = n + prefix_len passes bs

-- the same, if there is at least one such byte
abbrev pub some_span_end : (ℕ → Bool) → ℕ → List ℕ → Option ℕ
some_span_end passes n [] = None
some_span_end passes n (b ∷ bs) = if passes b then Some (span_end passes (n + 1) bs) else None

-- the end of ^^, after its first ^
abbrev pub carets_end : ℕ → List ℕ → Option ℕ
carets_end n [] = None
carets_end n (b ∷ bs) = if b == 94 then Some (n + 1) else None

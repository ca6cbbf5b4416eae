-- Tokens are read as just those pieces that stand for them.
use Rattle.std.proofs.Common.{◌≡◌, ℕ, ◌+◌, ◌-◌, Bool, true, false, cond, ◌&&◌, ◌||◌, List, [], ◌∷◌, length, map, refl, ap, sym, ◌∙◌, arith}
use Rattle.std.specs.Prelude.{Option, ⊤}
use Rattle.ofn_lex.specs.declared.token.Token.{Token}
use Rattle.ofn_lex.specs.declared.token.LexFault.{LexFault}
use Rattle.ofn_lex.specs.declared.token.TokenKind.{TokenKind}
use Rattle.ofn_lex.specs.declared.token.TokenKind.TheVariants.{Open, Close, Equals, FullIri, Quoted, Lang, Carets, Run}
use Rattle.ofn_lex.specs.Forms.{HasForm}
use Rattle.ofn_lex.specs.Texts.{HasTokens}
use Rattle.ofn_term.specs.Words.{is_open_kind, is_run_kind, is_bracket, is_word, begins_open}
use Rattle.ofn_term.specs.Writing.{Piece, opening, closing, head, atom, token_of, begins_group, AreInPlace}
use Rattle.ofn_term.specs.Inside.PieceReading.{piece_of, pieces_of}

-- a bracket takes up one byte
abbrev IsShort : TokenKind → ℕ → ℕ → Type 0
IsShort Open start end = end ≡ start + 1
IsShort Close start end = end ≡ start + 1
IsShort _ start end = ⊤

-- each bracket takes up one byte
abbrev pub AreShort : List Token → Type 0
AreShort [] = ⊤
AreShort (token ∷ tokens) = IsShort token.kind token.start token.end × AreShort tokens

-- a form of one byte
one_byte : (byte start end : ℕ) (own : List ℕ) → own ≡ byte ∷ [] → end ≡ start + length own → end ≡ start + 1
one_byte byte start end own form ends = ends ∙ ap (λ (l : List ℕ). start + length l) form

-- a bracket of its form takes up one byte
is_short : (kind : TokenKind) (start end : ℕ) (own : List ℕ) → HasForm kind own → end ≡ start + length own → IsShort kind start end
is_short Open start end own form ends = one_byte 40 start end own form ends
is_short Close start end own form ends = one_byte 41 start end own form ends
is_short Equals start end own form ends = tt
is_short FullIri start end own form ends = tt
is_short Quoted start end own form ends = tt
is_short Lang start end own form ends = tt
is_short Carets start end own form ends = tt
is_short Run start end own form ends = tt

-- the brackets of a text take up one byte each
pub are_short : (text : List ℕ) (from : ℕ) (tokens : List Token) (last : Option LexFault) → HasTokens text from tokens last → AreShort tokens
are_short text from [] last has = tt
are_short text from (token ∷ tokens) last has =
    (is_short token.kind token.start token.end has.0.own has.0.form has.0.ends, are_short text token.end tokens last has.1)

-- a head or an atom is its token
either_token : (b : Bool) (token : Token) → token_of (cond b (head token) (atom token)) ≡ token
either_token true token = refl
either_token false token = refl

-- a closing bracket ends one byte on
close_ends : (start end : ℕ) → end ≡ start + 1 → end - 1 ≡ start
close_ends start end e = omega arith

-- a piece is its token
token_read : (text : List ℕ) (kind : TokenKind) (start end : ℕ) (behind : List Token) → IsShort kind start end →
    token_of (piece_of text (record { kind = kind; start = start; end = end }) behind) ≡ record { kind = kind; start = start; end = end }
token_read text Open start end behind short = ap (λ (n : ℕ). let t : Token = record { kind = Open; start = start; end = n } in t) (sym short)
token_read text Close start end behind short = ap (λ (n : ℕ). let t : Token = record { kind = Close; start = n; end = end } in t) (close_ends start end short)
token_read text Equals start end behind short = refl
token_read text FullIri start end behind short = refl
token_read text Quoted start end behind short = refl
token_read text Lang start end behind short = refl
token_read text Carets start end behind short = refl
token_read text Run start end behind short =
    let token : Token = record { kind = Run; start = start; end = end } in
    either_token (is_word text token && begins_open behind) token

-- what is read has the tokens that it was read from
pub tokens_read : (text : List ℕ) (tokens : List Token) → AreShort tokens → map token_of (pieces_of text tokens) ≡ tokens
tokens_read text [] short = refl
tokens_read text (token ∷ tokens) short =
    ap (λ (t : Token). t ∷ map token_of (pieces_of text tokens)) (token_read text token.kind token.start token.end tokens short.0)
    ∙ ap (λ (ts : List Token). token ∷ ts) (tokens_read text tokens short.1)

-- a head or an atom begins no group
either_begins : (b : Bool) (token : Token) (rest : List Piece) → begins_group (cond b (head token) (atom token) ∷ rest) ≡ false
either_begins true token rest = refl
either_begins false token rest = refl

-- a piece begins a group if its token opens
begins_as_kind : (text : List ℕ) (kind : TokenKind) (start end : ℕ) (behind : List Token) (rest : List Piece) →
    begins_group (piece_of text (record { kind = kind; start = start; end = end }) behind ∷ rest) ≡ is_open_kind kind
begins_as_kind text Open start end behind rest = refl
begins_as_kind text Close start end behind rest = refl
begins_as_kind text Equals start end behind rest = refl
begins_as_kind text FullIri start end behind rest = refl
begins_as_kind text Quoted start end behind rest = refl
begins_as_kind text Lang start end behind rest = refl
begins_as_kind text Carets start end behind rest = refl
begins_as_kind text Run start end behind rest =
    let token : Token = record { kind = Run; start = start; end = end } in
    either_begins (is_word text token && begins_open behind) token rest

-- pieces begin a group if their tokens open
begins_read : (text : List ℕ) (tokens : List Token) → begins_group (pieces_of text tokens) ≡ begins_open tokens
begins_read text [] = refl
begins_read text (token ∷ tokens) = begins_as_kind text token.kind token.start token.end tokens (pieces_of text tokens)

-- a head or an atom is in its place
either_in_place : (text : List ℕ) (token : Token) (b : Bool) (rest : List Piece) → (is_word text token && begins_group rest) ≡ b →
    is_bracket token ≡ false → AreInPlace text rest → AreInPlace text (cond b (head token) (atom token) ∷ rest)
either_in_place text token true rest e plain placed = (e, placed)
either_in_place text token false rest e plain placed = (plain, e, placed)

-- each piece is in its place
piece_in_place : (text : List ℕ) (kind : TokenKind) (start end : ℕ) (behind : List Token) (rest : List Piece) → begins_group rest ≡ begins_open behind → AreInPlace text rest →
    AreInPlace text (piece_of text (record { kind = kind; start = start; end = end }) behind ∷ rest)
piece_in_place text Open start end behind rest e placed = placed
piece_in_place text Close start end behind rest e placed = placed
piece_in_place text Equals start end behind rest e placed = (refl, refl, placed)
piece_in_place text FullIri start end behind rest e placed = (refl, refl, placed)
piece_in_place text Quoted start end behind rest e placed = (refl, refl, placed)
piece_in_place text Lang start end behind rest e placed = (refl, refl, placed)
piece_in_place text Carets start end behind rest e placed = (refl, refl, placed)
piece_in_place text Run start end behind rest e placed =
    let token : Token = record { kind = Run; start = start; end = end } in
    either_in_place text token (is_word text token && begins_open behind) rest (ap (λ (b : Bool). is_word text token && b) e) refl placed

-- the pieces that are read are in their places
pub read_in_place : (text : List ℕ) (tokens : List Token) → AreInPlace text (pieces_of text tokens)
read_in_place text [] = tt
read_in_place text (token ∷ tokens) =
    piece_in_place text token.kind token.start token.end tokens (pieces_of text tokens) (begins_read text tokens) (read_in_place text tokens)

-- pieces in their places are those that are read from their tokens
pub word_is_run : (kind : TokenKind) (b c : Bool) → ((is_run_kind kind && b) && c) ≡ true → kind ≡ Run
word_is_run Open b c e = cc
word_is_run Close b c e = cc
word_is_run Equals b c e = cc
word_is_run FullIri b c e = cc
word_is_run Quoted b c e = cc
word_is_run Lang b c e = cc
word_is_run Carets b c e = cc
word_is_run Run b c e = refl

-- a word is no opening bracket
no_open : (v w : Bool) → (v || w) ≡ false → v ≡ false
no_open true w e = e
no_open false w e = refl

-- written tokens open if their pieces begin a group
begins_written : (text : List ℕ) (rest : List Piece) → AreInPlace text rest → begins_open (map token_of rest) ≡ begins_group rest
begins_written text [] placed = refl
begins_written text (opening start ∷ rest) placed = refl
begins_written text (closing end ∷ rest) placed = refl
begins_written text (head token ∷ rest) placed = ap is_open_kind (word_is_run token.kind _ _ placed.0)
begins_written text (atom token ∷ rest) placed = no_open _ _ placed.0

-- a head is read back
read_as_head : (text : List ℕ) (kind : TokenKind) (start end : ℕ) (behind : List Token) →
    (is_word text (record { kind = kind; start = start; end = end }) && begins_open behind) ≡ true →
    piece_of text (record { kind = kind; start = start; end = end }) behind ≡ head (record { kind = kind; start = start; end = end })
read_as_head text Open start end behind e = cc
read_as_head text Close start end behind e = cc
read_as_head text Equals start end behind e = cc
read_as_head text FullIri start end behind e = cc
read_as_head text Quoted start end behind e = cc
read_as_head text Lang start end behind e = cc
read_as_head text Carets start end behind e = cc
read_as_head text Run start end behind e =
    let token : Token = record { kind = Run; start = start; end = end } in
    ap (λ (b : Bool). cond b (head token) (atom token)) e

-- an atom is read back
read_as_atom : (text : List ℕ) (kind : TokenKind) (start end : ℕ) (behind : List Token) →
    is_bracket (record { kind = kind; start = start; end = end }) ≡ false →
    (is_word text (record { kind = kind; start = start; end = end }) && begins_open behind) ≡ false →
    piece_of text (record { kind = kind; start = start; end = end }) behind ≡ atom (record { kind = kind; start = start; end = end })
read_as_atom text Open start end behind plain e = cc
read_as_atom text Close start end behind plain e = cc
read_as_atom text Equals start end behind plain e = refl
read_as_atom text FullIri start end behind plain e = refl
read_as_atom text Quoted start end behind plain e = refl
read_as_atom text Lang start end behind plain e = refl
read_as_atom text Carets start end behind plain e = refl
read_as_atom text Run start end behind plain e =
    let token : Token = record { kind = Run; start = start; end = end } in
    ap (λ (b : Bool). cond b (head token) (atom token)) e

-- the first piece and the others
first_and_rest : (p q : Piece) (ps qs : List Piece) → p ≡ q → ps ≡ qs → p ∷ ps ≡ q ∷ qs
first_and_rest p q ps qs e f = cc

-- pieces in their places are read back
pub written_then_read : (text : List ℕ) (ps : List Piece) → AreInPlace text ps → pieces_of text (map token_of ps) ≡ ps
written_then_read text [] placed = refl
written_then_read text (opening start ∷ rest) placed = ap (λ (l : List Piece). opening start ∷ l) (written_then_read text rest placed)
written_then_read text (closing end ∷ rest) placed = ap (λ (l : List Piece). closing end ∷ l) (written_then_read text rest placed)
written_then_read text (head token ∷ rest) placed =
    let word : (is_word text token && begins_open (map token_of rest)) ≡ true = ap (λ (b : Bool). is_word text token && b) (begins_written text rest placed.1) ∙ placed.0 in
    first_and_rest _ _ _ _ (read_as_head text token.kind token.start token.end (map token_of rest) word) (written_then_read text rest placed.1)
written_then_read text (atom token ∷ rest) placed =
    let no_word : (is_word text token && begins_open (map token_of rest)) ≡ false = ap (λ (b : Bool). is_word text token && b) (begins_written text rest placed.2) ∙ placed.1 in
    first_and_rest _ _ _ _ (read_as_atom text token.kind token.start token.end (map token_of rest) placed.0 no_word) (written_then_read text rest placed.2)

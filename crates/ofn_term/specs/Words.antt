-- What a token is to the items.
use Rattle.std.specs.Prelude.{ℕ, Bool, true, false, not, ◌&&◌, ◌||◌, ◌==◌, List, [], ◌∷◌}
use Rattle.std.specs.List.{list_any}
pub use Rattle.ofn_lex.specs.Texts.{bytes_of}
use Rattle.ofn_lex.specs.declared.token.Token.{Token}
use Rattle.ofn_lex.specs.declared.token.TokenKind.{TokenKind}
use Rattle.ofn_lex.specs.declared.token.TokenKind.TheVariants.{Open, Close, Run}

abbrev pub is_open_kind : TokenKind → Bool
is_open_kind Open = true
is_open_kind _ = false

abbrev pub is_close_kind : TokenKind → Bool
is_close_kind Close = true
is_close_kind _ = false

abbrev pub is_run_kind : TokenKind → Bool
is_run_kind Run = true
is_run_kind _ = false

abbrev pub is_open : Token → Bool
is_open token = is_open_kind token.kind

abbrev pub is_close : Token → Bool
is_close token = is_close_kind token.kind

abbrev pub is_run : Token → Bool
is_run token = is_run_kind token.kind

abbrev pub is_bracket : Token → Bool
is_bracket token = is_open token || is_close token

-- a run without a colon
abbrev pub is_word : List ℕ → Token → Bool
is_word text token = is_run token && not (list_any (λ b. b == 58) (bytes_of text token))

abbrev pub begins_open : List Token → Bool
begins_open [] = false
begins_open (token ∷ tokens) = is_open token

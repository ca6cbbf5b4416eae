-- Items, written out.
use Rattle.std.specs.Prelude.{◌≡◌, ℕ, ◌+◌, ◌-◌, Bool, true, false, ◌&&◌, List, [], ◌∷◌, ◌++◌, map, Option, Some, None, ⊤}
use Rattle.ofn_lex.specs.declared.token.Token.{Token}
use Rattle.ofn_lex.specs.declared.token.TokenKind.{TokenKind}
use Rattle.ofn_lex.specs.declared.token.TokenKind.TheVariants.{Open, Close}
use Rattle.ofn_term.specs.declared.item.Item.{Item, fold-Item}
use Rattle.ofn_term.specs.declared.item.Item.TheOpen.{Item-F}
use Rattle.ofn_term.specs.Words.{is_bracket, is_word}

-- a token, by what it is to the items: a bracket that opens a group at an offset, one that closes a
-- group at an offset, the head of a group, or an atom
pub data Piece : Type 0 where
  opening : (start : ℕ) → Piece
  closing : (end : ℕ) → Piece
  head : (token : Token) → Piece
  atom : (token : Token) → Piece

-- a bracket takes up one byte
abbrev pub bracket : TokenKind → ℕ → Token
bracket kind start = record { kind = kind; start = start; end = start + 1 }

abbrev pub token_of : Piece → Token
token_of (opening start) = bracket Open start
token_of (closing end) = record { kind = Close; start = end - 1; end = end }
token_of (head token) = token
token_of (atom token) = token

-- an opening bracket, with the head before it
abbrev pub opening_pieces : Option Token → ℕ → List Piece
opening_pieces None start = opening start ∷ []
opening_pieces (Some word) start = head word ∷ opening start ∷ []

abbrev pub group_pieces : Option Token → List Piece → ℕ → ℕ → List Piece
group_pieces word inner start end = opening_pieces word start ++ (inner ++ closing end ∷ [])

-- lists, one after another
abbrev pub joined : List (List Piece) → List Piece
joined [] = []
joined (x ∷ xs) = x ++ joined xs

-- one item, where the pieces of each item in a group are known
abbrev pub pieces_step : Item-F (List Piece) → List Piece
pieces_step (Item-F.Atom token) = atom token ∷ []
pieces_step (Item-F.Group word items start end) = group_pieces word (joined items) start end

unfoldable pub item_pieces : Item → List Piece
item_pieces = fold-Item (List Piece) pieces_step

-- items, one after another and each from left to right
unfoldable pub pieces : List Item → List Piece
pieces [] = []
pieces (i ∷ is) = item_pieces i ++ pieces is

abbrev pub tokens_of : List Item → List Token
tokens_of items = map token_of (pieces items)

abbrev pub begins_group : List Piece → Bool
begins_group (opening start ∷ rest) = true
begins_group _ = false

-- a head is a word directly before a bracket that opens a group; an atom is no bracket, and no such
-- word
abbrev pub AreInPlace : List ℕ → List Piece → Type 0
AreInPlace text [] = ⊤
AreInPlace text (opening start ∷ rest) = AreInPlace text rest
AreInPlace text (closing end ∷ rest) = AreInPlace text rest
AreInPlace text (head token ∷ rest) =
    ((is_word text token && begins_group rest) ≡ true) × AreInPlace text rest
AreInPlace text (atom token ∷ rest) =
    (is_bracket token ≡ false) × ((is_word text token && begins_group rest) ≡ false) ×
    AreInPlace text rest

-- the items stand for these tokens of a text
pub record StandFor (text : List ℕ) (items : List Item) (tokens : List Token) : Type 0 where
  pub written : tokens_of items ≡ tokens
  pub in_place : AreInPlace text (pieces items)

-- The laws of lower crates that the lemmas on readings rest on.
use Rattle.std.proofs.Common.{◌≡◌, ◌≤◌, ℕ, List, ◌∷◌, ◌++◌, length, All}
use Rattle.std.specs.Prelude.{Option, Some}
use Rattle.text_names.specs.Names.{number_of, number_or_next, with_name}
use Rattle.ofn_lex.specs.declared.token.Token.{Token}
use Rattle.ofn_lex.specs.Texts.{IsTokenOf, StandInOrder}
use Rattle.ofn_term.specs.declared.item.Item.{Item}
use Rattle.ofn_term.specs.declared.item.Item.TheVariants.{Group}
use Rattle.ofn_term.specs.Writing.{group_pieces, pieces, tokens_of}
use Rattle.ofn_term.specs.Texts.{HasItems}

pub record Cited : Type 0 where
  -- a name keeps its number when another is added, and one that is added has a number
  pub keeps : (names : List (List ℕ)) (other name : List ℕ) (number : ℕ) → number_of names name ≡ Some number → number_of (with_name names other) name ≡ Some number
  pub adds : (names later : List (List ℕ)) (name : List ℕ) → number_of (with_name names name ++ later) name ≡ Some (number_or_next names name)
  -- a group is written out, and each item gives a token at least
  pub group : (word : Option Token) (inner : List Item) (start end : ℕ) (items : List Item) → pieces (Group word inner start end ∷ items) ≡ group_pieces word (pieces inner) start end ++ pieces items
  pub few : (items : List Item) → length items ≤ length (tokens_of items)
  -- each token takes up a byte of the text, and none overlaps another
  pub each : (text : List ℕ) (most : ℕ) (items : List Item) → HasItems text most items → All (IsTokenOf text) (tokens_of items)
  pub in_order : (text : List ℕ) (most : ℕ) (items : List Item) → HasItems text most items → StandInOrder (tokens_of items)

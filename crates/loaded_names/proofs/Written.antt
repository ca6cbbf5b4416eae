-- Tokens of items, one after another and within groups.
use Rattle.std.proofs.Common.{◌≡◌, ℕ, List, [], ◌∷◌, ◌++◌, map, All, sym, subst}
use Rattle.std.specs.Prelude.{Option, Some}
use Rattle.std.proofs.lemmas.List.{map-append, append-nil}
use Rattle.std.proofs.lemmas.List.Elements.{All-nil, All-cons, All-head, All-tail, All-append}
use Rattle.ofn_lex.specs.declared.token.Token.{Token}
use Rattle.ofn_lex.specs.Texts.{IsTokenOf}
use Rattle.ofn_term.specs.declared.item.Item.{Item}
use Rattle.ofn_term.specs.declared.item.Item.TheVariants.{Atom, Group}
use Rattle.ofn_term.specs.Writing.{Piece, opening, closing, atom, token_of, group_pieces, item_pieces, pieces, tokens_of}

-- how items are written out
pub record Written : Type 0 where
  pub none : pieces [] ≡ []
  pub atom : (token : Token) (items : List Item) → pieces (Atom token ∷ items) ≡ atom token ∷ pieces items
  pub group : (word : Option Token) (inner : List Item) (start end : ℕ) (items : List Item)
      → pieces (Group word inner start end ∷ items) ≡ group_pieces word (pieces inner) start end ++ pieces items

-- what holds of each of a list holds of each of its parts
pub all_left : {X : Type 0} (P : X → Type 0) (xs ys : List X) → All P (xs ++ ys) → All P xs
all_left P [] ys h = All-nil P
all_left P (x ∷ xs) ys h = All-cons P x xs (All-head P x (xs ++ ys) h) (all_left P xs ys (All-tail P x (xs ++ ys) h))

pub all_right : {X : Type 0} (P : X → Type 0) (xs ys : List X) → All P (xs ++ ys) → All P ys
all_right P [] ys h = h
all_right P (x ∷ xs) ys h = all_right P xs ys (All-tail P x (xs ++ ys) h)

module _ (written : Written) (text : List ℕ) where
  -- the tokens of items have their forms
  abbrev pub AreTokens : List Item → Type 0
  AreTokens items = All (IsTokenOf text) (tokens_of items)

  -- those of the first item and of the rest
  first_tokens : (i : Item) (items : List Item) → AreTokens (i ∷ items) → All (IsTokenOf text) (map token_of (item_pieces i) ++ tokens_of items)
  unfolding pieces
  first_tokens i items h = subst (All (IsTokenOf text)) (map-append token_of (item_pieces i) (pieces items)) h

  pub first_item : (i : Item) (items : List Item) → AreTokens (i ∷ items) → AreTokens (i ∷ [])
  unfolding pieces
  first_item i items h =
      subst (λ (l : List Piece). All (IsTokenOf text) (map token_of l)) (sym (append-nil (item_pieces i)))
      (all_left (IsTokenOf text) (map token_of (item_pieces i)) (tokens_of items) (first_tokens i items h))

  pub other_items : (i : Item) (items : List Item) → AreTokens (i ∷ items) → AreTokens items
  other_items i items h = all_right (IsTokenOf text) (map token_of (item_pieces i)) (tokens_of items) (first_tokens i items h)

  -- those of the items after the first ones
  pub last_items : (items more : List Item) → AreTokens (items ++ more) → AreTokens more
  last_items [] more h = h
  last_items (i ∷ items) more h = last_items items more (other_items i (items ++ more) h)

  -- those of the first items
  pub first_items : (i : Item) (items more : List Item) → AreTokens (items ++ i ∷ more) → AreTokens (i ∷ [])
  first_items i items more h = first_item i more (last_items items (i ∷ more) h)

  -- and those of the front
  pub front_items : (items more : List Item) → AreTokens (items ++ more) → AreTokens items
  unfolding pieces
  front_items [] more h = All-nil (IsTokenOf text)
  front_items (i ∷ items) more h =
      subst (All (IsTokenOf text)) (sym (map-append token_of (item_pieces i) (pieces items)))
      (All-append (IsTokenOf text) (map token_of (item_pieces i)) (tokens_of items)
      (all_left (IsTokenOf text) (map token_of (item_pieces i)) (tokens_of (items ++ more)) (first_tokens i (items ++ more) h))
      (front_items items more (other_items i (items ++ more) h)))

  -- an item alone
  pub atom_token : (token : Token) (items : List Item) → AreTokens (Atom token ∷ items) → IsTokenOf text token
  atom_token token items h =
      All-head (IsTokenOf text) token (tokens_of items) (subst (λ (l : List Piece). All (IsTokenOf text) (map token_of l)) (written.atom token items) h)

  -- the items of a group
  pub inner_tokens : (word : Token) (inner : List Item) (start end : ℕ) (items : List Item) → AreTokens (Group (Some word) inner start end ∷ items) → AreTokens inner
  inner_tokens word inner start end items h =
      let whole = group_pieces (Some word) (pieces inner) start end in
      let all = subst (λ (l : List Piece). All (IsTokenOf text) (map token_of l)) (written.group (Some word) inner start end items) h in
      let group = all_left (IsTokenOf text) (map token_of whole) (tokens_of items) (subst (All (IsTokenOf text)) (map-append token_of whole (pieces items)) all) in
      let parts = All-tail (IsTokenOf text) (token_of (opening start)) (map token_of (pieces inner ++ closing end ∷ []))
      (All-tail (IsTokenOf text) word (map token_of (opening start ∷ (pieces inner ++ closing end ∷ []))) group) in
      all_left (IsTokenOf text) (tokens_of inner) (map token_of (closing end ∷ [])) (subst (All (IsTokenOf text)) (map-append token_of (pieces inner) (closing end ∷ [])) parts)

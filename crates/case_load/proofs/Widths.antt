-- Items have no more tokens than the text has bytes.
use Rattle.std.proofs.Common.{◌≡◌, ◌≤◌, ℕ, ◌+◌, List, [], ◌∷◌, ◌++◌, length, All, ap, arith, length-append}
use Rattle.std.specs.Prelude.{Option, Some, None}
use Rattle.std.specs.List.{AllByRecursion}
use Rattle.std.proofs.lemmas.List.{append-nil, length-map}
use Rattle.std.proofs.lemmas.List.Elements.{All-head, All-tail}
use Rattle.ofn_lex.specs.declared.token.Token.{Token}
use Rattle.ofn_lex.specs.Texts.{IsTokenOf, StandInOrder}
use Rattle.ofn_term.specs.declared.item.Item.{Item}
use Rattle.ofn_term.specs.declared.item.Item.TheVariants.{Group}
use Rattle.ofn_term.specs.Writing.{Piece, closing, token_of, group_pieces, item_pieces, pieces, tokens_of}
use Rattle.ofn_term.specs.Texts.{HasItems}
use Rattle.case_load.proofs.Cited.{Cited}

-- tokens that stand in order from an offset on
few_from : (text : List ℕ) (tokens : List Token) (from : ℕ) → from ≤ length text → AllByRecursion (λ later. from ≤ later.start) tokens → All (IsTokenOf text) tokens → StandInOrder tokens → from + length tokens ≤ length text
few_from text [] from within later each order = omega (arith, within)
few_from text (t ∷ ts) from within later each order =
    let own = All-head (IsTokenOf text) t ts each in
    let rest = few_from text ts t.end own.within order.0 (All-tail (IsTokenOf text) t ts each) order.1 in
    omega (arith, rest, own.some, later.0)

-- tokens that stand in order
few_in : (text : List ℕ) (tokens : List Token) → All (IsTokenOf text) tokens → StandInOrder tokens → length tokens ≤ length text
few_in text [] each order = omega arith
few_in text (t ∷ ts) each order =
    let own = All-head (IsTokenOf text) t ts each in
    let rest = few_from text ts t.end own.within order.0 (All-tail (IsTokenOf text) t ts each) order.1 in
    omega (arith, rest, own.some)

-- how many tokens items have
abbrev pub width_of : List Item → ℕ
width_of items = length (tokens_of items)

-- how many an item has
abbrev pub width : Item → ℕ
width i = width_of (i ∷ [])

-- no more than the text has bytes
pub few_tokens : (cited : Cited) (text : List ℕ) (most : ℕ) (items : List Item) → HasItems text most items → width_of items ≤ length text
few_tokens cited text most items has = few_in text (tokens_of items) (cited.each text most items has) (cited.in_order text most items has)

-- as many as there are pieces
width_is : (items : List Item) → width_of items ≡ length (pieces items)
width_is items = length-map (pieces items) token_of

-- an item, and the rest
pieces_are : (i : Item) (items : List Item) → length (pieces (i ∷ items)) ≡ length (pieces (i ∷ [])) + length (pieces items)
unfolding pieces
pieces_are i items =
    let one : length (item_pieces i ++ []) ≡ length (item_pieces i) = ap length (append-nil (item_pieces i)) in
    let all = length-append (item_pieces i) (pieces items) in
    omega (arith, one, all)

-- the tokens of an item, and of the rest
pub width_parts : (i : Item) (items : List Item) → width_of (i ∷ items) ≡ width i + width_of items
width_parts i items = omega (arith, width_is (i ∷ items), width_is (i ∷ []), width_is items, pieces_are i items)

-- an item has a token
pub some_width : (cited : Cited) (i : Item) → 1 ≤ width i
some_width cited i = cited.few (i ∷ [])

-- there are no more items than tokens
pub few_items : (cited : Cited) (items : List Item) → length items ≤ width_of items
few_items cited items = cited.few items

-- a group has the pieces between its brackets
opened : (word : Option Token) (inner : List Piece) (start end : ℕ) → length inner ≤ length (group_pieces word inner start end)
opened None inner start end = omega (arith, length-append inner (closing end ∷ []))
opened (Some word) inner start end = omega (arith, length-append inner (closing end ∷ []))

-- a group has the tokens that are between its brackets
pub inner_width : (cited : Cited) (word : Option Token) (inner : List Item) (start end : ℕ) → width_of inner ≤ width (Group word inner start end)
inner_width cited word inner start end =
    let whole = ap length (cited.group word inner start end []) in
    let parts = length-append (group_pieces word (pieces inner) start end) (pieces []) in
    omega (arith, width_is inner, width_is (Group word inner start end ∷ []), whole, parts, opened word (pieces inner) start end)

-- One more item.
use Rattle.std.proofs.Common.{◌≡◌, ℕ, List, [], ◌∷◌, ◌++◌, map, refl, ap, sym, ◌∙◌}
use Rattle.std.specs.Prelude.{Option}
use Rattle.std.proofs.lemmas.List.{append_assoc, append-nil}
use Rattle.ofn_lex.specs.declared.token.Token.{Token}
use Rattle.ofn_term.specs.declared.item.Item.{Item, fold-Item}
use Rattle.ofn_term.specs.declared.item.Item.TheOpen.{Item-F}
use Rattle.ofn_term.specs.declared.item.Item.TheFolds.{fold-roll-Item}
use Rattle.ofn_term.specs.declared.item.Item.TheVariants as item
use Rattle.ofn_term.specs.declared.item.Item.TheVariants.{rolls-Atom, rolls-Group}
use Rattle.ofn_term.specs.Writing.{Piece, closing, atom, joined, opening_pieces, group_pieces, pieces_step, item_pieces, pieces}

-- the pieces of one more item
pub pieces-last : (items : List Item) (last : Item) → pieces (items ++ last ∷ []) ≡ pieces items ++ item_pieces last
unfolding pieces
pieces-last [] last = append-nil (item_pieces last)
pieces-last (i ∷ is) last = ap (λ (l : List Piece). item_pieces i ++ l) (pieces-last is last) ∙ sym (append_assoc (item_pieces i) (pieces is) (item_pieces last))

-- pieces are those of the items, joined
joined-pieces : (items : List Item) → joined (map (fold-Item (List Piece) pieces_step) items) ≡ pieces items
unfolding pieces item_pieces
joined-pieces [] = refl
joined-pieces (i ∷ is) = ap (λ (l : List Piece). fold-Item (List Piece) pieces_step i ++ l) (joined-pieces is)

-- the piece of an atom
pub pieces-atom : (token : Token) → item_pieces (item.Atom token) ≡ atom token ∷ []
unfolding item_pieces
pieces-atom token = ap (fold-Item (List Piece) pieces_step) (sym (rolls-Atom token)) ∙ fold-roll-Item (List Piece) pieces_step (Item-F.Atom token)

-- the pieces of a group
pub pieces-group : (word : Option Token) (inner : List Item) (start end : ℕ) → item_pieces (item.Group word inner start end) ≡ group_pieces word (pieces inner) start end
unfolding item_pieces
pieces-group word inner start end =
    ap (fold-Item (List Piece) pieces_step) (sym (rolls-Group word inner start end))
    ∙ fold-roll-Item (List Piece) pieces_step (Item-F.Group word inner start end)
    ∙ ap (λ (l : List Piece). group_pieces word l start end) (joined-pieces inner)

-- an atom first
pub pieces-first_atom : (token : Token) (items : List Item) → pieces (item.Atom token ∷ items) ≡ atom token ∷ pieces items
unfolding pieces
pieces-first_atom token items = ap (λ (l : List Piece). l ++ pieces items) (pieces-atom token)

-- a group first
pub pieces-first_group : (word : Option Token) (inner : List Item) (start end : ℕ) (items : List Item) →
    pieces (item.Group word inner start end ∷ items) ≡ group_pieces word (pieces inner) start end ++ pieces items
unfolding pieces
pieces-first_group word inner start end items = ap (λ (l : List Piece). l ++ pieces items) (pieces-group word inner start end)

-- an atom at the end
pub push_atom : (items : List Item) (token : Token) (rest : List Piece) → pieces (items ++ item.Atom token ∷ []) ++ rest ≡ pieces items ++ atom token ∷ rest
push_atom items token rest = rw (pieces-last items (item.Atom token), pieces-atom token) (append_assoc (pieces items) (atom token ∷ []) rest)

-- a group before other pieces
group_before : (word : Option Token) (inner : List Piece) (start end : ℕ) (rest : List Piece) → group_pieces word inner start end ++ rest ≡ opening_pieces word start ++ (inner ++ closing end ∷ rest)
group_before word inner start end rest =
    append_assoc (opening_pieces word start) (inner ++ closing end ∷ []) rest
    ∙ ap (λ (l : List Piece). opening_pieces word start ++ l) (append_assoc inner (closing end ∷ []) rest)

-- a group at the end
pub push_group : (items : List Item) (word : Option Token) (inner : List Item) (start end : ℕ) (rest : List Piece) →
    pieces (items ++ item.Group word inner start end ∷ []) ++ rest ≡ pieces items ++ (opening_pieces word start ++ (pieces inner ++ closing end ∷ rest))
push_group items word inner start end rest =
    rw (pieces-last items (item.Group word inner start end), pieces-group word inner start end)
    (append_assoc (pieces items) (group_pieces word (pieces inner) start end) rest ∙ ap (λ (l : List Piece). pieces items ++ l) (group_before word (pieces inner) start end rest))

-- no items have no pieces
pub none_yet : (items : List Item) (rest : List Piece) → items ≡ [] → rest ≡ pieces items ++ rest
unfolding pieces
none_yet items rest e = rw e refl

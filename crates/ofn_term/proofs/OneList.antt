-- Pieces are those of one list of items at most, and where their brackets are in pairs, of one.
use Rattle.std.proofs.Common.{◌≡◌, ◌≤◌, ℕ, zero, suc, ◌+◌, List, [], ◌∷◌, ◌++◌, length, map, arith, refl, ap, sym, subst, ◌∙◌, append_assoc, length-append}
use Rattle.std.specs.Prelude.{Option, Some, None, ⊤, true}
use Rattle.std.proofs.lemmas.List.{append-nil, length-map}
use Rattle.ofn_lex.specs.declared.token.Token.{Token}
use Rattle.ofn_term.specs.declared.item.Item.{Item}
use Rattle.ofn_term.specs.declared.item.Item.TheOpen.{Item-F}
use Rattle.ofn_term.specs.declared.item.Item.TheFolds.{ind-Item, map-Item}
use Rattle.ofn_term.specs.declared.item.Item.TheViews.{roll-Item}
use Rattle.ofn_term.specs.declared.item.Item.TheVariants as item
use Rattle.ofn_term.specs.declared.item.Item.TheVariants.{rolls-Atom, rolls-Group}
use Rattle.ofn_term.specs.Writing.{Piece, opening, closing, head, atom, opening_pieces, group_pieces, item_pieces, pieces, tokens_of, begins_group}
use Rattle.ofn_term.proofs.Pushing.{pieces-atom, pieces-group, push_atom, push_group}

-- an open group: its head, where it begins, and the items before it
record Frame : Type 0 where
  word : Option Token
  start : ℕ
  before : List Item

-- the items of pieces, from left to right: after the open groups stand the items done, and a head
abbrev build : List Frame → Option Token → List Item → List Piece → List Item
build frames word done [] = done
build frames word done (atom token ∷ ps) = build frames None (done ++ item.Atom token ∷ []) ps
build frames word done (head token ∷ ps) = build frames (Some token) done ps
build frames word done (opening start ∷ ps) = build (record { word = word; start = start; before = done } ∷ frames) None [] ps
build [] word done (closing end ∷ ps) = done
build (f ∷ frames) word done (closing end ∷ ps) = build frames None (f.before ++ item.Group f.word done f.start end ∷ []) ps

-- the pieces of an item give it back
abbrev GivesBack : Item → Type 0
GivesBack i = (frames : List Frame) (done : List Item) (rest : List Piece) → build frames None done (item_pieces i ++ rest) ≡ build frames None (done ++ i ∷ []) rest

-- pieces give back their items
each_gives_back : (ys : List ((i : Item) × GivesBack i)) (frames : List Frame) (done : List Item) (rest : List Piece) →
    build frames None done (pieces (map (λ y. y.0) ys) ++ rest) ≡ build frames None (done ++ map (λ y. y.0) ys) rest
unfolding pieces
each_gives_back [] frames done rest = ap (λ (l : List Item). build frames None l rest) (sym (append-nil done))
each_gives_back (y ∷ ys) frames done rest =
    ap (build frames None done) (append_assoc (item_pieces y.0) (pieces (map (λ y. y.0) ys)) rest)
    ∙ y.1 frames done (pieces (map (λ y. y.0) ys) ++ rest)
    ∙ each_gives_back ys frames (done ++ y.0 ∷ []) rest
    ∙ ap (λ (l : List Item). build frames None l rest) (append_assoc done (y.0 ∷ []) (map (λ y. y.0) ys))

-- an atom is given back
atom_gives_back : (token : Token) → GivesBack (item.Atom token)
atom_gives_back token frames done rest = ap (λ (l : List Piece). build frames None done (l ++ rest)) (pieces-atom token)

-- the items of a group are given back
inner_gives_back : (word : Option Token) (ys : List ((i : Item) × GivesBack i)) (start end : ℕ) (frames : List Frame) (done : List Item) (rest : List Piece) →
    build frames word done (opening start ∷ ((pieces (map (λ y. y.0) ys) ++ closing end ∷ []) ++ rest)) ≡ build frames None (done ++ item.Group word (map (λ y. y.0) ys) start end ∷ []) rest
inner_gives_back word ys start end frames done rest =
    ap (build (record { word = word; start = start; before = done } ∷ frames) None []) (append_assoc (pieces (map (λ y. y.0) ys)) (closing end ∷ []) rest)
    ∙ each_gives_back ys (record { word = word; start = start; before = done } ∷ frames) [] (closing end ∷ rest)

-- a group is given back
group_gives_back : (word : Option Token) (ys : List ((i : Item) × GivesBack i)) (start end : ℕ) → GivesBack (item.Group word (map (λ y. y.0) ys) start end)
group_gives_back None ys start end frames done rest =
    ap (λ (l : List Piece). build frames None done (l ++ rest)) (pieces-group None (map (λ y. y.0) ys) start end)
    ∙ inner_gives_back None ys start end frames done rest
group_gives_back (Some word) ys start end frames done rest =
    ap (λ (l : List Piece). build frames None done (l ++ rest)) (pieces-group (Some word) (map (λ y. y.0) ys) start end)
    ∙ inner_gives_back (Some word) ys start end frames done rest

-- one layer of items is given back
layer_gives_back : (y : Item-F ((i : Item) × GivesBack i)) → GivesBack (roll-Item (map-Item ((i : Item) × GivesBack i) Item (λ e. e.0) y))
layer_gives_back (Item-F.Atom token) = subst GivesBack (sym (rolls-Atom token)) (atom_gives_back token)
layer_gives_back (Item-F.Group word ys start end) = subst GivesBack (sym (rolls-Group word (map (λ y. y.0) ys) start end)) (group_gives_back word ys start end)

-- each item is given back
item_gives_back : (i : Item) → GivesBack i
item_gives_back = ind-Item GivesBack (λ x y is. subst (λ z. GivesBack (roll-Item z)) is (layer_gives_back y))

-- all items are given back
items_given_back : (is : List Item) (done : List Item) → build [] None done (pieces is) ≡ done ++ is
unfolding pieces
items_given_back [] done = sym (append-nil done)
items_given_back (i ∷ is) done = item_gives_back i [] done (pieces is) ∙ items_given_back is (done ++ i ∷ []) ∙ append_assoc done (i ∷ []) is

-- pieces are of one list of items
pub one_list : (is js : List Item) → pieces is ≡ pieces js → is ≡ js
one_list is js e = sym (items_given_back is []) ∙ ap (build [] None []) e ∙ items_given_back js []

-- brackets in pairs, where so many are open before them
abbrev pub ArePaired : ℕ → List Piece → Type 0
ArePaired depth [] = depth ≡ 0
ArePaired depth (opening start ∷ ps) = ArePaired (suc depth) ps
ArePaired zero (closing end ∷ ps) = ⊥
ArePaired (suc depth) (closing end ∷ ps) = ArePaired depth ps
ArePaired depth (head token ∷ ps) = ArePaired depth ps
ArePaired depth (atom token ∷ ps) = ArePaired depth ps

-- each head is before a bracket that opens a group
abbrev pub AreBeforeGroups : List Piece → Type 0
AreBeforeGroups [] = ⊤
AreBeforeGroups (head token ∷ ps) = (begins_group ps ≡ true) × AreBeforeGroups ps
AreBeforeGroups (opening start ∷ ps) = AreBeforeGroups ps
AreBeforeGroups (closing end ∷ ps) = AreBeforeGroups ps
AreBeforeGroups (atom token ∷ ps) = AreBeforeGroups ps

-- items that wait for their group to close
abbrev waiting : Option Token → List Piece
waiting None = []
waiting (Some token) = head token ∷ []

-- what open groups have been made from
abbrev spent : List Frame → List Piece
spent [] = []
spent (f ∷ frames) = spent frames ++ (pieces f.before ++ opening_pieces f.word f.start)

-- a head waits for its group
abbrev WaitsForGroup : Option Token → List Piece → Type 0
WaitsForGroup None ps = ⊤
WaitsForGroup (Some token) ps = begins_group ps ≡ true

-- a group that opens
opening_behind : (word : Option Token) (start : ℕ) (ps : List Piece) → opening_pieces word start ++ ps ≡ waiting word ++ opening start ∷ ps
opening_behind None start ps = refl
opening_behind (Some token) start ps = refl

-- a list of items, past an opening bracket
at_opening : (outer done : List Piece) (word : Option Token) (start : ℕ) (ps : List Piece) →
    (outer ++ (done ++ opening_pieces word start)) ++ ps ≡ outer ++ (done ++ (waiting word ++ opening start ∷ ps))
at_opening outer done word start ps =
    append_assoc outer (done ++ opening_pieces word start) ps
    ∙ ap (λ (l : List Piece). outer ++ l) (append_assoc done (opening_pieces word start) ps ∙ ap (λ (l : List Piece). done ++ l) (opening_behind word start ps))

-- a list of items, past a closing bracket
at_closing : (outer before : List Piece) (word : Option Token) (start : ℕ) (inner : List Piece) →
    outer ++ (before ++ (opening_pieces word start ++ inner)) ≡ (outer ++ (before ++ opening_pieces word start)) ++ inner
at_closing outer before word start inner =
    ap (λ (l : List Piece). outer ++ l) (sym (append_assoc before (opening_pieces word start) inner))
    ∙ sym (append_assoc outer (before ++ opening_pieces word start) inner)

-- the items that are built have the pieces that they were built from
built : (frames : List Frame) (word : Option Token) (done : List Item) (ps : List Piece) → ArePaired (length frames) ps → AreBeforeGroups ps → WaitsForGroup word ps →
    pieces (build frames word done ps) ≡ spent frames ++ (pieces done ++ (waiting word ++ ps))
unfolding pieces
built [] None done [] paired before waits = sym (append-nil (pieces done))
built (f ∷ frames) None done [] paired before waits = absurd (omega arith)
built frames (Some token) done [] paired before waits = cc
built frames None done (atom token ∷ ps) paired before waits =
    built frames None (done ++ item.Atom token ∷ []) ps paired before tt
    ∙ ap (λ (l : List Piece). spent frames ++ l) (push_atom done token ps)
built frames (Some word) done (atom token ∷ ps) paired before waits = cc
built frames None done (head token ∷ ps) paired before waits = built frames (Some token) done ps paired before.1 before.0
built frames (Some word) done (head token ∷ ps) paired before waits = cc
built frames word done (opening start ∷ ps) paired before waits =
    built (record { word = word; start = start; before = done } ∷ frames) None [] ps paired before tt
    ∙ at_opening (spent frames) (pieces done) word start ps
built [] word done (closing end ∷ ps) paired before waits = absurd paired
built (f ∷ frames) None done (closing end ∷ ps) paired before waits =
    built frames None (f.before ++ item.Group f.word done f.start end ∷ []) ps paired before tt
    ∙ ap (λ (l : List Piece). spent frames ++ l) (push_group f.before f.word done f.start end ps)
    ∙ at_closing (spent frames) (pieces f.before) f.word f.start (pieces done ++ closing end ∷ ps)
built (f ∷ frames) (Some word) done (closing end ∷ ps) paired before waits = cc

-- the pieces are of some items
pub record HasList (ps : List Piece) : Type 0 where
  pub items : List Item
  pub same : pieces items ≡ ps

-- pieces in pairs are of some items
pub some_list : (ps : List Piece) → ArePaired 0 ps → AreBeforeGroups ps → HasList ps
unfolding pieces
some_list ps paired before = record { items = build [] None [] ps; same = built [] None [] ps paired before tt }

-- an item opens and closes as many groups
abbrev pub openings : List Piece → ℕ
openings [] = 0
openings (opening start ∷ ps) = openings ps + 1
openings (closing end ∷ ps) = openings ps
openings (head token ∷ ps) = openings ps
openings (atom token ∷ ps) = openings ps

-- how many pieces close a group
abbrev pub closings : List Piece → ℕ
closings [] = 0
closings (opening start ∷ ps) = closings ps
closings (closing end ∷ ps) = closings ps + 1
closings (head token ∷ ps) = closings ps
closings (atom token ∷ ps) = closings ps

-- openings of two lists
openings-append : (xs ys : List Piece) → openings (xs ++ ys) ≡ openings xs + openings ys
openings-append [] ys = omega arith
openings-append (opening start ∷ xs) ys = let h : openings (xs ++ ys) ≡ openings xs + openings ys = openings-append xs ys in omega arith
openings-append (closing end ∷ xs) ys = openings-append xs ys
openings-append (head token ∷ xs) ys = openings-append xs ys
openings-append (atom token ∷ xs) ys = openings-append xs ys

-- closings of two lists
closings-append : (xs ys : List Piece) → closings (xs ++ ys) ≡ closings xs + closings ys
closings-append [] ys = omega arith
closings-append (opening start ∷ xs) ys = closings-append xs ys
closings-append (closing end ∷ xs) ys = let h : closings (xs ++ ys) ≡ closings xs + closings ys = closings-append xs ys in omega arith
closings-append (head token ∷ xs) ys = closings-append xs ys
closings-append (atom token ∷ xs) ys = closings-append xs ys

-- an item opens as often as it closes
abbrev IsEven : Item → Type 0
IsEven i = openings (item_pieces i) ≡ closings (item_pieces i)

-- items open as often as they close
evens : (ys : List ((i : Item) × IsEven i)) → openings (pieces (map (λ y. y.0) ys)) ≡ closings (pieces (map (λ y. y.0) ys))
unfolding pieces
evens [] = refl
evens (y ∷ ys) =
    let here : openings (item_pieces y.0) ≡ closings (item_pieces y.0) = y.1 in
    let behind : openings (pieces (map (λ y. y.0) ys)) ≡ closings (pieces (map (λ y. y.0) ys)) = evens ys in
    omega (arith, openings-append (item_pieces y.0) (pieces (map (λ y. y.0) ys)), closings-append (item_pieces y.0) (pieces (map (λ y. y.0) ys)))

-- a group is even
even_group : (word : Option Token) (inner : List Piece) (start end : ℕ) → openings inner ≡ closings inner →
    openings (group_pieces word inner start end) ≡ closings (group_pieces word inner start end)
even_group None inner start end e = omega (arith, openings-append inner (closing end ∷ []), closings-append inner (closing end ∷ []))
even_group (Some token) inner start end e = omega (arith, openings-append inner (closing end ∷ []), closings-append inner (closing end ∷ []))

-- one layer is even
even_layer : (y : Item-F ((i : Item) × IsEven i)) → IsEven (roll-Item (map-Item ((i : Item) × IsEven i) Item (λ e. e.0) y))
even_layer (Item-F.Atom token) =
    subst IsEven (sym (rolls-Atom token)) (subst (λ (l : List Piece). openings l ≡ closings l) (sym (pieces-atom token)) refl)
even_layer (Item-F.Group word ys start end) =
    subst IsEven (sym (rolls-Group word (map (λ y. y.0) ys) start end))
    (subst (λ (l : List Piece). openings l ≡ closings l) (sym (pieces-group word (map (λ y. y.0) ys) start end)) (even_group word (pieces (map (λ y. y.0) ys)) start end (evens ys)))

-- each item is even
even_item : (i : Item) → IsEven i
even_item = ind-Item IsEven (λ x y is. subst (λ z. IsEven (roll-Item z)) is (even_layer y))

-- all items are even
pub even : (is : List Item) → openings (pieces is) ≡ closings (pieces is)
unfolding pieces
even [] = refl
even (i ∷ is) =
    let here : openings (item_pieces i) ≡ closings (item_pieces i) = even_item i in
    let behind : openings (pieces is) ≡ closings (pieces is) = even is in
    omega (arith, openings-append (item_pieces i) (pieces is), closings-append (item_pieces i) (pieces is))

-- each item has a piece
abbrev HasPiece : Item → Type 0
HasPiece i = 1 ≤ length (item_pieces i)

-- a group has a piece
group_has_piece : (word : Option Token) (inner : List Piece) (start end : ℕ) → 1 ≤ length (group_pieces word inner start end)
group_has_piece None inner start end = omega arith
group_has_piece (Some token) inner start end = omega arith

-- one layer has a piece
layer_has_piece : (y : Item-F ((i : Item) × HasPiece i)) → HasPiece (roll-Item (map-Item ((i : Item) × HasPiece i) Item (λ e. e.0) y))
layer_has_piece (Item-F.Atom token) =
    subst HasPiece (sym (rolls-Atom token)) (subst (λ (l : List Piece). 1 ≤ length l) (sym (pieces-atom token)) (let one : 1 ≤ length (atom token ∷ []) = omega arith in one))
layer_has_piece (Item-F.Group word ys start end) =
    subst HasPiece (sym (rolls-Group word (map (λ y. y.0) ys) start end))
    (subst (λ (l : List Piece). 1 ≤ length l) (sym (pieces-group word (map (λ y. y.0) ys) start end)) (group_has_piece word (pieces (map (λ y. y.0) ys)) start end))

-- each item has a piece
item_has_piece : (i : Item) → HasPiece i
item_has_piece = ind-Item HasPiece (λ x y is. subst (λ z. HasPiece (roll-Item z)) is (layer_has_piece y))

-- no more items than pieces
no_more_than_pieces : (is : List Item) → length is ≤ length (pieces is)
unfolding pieces
no_more_than_pieces [] = omega arith
no_more_than_pieces (i ∷ is) =
    let here : 1 ≤ length (item_pieces i) = item_has_piece i in
    let behind : length is ≤ length (pieces is) = no_more_than_pieces is in
    omega (arith, length-append (item_pieces i) (pieces is))

-- no more items than tokens
pub no_more_items : (is : List Item) → length is ≤ length (tokens_of is)
no_more_items is = rw length-map (no_more_than_pieces is)

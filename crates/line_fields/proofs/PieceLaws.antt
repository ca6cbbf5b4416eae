-- What parts a text, and the pieces.
use Rattle.std.proofs.Common.{◌≡◌, ℕ, ◌+◌, ◌-◌, ◌<◌, ◌≤◌, ◌==◌, Bool, true, false, not, cond, List, [], ◌∷◌, length, take, drop, refl, ap, ◌∙◌, arith}
use Rattle.std.specs.List.{slice_split, position_or_len}
use Rattle.std.proofs.lemmas.List.{length-drop, take_all}
use Rattle.std.proofs.lemmas.List.Splits.{slice_split_first}
use Rattle.line_fields.specs.Reading.{fields_of, lines_in, lines_of, is_end}

-- a text that nothing parts is one piece
pub only_piece : (p : ℕ → Bool) (xs : List ℕ) → length xs ≤ position_or_len p xs → slice_split p xs ≡ xs ∷ []
only_piece p [] none = refl
only_piece p (x ∷ xs) none = by (p x) refl (λ far. only_piece p xs far)
  where
    by : (b : Bool) → p x ≡ b → (length xs ≤ position_or_len p xs → slice_split p xs ≡ xs ∷ []) → slice_split p (x ∷ xs) ≡ (x ∷ xs) ∷ []
    by true e later =
        let far : 1 + length xs ≤ cond (not (p x)) (1 + position_or_len p xs) 0 = omega arith in
        let near : 1 + length xs ≤ 0 = rw e at far in absurd (omega arith)
    by false e later =
        let far : 1 + length xs ≤ cond (not (p x)) (1 + position_or_len p xs) 0 = omega arith in
        let near : 1 + length xs ≤ 1 + position_or_len p xs = rw e at far in
        let rest : slice_split p xs ≡ xs ∷ [] = later (omega arith) in
        rw (e, rest) refl

-- the first piece, and what follows
pub first_piece : (p : ℕ → Bool) (text : List ℕ) (place : ℕ) → place ≡ position_or_len p text → place < length text
    → slice_split p text ≡ take place text ∷ slice_split p (take (length text - (place + 1)) (drop (place + 1) text))
first_piece p text place is within =
    let lt : position_or_len p text < length text = omega arith in
    let whole : take (length text - (place + 1)) (drop (place + 1) text) ≡ drop (place + 1) text =
    take_all _ _ (omega (arith, length-drop (place + 1) text)) in
    rw (whole, is) (slice_split_first p text 0 lt)

-- there is a first piece
pub record HasPieces (pieces : List (List ℕ)) : Type 0 where
  pub first : List ℕ
  pub later : List (List ℕ)
  pub are : pieces ≡ first ∷ later

pub some_pieces : (p : ℕ → Bool) (xs : List ℕ) → HasPieces (slice_split p xs)
some_pieces p [] = record { first = []; later = []; are = refl }
some_pieces p (x ∷ xs) = by (p x) refl (some_pieces p xs)
  where
    by : (b : Bool) → p x ≡ b → HasPieces (slice_split p xs) → HasPieces (slice_split p (x ∷ xs))
    by true e rest = record { first = []; later = slice_split p xs; are = rw e refl }
    by false e rest = record { first = x ∷ rest.first; later = rest.later; are = rw (e, rest.are) refl }

-- a line more before pieces
lines_more : (piece : List ℕ) (pieces : List (List ℕ)) → HasPieces pieces → lines_in (piece ∷ pieces) ≡ fields_of piece ∷ lines_in pieces
lines_more piece pieces some = rw some.are refl

-- a line, and what follows its line feed
pub first_line : (text front rest : List ℕ) → slice_split (λ b. b == 10) text ≡ front ∷ slice_split (λ b. b == 10) rest
    → lines_of text ≡ fields_of front ∷ lines_of rest
first_line text front rest pieces =
    ap lines_in pieces ∙ lines_more front (slice_split (λ b. b == 10) rest) (some_pieces (λ b. b == 10) rest)

-- a last line without a line feed
pub open_line : (text : List ℕ) → slice_split (λ b. b == 10) text ≡ text ∷ [] → 0 < length text → lines_of text ≡ [] ∷ []
open_line [] pieces some = absurd (omega arith)
open_line (b ∷ bs) pieces some = ap lines_in pieces

-- a line has a field
pub line_has_field : (some : Bool) (text : List ℕ) → not some ≡ is_end (cond some (fields_of text) [])
line_has_field true text = let pieces = some_pieces (λ b. b == 32) text in rw pieces.are refl
line_has_field false text = refl

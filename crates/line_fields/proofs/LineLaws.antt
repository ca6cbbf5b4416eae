-- Lines of fields are read as they are written, and what is read is what is written.
use Rattle.std.proofs.Common.{◌≡◌, ◌≢◌, ℕ, Bool, true, false, ◌||◌, List, [], ◌∷◌, ◌++◌, refl, ap, sym, ◌∙◌, append_assoc}
use Rattle.std.specs.List.{slice_split, join_with_byte, AllByRecursion}
use Rattle.std.proofs.lemmas.List.{append-nil}
use Rattle.std.proofs.lemmas.List.Elements.{All-from_recursion}
use Rattle.std.proofs.lemmas.List.Concat.{flat_map-cons}
use Rattle.std.proofs.lemmas.List.Splits.{slice_split_none, slice_split_at, join_with_byte-slice_split}
use Rattle.byte_words.specs.Bytes.{is_space, is_line_feed}
use Rattle.byte_words.specs.Lists.{AllFailing}
use Rattle.line_fields.specs.Lines.{Fields, spaced, joined, line, text_of, IsField, IsLine}
use Rattle.line_fields.specs.Reading.{fields_of, lines_in, lines_of}
use Rattle.line_fields.proofs.PieceLaws.{HasPieces, some_pieces, first_line}

neither : (x y : Bool) → (x || y) ≡ false → (x ≡ false) × (y ≡ false)
neither true y e = absurd cc
neither false y e = (refl, e)

no_space : (bytes : List ℕ) → IsField bytes → AllFailing is_space bytes
no_space [] each = tt
no_space (b ∷ bs) each = ((neither _ _ each.0).0, no_space bs each.1)

no_feed : (bytes : List ℕ) → IsField bytes → AllFailing is_line_feed bytes
no_feed [] each = tt
no_feed (b ∷ bs) each = ((neither _ _ each.0).1, no_feed bs each.1)

failing-append : (p : ℕ → Bool) (xs ys : List ℕ) → AllFailing p xs → AllFailing p ys → AllFailing p (xs ++ ys)
failing-append p [] ys each later = later
failing-append p (x ∷ xs) ys each later = (each.0, failing-append p xs ys each.1 later)

fields_split : (field : List ℕ) (fields : Fields) → AllByRecursion IsField (field ∷ fields) → fields_of (field ++ spaced fields) ≡ field ∷ fields
fields_split field [] each =
    rw append-nil (slice_split_none is_space field (All-from_recursion (λ b. is_space b ≡ false) field (no_space field each.0)))
fields_split field (next ∷ fields) each =
    slice_split_at is_space field 32 (next ++ spaced fields) (All-from_recursion (λ b. is_space b ≡ false) field (no_space field each.0)) refl
    ∙ ap (λ later. field ∷ later) (fields_split next fields each.1)

pub fields_again : (fields : Fields) → IsLine fields → fields_of (joined fields) ≡ fields
fields_again [] is = absurd (is.some refl)
fields_again (field ∷ fields) is = fields_split field fields is.each

spaced_no_feed : (fields : Fields) → AllByRecursion IsField fields → AllFailing is_line_feed (spaced fields)
spaced_no_feed [] each = tt
spaced_no_feed (field ∷ fields) each = (refl, failing-append is_line_feed field (spaced fields) (no_feed field each.0) (spaced_no_feed fields each.1))

joined_no_feed : (fields : Fields) → AllByRecursion IsField fields → AllFailing is_line_feed (joined fields)
joined_no_feed [] each = tt
joined_no_feed (field ∷ fields) each = failing-append is_line_feed field (spaced fields) (no_feed field each.0) (spaced_no_feed fields each.1)

-- lines are read as they are written, whatever follows them
pub lines_again : (lines : List Fields) (rest : List ℕ) → AllByRecursion IsLine lines → lines_of (text_of lines ++ rest) ≡ lines ++ lines_of rest
lines_again [] rest each = refl
lines_again (fields ∷ lines) rest each =
    let later = text_of lines ++ rest in
    let regrouped : text_of (fields ∷ lines) ++ rest ≡ joined fields ++ (10 ∷ later) =
    ap (λ text. text ++ rest) (flat_map-cons line fields lines) ∙ append_assoc (joined fields ++ 10 ∷ []) (text_of lines) rest
    ∙ append_assoc (joined fields) (10 ∷ []) later in
    let none = All-from_recursion (λ b. is_line_feed b ≡ false) (joined fields) (joined_no_feed fields each.0.each) in
    let split = slice_split_at is_line_feed (joined fields) 10 later none refl in
    ap lines_of regrouped ∙ first_line (joined fields ++ (10 ∷ later)) (joined fields) later split
    ∙ ap (λ own. own ∷ lines_of later) (fields_again fields each.0) ∙ ap (λ more. fields ∷ more) (lines_again lines rest each.1)

spaced_is : (field : List ℕ) (fields : Fields) → field ++ spaced fields ≡ join_with_byte 32 (field ∷ fields)
spaced_is field [] = append-nil field
spaced_is field (next ∷ fields) = ap (λ more. field ++ (32 ∷ more)) (spaced_is next fields)

joined_is : (fields : Fields) → joined fields ≡ join_with_byte 32 fields
joined_is [] = refl
joined_is (field ∷ fields) = spaced_is field fields

-- each line has a field
abbrev pub AreEnded : List Fields → Type 0
AreEnded lines = AllByRecursion (λ fields. fields ≢ []) lines

pieces_are : (first : List ℕ) (later : List (List ℕ)) → AreEnded (lines_in (first ∷ later)) → join_with_byte 10 (first ∷ later) ≡ text_of (lines_in (first ∷ later))
pieces_are [] [] ended = refl
pieces_are (b ∷ bs) [] ended = absurd (ended.0 refl)
pieces_are first (next ∷ later) ended =
    let own : joined (fields_of first) ≡ first = joined_is (fields_of first) ∙ join_with_byte-slice_split 32 first in
    ap (λ more. first ++ (10 ∷ more)) (pieces_are next later ended.1)
    ∙ ap (λ text. text ++ (10 ∷ text_of (lines_in (next ∷ later)))) (sym own)
    ∙ sym (append_assoc (joined (fields_of first)) (10 ∷ []) (text_of (lines_in (next ∷ later))))
    ∙ sym (flat_map-cons line (fields_of first) (lines_in (next ∷ later)))

by_pieces : (pieces : List (List ℕ)) → HasPieces pieces → AreEnded (lines_in pieces) → join_with_byte 10 pieces ≡ text_of (lines_in pieces)
by_pieces pieces some ended =
    let e = some.are in
    rw e (pieces_are some.first some.later (rw e at ended))

-- a text all lines of which have fields is what its lines are written as
pub lines_back : (text : List ℕ) → AreEnded (lines_of text) → text ≡ text_of (lines_of text)
lines_back text ended =
    sym (join_with_byte-slice_split 10 text) ∙ by_pieces (slice_split is_line_feed text) (some_pieces is_line_feed text) ended

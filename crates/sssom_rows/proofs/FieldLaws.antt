-- Fields of a record by their places, and ids by their bytes.
use Rattle.std.proofs.Common.{◌≡◌, ◌<◌, ℕ, zero, suc, ◌+◌, Bool, true, false, List, [], ◌∷◌, length, drop, get_or, Option, Some, None, refl, sym, ap, ◌∙◌, inl, inr, add-one, drop-cons}
use Rattle.std.specs.Prelude.{slice_get, slice_index_or, bytes_eq, IsUtf8, unwrap_or, codes, cond}
use Rattle.std.specs.List.{list_all}
use Rattle.std.specs.Option.{option_map}
use Rattle.std.specs.Str.{is_utf8}
use Rattle.std.proofs.lemmas.Bool.{cases_Bool, and_parts}
use Rattle.std.proofs.lemmas.Str.{IsUtf8-from_is_utf8, IsUtf8-nil}
use Rattle.std.proofs.lemmas.Option.{slice_get_within, get_or_from_slice_get, unwrap_or-slice_get}
use Rattle.csv.specs.Records.{field_at}
use Rattle.byte_words.specs.Fronts.{without_front}
use Rattle.sssom_rows.specs.Records.{FieldList, are_texts}
use Rattle.sssom_rows.specs.Columns.{times, field_under, column_name}
use Rattle.sssom_rows.specs.Ids.{has_scheme}
use Rattle.sssom_rows.specs.declared.column.Column.{Column}
use Rattle.sssom_rows.specs.declared.column.Column.TheVariants.{Subject, Predicate, Object, Confidence, Modifier}
use Rattle.sssom_rows.specs.declared.places.Places.{Places}
use Rattle.sssom_rows.specs.Inside.Places.{place_from, place_in, place_of, field_in, ArePlaces}

-- a field at a place, as the crate csv says it and as std does
pub field_at_is : (fields : FieldList) (place : ℕ) → field_at fields place ≡ slice_get fields place
unfolding field_at
field_at_is [] place = refl
field_at_is (field ∷ fields) zero = refl
field_at_is (field ∷ fields) (suc place) = field_at_is fields place

-- the list from a place on begins with what stands there
pub drop_at : {X : Type 0} (xs : List X) (i : ℕ) (x : X) → Some x ≡ slice_get xs i → drop i xs ≡ x ∷ drop (i + 1) xs
drop_at xs i x here =
    rw (drop-cons xs i x (slice_get_within xs i x (sym here)), get_or_from_slice_get xs i x x (sym here), add-one i) refl

-- where nothing stands, an empty field is meant
pub nothing_at : (fields : FieldList) (place : ℕ) → None ≡ slice_get fields place → [] ≡ slice_index_or fields place []
nothing_at fields place missing = ap (λ (o : Option (List ℕ)). unwrap_or o []) missing ∙ unwrap_or-slice_get fields place []

-- a field that is no text
pub texts_end : (fields : FieldList) (i : ℕ) (field : List ℕ) → Some field ≡ slice_get fields i → false ≡ is_utf8 field
    → list_all is_utf8 (drop i fields) ≡ false
texts_end fields i field here bad = rw (drop_at fields i field here, sym bad) refl

-- and one that is
pub texts_go_on : (fields : FieldList) (i : ℕ) (field : List ℕ) → Some field ≡ slice_get fields i → true ≡ is_utf8 field
    → list_all is_utf8 (drop i fields) ≡ list_all is_utf8 (drop (i + 1) fields)
texts_go_on fields i field here good = rw (drop_at fields i field here, sym good) refl

-- the place is found
pub place_here : (name : List ℕ) (n : ℕ) (names : FieldList) (i : ℕ) (found : List ℕ) → Some found ≡ slice_get names i → bytes_eq name found ≡ true
    → place_from name n (drop i names) ≡ Some n
place_here name n names i found here same = rw (drop_at names i found here, same) refl

-- or looked for further on
pub place_later : (name : List ℕ) (n : ℕ) (names : FieldList) (i : ℕ) (found : List ℕ) → Some found ≡ slice_get names i → bytes_eq name found ≡ false
    → place_from name n (drop i names) ≡ place_from name (n + 1) (drop (i + 1) names)
place_later name n names i found here other = rw (drop_at names i found here, other) refl

-- one more column of the name
pub times_here : (name : List ℕ) (names : FieldList) (i : ℕ) (found : List ℕ) → Some found ≡ slice_get names i → bytes_eq name found ≡ true
    → times name (drop i names) ≡ 1 + times name (drop (i + 1) names)
times_here name names i found here same = rw (drop_at names i found here, same) refl

-- or a column of another
pub times_later : (name : List ℕ) (names : FieldList) (i : ℕ) (found : List ℕ) → Some found ≡ slice_get names i → bytes_eq name found ≡ false
    → times name (drop i names) ≡ times name (drop (i + 1) names)
times_later name names i found here other = rw (drop_at names i found here, other) refl

-- the place counts the columns before
place_moves : (name : List ℕ) (n : ℕ) (columns : FieldList) → place_from name (n + 1) columns ≡ option_map suc (place_from name n columns)
place_moves name n [] = refl
place_moves name n (column ∷ columns) = elim (cases_Bool (bytes_eq name column)) [
  | inl same ↦ rw (same, add-one n) refl
  | inr other ↦ rw other (place_moves name (n + 1) columns)
]

-- one field more before a place
field_moves : (place : Option ℕ) (field : List ℕ) (fields : FieldList) → field_in (option_map suc place) (field ∷ fields) ≡ field_in place fields
field_moves None field fields = refl
field_moves (Some place) field fields = refl

-- without fields there is none at any place
field_of_none : (place : Option ℕ) → field_in place [] ≡ []
field_of_none None = refl
field_of_none (Some place) = refl

-- the field at the place of a name is the field under it
pub field_at_place : (name : List ℕ) (columns fields : FieldList) → field_in (place_in name columns) fields ≡ field_under name columns fields
field_at_place name [] fields = refl
field_at_place name (column ∷ columns) [] = field_of_none (place_in name (column ∷ columns))
field_at_place name (column ∷ columns) (field ∷ fields) = elim (cases_Bool (bytes_eq name column)) [
  | inl same ↦ rw same refl
  | inr other ↦ rw (other, place_moves name 0 columns, field_moves (place_from name 0 columns) field fields) (field_at_place name columns fields)
]

pub place_is : (columns : FieldList) (places : Places) (column : Column) → ArePlaces columns places → place_of places column ≡ place_in (column_name column) columns
place_is columns places Subject are = are.subject
place_is columns places Predicate are = are.predicate
place_is columns places Object are = are.object
place_is columns places Confidence are = are.confidence
place_is columns places Modifier are = are.modifier

-- a field under a name is a text where all are
under_by : (name column field : List ℕ) (columns fields : FieldList) (b : Bool) → IsUtf8 field → IsUtf8 (field_under name columns fields)
    → IsUtf8 (cond b field (field_under name columns fields))
under_by name column field columns fields true one rest = one
under_by name column field columns fields false one rest = rest

pub under_is_text : (name : List ℕ) (columns fields : FieldList) → are_texts fields ≡ true → IsUtf8 (field_under name columns fields)
under_is_text name [] fields all = IsUtf8-nil
under_is_text name (column ∷ columns) [] all = IsUtf8-nil
under_is_text name (column ∷ columns) (field ∷ fields) all =
    let both = and_parts (is_utf8 field) (list_all is_utf8 fields) all in
    under_by name column field columns fields (bytes_eq name column) (IsUtf8-from_is_utf8 field both.0) (under_is_text name columns fields both.1)

-- :// stands at the front
pub scheme_here : (bytes rest : List ℕ) → Some rest ≡ without_front (codes "://") bytes → true ≡ has_scheme bytes
scheme_here [] rest found = cc found
scheme_here (b ∷ bs) rest found = rw (sym found) refl

-- or further on
scheme_on : (b : ℕ) (bs : List ℕ) → None ≡ without_front (codes "://") (b ∷ bs) → has_scheme (b ∷ bs) ≡ has_scheme bs
scheme_on b bs missing = rw (sym missing) refl

pub scheme_later : (bytes : List ℕ) (i : ℕ) → i < length bytes → None ≡ without_front (codes "://") (drop i bytes)
    → has_scheme (drop i bytes) ≡ has_scheme (drop (i + 1) bytes)
scheme_later bytes i within missing =
    let split : drop i bytes ≡ get_or bytes i 0 ∷ drop (i + 1) bytes = rw (drop-cons bytes i 0 within, add-one i) refl in
    ap has_scheme split ∙ scheme_on (get_or bytes i 0) (drop (i + 1) bytes) (missing ∙ ap (without_front (codes "://")) split)

-- The table that stands for MAP in the check of a refusal is a table without rows.
use Rattle.std.proofs.Common.{◌≡◌, ◌<◌, ℕ, zero, suc, Bool, true, List, [], ◌∷◌, Err, Ok, refl, arith}
use Rattle.std.specs.Prelude.{Result, codes, nat_lt, slice_index}
use Rattle.std.specs.List.{list_all}
use Rattle.std.specs.Str.{is_utf8}
use Rattle.std.proofs.lemmas.Bool.{and_from, and_parts, ltb-true}
use Rattle.std.proofs.lemmas.Str.{IsUtf8-from_ascii, is_utf8-from_IsUtf8}
use Rattle.csv.specs.Machine.{next_record}
use Rattle.csv.specs.Reading.{Reached, strip_bom}
use Rattle.csv.specs.declared.parser.State.TheVariants as state
use Rattle.byte_words.specs.Fronts.{without_mark}
use Rattle.sssom_head.specs.declared.place.MapPlace.TheVariants.{Before}
use Rattle.sssom_head.specs.BuiltIn.{with_built_in}
use Rattle.sssom_head.specs.Heads.{IsHeadOf}
use Rattle.sssom_rows.specs.declared.fault.TableFault.{TableFault}
use Rattle.sssom_rows.specs.declared.table.Table.{Table}
use Rattle.sssom_rows.specs.Faults.{IsFirstTableFault, IsTableAnswer}
use Rattle.sssom_rows.specs.Records.{AreTabbed, FieldList, are_texts}
use Rattle.sssom_rows.specs.Tables.{IsTableText}
use Rattle.check_run.specs.Files.{bare_table}

abbrev columns : FieldList
columns = codes "subject_id" ∷ codes "predicate_id" ∷ codes "object_id" ∷ codes "confidence" ∷ []

abbrev bare : Table
bare = record { head = []; columns = columns; rows = [] }

-- its one record has the columns
bare_records : AreTabbed bare_table (columns ∷ [])
unfolding next_record Reached strip_bom
bare_records = (state.StartRecord, [], ((columns, state.StartRecord, []), refl, refl, (refl, refl)), refl)

-- it has no header
bare_header : IsHeadOf (without_mark bare_table) (record { length = 0; prefixes = with_built_in [] })
bare_header = record {
  place = Before;
  entries = [];
  sound = record { pairs = []; sound = (tt, refl); entries_are = refl };
  counted = refl;
  prefixes = refl;
}

-- bytes that are ASCII are UTF-8
abbrev are_ascii : List ℕ → Bool
are_ascii bytes = list_all (λ b. nat_lt b 128) bytes

ascii_each : (bytes : List ℕ) → are_ascii bytes ≡ true → (i : ℕ) → slice_index bytes i < 128
ascii_each [] h i = omega arith
ascii_each (b ∷ bytes) h zero = ltb-true b 128 (and_parts (nat_lt b 128) (are_ascii bytes) h).0
ascii_each (b ∷ bytes) h (suc i) = ascii_each bytes (and_parts (nat_lt b 128) (are_ascii bytes) h).1 i

ascii_text : (bytes : List ℕ) → are_ascii bytes ≡ true → is_utf8 bytes ≡ true
ascii_text bytes h = is_utf8-from_IsUtf8 bytes (IsUtf8-from_ascii bytes (ascii_each bytes h))

-- and so are the columns
columns_are_texts : are_texts columns ≡ true
columns_are_texts =
    let subject = codes "subject_id" in
    let predicate = codes "predicate_id" in
    let object = codes "object_id" in
    let confidence = codes "confidence" in
    and_from (is_utf8 subject) (are_texts (predicate ∷ object ∷ confidence ∷ [])) (ascii_text subject refl)
    (and_from (is_utf8 predicate) (are_texts (object ∷ confidence ∷ [])) (ascii_text predicate refl)
    (and_from (is_utf8 object) (are_texts (confidence ∷ [])) (ascii_text object refl)
    (and_from (is_utf8 confidence) true (ascii_text confidence refl) refl)))

pub bare_is_table : (most : ℕ) → IsTableText most bare_table bare
bare_is_table most = record {
  prefixes = with_built_in [];
  records = [];
  parts = record { rest = bare_table; whole = refl; header = bare_header; records_are = bare_records };
  columns = record { texts = columns_are_texts; complete = refl; once = refl };
  few = omega arith;
  rows = tt;
}

-- bytes have one table or one first fault
abbrev pub OneTable : Type 0
OneTable = (most : ℕ) (bytes : List ℕ) (one other : Result Table TableFault) → IsTableAnswer most bytes one → IsTableAnswer most bytes other → one ≡ other

-- so it has no fault
pub bare_has_no_fault : OneTable → (most : ℕ) (fault : TableFault) → IsFirstTableFault most bare_table fault → ⊥
bare_has_no_fault law most fault first =
    let both : Ok bare ≡ Err fault = law most bare_table (Ok bare) (Err fault) (bare_is_table most) first in absurd cc

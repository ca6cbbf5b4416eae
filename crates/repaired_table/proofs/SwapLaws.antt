-- What is written between tabs reads again. That is so between commas, and here each comma is put for a tab and each
-- tab for a comma.
use Rattle.std.proofs.Common.{◌≡◌, ℕ, Bool, true, false, List, [], ◌∷◌, ◌++◌, Option, Some, None, refl, sym, ap, ap₂, subst, ◌∙◌, inl, inr, map, cond}
use Rattle.std.specs.Prelude.{◌==◌, ◌||◌, if◌then◌else◌}
use Rattle.std.specs.List.{list_any}
use Rattle.std.specs.Option.{option_map}
use Rattle.std.proofs.lemmas.Bool.{cases_Bool, eqb-true}
use Rattle.std.proofs.lemmas.List.{map-append}
use Rattle.csv.specs.Machine.{Read, next_record, step, is_end, ends_at_end, fields_after, field_after}
use Rattle.csv.specs.Reading.{default_config}
use Rattle.csv.specs.Writing.{default_writer, needs_byte, escaped, field_text, fields_text, row_text, is_blank}
use Rattle.csv.specs.declared.parser.State.{State}
use Rattle.csv.specs.declared.parser.State.TheVariants as st
use Rattle.csv.specs.declared.parser.Action.{Action}
use Rattle.csv.specs.declared.parser.Action.TheVariants as act
use Rattle.csv.proofs.RoundTrip.{read-write-many}
use Rattle.sssom_rows.specs.Records.{FieldList, tabbed}
use Rattle.repaired_table.specs.Repaired.{tab_writer, record_text}

-- a comma for a tab, and a tab for a comma
swap : ℕ → ℕ
swap c = if c == 9 then 44 else if c == 44 then 9 else c

abbrev swap_bytes : List ℕ → List ℕ
swap_bytes bytes = map swap bytes

abbrev swap_fields : FieldList → FieldList
swap_fields fields = map swap_bytes fields

record Swapped (c : ℕ) : Type 0 where
  tab : (swap c == 9) ≡ (c == 44)
  quote : (swap c == 34) ≡ (c == 34)
  return : (swap c == 13) ≡ (c == 13)
  feed : (swap c == 10) ≡ (c == 10)
  back : swap (swap c) ≡ c

-- a byte that is neither stays
swapped_other : (c : ℕ) → (c == 9) ≡ false → (c == 44) ≡ false → Swapped c
unfolding swap
swapped_other c no_tab no_comma =
    let same : swap c ≡ c = rw (no_tab, no_comma) refl in
    record {
      tab = ap (λ (z : ℕ). z == 9) same ∙ no_tab ∙ sym no_comma;
      quote = ap (λ (z : ℕ). z == 34) same;
      return = ap (λ (z : ℕ). z == 13) same;
      feed = ap (λ (z : ℕ). z == 10) same;
      back = ap swap same ∙ same;
    }

-- a tab becomes a comma
swapped_tab : Swapped 9
unfolding swap
swapped_tab = record { tab = refl; quote = refl; return = refl; feed = refl; back = refl }

-- and a comma a tab
swapped_comma : Swapped 44
unfolding swap
swapped_comma = record { tab = refl; quote = refl; return = refl; feed = refl; back = refl }

-- each byte that csv sets apart is met where its partner was
swapped : (c : ℕ) → Swapped c
swapped c = elim (cases_Bool (c == 9)) [
  | inl tab ↦ subst (λ (z : ℕ). Swapped z) (sym (eqb-true c 9 tab)) swapped_tab
  | inr no_tab ↦ elim (cases_Bool (c == 44)) [
    | inl comma ↦ subst (λ (z : ℕ). Swapped z) (sym (eqb-true c 44 comma)) swapped_comma
    | inr no_comma ↦ swapped_other c no_tab no_comma
  ]
]

-- quotes stay
quote_stays : swap 34 ≡ 34
unfolding swap
quote_stays = refl

-- line feeds stay
feed_stays : swap 10 ≡ 10
unfolding swap
feed_stays = refl

-- commas become tabs
comma_goes : swap 44 ≡ 9
unfolding swap
comma_goes = refl

-- what is exchanged twice is as before
bytes_back : (bytes : List ℕ) → swap_bytes (swap_bytes bytes) ≡ bytes
bytes_back [] = refl
bytes_back (b ∷ bytes) = let t = swapped b in ap₂ (λ (c : ℕ) (cs : List ℕ). c ∷ cs) t.back (bytes_back bytes)

-- and so for fields
fields_back : (fields : FieldList) → swap_fields (swap_fields fields) ≡ fields
fields_back [] = refl
fields_back (field ∷ fields) = ap₂ (λ (f : List ℕ) (fs : FieldList). f ∷ fs) (bytes_back field) (fields_back fields)

-- a byte does between tabs what the other does between commas
swap_step : (s : State) (c : ℕ) → step tabbed s (swap c) ≡ step default_config s c
swap_step st.StartRecord c = let t = swapped c in rw (t.return, t.feed, t.quote, t.tab) refl
swap_step st.StartField c = let t = swapped c in rw (t.quote, t.tab, t.return, t.feed) refl
swap_step st.InField c = let t = swapped c in rw (t.tab, t.return, t.feed) refl
swap_step st.InQuoted c = let t = swapped c in rw t.quote refl
swap_step st.InEscape c = refl
swap_step st.AfterQuote c = let t = swapped c in rw (t.quote, t.tab, t.return, t.feed) refl
swap_step st.InComment c = let t = swapped c in rw t.feed refl
swap_step st.AfterCr c = let t = swapped c in rw (t.feed, t.return, t.quote, t.tab) refl

-- a record that was read, exchanged
abbrev swap_read : Read → Read
swap_read p = (swap_fields p.0, p.1, swap_bytes p.2)

-- a record with these fields
abbrev read_as : State → List ℕ → FieldList → Option Read
read_as s rest fields = Some (fields, s, rest)

-- a field more
one_field_more : (fields : FieldList) (field : List ℕ) → swap_fields fields ++ swap_bytes field ∷ [] ≡ swap_fields (fields ++ field ∷ [])
one_field_more fields field = sym (map-append swap_bytes fields (field ∷ []))

-- a byte more
one_byte_more : (field : List ℕ) (c : ℕ) → swap_bytes field ++ swap c ∷ [] ≡ swap_bytes (field ++ c ∷ [])
one_byte_more field c = sym (map-append swap field (c ∷ []))

-- the end of the text
swap_end : (ends : Bool) (fields : FieldList) (field : List ℕ)
    → cond ends (Some (swap_fields fields ++ swap_bytes field ∷ [], st.StartRecord, [])) None
    ≡ option_map swap_read (cond ends (Some (fields ++ field ∷ [], st.StartRecord, [])) None)
swap_end true fields field = ap (read_as st.StartRecord []) (one_field_more fields field)
swap_end false fields field = refl

-- what the same step makes of both texts
abbrev NextSwaps : List ℕ → Type 0
NextSwaps rest = (s : State) (fields : FieldList) (field : List ℕ) → next_record tabbed s (swap_fields fields) (swap_bytes field) (swap_bytes rest)
    ≡ option_map swap_read (next_record default_config s fields field rest)

-- what one action makes of both texts
swap_act : (s : State) (a : Action) (fields : FieldList) (field : List ℕ) (c : ℕ) (rest : List ℕ) → NextSwaps rest
    → cond (is_end a) (Some (fields_after a (swap_fields fields) (swap_bytes field), s, swap_bytes rest))
    (next_record tabbed s (fields_after a (swap_fields fields) (swap_bytes field)) (field_after a (swap c) (swap_bytes field)) (swap_bytes rest))
    ≡ option_map swap_read (cond (is_end a) (Some (fields_after a fields field, s, rest))
    (next_record default_config s (fields_after a fields field) (field_after a c field) rest))
swap_act s act.EndRecord fields field c rest next = ap (read_as s (swap_bytes rest)) (one_field_more fields field)
swap_act s act.Skip fields field c rest next = next s fields field
swap_act s act.Copy fields field c rest next =
    ap (λ (f : List ℕ). next_record tabbed s (swap_fields fields) f (swap_bytes rest)) (one_byte_more field c) ∙ next s fields (field ++ c ∷ [])
swap_act s act.EndField fields field c rest next =
    ap (λ (fs : FieldList). next_record tabbed s fs [] (swap_bytes rest)) (one_field_more fields field) ∙ next s (fields ++ field ∷ []) []

-- the next record of the exchanged text is the exchanged record
swap_next : (text : List ℕ) → NextSwaps text
unfolding next_record
swap_next [] s fields field = swap_end (ends_at_end s) fields field
swap_next (c ∷ rest) s fields field =
    rw (swap_step s c) (swap_act (step default_config s c).0 (step default_config s c).1 fields field c rest (swap_next rest))

-- the text of a record
swap_needs : (b : ℕ) → needs_byte tab_writer (swap b) ≡ needs_byte default_writer b
swap_needs b = let t = swapped b in rw (t.tab, t.quote, t.return, t.feed) refl

-- a field needs quotes if the exchanged field does
swap_any : (bytes : List ℕ) → list_any (needs_byte tab_writer) (swap_bytes bytes) ≡ list_any (needs_byte default_writer) bytes
swap_any [] = refl
swap_any (b ∷ bytes) = ap₂ (λ (x y : Bool). x || y) (swap_needs b) (swap_any bytes)

-- a byte between quotes
escaped_by : (quote : Bool) (b : ℕ) (one other : List ℕ) → one ≡ swap_bytes other
    → cond quote (34 ∷ swap b ∷ one) (swap b ∷ one) ≡ swap_bytes (cond quote (34 ∷ b ∷ other) (b ∷ other))
escaped_by true b one other e = rw (quote_stays, e) refl
escaped_by false b one other e = rw e refl

-- the bytes of a field between its quotes
swap_escaped : (bytes : List ℕ) → escaped tab_writer (swap_bytes bytes) ≡ swap_bytes (escaped default_writer bytes)
unfolding escaped
swap_escaped [] = refl
swap_escaped (b ∷ bytes) =
    let t = swapped b in
    rw t.quote (escaped_by (b == 34) b (escaped tab_writer (swap_bytes bytes)) (escaped default_writer bytes) (swap_escaped bytes))

-- a field with quotes or without
quoted_by : (needs : Bool) (bytes : List ℕ) → cond needs (34 ∷ (escaped tab_writer (swap_bytes bytes) ++ 34 ∷ [])) (swap_bytes bytes)
    ≡ swap_bytes (cond needs (34 ∷ (escaped default_writer bytes ++ 34 ∷ [])) bytes)
quoted_by true bytes = rw (map-append swap (escaped default_writer bytes) (34 ∷ []), quote_stays, swap_escaped bytes) refl
quoted_by false bytes = refl

-- the text of a field
swap_field_text : (field : List ℕ) → field_text tab_writer (swap_bytes field) ≡ swap_bytes (field_text default_writer field)
swap_field_text field = rw (swap_any field) (quoted_by (list_any (needs_byte default_writer) field) field)

-- the texts of further fields
swap_fields_text : (fields : FieldList) → fields_text tab_writer (swap_fields fields) ≡ swap_bytes (fields_text default_writer fields)
unfolding fields_text
swap_fields_text [] = refl
swap_fields_text (field ∷ fields) =
    rw (map-append swap (field_text default_writer field) (fields_text default_writer fields), comma_goes, swap_field_text field, swap_fields_text fields) refl

-- the text of a record of two fields or more
swap_row : (x y : List ℕ) (ys : FieldList) → row_text tab_writer (swap_fields (x ∷ y ∷ ys)) ≡ swap_bytes (row_text default_writer (x ∷ y ∷ ys))
unfolding is_blank
swap_row x y ys =
    let front = field_text default_writer x in
    let others = fields_text default_writer (y ∷ ys) in
    ap₂ (λ (a b : List ℕ). (a ++ b) ++ 10 ∷ []) (swap_field_text x) (swap_fields_text (y ∷ ys))
    ∙ ap₂ (λ (a b : List ℕ). a ++ b) (sym (map-append swap front others)) (ap (λ (b : ℕ). b ∷ []) (sym feed_stays))
    ∙ sym (map-append swap (front ++ others) (10 ∷ []))

-- a record of two fields or more is read as it was written, whatever follows it
pub record_again : (x y : List ℕ) (ys : FieldList) (tail : List ℕ)
    → next_record tabbed st.StartRecord [] [] (record_text (x ∷ y ∷ ys) ++ tail) ≡ Some (x ∷ y ∷ ys, st.StartRecord, tail)
record_again x y ys tail =
    let fields = x ∷ y ∷ ys in
    let other : List ℕ = row_text default_writer (swap_fields fields) in
    let text : record_text fields ++ tail ≡ swap_bytes (other ++ swap_bytes tail) =
    ap₂ (λ (fs : FieldList) (t : List ℕ). record_text fs ++ t) (sym (fields_back fields)) (sym (bytes_back tail))
    ∙ ap (λ (t : List ℕ). t ++ swap_bytes (swap_bytes tail)) (swap_row (swap_bytes x) (swap_bytes y) (swap_fields ys))
    ∙ sym (map-append swap other (swap_bytes tail)) in
    ap (λ (t : List ℕ). next_record tabbed st.StartRecord [] [] t) text
    ∙ swap_next (other ++ swap_bytes tail) st.StartRecord [] []
    ∙ ap (λ (o : Option Read). option_map swap_read o) (read-write-many (swap_bytes x) (swap_bytes y) (swap_fields ys) (swap_bytes tail))
    ∙ ap₂ (λ (fs : FieldList) (t : List ℕ). read_as st.StartRecord t fs) (fields_back fields) (bytes_back tail)

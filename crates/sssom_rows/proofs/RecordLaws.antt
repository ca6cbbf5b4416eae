-- The records of a text between tabs: that a text has one list of them, with no more records than bytes.
use Rattle.std.proofs.Common.{Bor, ◌≡◌, ◌≤◌, ◌⊎◌, ℕ, suc, ◌+◌, Bool, true, false, List, [], ◌∷◌, ◌++◌, length, Option, Some, None, refl, ap, subst, ◌∙◌, inl, inr, arith}
use Rattle.std.specs.Prelude.{◌==◌, ◌&&◌, ◌||◌, cond}
use Rattle.std.proofs.lemmas.Bool.{cases_Bool}
use Rattle.csv.specs.Machine.{Read, next_record, step, in_field, start_field, start_record, is_end, ends_at_end, fields_after, field_after}
use Rattle.csv.specs.Reading.{AreRecords, Reached, ReadRecord, source_of, strip_bom}
use Rattle.csv.specs.declared.parser.State.{State}
use Rattle.csv.specs.declared.parser.State.TheVariants as st
use Rattle.csv.specs.declared.parser.Action.{Action}
use Rattle.csv.specs.declared.reader.Reader.{Reader}
use Rattle.csv.proofs.ReadFacts.{rows-end, rows-more}
use Rattle.sssom_rows.specs.Records.{FieldList, tabbed, AreTabbed}

-- the bytes that a reader of bytes in memory has not yet read
abbrev pub unread : Bor (List ℕ) → Option (List ℕ)
unread bytes = Some bytes.now

-- a reader has read these records of a text, and the rest is to come
pub record HasRead (text : List ℕ) (reader : Reader (Bor (List ℕ))) (records : List FieldList) : Type 0 where
  pub tabs : reader.config ≡ tabbed
  pub rest : List ℕ
  pub source : source_of unread reader ≡ Some rest
  pub reached : Reached tabbed st.StartRecord text records reader.state rest

-- it reads one more
pub has_read_more : (text : List ℕ) (old new : Reader (Bor (List ℕ))) (records : List FieldList) (fields : FieldList)
    → HasRead text old records → ReadRecord unread old new true fields → HasRead text new (records ++ fields ∷ [])
has_read_more text old new records fields so_far read =
    let next = rows-more unread old new fields tabbed st.StartRecord text so_far.rest records so_far.tabs so_far.source so_far.reached read in
    record { tabs = read.2 ∙ so_far.tabs; rest = next.0; source = next.1; reached = next.2 }

-- or has read all
pub has_read_all : (text : List ℕ) (old new : Reader (Bor (List ℕ))) (records : List FieldList)
    → HasRead text old records → ReadRecord unread old new false [] → AreRecords tabbed st.StartRecord text records
has_read_all text old new records so_far read =
    (old.state, so_far.rest, so_far.reached, rows-end unread old new [] tabbed so_far.rest so_far.tabs so_far.source read)

-- a byte order mark at the front is not longer than the text
pub unmarked_is_short : (text : List ℕ) → length (strip_bom text) ≤ length text
unfolding strip_bom
unmarked_is_short [] = omega arith
unmarked_is_short (a ∷ []) = omega arith
unmarked_is_short (a ∷ b ∷ []) = omega arith
unmarked_is_short (a ∷ b ∷ c ∷ rest) = elim (cases_Bool ((a == 239) && (b == 187) && (c == 191))) [
  | inl mark ↦ rw mark (omega arith)
  | inr other ↦ rw other (omega arith)
]

-- a step that ends a record leads to where none is under way
abbrev pub EndsOut : State × Action → Type 0
EndsOut to = is_end to.1 ≡ true → ends_at_end to.0 ≡ false

out_by : (b : Bool) (x y : State × Action) → EndsOut x → EndsOut y → EndsOut (cond b x y)
out_by true x y one other = one
out_by false x y one other = other

after_out : (b : Bool) → ends_at_end (cond b st.AfterCr st.StartRecord) ≡ false
after_out true = refl
after_out false = refl

field_out : (c : ℕ) → EndsOut (in_field tabbed c)
field_out c = out_by (c == 9) _ _ (λ e. absurd (cc e)) (out_by ((c == 13) || (c == 10)) _ _ (λ e. after_out (c == 13)) (λ e. absurd (cc e)))

start_out : (c : ℕ) → EndsOut (start_field tabbed c)
start_out c = out_by (c == 34) _ _ (λ e. absurd (cc e)) (field_out c)

record_out : (c : ℕ) → EndsOut (start_record tabbed c)
record_out c = out_by ((c == 13) || (c == 10)) _ _ (λ e. absurd (cc e)) (start_out c)

step_out : (s : State) (c : ℕ) → EndsOut (step tabbed s c)
step_out st.StartRecord c = record_out c
step_out st.StartField c = start_out c
step_out st.InField c = field_out c
step_out st.InQuoted c = out_by (c == 34) _ _ (λ e. absurd (cc e)) (λ e. absurd (cc e))
step_out st.AfterQuote c = out_by (c == 34) _ _ (λ e. absurd (cc e)) (field_out c)
step_out st.InEscape c = λ e. absurd (cc e)
step_out st.InComment c = out_by (c == 10) _ _ (λ e. absurd (cc e)) (λ e. absurd (cc e))
step_out st.AfterCr c = out_by (c == 10) _ _ (λ e. absurd (cc e)) (record_out c)

-- a record that is read takes a byte, or ends one that was under way, and no record is under way after it
pub record IsNext (s : State) (text : List ℕ) (p : Read) : Type 0 where
  pub shorter : length p.2 + cond (ends_at_end s) 0 1 ≤ length text
  pub out : ends_at_end p.1 ≡ false

pub some_is : (p q : Read) → Some p ≡ Some q → p ≡ q
some_is p q e = cc e

-- which way a test went
chosen : (b : Bool) (x y z : Option Read) → cond b x y ≡ z → ((b ≡ true) × (x ≡ z)) ⊎ ((b ≡ false) × (y ≡ z))
chosen true x y z e = inl (refl, e)
chosen false x y z e = inr (refl, e)

next_end : (s : State) (fields : FieldList) (field : List ℕ) (p : Read) (b : Bool) → ends_at_end s ≡ b
    → cond b (Some (fields ++ field ∷ [], st.StartRecord, [])) None ≡ Some p → IsNext s [] p
next_end s fields field p true is e =
    subst (λ (q : Read). IsNext s [] q) (some_is _ _ e) (record { shorter = rw is (omega arith); out = refl })
next_end s fields field p false is e = absurd (cc e)

at_most_one : (s : State) (n : ℕ) → n + cond (ends_at_end s) 0 1 ≤ suc n
at_most_one s n = elim (cases_Bool (ends_at_end s)) [ inl under ↦ rw under (omega arith) | inr over ↦ rw over (omega arith) ]

one_more : (s to : State) (m n : ℕ) → m + cond (ends_at_end to) 0 1 ≤ n → m + cond (ends_at_end s) 0 1 ≤ suc n
one_more s to m n h = elim (cases_Bool (ends_at_end s)) [ inl under ↦ rw under (omega (arith, h)) | inr over ↦ rw over (omega (arith, h)) ]

one_and_others : (b : Bool) (m n others rest : ℕ) → b ≡ false → m + cond b 0 1 ≤ n → others + rest ≤ m → suc others + rest ≤ n
one_and_others b m n others rest out one h = omega (arith, rw out at one, h)

pub next_is : (s : State) (fields : FieldList) (field text : List ℕ) (p : Read) → next_record tabbed s fields field text ≡ Some p → IsNext s text p
unfolding next_record
next_is s fields field [] p e = next_end s fields field p (ends_at_end s) refl e
next_is s fields field (c ∷ rest) p e =
    let to = step tabbed s c in
    elim (chosen (is_end to.1) _ _ _ e) [
      | inl ended ↦ subst (λ (q : Read). IsNext s (c ∷ rest) q) (some_is _ _ ended.1) (record { shorter = at_most_one s (length rest); out = step_out s c ended.0 })
      | inr more ↦
          let later = next_is to.0 (fields_after to.1 fields field) (field_after to.1 c field) rest p more.1 in
          record { shorter = one_more s to.0 (length p.2) (length rest) later.shorter; out = later.out }
    ]

-- the records of a text that begins between records, and the bytes that are left, are no more than its bytes
pub records_are_few : (s to : State) (text rest : List ℕ) (records : List FieldList) → Reached tabbed s text records to rest → ends_at_end s ≡ false
    → length records + length rest ≤ length text
unfolding Reached
records_are_few s to text rest [] reached out = omega (arith, ap length reached.1)
records_are_few s to text rest (fields ∷ records) (p, next, is, more) out =
    let one = next_is s [] [] text p next in
    let others = records_are_few p.1 to p.2 rest records more one.out in
    one_and_others (ends_at_end s) (length p.2) (length text) (length records) (length rest) out one.shorter others

pub tabbed_are_few : (text : List ℕ) (records : List FieldList) → AreTabbed text records → length records ≤ length text
tabbed_are_few text records (to, rest, reached, last) =
    let few = records_are_few st.StartRecord to (strip_bom text) rest records reached refl in
    omega (arith, few, unmarked_is_short text)

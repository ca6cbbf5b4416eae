-- A text has one list of records.
use Rattle.std.proofs.Common.{◌≡◌, ◌≤◌, ℕ, zero, suc, ◌+◌, Bool, true, false, List, [], ◌∷◌, length, Option, Some, None, refl, sym, ap, ap₂, subst, ◌∙◌, arith, cond}
use Rattle.csv.specs.Machine.{Read, next_record, ends_at_end}
use Rattle.csv.specs.Reading.{AreRecords, Reached, strip_bom}
use Rattle.csv.specs.declared.parser.State.{State}
use Rattle.csv.specs.declared.parser.State.TheVariants as st
use Rattle.sssom_rows.specs.Records.{FieldList, tabbed, AreTabbed}
use Rattle.sssom_rows.proofs.RecordLaws.{some_is, next_is}

-- no record follows where the text is the rest
none_at : (s to : State) (text rest : List ℕ) → s ≡ to → text ≡ rest → next_record tabbed to [] [] rest ≡ None → next_record tabbed s [] [] text ≡ None
none_at s to text rest same left none = ap₂ (λ (u : State) (t : List ℕ). next_record tabbed u [] [] t) same left ∙ none

conflict : (o : Option Read) (p : Read) → o ≡ None → o ≡ Some p → ⊥
conflict o p none some = cc (sym none ∙ some)

records_once : (s : State) (text : List ℕ) (one other : List FieldList) → AreRecords tabbed s text one → AreRecords tabbed s text other → one ≡ other
unfolding Reached
records_once s text [] [] a b = refl
records_once s text [] (fields ∷ records) (to, rest, at, none) (to2, rest2, (p, next, is, more), last) =
    absurd (conflict _ p (none_at s to text rest at.0 at.1 none) next)
records_once s text (fields ∷ records) [] (to, rest, (p, next, is, more), last) (to2, rest2, at, none) =
    absurd (conflict _ p (none_at s to2 text rest2 at.0 at.1 none) next)
records_once s text (fields ∷ records) (others ∷ more_records) (to, rest, (p, next, is, more), last) (to2, rest2, (q, next2, is2, more2), last2) =
    let same : q ≡ p = some_is q p (sym next2 ∙ next) in
    let after = subst (λ (r : Read). AreRecords tabbed r.1 r.2 more_records) same (to2, rest2, more2, last2) in
    ap₂ (λ (f : FieldList) (fs : List FieldList). f ∷ fs) (is ∙ sym (is2 ∙ ap (λ (r : Read). r.0) same))
    (records_once p.1 p.2 records more_records (to, rest, more, last) after)

pub tabbed_once : (text : List ℕ) (one other : List FieldList) → AreTabbed text one → AreTabbed text other → one ≡ other
tabbed_once text one other a b = records_once st.StartRecord (strip_bom text) one other a b

abbrev HasRecords : State → List ℕ → Type 0
HasRecords s text = (records : List FieldList) × AreRecords tabbed s text records

fits : (under after : Bool) (m k n : ℕ) → after ≡ false → m + cond under 0 1 ≤ k → k + cond under 1 0 ≤ suc n → m + cond after 1 0 ≤ n
fits true after m k n out one few = rw out (omega (arith, one, few))
fits false after m k n out one few = rw out (omega (arith, one, few))

over : (under : Bool) (m k : ℕ) → m + cond under 0 1 ≤ k → k + cond under 1 0 ≤ 0 → ⊥
over true m k one few = omega (arith, one, few)
over false m k one few = omega (arith, one, few)

-- the records of a text that is no longer than this
none_more : (s : State) (text : List ℕ) (o : Option Read) → next_record tabbed s [] [] text ≡ o → length text + cond (ends_at_end s) 1 0 ≤ 0 → HasRecords s text
unfolding Reached
none_more s text None next few = ([], (s, text, (refl, refl), next))
none_more s text (Some p) next few = let one = next_is s [] [] text p next in absurd (over (ends_at_end s) (length p.2) (length text) one.shorter few)

one_more_at : (n : ℕ) → ((s : State) (text : List ℕ) → length text + cond (ends_at_end s) 1 0 ≤ n → HasRecords s text)
    → (s : State) (text : List ℕ) (o : Option Read) → next_record tabbed s [] [] text ≡ o → length text + cond (ends_at_end s) 1 0 ≤ suc n → HasRecords s text
unfolding Reached
one_more_at n later s text None next few = ([], (s, text, (refl, refl), next))
one_more_at n later s text (Some p) next few =
    let one = next_is s [] [] text p next in
    let rest = later p.1 p.2 (fits (ends_at_end s) (ends_at_end p.1) (length p.2) (length text) n one.out one.shorter few) in
    (p.0 ∷ rest.0, (rest.1.0, rest.1.1, (p, next, refl, rest.1.2), rest.1.3))

records_within : (n : ℕ) (s : State) (text : List ℕ) → length text + cond (ends_at_end s) 1 0 ≤ n → HasRecords s text
records_within zero s text few = none_more s text (next_record tabbed s [] [] text) refl few
records_within (suc n) s text few = one_more_at n (records_within n) s text (next_record tabbed s [] [] text) refl few

pub tabbed_exist : (text : List ℕ) → (records : List FieldList) × AreTabbed text records
tabbed_exist text = records_within (length (strip_bom text)) st.StartRecord (strip_bom text) (omega arith)

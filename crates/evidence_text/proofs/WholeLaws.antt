-- Whole evidence is read as what it spells, and as nothing else.
use Rattle.std.proofs.Common.{◌≡◌, ℕ, zero, suc, ◌+◌, ◌^◌, ◌<◌, true, List, [], ◌∷◌, ◌++◌, length, map, Option, Some, None, Ok, refl, sym, ap, subst, ◌∙◌, append_assoc}
use Rattle.std.specs.Prelude.{⊤}
use Rattle.std.specs.List.{AllByRecursion, flat_map}
use Rattle.std.proofs.lemmas.List.Concat.{flat_map-cons}
use Rattle.derivation.specs.declared.types.Step.{Step}
use Rattle.line_fields.specs.Lines.{Fields}
use Rattle.line_fields.specs.Reading.{At}
use Rattle.evidence_lines.specs.LineLaw.{AreLinesOf}
use Rattle.evidence_lines.specs.Steps.{step_fields, HasStepLine, AreStepNumbers}
use Rattle.evidence_lines.specs.StepReading.{step_of}
use Rattle.evidence_text.specs.declared.types.EvidenceFault.TheVariants.{Length}
use Rattle.evidence_text.specs.declared.types.Removed.{Removed}
use Rattle.evidence_text.specs.EvidenceText.{removed_lines, lines_from, HaveLinesFrom, AreRemovedNumbers}
use Rattle.evidence_lines.specs.FirstLines.{row_fields, row_of}
use Rattle.evidence_lines.specs.Model.{number_follows}
use Rattle.evidence_text.specs.Reading.{◌>>=◌, next_line, entries, any_order, rows, run_on, run_of, before_rest}
use Rattle.evidence_text.proofs.SectionLaws.{bound, ok_is, next_is, Again, next_again, entries_back, entries_again, FitsAny, any_form, any_fit, any_parts}

-- ---- removed rows

-- a row that may follow one with this number, with its steps
pub record FitsRow (before : Option ℕ) (r : Removed) : Type 0 where
  pub follows : number_follows before r.row ≡ true
  pub has : AllByRecursion HasStepLine r.steps
  pub numbers : AreRemovedNumbers r

abbrev pub RowsFit : Option ℕ → List Removed → Type 0
RowsFit before [] = ⊤
RowsFit before (r ∷ rs) = FitsRow before r × RowsFit (Some r.row) rs

abbrev pub RowLaw : Type 0
RowLaw = (before : Option ℕ) → AreLinesOf (row_of before) (λ r. row_fields r.0 r.1) (λ r. number_follows before r.0 ≡ true) (λ r. (r.0 < 2 ^ 32) × (r.1 < 2 ^ 64))

abbrev pub StepLaw : Type 0
StepLaw = AreLinesOf step_of step_fields HasStepLine AreStepNumbers

pub record AreRows (before : Option ℕ) (count : ℕ) (lines : List Fields) (found : List Removed × At) : Type 0 where
  pub count_is : length found.0 ≡ count
  pub whole : lines ≡ flat_map removed_lines found.0 ++ found.1.lines
  pub fit : RowsFit before found.0

pub rows_back : RowLaw → StepLaw → (first count : ℕ) (before : Option ℕ) (at : At) (found : List Removed × At) → rows first count before at ≡ Ok found → AreRows before count at.lines found
unfolding rows
rows_back law steps first zero before at found e =
    let same = ok_is ([], at) found e in
    subst (λ f. AreRows before 0 at.lines f) same (record { count_is = refl; whole = refl; fit = tt })
rows_back law steps first (suc count) before at found e =
    let made = λ (row steps : ℕ) (list : List Step). let r : Removed = record { row = row; steps = list } in r in
    let h = bound (next_line (row_of before) (Length first) at) (λ row. entries (any_order step_of) first row.0.1 None row.1 >>= λ list. rows first count (Some row.0.0) list.1 >>= λ more. Ok (record { row = row.0.0; steps = list.0 } ∷ more.0, more.1)) found e in
    let s = bound (entries (any_order step_of) first h.found.0.1 None h.found.1) (λ list. rows first count (Some h.found.0.0) list.1 >>= λ more. Ok (record { row = h.found.0.0; steps = list.0 } ∷ more.0, more.1)) found h.later in
    let m = bound (rows first count (Some h.found.0.0) s.found.1) (λ more. Ok (record { row = h.found.0.0; steps = s.found.0 } ∷ more.0, more.1)) found s.later in
    let next = next_is (row_of before) (Length first) at h.found h.is in
    let head = (law before).back next.fields h.found.0 next.is in
    let list = entries_back (any_order step_of) step_fields (FitsAny HasStepLine AreStepNumbers) (any_form step_of step_fields HasStepLine AreStepNumbers steps) first h.found.0.1 None h.found.1 s.found s.is in
    let later = rows_back law steps first count (Some h.found.0.0) s.found.1 m.found m.is in
    let parts = any_parts HasStepLine AreStepNumbers None s.found.0 list.fit in
    let r : Removed = record { row = h.found.0.0; steps = s.found.0 } in
    let same = ok_is (r ∷ m.found.0, m.found.1) found m.later in
    let own : at.lines ≡ removed_lines r ++ s.found.1.lines =
    next.lines ∙ ap (λ f. f ∷ h.found.1.lines) head.0 ∙ ap (λ k. row_fields h.found.0.0 k ∷ h.found.1.lines) (sym list.count_is)
    ∙ ap (λ l. row_fields r.row (length r.steps) ∷ l) list.whole in
    subst (λ f. AreRows before (suc count) at.lines f) same (record {
      count_is = ap suc later.count_is;
      whole = own ∙ ap (λ l. removed_lines r ++ l) later.whole ∙ sym (append_assoc (removed_lines r) (flat_map removed_lines m.found.0) m.found.1.lines)
          ∙ ap (λ l. l ++ m.found.1.lines) (sym (flat_map-cons removed_lines r m.found.0));
      fit = (record { follows = head.1; has = parts.0; numbers = record { row = head.2.0; count = rw list.count_is head.2.1; steps = parts.1 } }, later.fit);
    })

pub rows_again : RowLaw → StepLaw → (first : ℕ) (before : Option ℕ) (rs : List Removed) (read : ℕ) (rest : List Fields) → RowsFit before rs
    → Again (rows first (length rs) before (record { read = read; lines = flat_map removed_lines rs ++ rest })) rs rest
unfolding rows
rows_again law steps first before [] read rest fit = record { read = read; is = refl }
rows_again law steps first before (r ∷ rs) read rest fit =
    let others = flat_map removed_lines rs ++ rest in
    let regrouped : flat_map removed_lines (r ∷ rs) ++ rest ≡ removed_lines r ++ others =
    ap (λ l. l ++ rest) (flat_map-cons removed_lines r rs) ∙ append_assoc (removed_lines r) (flat_map removed_lines rs) rest in
    let head = next_again (row_of before) (Length first) read (row_fields r.row (length r.steps)) (map step_fields r.steps ++ others) (r.row, length r.steps)
    ((law before).again (r.row, length r.steps) fit.0.follows (fit.0.numbers.row, fit.0.numbers.count)) in
    let list = entries_again (any_order step_of) step_fields (FitsAny HasStepLine AreStepNumbers) (any_form step_of step_fields HasStepLine AreStepNumbers steps)
    first None r.steps (read + 1) others (any_fit HasStepLine AreStepNumbers None r.steps fit.0.has fit.0.numbers.steps) in
    let later = rows_again law steps first (Some r.row) rs list.read rest fit.1 in
    let start : List Fields → At = λ l. record { read = read; lines = l } in
    record {
      read = later.read;
      is = ap (λ l. rows first (suc (length rs)) before (start l)) regrouped
          ∙ ap (λ x. x >>= λ row. entries (any_order step_of) first row.0.1 None row.1 >>= λ list. rows first (length rs) (Some row.0.0) list.1 >>= λ more. Ok (record { row = row.0.0; steps = list.0 } ∷ more.0, more.1)) head
          ∙ ap (λ x. x >>= λ list. rows first (length rs) (Some r.row) list.1 >>= λ more. Ok (record { row = r.row; steps = list.0 } ∷ more.0, more.1)) list.is
          ∙ ap (λ x. x >>= λ more. Ok (r ∷ more.0, more.1)) later.is;
    }

-- ---- lines from a place on

pub record IsPlaceForm {X : Type 0} (form : ℕ → Fields → Option X) (spell : ℕ → X → Fields) (Fits : ℕ → X → Type 0) : Type 0 where
  pub back : (place : ℕ) (fields : Fields) (x : X) → form place fields ≡ Some x → (fields ≡ spell place x) × Fits place x
  pub again : (place : ℕ) (x : X) → Fits place x → form place (spell place x) ≡ Some x

pub record AreRun {X : Type 0} (spell : ℕ → X → Fields) (Fits : ℕ → X → Type 0) (place : ℕ) (lines : List Fields) (found : List X × At) : Type 0 where
  pub whole : lines ≡ lines_from spell place found.0 ++ found.1.lines
  pub fit : HaveLinesFrom Fits place found.0

run_more : {X : Type 0} → (form : ℕ → Fields → Option X) (spell : ℕ → X → Fields) (Fits : ℕ → X → Type 0) → IsPlaceForm form spell Fits
    → (place read : ℕ) (fields : Fields) (lines : List Fields) (rest : List X × At) (o : Option X) → form place fields ≡ o
    → AreRun spell Fits (place + 1) lines rest → AreRun spell Fits place (fields ∷ lines) (run_on o rest read (fields ∷ lines))
run_more form spell Fits law place read fields lines rest None is later = record { whole = refl; fit = tt }
run_more form spell Fits law place read fields lines rest (Some x) is later =
    let one = law.back place fields x is in
    record { whole = ap (λ f. f ∷ lines) one.0 ∙ ap (λ l. spell place x ∷ l) later.whole; fit = (one.1, later.fit) }

pub run_back : {X : Type 0} → (form : ℕ → Fields → Option X) (spell : ℕ → X → Fields) (Fits : ℕ → X → Type 0) → IsPlaceForm form spell Fits
    → (place read : ℕ) (lines : List Fields) → AreRun spell Fits place lines (run_of form place read lines)
run_back form spell Fits law place read [] = record { whole = refl; fit = tt }
run_back form spell Fits law place read (fields ∷ lines) =
    run_more form spell Fits law place read fields lines (run_of form (place + 1) (read + 1) lines) (form place fields) refl (run_back form spell Fits law (place + 1) (read + 1) lines)

-- the lines begin with none of a form
abbrev pub Stops : {X : Type 0} → (ℕ → Fields → Option X) → List Fields → Type 0
Stops form [] = ⊤
Stops form (fields ∷ lines) = (place : ℕ) → form place fields ≡ None

pub record RunAgain {X : Type 0} (found : List X × At) (xs : List X) (rest : List Fields) : Type 0 where
  pub read : ℕ
  pub is : found ≡ (xs, record { read = read; lines = rest })

pub run_again : {X : Type 0} → (form : ℕ → Fields → Option X) (spell : ℕ → X → Fields) (Fits : ℕ → X → Type 0) → IsPlaceForm form spell Fits
    → (place read : ℕ) (xs : List X) (rest : List Fields) → HaveLinesFrom Fits place xs → Stops form rest
    → RunAgain (run_of form place read (lines_from spell place xs ++ rest)) xs rest
run_again form spell Fits law place read [] [] fit stops = record { read = read; is = refl }
run_again form spell Fits law place read [] (fields ∷ rest) fit stops = record { read = read; is = rw (stops place) refl }
run_again form spell Fits law place read (x ∷ xs) rest fit stops =
    let later = run_again form spell Fits law (place + 1) (read + 1) xs rest fit.1 stops in
    record { read = later.read; is = rw (law.again place x fit.0) (ap (λ r. before_rest x r) later.is) }

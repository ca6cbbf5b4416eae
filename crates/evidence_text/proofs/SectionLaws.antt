-- Sections are read as what they spell, and as nothing else.
use Rattle.std.proofs.Common.{◌≡◌, ℕ, zero, suc, ◌+◌, ◌^◌, ◌<◌, true, List, [], ◌∷◌, ◌++◌, length, map, Option, Some, None, Result, Ok, Err, refl, sym, ap, subst, ◌∙◌}
use Rattle.std.specs.Prelude.{⊤}
use Rattle.std.specs.List.{AllByRecursion}
use Rattle.line_fields.specs.Lines.{Fields, IsLine}
use Rattle.line_fields.specs.Reading.{At}
use Rattle.evidence_lines.specs.LineLaw.{AreLinesOf}
use Rattle.evidence_text.specs.declared.types.EvidenceFault.{EvidenceFault}
use Rattle.evidence_text.specs.declared.types.EvidenceFault.TheVariants.{Length}
use Rattle.evidence_text.specs.EvidenceText.{section_lines}
use Rattle.evidence_lines.specs.FirstLines.{numbered, count_of, is_plain}
use Rattle.evidence_text.specs.Reading.{Read, ◌>>=◌, of_form, line_by, next_line, first_line, entries, section, any_order}

-- what is known of the first lines of sections
abbrev pub CountLaw : Type 0
CountLaw = (word : List ℕ) → is_plain word ≡ true → AreLinesOf (count_of word) (numbered word) (λ n. ⊤) (λ n. n < 2 ^ 64)

-- what a step gave, and what was made of it
pub record Bound {A B : Type 0} (r : Result A EvidenceFault) (next : A → Result B EvidenceFault) (b : B) : Type 0 where
  pub found : A
  pub is : r ≡ Ok found
  pub later : next found ≡ Ok b

pub bound : {A B : Type 0} → (r : Result A EvidenceFault) (next : A → Result B EvidenceFault) (b : B) → (r >>= next) ≡ Ok b → Bound r next b
bound (Ok a) next b e = record { found = a; is = refl; later = e }
bound (Err fault) next b e = absurd cc

pub ok_is : {A : Type 0} → (x y : A) → let good : A → Result A EvidenceFault = λ a. Ok a in good x ≡ good y → x ≡ y
ok_is x y e = cc

-- a line that is read, and the place after it
pub record IsNext {X : Type 0} (form : Fields → Option X) (at : At) (found : X × At) : Type 0 where
  pub fields : Fields
  pub is : form fields ≡ Some found.0
  pub lines : at.lines ≡ fields ∷ found.1.lines

of_form_is : {X : Type 0} → (form : Fields → Option X) (read : ℕ) (fields : Fields) (lines : List Fields) (o : Option X) (found : X × At)
    → form fields ≡ o → of_form o read lines ≡ Ok found → IsNext form (record { read = read; lines = fields ∷ lines }) found
of_form_is form read fields lines None found is e = absurd cc
of_form_is form read fields lines (Some x) found is e =
    let at : At = record { read = read + 1; lines = lines } in
    let same = ok_is (x, at) found e in
    record { fields = fields; is = is ∙ ap (λ p. Some p.0) same; lines = ap (λ p. fields ∷ p.1.lines) same }

pub next_is : {X : Type 0} → (form : Fields → Option X) (missing : EvidenceFault) (at : At) (found : X × At) → next_line form missing at ≡ Ok found → IsNext form at found
next_is form missing at found e = by at.read at.lines e
  where
    by : (read : ℕ) (lines : List Fields) → line_by form missing read lines ≡ Ok found → IsNext form (record { read = read; lines = lines }) found
    by read [] e = absurd cc
    by read (fields ∷ lines) e = of_form_is form read fields lines (form fields) found refl e

-- what is read, with some number of lines read before the rest
pub record Again {X : Type 0} (r : Read X) (x : X) (rest : List Fields) : Type 0 where
  pub read : ℕ
  pub is : r ≡ Ok (x, record { read = read; lines = rest })

pub next_again : {X : Type 0} → (form : Fields → Option X) (missing : EvidenceFault) (read : ℕ) (fields : Fields) (rest : List Fields) (x : X) → form fields ≡ Some x
    → next_line form missing (record { read = read; lines = fields ∷ rest }) ≡ Ok (x, record { read = read + 1; lines = rest })
next_again form missing read fields rest x is = ap (λ o. of_form o read rest) is

-- ---- entries

-- a form, that may depend on the entry before, reads what is spelled and nothing else
pub record IsForm {X : Type 0} (form : Option X → Fields → Option X) (spell : X → Fields) (Fits : Option X → X → Type 0) : Type 0 where
  pub back : (before : Option X) (fields : Fields) (x : X) → form before fields ≡ Some x → (fields ≡ spell x) × Fits before x
  pub again : (before : Option X) (x : X) → Fits before x → form before (spell x) ≡ Some x
  pub line : (before : Option X) (x : X) → Fits before x → IsLine (spell x)

abbrev pub AllFit : {X : Type 0} → (Option X → X → Type 0) → Option X → List X → Type 0
AllFit Fits before [] = ⊤
AllFit Fits before (x ∷ xs) = Fits before x × AllFit Fits (Some x) xs

pub record AreEntries {X : Type 0} (spell : X → Fields) (Fits : Option X → X → Type 0) (before : Option X) (count : ℕ) (lines : List Fields) (found : List X × At) : Type 0 where
  pub count_is : length found.0 ≡ count
  pub whole : lines ≡ map spell found.0 ++ found.1.lines
  pub fit : AllFit Fits before found.0

pub entries_back : {X : Type 0} → (form : Option X → Fields → Option X) (spell : X → Fields) (Fits : Option X → X → Type 0) → IsForm form spell Fits
    → (first count : ℕ) (before : Option X) (at : At) (found : List X × At) → entries form first count before at ≡ Ok found → AreEntries spell Fits before count at.lines found
unfolding entries
entries_back form spell Fits law first zero before at found e =
    let same = ok_is ([], at) found e in
    subst (λ f. AreEntries spell Fits before 0 at.lines f) same (record { count_is = refl; whole = refl; fit = tt })
entries_back form spell Fits law first (suc count) before at found e =
    let x = bound (next_line (form before) (Length first) at) (λ x. entries form first count (Some x.0) x.1 >>= λ xs. Ok (x.0 ∷ xs.0, xs.1)) found e in
    let xs = bound (entries form first count (Some x.found.0) x.found.1) (λ xs. Ok (x.found.0 ∷ xs.0, xs.1)) found x.later in
    let next = next_is (form before) (Length first) at x.found x.is in
    let one = law.back before next.fields x.found.0 next.is in
    let later = entries_back form spell Fits law first count (Some x.found.0) x.found.1 xs.found xs.is in
    let same = ok_is (x.found.0 ∷ xs.found.0, xs.found.1) found xs.later in
    subst (λ f. AreEntries spell Fits before (suc count) at.lines f) same (record {
      count_is = ap suc later.count_is;
      whole = next.lines ∙ ap (λ f. f ∷ x.found.1.lines) one.0 ∙ ap (λ l. spell x.found.0 ∷ l) later.whole;
      fit = (one.1, later.fit);
    })

pub entries_again : {X : Type 0} → (form : Option X → Fields → Option X) (spell : X → Fields) (Fits : Option X → X → Type 0) → IsForm form spell Fits
    → (first : ℕ) (before : Option X) (xs : List X) (read : ℕ) (rest : List Fields) → AllFit Fits before xs
    → Again (entries form first (length xs) before (record { read = read; lines = map spell xs ++ rest })) xs rest
unfolding entries
entries_again form spell Fits law first before [] read rest fit = record { read = read; is = refl }
entries_again form spell Fits law first before (x ∷ xs) read rest fit =
    let one = next_again (form before) (Length first) read (spell x) (map spell xs ++ rest) x (law.again before x fit.0) in
    let later = entries_again form spell Fits law first (Some x) xs (read + 1) rest fit.1 in
    record {
      read = later.read;
      is = ap (λ r. r >>= λ x. entries form first (length xs) (Some x.0) x.1 >>= λ xs. Ok (x.0 ∷ xs.0, xs.1)) one ∙ ap (λ r. r >>= λ xs. Ok (x ∷ xs.0, xs.1)) later.is;
    }

pub entries_line : {X : Type 0} → (form : Option X → Fields → Option X) (spell : X → Fields) (Fits : Option X → X → Type 0) → IsForm form spell Fits
    → (before : Option X) (xs : List X) → AllFit Fits before xs → AllByRecursion IsLine (map spell xs)
entries_line form spell Fits law before [] fit = tt
entries_line form spell Fits law before (x ∷ xs) fit = (law.line before x fit.0, entries_line form spell Fits law (Some x) xs fit.1)

-- ---- sections

pub record IsSection {X : Type 0} (word : List ℕ) (spell : X → Fields) (Fits : Option X → X → Type 0) (lines : List Fields) (found : List X × At) : Type 0 where
  pub whole : lines ≡ section_lines word spell found.0 ++ found.1.lines
  pub count : length found.0 < 2 ^ 64
  pub fit : AllFit Fits None found.0

pub section_back : CountLaw → {X : Type 0} → (form : Option X → Fields → Option X) (spell : X → Fields) (Fits : Option X → X → Type 0) → IsForm form spell Fits
    → (word : List ℕ) → is_plain word ≡ true → (at : At) (found : List X × At) → section word form at ≡ Ok found → IsSection word spell Fits at.lines found
unfolding section
section_back law form spell Fits forms word plain at found e =
    let n = bound (first_line (count_of word) at) (λ n. entries form (at.read + 1) n.0 None n.1) found e in
    let next = next_is (count_of word) (Length at.read) at n.found n.is in
    let count = (law word plain).back next.fields n.found.0 next.is in
    let list = entries_back form spell Fits forms (at.read + 1) n.found.0 None n.found.1 found n.later in
    record {
      whole = next.lines ∙ ap (λ f. f ∷ n.found.1.lines) count.0 ∙ ap (λ k. numbered word k ∷ n.found.1.lines) (sym list.count_is) ∙ ap (λ l. numbered word (length found.0) ∷ l) list.whole;
      count = rw list.count_is count.2;
      fit = list.fit;
    }

pub section_again : CountLaw → {X : Type 0} → (form : Option X → Fields → Option X) (spell : X → Fields) (Fits : Option X → X → Type 0) → IsForm form spell Fits
    → (word : List ℕ) → is_plain word ≡ true → (xs : List X) (read : ℕ) (rest : List Fields) → length xs < 2 ^ 64 → AllFit Fits None xs
    → Again (section word form (record { read = read; lines = section_lines word spell xs ++ rest })) xs rest
unfolding section
section_again law form spell Fits forms word plain xs read rest below fit =
    let one = next_again (count_of word) (Length read) read (numbered word (length xs)) (map spell xs ++ rest) (length xs) ((law word plain).again (length xs) tt below) in
    let later = entries_again form spell Fits forms (read + 1) None xs (read + 1) rest fit in
    record { read = later.read; is = ap (λ r. r >>= λ n. entries form (read + 1) n.0 None n.1) one ∙ later.is }

-- ---- forms that do not depend on the entry before

abbrev pub FitsAny : {X : Type 0} → (X → Type 0) → (X → Type 0) → Option X → X → Type 0
FitsAny HasLine IsValue before x = HasLine x × IsValue x

pub any_form : {X : Type 0} → (read : Fields → Option X) (spell : X → Fields) (HasLine IsValue : X → Type 0) → AreLinesOf read spell HasLine IsValue
    → IsForm (any_order read) spell (FitsAny HasLine IsValue)
any_form read spell HasLine IsValue law = record {
  back = λ before fields x e. let b = law.back fields x e in (b.0, (b.1, b.2));
  again = λ before x fits. law.again x fits.0 fits.1;
  line = λ before x fits. law.line x fits.0 fits.1;
}

pub any_fit : {X : Type 0} → (HasLine IsValue : X → Type 0) (before : Option X) (xs : List X) → AllByRecursion HasLine xs → AllByRecursion IsValue xs → AllFit (FitsAny HasLine IsValue) before xs
any_fit HasLine IsValue before [] has is = tt
any_fit HasLine IsValue before (x ∷ xs) has is = ((has.0, is.0), any_fit HasLine IsValue (Some x) xs has.1 is.1)

pub any_parts : {X : Type 0} → (HasLine IsValue : X → Type 0) (before : Option X) (xs : List X) → AllFit (FitsAny HasLine IsValue) before xs → AllByRecursion HasLine xs × AllByRecursion IsValue xs
any_parts HasLine IsValue before [] fit = (tt, tt)
any_parts HasLine IsValue before (x ∷ xs) fit =
    let later = any_parts HasLine IsValue (Some x) xs fit.1 in ((fit.0.0, later.0), (fit.0.1, later.1))

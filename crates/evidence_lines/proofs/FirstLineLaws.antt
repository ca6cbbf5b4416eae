-- The lines that begin a section, or end the text, are read as what they spell.
use Rattle.std.proofs.Common.{◌≡◌, ◌⊎◌, inl, inr, ℕ, ◌^◌, ◌<◌, Bool, true, false, cond, List, [], ◌∷◌, Option, Some, None, refl, ap, subst, ◌∙◌, arith}
use Rattle.std.specs.Prelude.{codes, decimal, bytes_eq}
use Rattle.std.specs.Cmp.Lexicographic.{bytes_decides}
use Rattle.std.proofs.lemmas.Option.{cond_some}
use Rattle.el_logic.specs.declared.types.Part.{Part}
use Rattle.el_logic.specs.declared.types.Part.TheVariants as part
use Rattle.line_fields.specs.Lines.{Fields, IsLine}
use Rattle.line_fields.specs.Reading.{◌>>=◌, with_rest, long_in, short_in}
use Rattle.evidence_lines.specs.declared.types.Kind.{Kind}
use Rattle.evidence_lines.specs.declared.types.Kind.TheVariants as kind
use Rattle.evidence_lines.specs.Model.{after_word, number_follows}
use Rattle.evidence_lines.specs.Names.{if_end}
use Rattle.evidence_lines.specs.FirstLines.{version_fields, part_word, kind_fields, numbered, row_fields, end_fields, is_plain, word_of, version_of, part_named, refusal_of, kind_of, count_of, size_of, if_row_follows, row_of, end_of}
use Rattle.evidence_lines.proofs.Found.{NumberLaw, Bound, bound, some_is, none_is, word_case, long_takes, short_takes}
use Rattle.evidence_lines.proofs.NameLaws.{if_end_is}
use Rattle.evidence_lines.proofs.ModelLaws.{after_word_is}
use Rattle.evidence_lines.proofs.PlainLaws.{word, not_nil}

-- ---- words and counts

after_word_again : (word : List ℕ) (rest : Fields) → after_word word (word ∷ rest) ≡ Some rest
after_word_again word rest = ap (λ b. cond b (Some rest) None) ((bytes_decides word word).1 refl)

pub count_is : NumberLaw → (word : List ℕ) (fields : Fields) (n : ℕ) → count_of word fields ≡ Some n → (fields ≡ numbered word n) × (n < 2 ^ 64)
count_is law word fields n e =
    let w = bound (after_word word fields) (λ rest. long_in rest >>= λ count. if_end count.1 count.0) n e in
    let k = bound (long_in w.found) (λ count. if_end count.1 count.0) n w.later in
    let last = if_end_is k.found.1 k.found.0 n k.later in
    let number = long_takes law w.found k.found k.is in
    (after_word_is word fields w.found w.is ∙ ap (λ r. word ∷ r) (number.whole ∙ ap (λ r. decimal k.found.0 ∷ r) last.0 ∙ ap (λ m. decimal m ∷ []) last.1), subst (λ m. m < 2 ^ 64) last.1 number.fits)

pub count_again : NumberLaw → (word : List ℕ) (n : ℕ) → n < 2 ^ 64 → count_of word (numbered word n) ≡ Some n
count_again law word n below =
    ap (λ o. o >>= λ rest. long_in rest >>= λ count. if_end count.1 count.0) (after_word_again word (decimal n ∷ []))
    ∙ ap (λ o. with_rest [] o >>= λ count. if_end count.1 count.0) (law.long_again n below)

pub size_is : NumberLaw → (fields : Fields) (n : ℕ) → size_of fields ≡ Some n → (fields ≡ numbered (codes "model") n) × (n < 2 ^ 32)
size_is law fields n e =
    let w = bound (after_word (codes "model") fields) (λ rest. short_in rest >>= λ size. if_end size.1 size.0) n e in
    let k = bound (short_in w.found) (λ size. if_end size.1 size.0) n w.later in
    let last = if_end_is k.found.1 k.found.0 n k.later in
    let number = short_takes law w.found k.found k.is in
    (after_word_is (codes "model") fields w.found w.is ∙ ap (λ r. codes "model" ∷ r) (number.whole ∙ ap (λ r. decimal k.found.0 ∷ r) last.0 ∙ ap (λ m. decimal m ∷ []) last.1), subst (λ m. m < 2 ^ 32) last.1 number.fits)

pub size_again : NumberLaw → (n : ℕ) → n < 2 ^ 32 → size_of (numbered (codes "model") n) ≡ Some n
size_again law n below = ap (λ o. with_rest [] o >>= λ size. if_end size.1 size.0) (law.short_again n below)

-- ---- the kind, the version and the end

part_is : (word : List ℕ) (p : Part) → part_named word ≡ Some p → word ≡ part_word p
part_is word p e =
    let third = cond (bytes_eq word (codes "both")) (Some part.Both) None in
    let second = cond (bytes_eq word (codes "right")) (Some part.Right) third in
    elim (word_case word (codes "left") (Some part.Left) second p e) [
      | inl h ↦ h.0 ∙ ap part_word (some_is part.Left p h.1)
      | inr h ↦ elim (word_case word (codes "right") (Some part.Right) third p h) [
        | inl k ↦ k.0 ∙ ap part_word (some_is part.Right p k.1)
        | inr k ↦ elim (word_case word (codes "both") (Some part.Both) None p k) [
          | inl m ↦ m.0 ∙ ap part_word (some_is part.Both p m.1)
          | inr m ↦ none_is p m
        ]
      ]
    ]

refusal_is : (fields : Fields) (k : Kind) → refusal_of fields ≡ Some k → codes "refusal" ∷ fields ≡ kind_fields k
refusal_is [] k e = none_is k e
refusal_is (word ∷ rest) k e =
    let p = bound (part_named word) (λ p. if_end rest (kind.Refusal p)) k e in
    let last = if_end_is rest (kind.Refusal p.found) k p.later in
    ap (λ w. codes "refusal" ∷ w ∷ rest) (part_is word p.found p.is) ∙ ap (λ r. codes "refusal" ∷ part_word p.found ∷ r) last.0 ∙ ap kind_fields last.1

pub kind_is : (fields : Fields) (k : Kind) → kind_of fields ≡ Some k → fields ≡ kind_fields k
kind_is [] k e = none_is k e
kind_is (word ∷ rest) k e =
    let second = cond (bytes_eq word (codes "refusal")) (refusal_of rest) None in
    elim (word_case word (codes "diagnosis") (if_end rest kind.Diagnosis) second k e) [
      | inl h ↦ let last = if_end_is rest kind.Diagnosis k h.1 in ap (λ w. w ∷ rest) h.0 ∙ ap (λ r. codes "diagnosis" ∷ r) last.0 ∙ ap kind_fields last.1
      | inr h ↦ elim (word_case word (codes "refusal") (refusal_of rest) None k h) [
        | inl m ↦ ap (λ w. w ∷ rest) m.0 ∙ refusal_is rest k m.1
        | inr m ↦ none_is k m
      ]
    ]

pub kind_again : (k : Kind) → kind_of (kind_fields k) ≡ Some k
kind_again kind.Diagnosis = refl
kind_again (kind.Refusal p) = by p
  where
    by : (p : Part) → kind_of (kind_fields (kind.Refusal p)) ≡ Some (kind.Refusal p)
    by part.Left = refl
    by part.Right = refl
    by part.Both = refl

pub version_is : (fields : Fields) (u : Unit {0}) → version_of fields ≡ Some u → fields ≡ version_fields
version_is fields u e =
    let a = bound (after_word (codes "alod") fields) (λ rest. after_word (codes "evidence") rest >>= word_of (codes "1") tt) u e in
    let b = bound (after_word (codes "evidence") a.found) (word_of (codes "1") tt) u a.later in
    let c = bound (after_word (codes "1") b.found) (λ rest. if_end rest tt) u b.later in
    let last = if_end_is c.found tt u c.later in
    after_word_is (codes "alod") fields a.found a.is ∙ ap (λ r. codes "alod" ∷ r) (after_word_is (codes "evidence") a.found b.found b.is
    ∙ ap (λ r. codes "evidence" ∷ r) (after_word_is (codes "1") b.found c.found c.is ∙ ap (λ r. codes "1" ∷ r) last.0))

pub end_line_is : (fields : Fields) (u : Unit {0}) → end_of fields ≡ Some u → fields ≡ end_fields
end_line_is fields u e =
    let c = bound (after_word (codes "end") fields) (λ rest. if_end rest tt) u e in
    let last = if_end_is c.found tt u c.later in
    after_word_is (codes "end") fields c.found c.is ∙ ap (λ r. codes "end" ∷ r) last.0

-- ---- removed rows

pub record IsRow (before : Option ℕ) (fields : Fields) (row : ℕ × ℕ) : Type 0 where
  pub whole : fields ≡ row_fields row.0 row.1
  pub follows : number_follows before row.0 ≡ true
  pub number : row.0 < 2 ^ 32
  pub count : row.1 < 2 ^ 64

if_row_is : (before : Option ℕ) (row steps : ℕ) (found : ℕ × ℕ) → if_row_follows before row steps ≡ Some found → (number_follows before row ≡ true) × ((row, steps) ≡ found)
if_row_is before row steps found e = cond_some (number_follows before row) (row, steps) found e

pub row_is : NumberLaw → (before : Option ℕ) (fields : Fields) (found : ℕ × ℕ) → row_of before fields ≡ Some found → IsRow before fields found
row_is law before fields found e =
    let a = bound (after_word (codes "row") fields) (λ numbers. short_in numbers >>= λ row. after_word (codes "steps") row.1 >>= λ rest. long_in rest >>= λ steps. if_end steps.1 steps.0 >>= λ count. if_row_follows before row.0 count) found e in
    let r = bound (short_in a.found) (λ row. after_word (codes "steps") row.1 >>= λ rest. long_in rest >>= λ steps. if_end steps.1 steps.0 >>= λ count. if_row_follows before row.0 count) found a.later in
    let w = bound (after_word (codes "steps") r.found.1) (λ rest. long_in rest >>= λ steps. if_end steps.1 steps.0 >>= λ count. if_row_follows before r.found.0 count) found r.later in
    let s = bound (long_in w.found) (λ steps. if_end steps.1 steps.0 >>= λ count. if_row_follows before r.found.0 count) found w.later in
    let c = bound (if_end s.found.1 s.found.0) (λ count. if_row_follows before r.found.0 count) found s.later in
    let last = if_end_is s.found.1 s.found.0 c.found c.is in
    let made = if_row_is before r.found.0 c.found found c.later in
    let row = short_takes law a.found r.found r.is in
    let steps = long_takes law w.found s.found s.is in
    subst (λ f. IsRow before fields f) made.1 (record {
      whole = after_word_is (codes "row") fields a.found a.is ∙ ap (λ t. codes "row" ∷ t) (row.whole ∙ ap (λ t. decimal r.found.0 ∷ t)
          (after_word_is (codes "steps") r.found.1 w.found w.is ∙ ap (λ t. codes "steps" ∷ t) (steps.whole ∙ ap (λ t. decimal s.found.0 ∷ t) last.0 ∙ ap (λ m. decimal m ∷ []) last.1)));
      follows = made.0;
      number = row.fits;
      count = subst (λ m. m < 2 ^ 64) last.1 steps.fits;
    })

pub row_again : NumberLaw → (before : Option ℕ) (row steps : ℕ) → number_follows before row ≡ true → row < 2 ^ 32 → steps < 2 ^ 64 → row_of before (row_fields row steps) ≡ Some (row, steps)
row_again law before row steps follows small below = rw (law.short_again row small, law.long_again steps below, follows) refl

-- ---- their fields have no space and no line feed

pub numbered_line : NumberLaw → (w : List ℕ) (n : ℕ) → is_plain w ≡ true → n < 2 ^ 64 → IsLine (numbered w n)
numbered_line law w n plain below = record { some = not_nil w (decimal n ∷ []); each = (word w plain, (law.field n below, tt)) }

pub row_line : NumberLaw → (row steps : ℕ) → row < 2 ^ 32 → steps < 2 ^ 64 → IsLine (row_fields row steps)
row_line law row steps small below = record {
  some = not_nil (codes "row") (decimal row ∷ codes "steps" ∷ decimal steps ∷ []);
  each = (word (codes "row") refl, (law.field row (omega arith), (word (codes "steps") refl, (law.field steps below, tt))));
}

pub kind_line : (k : Kind) → IsLine (kind_fields k)
kind_line kind.Diagnosis = record { some = not_nil (codes "diagnosis") []; each = (word (codes "diagnosis") refl, tt) }
kind_line (kind.Refusal p) = by p
  where
    by : (p : Part) → IsLine (kind_fields (kind.Refusal p))
    by part.Left = record { some = not_nil (codes "refusal") (codes "left" ∷ []); each = (word (codes "refusal") refl, (word (codes "left") refl, tt)) }
    by part.Right = record { some = not_nil (codes "refusal") (codes "right" ∷ []); each = (word (codes "refusal") refl, (word (codes "right") refl, tt)) }
    by part.Both = record { some = not_nil (codes "refusal") (codes "both" ∷ []); each = (word (codes "refusal") refl, (word (codes "both") refl, tt)) }

pub version_line : IsLine version_fields
version_line = record {
  some = not_nil (codes "alod") (codes "evidence" ∷ codes "1" ∷ []);
  each = (word (codes "alod") refl, (word (codes "evidence") refl, (word (codes "1") refl, tt)));
}

pub last_line : IsLine end_fields
last_line = record { some = not_nil (codes "end") []; each = (word (codes "end") refl, tt) }

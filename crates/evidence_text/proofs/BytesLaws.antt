-- The bytes of a text, both ways.
use Rattle.std.proofs.Common.{◌≡◌, ◌≢◌, ℕ, Bool, true, false, cond, List, [], ◌∷◌, ◌++◌, Ok, Err, refl, sym, ap, subst, ◌∙◌, append_assoc}
use Rattle.std.specs.List.{AllByRecursion}
use Rattle.std.proofs.lemmas.List.{append-nil}
use Rattle.std.proofs.lemmas.List.Concat.{flat_map-cons}
use Rattle.std.proofs.lemmas.List.Splits.{slice_split_at}
use Rattle.std.proofs.lemmas.List.Elements.{All-from_recursion}
use Rattle.byte_words.specs.Bytes.{is_line_feed}
use Rattle.byte_words.specs.Lists.{AllFailing}
use Rattle.line_fields.specs.Lines.{Fields, line, text_of, joined, IsLine}
use Rattle.line_fields.specs.Reading.{At, fields_of, lines_of}
use Rattle.evidence_text.specs.declared.types.EvidenceFault.TheVariants.{Version}
use Rattle.evidence_text.specs.declared.types.Evidence.{Evidence}
use Rattle.evidence_text.specs.EvidenceText.{lists_lines, body_lines, evidence_lines, evidence_text, HasText, IsEvidenceValue, plain}
use Rattle.evidence_lines.specs.FirstLines.{version_fields, kind_fields, end_fields, is_other_version}
use Rattle.evidence_text.specs.Reading.{lines_read, first_of, first_piece, text_read}
use Rattle.evidence_text.proofs.BodyLaws.{LineLaws}
use Rattle.evidence_text.proofs.TextLaws.{lines_back, lines_again}
use Rattle.evidence_text.proofs.FormLaws.{evidence_line}

-- lines are read as they are written, and a text is what its lines are written as
pub record LinesLaw : Type 0 where
  pub again : (lines : List Fields) (rest : List ℕ) → AllByRecursion IsLine lines → lines_of (text_of lines ++ rest) ≡ lines ++ lines_of rest
  pub back : (text : List ℕ) → AllByRecursion (λ fields. fields ≢ []) (lines_of text) → text ≡ text_of (lines_of text)

some_fields : (lines : List Fields) → AllByRecursion IsLine lines → AllByRecursion (λ fields. fields ≢ []) lines
some_fields [] each = tt
some_fields (l ∷ lines) each = (each.0.some, some_fields lines each.1)

-- the first piece of a text that begins with this version
first_is : (later : List Fields) → first_piece (text_of (version_fields ∷ later)) ≡ joined version_fields
first_is later =
    let regrouped : text_of (version_fields ∷ later) ≡ joined version_fields ++ (10 ∷ text_of later) =
    flat_map-cons line version_fields later ∙ append_assoc (joined version_fields) (10 ∷ []) (text_of later) in
    let none : AllFailing is_line_feed (joined version_fields) = (refl, (refl, (refl, (refl, (refl, (refl, (refl, (refl, (refl, (refl, (refl, (refl, (refl, (refl, (refl, tt))))))))))))))) in
    ap first_piece regrouped ∙ ap first_of (slice_split_at is_line_feed (joined version_fields) 10 (text_of later) (All-from_recursion (λ b. is_line_feed b ≡ false) (joined version_fields) none) refl)

pub text_again : LineLaws → LinesLaw → (e : Evidence) → HasText e → IsEvidenceValue e → text_read (evidence_text e) ≡ Ok (plain e)
unfolding text_read evidence_text
text_again laws lines e has is =
    let all = evidence_lines e in
    let are : lines_of (text_of all) ≡ all = ap lines_of (sym (append-nil (text_of all))) ∙ lines.again all [] (evidence_line laws e has is) ∙ append-nil all in
    let this : is_other_version (fields_of (first_piece (text_of all))) ≡ false = ap (λ p. is_other_version (fields_of p)) (first_is (kind_fields e.kind ∷ (lists_lines e ++ (body_lines e.body ++ end_fields ∷ [])))) in
    let start : List Fields → At = λ l. record { read = 0; lines = l } in
    ap (λ b. cond b (Err Version) (lines_read (start (lines_of (text_of all))))) this ∙ ap (λ l. lines_read (start l)) are ∙ lines_again laws e has is

pub record IsRead (text : List ℕ) (e : Evidence) : Type 0 where
  pub spelled : text ≡ evidence_text e
  pub has : HasText e
  pub is : IsEvidenceValue e

pub text_back : LineLaws → LinesLaw → (text : List ℕ) (e : Evidence) → text_read text ≡ Ok e → IsRead text e
unfolding text_read evidence_text
text_back laws lines text e eq = by (is_other_version (fields_of (first_piece text))) eq
  where
    start : At
    start = record { read = 0; lines = lines_of text }

    by : (b : Bool) → cond b (Err Version) (lines_read start) ≡ Ok e → IsRead text e
    by true eq = absurd cc
    by false eq =
        let found = lines_back laws start e eq in
        let ended : AllByRecursion (λ fields. fields ≢ []) (lines_of text) = subst (λ l. AllByRecursion (λ fields. fields ≢ []) l) (sym found.whole) (some_fields (evidence_lines e) (evidence_line laws e found.has found.is)) in
        record { spelled = lines.back text ended ∙ ap text_of found.whole; has = found.has; is = found.is }

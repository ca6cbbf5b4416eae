-- What a call answers is what the text is.
use Rattle.std.proofs.Common.{◌≡◌, ℕ, List, [], ◌∷◌, ◌++◌, Result, Ok, Err, refl, ap, ◌∙◌}
use Rattle.std.specs.Prelude.{IfOk}
use Rattle.evidence_text.specs.declared.types.EvidenceFault.{EvidenceFault}
use Rattle.evidence_lines.specs.declared.types.Kind.{Kind}
use Rattle.evidence_lines.specs.declared.types.Kind.TheVariants as kind
use Rattle.evidence_text.specs.declared.types.Body.{Body}
use Rattle.evidence_text.specs.declared.types.Body.TheVariants as body
use Rattle.evidence_text.specs.declared.types.Evidence.{Evidence}
use Rattle.line_fields.specs.Lines.{text_of}
use Rattle.evidence_lines.specs.FirstLines.{version_fields, kind_fields, end_fields}
use Rattle.evidence_text.specs.EvidenceText.{lists_lines, body_lines, evidence_text, HasBodyText, HasText, IsEvidenceValue, plain, plain_body}
use Rattle.evidence_text.specs.Reading.{text_read, GivesRead}

same_lines : (b : Body) → body_lines (plain_body b) ≡ body_lines b
same_lines (body.Diagnosis removed model journal) = refl
same_lines (body.Refusal steps) = refl

same_text : (e : Evidence) → evidence_text (plain e) ≡ evidence_text e
unfolding evidence_text
same_text e = ap (λ l. text_of (version_fields ∷ kind_fields e.kind ∷ (lists_lines e ++ (l ++ end_fields ∷ [])))) (same_lines e.body)

has_body : (k : Kind) (b : Body) → HasBodyText k (plain_body b) → HasBodyText k b
has_body kind.Diagnosis (body.Diagnosis removed model journal) has = has
has_body kind.Diagnosis (body.Refusal steps) has = has
has_body (kind.Refusal p) (body.Diagnosis removed model journal) has = has
has_body (kind.Refusal p) (body.Refusal steps) has = has

has_text : (e : Evidence) → HasText (plain e) → HasText e
has_text e has = record { omitted = has.omitted; nodes = has.nodes; roles = has.roles; body = has_body e.kind e.body has.body }

pub is_found : ((text : List ℕ) (e : Evidence) → text_read text ≡ Ok e → (text ≡ evidence_text e) × HasText e × IsEvidenceValue e)
    → (bytes : List ℕ) (r : Result Evidence EvidenceFault) → GivesRead plain r (text_read bytes) → IfOk r (λ e. HasText e × (bytes ≡ evidence_text e))
is_found back bytes (Ok e) given = let b = back bytes (plain e) given in (has_text e b.1, b.0 ∙ same_text e)
is_found back bytes (Err fault) given = tt

pub same_ok : (e other : Evidence) → let good : Evidence → Result Evidence EvidenceFault = λ x. Ok x in good e ≡ good other → e ≡ other
same_ok e other is = cc

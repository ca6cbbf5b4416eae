use Rattle.std.proofs.Common.{◌≡◌, ℕ, Bool, true, false, List, Option, Some, None, refl, ap}
use Rattle.std.specs.Prelude.{IsUtf8}
use Rattle.std.specs.Str.{is_utf8}
use Rattle.std.proofs.lemmas.Str.{IsUtf8-from_is_utf8, is_utf8-from_IsUtf8}
use Rattle.evidence_lines.specs.Names.{is_iri, if_iri}
use Rattle.evidence_lines.proofs.names.if_iri.Goals as goal

found : (bytes text : List ℕ) → true ≡ is_iri bytes → (text ≡ bytes) × IsUtf8 bytes → Some text ≡ if_iri bytes
found bytes text iri utf8 = rw (← iri, is_utf8-from_IsUtf8 bytes utf8.1) (ap (λ t. Some t) utf8.0)

not_utf8 : (bytes : List ℕ) (b : Bool) → is_utf8 bytes ≡ b → ¬ (IsUtf8 bytes) → b ≡ false
not_utf8 bytes true e h = absurd (h (IsUtf8-from_is_utf8 bytes e))
not_utf8 bytes false e h = refl

missing : (bytes : List ℕ) → true ≡ is_iri bytes → ¬ (IsUtf8 bytes) → let none : Option (List ℕ) = None in none ≡ if_iri bytes
missing bytes iri h = rw (← iri, not_utf8 bytes (is_utf8 bytes) refl h) refl

pub returns-in-Ok : goal.returns-in-Ok
returns-in-Ok c = found c.args.bytes.now c.in-Ok.iri c.if-not-is_iri.ensures c.in-Ok.ensures

pub returns-in-Err-NotUtf8 : goal.returns-in-Err-NotUtf8
returns-in-Err-NotUtf8 c =
    let h = rw c.in-Err-NotUtf8.field-0-is at c.in-Err-NotUtf8.ensures in
    missing c.args.bytes.now c.if-not-is_iri.ensures h.0

-- Bytes between two offsets of a text.
use Rattle.std.proofs.Common.{◌≡◌, ◌≤◌, ◌<◌, ℕ, suc, ◌+◌, ◌-◌, Bool, true, false, cond, List, [], ◌∷◌, ◌++◌, length, take, drop, All, true≢false, refl, sym, ap, ◌∙◌, arith, length-append, append_assoc, add-one, length-drop, get_or, drop-cons}
use Rattle.std.specs.Prelude.{slice_range, nat_le, ◌&&◌}
use Rattle.std.specs.Str.{is_utf8}
use Rattle.std.specs.List.{AllByRecursion}
use Rattle.std.proofs.lemmas.List.{length-take-le, take-append-drop}
use Rattle.std.proofs.lemmas.List.Elements.{All-nil, All-from_recursion, All-head, All-tail}
use Rattle.std.proofs.Math.Seq.{take-append_seam}
use Rattle.ofn_heads.specs.Names.{text_of, piece}
use Rattle.evidence_lines.specs.Names.{is_iri_byte, is_iri}

-- the byte may stand in an IRI
abbrev pub Passes : ℕ → Type 0
Passes b = is_iri_byte b ≡ true

-- bytes that pass are an IRI
pub all_pass : (bytes : List ℕ) → All Passes bytes → is_iri bytes ≡ true
all_pass [] h = refl
all_pass (b ∷ bs) h =
    ap (λ (p : Bool). p && is_iri bs) (All-head Passes b bs h) ∙ all_pass bs (All-tail Passes b bs h)

-- an IRI has bytes that pass
each_passes : (bytes : List ℕ) → is_iri bytes ≡ true → AllByRecursion Passes bytes
each_passes [] h = tt
each_passes (b ∷ bs) h = by (is_iri_byte b) refl h (each_passes bs)
  where
    by : (p : Bool) → is_iri_byte b ≡ p → (p && is_iri bs) ≡ true → (is_iri bs ≡ true → AllByRecursion Passes bs) → Passes b × AllByRecursion Passes bs
    by true e f rest = (e, rest f)
    by false e f rest = absurd (true≢false (sym f))

pub pass_all : (bytes : List ℕ) → is_iri bytes ≡ true → All Passes bytes
pass_all bytes h = All-from_recursion Passes bytes (each_passes bytes h)

-- of bytes that pass, those that are UTF-8 pass
pub text_passes : (bytes : List ℕ) → All Passes bytes → All Passes (text_of bytes)
unfolding text_of
text_passes bytes h = by (is_utf8 bytes)
  where
    by : (b : Bool) → All Passes (cond b bytes [])
    by true = h
    by false = All-nil Passes

-- a piece of a text passes if the bytes between its offsets do
pub piece_passes : (text : List ℕ) (start end : ℕ) → All Passes (slice_range text start end)
    → All Passes (piece text start end)
piece_passes text start end h = by (nat_le start end && nat_le end (length text))
  where
    by : (b : Bool) → All Passes (cond b (text_of (slice_range text start end)) [])
    by true = text_passes (slice_range text start end) h
    by false = All-nil Passes

-- what stands between the first and the last of a front
between_ends : (count : ℕ) (bytes inner : List ℕ) (first last : ℕ) → count ≤ length bytes
    → take count bytes ≡ first ∷ (inner ++ last ∷ []) → (rest : List ℕ) × (bytes ≡ first ∷ (inner ++ last ∷ rest))
between_ends count bytes inner first last within is = (
  drop count bytes,
  sym (take-append-drop count bytes) ∙ ap (λ (l : List ℕ). l ++ drop count bytes) is
      ∙ ap (λ (l : List ℕ). first ∷ l) (append_assoc inner (last ∷ []) (drop count bytes)),
)

-- what is between the brackets of a full IRI
pub between_brackets : (text : List ℕ) (start end : ℕ) (inner : List ℕ) → start < end → end ≤ length text
    → slice_range text start end ≡ 60 ∷ (inner ++ 62 ∷ []) → slice_range text (start + 1) (end - 1) ≡ inner
between_brackets text start end inner some within is =
    let left : length (drop start text) ≡ length text - start = length-drop start text in
    let short : end - start ≤ length (drop start text) = omega arith in
    let whole = between_ends (end - start) (drop start text) inner 60 62 short is in
    let count : end - start ≡ length inner + 2 =
    let size = sym (length-take-le (end - start) (drop start text) short) ∙ ap length is in
    omega (arith, size, length-append inner (62 ∷ [])) in
    let inside : start < length text = omega arith in
    let next : drop (start + 1) text ≡ inner ++ 62 ∷ whole.0 =
    let e = drop-cons text start 0 inside in
    let f = add-one start in
    let g : get_or text start 0 ∷ drop (suc start) text ≡ 60 ∷ (inner ++ 62 ∷ whole.0) = sym e ∙ whole.1 in
    let h : drop (suc start) text ≡ inner ++ 62 ∷ whole.0 = cc in
    ap (λ (n : ℕ). drop n text) f ∙ h in
    let less : end - 1 - (start + 1) ≡ length inner = omega arith in
    ap (λ (n : ℕ). take n (drop (start + 1) text)) less ∙ ap (take (length inner)) next
    ∙ take-append_seam inner (62 ∷ whole.0)

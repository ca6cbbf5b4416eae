-- Pieces of a text, and colons.
use Rattle.std.proofs.Common.{◌≡◌, ℕ, ◌+◌, ◌-◌, ◌≤◌, Bool, true, false, cond, ◌||◌, ◌&&◌, List, [], ◌∷◌, length, get_or, drop, refl, sym, subst, ap, ◌∙◌, arith}
use Rattle.std.specs.Prelude.{IsUtf8, nat_le, slice_range}
use Rattle.std.specs.Str.{is_utf8, IsCharBoundary}
use Rattle.std.specs.List.{list_any, position_or_len}
use Rattle.std.proofs.lemmas.Bool.{le-leb}
use Rattle.std.proofs.lemmas.List.{get_or-drop, length-drop}
use Rattle.std.proofs.lemmas.Str.{is_utf8-from_IsUtf8, IsUtf8-from_is_utf8, IsUtf8-take, IsUtf8-drop}
use Rattle.ofn_heads.specs.Names.{text_of, piece}

-- bytes that are UTF-8 are taken whole
pub text_kept : (bytes : List ℕ) → IsUtf8 bytes → text_of bytes ≡ bytes
unfolding text_of
text_kept bytes utf8 = ap (λ (b : Bool). cond b bytes []) (is_utf8-from_IsUtf8 bytes utf8)

-- of other bytes nothing is taken
pub text_left_out : (bytes : List ℕ) → ¬ (IsUtf8 bytes) → text_of bytes ≡ []
unfolding text_of
text_left_out bytes other = by (is_utf8 bytes) refl
  where
    by : (b : Bool) → is_utf8 bytes ≡ b → cond (is_utf8 bytes) bytes [] ≡ []
    by true e = absurd (other (IsUtf8-from_is_utf8 bytes e))
    by false e = ap (λ (b : Bool). cond b bytes []) e

-- a place past the end is that of no element
pub missing_colon : {X : Type 0} → (p : X → Bool) (xs : List X) → position_or_len p xs ≡ length xs → list_any p xs ≡ false
missing_colon p [] end = refl
missing_colon p (x ∷ xs) end = by (p x) refl (missing_colon p xs)
  where
    by : (b : Bool) → p x ≡ b → (position_or_len p xs ≡ length xs → list_any p xs ≡ false) → (p x || list_any p xs) ≡ false
    by true e rest = let first : position_or_len p (x ∷ xs) ≡ 0 = rw e refl in absurd (omega arith)
    by false e rest = let later : position_or_len p (x ∷ xs) ≡ 1 + position_or_len p xs = rw e refl in rw e (rest (omega arith))

-- a piece between characters of a text is UTF-8, so it is taken whole
pub piece_whole : (text : List ℕ) (start end : ℕ) → IsUtf8 text → start ≤ end → IsCharBoundary text start → IsCharBoundary text end → piece text start end ≡ slice_range text start end
piece_whole text start end utf8 le first last =
    let there : start + (end - start) ≡ end = omega (arith, le) in
    let same : get_or (drop start text) (end - start) 0 ≡ get_or text end 0 = get_or-drop start text (end - start) 0 ∙ ap (λ (n : ℕ). get_or text n 0) there in
    let size : length (drop start text) ≡ length text - start = length-drop start text in
    let inner : IsCharBoundary (drop start text) (end - start) =
    (omega (arith, size, last.0, le), λ l high. subst (λ (n : ℕ). 192 ≤ n) (sym same) (last.1 (omega (arith, size, l, le)) (subst (λ (n : ℕ). 128 ≤ n) same high))) in
    let whole = text_kept (slice_range text start end) (IsUtf8-take (drop start text) (end - start) (IsUtf8-drop text start utf8 first) inner) in
    let within : (nat_le start end && nat_le end (length text)) ≡ true = rw (le-leb start end le, le-leb end (length text) last.0) refl in
    ap (λ (b : Bool). cond b (text_of (slice_range text start end)) []) within ∙ whole

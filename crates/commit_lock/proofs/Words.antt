-- The one word of a table: what a step finds and leaves, and the bit that is set while the turn is held.
use Rattle.std.proofs.Common.{◌≡◌, ◌-◌, ◌+◌, ◌*◌, ◌^◌, ◌<◌, ℕ, List, [], ◌∷◌, set, slice_index, bit_or, bit_and, sym, ap, ◌∙◌, arith}
use Rattle.std.proofs.lemmas.Nat.Bits.{and_high_mask}
use Rattle.std.proofs.lemmas.Nat.{or_shifted, or_block, or_disjoint, and_le_r}

-- the word that a step finds
pub word_found : (words : List ℕ) (n : ℕ) → words ≡ n ∷ [] → slice_index words 0 ≡ n
word_found words n is = ap (λ (l : List ℕ). slice_index l 0) is

-- the word that a step leaves
pub word_left : (words : List ℕ) (f : ℕ → ℕ) (n m : ℕ) → words ≡ n ∷ [] → f n ≡ m
    → set words 0 (f (slice_index words 0)) ≡ m ∷ []
word_left words f n m is becomes =
    ap (λ (l : List ℕ). set l 0 (f (slice_index l 0))) is ∙ ap (λ (x : ℕ). x ∷ []) becomes

-- a word that a step leaves as it was
pub word_kept : (words : List ℕ) (f : ℕ → ℕ) (n : ℕ) → words ≡ n ∷ [] → f n ≡ n
    → set words 0 (f (slice_index words 0)) ≡ words
word_kept words f n is same = word_left words f n n is same ∙ sym is

-- the turn is taken from an even word
pub or_even : (m : ℕ) → bit_or (2 * m + 0) 1 ≡ 2 * m + 1
or_even m =
    let shifted : 2 * m + 0 ≡ m * 2 = omega arith in
    ap (λ (x : ℕ). bit_or x 1) shifted ∙ (or_shifted m 1 1 (omega arith) ∙ omega arith)

-- an odd word stays
pub or_odd : (m : ℕ) → bit_or (2 * m + 1) 1 ≡ 2 * m + 1
or_odd m =
    let none : bit_and m 0 ≡ 0 = let h = and_le_r m 0 in omega arith in
    let same : bit_or m 0 ≡ m = or_disjoint m 0 none ∙ omega arith in
    let shifted : 2 * m + 1 ≡ m * 2 + 1 = omega arith in
    ap (λ (x : ℕ). bit_or x 1) shifted
    ∙ (or_block 1 m 0 1 1 (omega arith) (omega arith) ∙ omega (arith, same))

-- the turn is given back at an odd word
pub and_odd : (m : ℕ) → m < 2 ^ 32 → bit_and (2 * m + 1) (2 ^ 64 - 2) ≡ 2 * m + 0
and_odd m small = and_high_mask 64 1 (omega arith) (2 * m + 1) (omega arith) ∙ omega arith

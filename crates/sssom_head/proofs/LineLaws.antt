-- The first line of a text.
use Rattle.std.proofs.Common.{◌≡◌, ◌∙◌, ℕ, zero, suc, ◌+◌, ◌≤◌, Bool, true, false, cond, List, [], ◌∷◌, take, drop, refl, ap, arith}
use Rattle.std.specs.Prelude.{◌==◌}
use Rattle.sssom_head.specs.Contents.{indentation, behind_spaces}
use Rattle.sssom_head.specs.Lines.{onto_line, lines_of, first_line_end, begins_with_hash, hash_lines, header_lines}

-- the first line, and the lines after it
pub first_line : (b : ℕ) (bs : List ℕ) → lines_of (b ∷ bs) ≡ take (first_line_end (b ∷ bs)) (b ∷ bs) ∷ lines_of (drop (first_line_end (b ∷ bs)) (b ∷ bs))
first_line b [] = by (b == 10)
  where
    by : (d : Bool) → cond d ((b ∷ []) ∷ []) ((b ∷ []) ∷ []) ≡ take (cond d 1 (1 + 0)) (b ∷ []) ∷ lines_of (drop (cond d 1 (1 + 0)) (b ∷ []))
    by true = refl
    by false = refl
first_line b (c ∷ cs) = by (b == 10) (first_line c cs)
  where
    by : (d : Bool) → lines_of (c ∷ cs) ≡ take (first_line_end (c ∷ cs)) (c ∷ cs) ∷ lines_of (drop (first_line_end (c ∷ cs)) (c ∷ cs)) →
        cond d ((b ∷ []) ∷ lines_of (c ∷ cs)) (onto_line b (lines_of (c ∷ cs))) ≡ take (cond d 1 (1 + first_line_end (c ∷ cs))) (b ∷ c ∷ cs) ∷ lines_of (drop (cond d 1 (1 + first_line_end (c ∷ cs))) (b ∷ c ∷ cs))
    by true rest = refl
    by false rest =
        let l = c ∷ cs in
        let e : suc (first_line_end l) ≡ 1 + first_line_end l = omega arith in
        ap (onto_line b) rest ∙ ap (λ (k : ℕ). take k (b ∷ l) ∷ lines_of (drop k (b ∷ l))) e

-- the first line has a byte
pub first_line_some : (b : ℕ) (bs : List ℕ) → 1 ≤ first_line_end (b ∷ bs)
first_line_some b bs = by (b == 10)
  where
    by : (d : Bool) → 1 ≤ cond d 1 (1 + first_line_end bs)
    by true = omega arith
    by false = omega arith

-- a text that begins with # has its first line as a header line
pub first_header_line : (text : List ℕ) → begins_with_hash text ≡ true →
    header_lines text ≡ take (first_line_end text) text ∷ header_lines (drop (first_line_end text) text)
first_header_line [] e = absurd cc
first_header_line (b ∷ bs) e =
    let n = first_line_end (b ∷ bs) in
    let begins : begins_with_hash (take n (b ∷ bs)) ≡ true = begins_again n (first_line_some b bs) in
    ap hash_lines (first_line b bs) ∙ ap (λ (d : Bool). cond d (take n (b ∷ bs) ∷ header_lines (drop n (b ∷ bs))) []) begins
  where
    begins_again : (n : ℕ) → 1 ≤ n → begins_with_hash (take n (b ∷ bs)) ≡ true
    begins_again zero h = absurd (omega arith)
    begins_again (suc n) h = e

-- a text that does not begin with # has no header line
pub no_header_line : (text : List ℕ) → begins_with_hash text ≡ false → header_lines text ≡ []
no_header_line [] e = refl
no_header_line (b ∷ bs) e =
    let n = first_line_end (b ∷ bs) in
    let begins : begins_with_hash (take n (b ∷ bs)) ≡ false = begins_again n (first_line_some b bs) in
    ap hash_lines (first_line b bs) ∙ ap (λ (d : Bool). cond d (take n (b ∷ bs) ∷ header_lines (drop n (b ∷ bs))) []) begins
  where
    begins_again : (n : ℕ) → 1 ≤ n → begins_with_hash (take n (b ∷ bs)) ≡ false
    begins_again zero h = absurd (omega arith)
    begins_again (suc n) h = e

-- a header line has a byte
pub some_text : (text : List ℕ) → begins_with_hash text ≡ true → 1 ≤ first_line_end text
some_text [] e = absurd cc
some_text (b ∷ bs) e = first_line_some b bs

-- what stands after the spaces
pub drop_spaces : (content : List ℕ) → drop (indentation content) content ≡ behind_spaces content
drop_spaces [] = refl
drop_spaces (b ∷ bs) = by (b == 32) (drop_spaces bs)
  where
    by : (d : Bool) → drop (indentation bs) bs ≡ behind_spaces bs → drop (cond d (1 + indentation bs) 0) (b ∷ bs) ≡ cond d (behind_spaces bs) (b ∷ bs)
    by true rest = let e : 1 + indentation bs ≡ suc (indentation bs) = omega arith in ap (λ (k : ℕ). drop k (b ∷ bs)) e ∙ rest
    by false rest = refl

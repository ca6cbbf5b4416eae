-- One line more for one number more.
use Rattle.std.proofs.Common.{◌≡◌, ℕ, zero, suc, ◌+◌, List, [], ◌∷◌, ◌++◌, refl, ap, sym, ◌∙◌, arith, add-zero, add-one}
use Rattle.std.proofs.lemmas.List.{flat_map_more}
use Rattle.std.specs.List.{flat_map, range_with_len}
use Rattle.case_maker.specs.MadeCase.{lines_for}

-- one number more at the end of a range
range_more : (first count : ℕ) → range_with_len first (suc count) ≡ range_with_len first count ++ (first + count) ∷ []
range_more first zero = rw add-zero refl
range_more first (suc count) =
    let moved : (first + 1) + count ≡ first + suc count = omega arith in
    ap (λ rest. first ∷ rest) (range_more (first + 1) count ∙ ap (λ n. range_with_len (first + 1) count ++ n ∷ []) moved)

pub lines_more : (text : List ℕ) (line : ℕ → List ℕ) (count : ℕ) → (text ++ lines_for line count) ++ line (count + 1) ≡ text ++ lines_for line (count + 1)
lines_more text line count =
    let last : 1 + count ≡ count + 1 = omega arith in
    flat_map_more line text (range_with_len 1 count) (count + 1)
    ∙ ap (λ numbers. text ++ flat_map line numbers) (ap (λ n. range_with_len 1 count ++ n ∷ []) (sym last) ∙ sym (range_more 1 count) ∙ ap (range_with_len 1) (sym (add-one count)))

-- the same for texts that are known so far
pub lines_step : (text now new : List ℕ) (line : ℕ → List ℕ) (count : ℕ) → now ≡ text ++ lines_for line count
    → new ≡ now ++ line (count + 1) → new ≡ text ++ lines_for line (count + 1)
lines_step text now new line count so_far made = made ∙ ap (λ front. front ++ line (count + 1)) so_far ∙ lines_more text line count

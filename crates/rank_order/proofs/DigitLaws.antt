-- Fronts of digits.
use Rattle.std.proofs.Common.{◌≡◌, ◌∙◌, ℕ, suc, ◌+◌, Bool, true, false, cond, List, [], ◌∷◌, take, drop, refl, ap, arith}
use Rattle.std.specs.List.{prefix_len}
use Rattle.rank_order.specs.Decimal.{is_digit, AreDigits}
use Rattle.rank_order.specs.DecimalTexts.{front_digits, past_digits}

-- the digits at the front
pub take_front : (text : List ℕ) → take (prefix_len is_digit text) text ≡ front_digits text
take_front [] = refl
take_front (b ∷ bs) = by (is_digit b) (take_front bs)
  where
    by : (d : Bool) → take (prefix_len is_digit bs) bs ≡ front_digits bs → take (cond d (1 + prefix_len is_digit bs) 0) (b ∷ bs) ≡ cond d (b ∷ front_digits bs) []
    by true rest = let e : 1 + prefix_len is_digit bs ≡ suc (prefix_len is_digit bs) = omega arith in ap (λ (k : ℕ). take k (b ∷ bs)) e ∙ ap (λ (l : List ℕ). b ∷ l) rest
    by false rest = refl

-- what follows them
pub drop_front : (text : List ℕ) → drop (prefix_len is_digit text) text ≡ past_digits text
drop_front [] = refl
drop_front (b ∷ bs) = by (is_digit b) (drop_front bs)
  where
    by : (d : Bool) → drop (prefix_len is_digit bs) bs ≡ past_digits bs → drop (cond d (1 + prefix_len is_digit bs) 0) (b ∷ bs) ≡ cond d (past_digits bs) (b ∷ bs)
    by true rest = let e : 1 + prefix_len is_digit bs ≡ suc (prefix_len is_digit bs) = omega arith in ap (λ (k : ℕ). drop k (b ∷ bs)) e ∙ rest
    by false rest = refl

-- they are digits
pub are_front_digits : (text : List ℕ) → AreDigits (front_digits text)
are_front_digits [] = tt
are_front_digits (b ∷ bs) = by (is_digit b) refl (are_front_digits bs)
  where
    by : (d : Bool) → is_digit b ≡ d → AreDigits (front_digits bs) → AreDigits (cond d (b ∷ front_digits bs) [])
    by true e rest = (e, rest)
    by false e rest = tt

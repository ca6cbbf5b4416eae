-- Blocks of ranks: those that are not removed.
use Rattle.std.proofs.Common.{◌≡◌, ℕ, zero, suc, ◌+◌, ◌<◌, ◌≤◌, Bool, true, false, not, cond, List, [], ◌∷◌, ◌++◌, All, length, get_or, take, drop, refl, ap, subst, ◌∙◌, arith, add-zero, add-one, append-nil}
use Rattle.std.proofs.lemmas.List.{drop-drop, length-take-le, length-take, length-drop}
use Rattle.std.proofs.Math.Seq.{take-add, drop-cons}
use Rattle.std.proofs.lemmas.List.Elements.{All-cons, All-nil, All-weaker}
use Rattle.std.specs.List.Sorted.{IsStrictlyIncreasing}
use Rattle.accuse_core.specs.declared.mark.Mark.{Mark}
use Rattle.accuse_core.specs.declared.mark.Mark.TheVariants.{Open}
use Rattle.accuse_core.specs.Marks.{is_removed, mark_at, ranks_from, block_of}

-- a list that may have one number more in front, and what follows it
cond_append : (b : Bool) (first : ℕ) (ranks more : List ℕ)
    → cond b (first ∷ (ranks ++ more)) (ranks ++ more) ≡ cond b (first ∷ ranks) ranks ++ more
cond_append true first ranks more = refl
cond_append false first ranks more = refl

-- a number below an ascending list may be put in front of it
in_front : (first : ℕ) (ranks : List ℕ) → All (λ rank. first < rank) ranks → IsStrictlyIncreasing ranks → IsStrictlyIncreasing (first ∷ ranks)
in_front first ranks below ascends zero inside = below 0 0 (omega arith)
in_front first ranks below ascends (suc k) inside = rw add-one (subst (λ n. get_or ranks k 0 < get_or ranks n 0) (add-one k) (ascends k (omega arith)))

abbrev pub IsWithin : ℕ → ℕ → ℕ → Type 0
IsWithin first count rank = (first ≤ rank) × (rank < first + count)

module _ (passes : Mark → Bool) where
  -- the ranks of marks after each other
  after_each_other : (first : ℕ) (marks more : List Mark)
      → ranks_from passes first (marks ++ more) ≡ ranks_from passes first marks ++ ranks_from passes (first + length marks) more
  after_each_other first [] more = rw add-zero refl
  after_each_other first (x ∷ xs) more =
      let moved : suc first + length xs ≡ first + suc (length xs) = omega arith in
      ap (λ ranks. cond (passes x) (first ∷ ranks) ranks) (after_each_other (suc first) xs more ∙ ap (λ n. ranks_from passes (suc first) xs ++ ranks_from passes n more) moved)
      ∙ cond_append (passes x) first (ranks_from passes (suc first) xs) (ranks_from passes (first + suc (length xs)) more)

  -- they are those of the marks
  all_within : (first : ℕ) (marks : List Mark) → All (IsWithin first (length marks)) (ranks_from passes first marks)
  all_within first [] = All-nil (IsWithin first 0)
  all_within first (x ∷ xs) =
      let ranks = ranks_from passes (suc first) xs in
      let later = All-weaker (IsWithin (suc first) (length xs)) (IsWithin first (suc (length xs)))
      (λ rank h. let low = h.0 in let high = h.1 in (omega arith, omega arith)) ranks (all_within (suc first) xs) in
      elim (passes x) as (λ b. All (IsWithin first (suc (length xs))) (cond b (first ∷ ranks) ranks))
      [ true ↦ All-cons (IsWithin first (suc (length xs))) first ranks (omega arith, omega arith) later | false ↦ later ]

  -- and ascend
  all_ascend : (first : ℕ) (marks : List Mark) → IsStrictlyIncreasing (ranks_from passes first marks)
  all_ascend first [] = λ k inside. absurd (omega arith)
  all_ascend first (x ∷ xs) =
      let ranks = ranks_from passes (suc first) xs in
      let above = All-weaker (IsWithin (suc first) (length xs)) (λ rank. first < rank) (λ rank h. let low = h.0 in omega arith) ranks (all_within (suc first) xs) in
      elim (passes x) as (λ b. IsStrictlyIncreasing (cond b (first ∷ ranks) ranks))
      [ true ↦ in_front first ranks above (all_ascend (suc first) xs) | false ↦ all_ascend (suc first) xs ]

abbrev stays : Mark → Bool
stays mark = not (is_removed mark)

-- a block of no ranks
pub block_none : (marks : List Mark) (rank : ℕ) → block_of marks rank 0 ≡ []
block_none marks rank = refl

-- two blocks, one after the other
pub block_split : (marks : List Mark) (rank one two : ℕ) → rank + one ≤ length marks
    → block_of marks rank (one + two) ≡ block_of marks rank one ++ block_of marks (rank + one) two
block_split marks rank one two inside =
    let rest = drop rank marks in
    let enough : one ≤ length rest = omega (arith, length-drop rank marks) in
    ap (ranks_from stays rank) (take-add one two rest)
    ∙ after_each_other stays rank (take one rest) (take two (drop one rest))
    ∙ ap (λ n. ranks_from stays rank (take one rest) ++ ranks_from stays (rank + n) (take two (drop one rest))) (length-take-le one rest enough)
    ∙ ap (λ (l : List Mark). ranks_from stays rank (take one rest) ++ ranks_from stays (rank + one) (take two l)) (drop-drop one rank marks)

-- its ranks are within it
pub block_within : (marks : List Mark) (rank count : ℕ) → All (IsWithin rank count) (block_of marks rank count)
block_within marks rank count =
    let some = take count (drop rank marks) in
    let few : length some ≤ count = omega (arith, length-take count (drop rank marks)) in
    All-weaker (IsWithin rank (length some)) (IsWithin rank count)
    (λ other h. let low = h.0 in let high = h.1 in (omega arith, omega arith)) (block_of marks rank count) (all_within stays rank some)

-- and ascend
pub block_ascends : (marks : List Mark) (rank count : ℕ) → IsStrictlyIncreasing (block_of marks rank count)
block_ascends marks rank count = all_ascend stays rank (take count (drop rank marks))

-- a block of one rank
block_one : (marks : List Mark) (rank : ℕ) → rank < length marks
    → block_of marks rank 1 ≡ cond (stays (mark_at marks rank)) (rank ∷ []) []
block_one marks rank inside = ap (λ (l : List Mark). ranks_from stays rank (take 1 l)) (drop-cons marks rank Open inside)

-- one rank more, which is not removed
pub block_more : (marks : List Mark) (rank count : ℕ) → rank + count < length marks → is_removed (mark_at marks (rank + count)) ≡ false
    → block_of marks rank (count + 1) ≡ block_of marks rank count ++ (rank + count) ∷ []
block_more marks rank count inside stays_so =
    block_split marks rank count 1 (omega arith)
    ∙ ap (λ more. block_of marks rank count ++ more) (block_one marks (rank + count) inside
    ∙ ap (λ b. cond (not b) ((rank + count) ∷ []) []) stays_so)

-- one rank more, which is removed
pub block_same : (marks : List Mark) (rank count : ℕ) → rank + count < length marks → is_removed (mark_at marks (rank + count)) ≡ true
    → block_of marks rank (count + 1) ≡ block_of marks rank count
block_same marks rank count inside removed =
    block_split marks rank count 1 (omega arith)
    ∙ ap (λ more. block_of marks rank count ++ more) (block_one marks (rank + count) inside
    ∙ ap (λ b. cond (not b) ((rank + count) ∷ []) []) removed)
    ∙ append-nil (block_of marks rank count)

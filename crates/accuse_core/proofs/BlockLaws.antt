-- Blocks of ranks that are kept unless they are removed.
use Rattle.std.proofs.Common.{◌≡◌, ℕ, zero, suc, ◌+◌, ◌<◌, ◌≤◌, true, List, [], ◌∷◌, length, set, refl, ap, sym, ◌∙◌, arith, add-one, zero-add}
use Rattle.accuse_core.specs.declared.mark.Mark.{Mark}
use Rattle.accuse_core.specs.declared.mark.Mark.TheVariants.{Open, Yes, Kept, Removed}
use Rattle.accuse_core.specs.Marks.{is_decided, mark_at, kept_unless_removed, with_block}

-- a mark that is put where it is
pub set_same : (marks : List Mark) (rank : ℕ) → set marks rank (mark_at marks rank) ≡ marks
set_same [] rank = refl
set_same (x ∷ xs) zero = refl
set_same (x ∷ xs) (suc rank) = ap (λ rest. x ∷ rest) (set_same xs rank)

-- an empty block
pub block_none : (marks : List Mark) (rank : ℕ) → with_block marks rank 0 ≡ marks
block_none [] zero = refl
block_none [] (suc rank) = refl
block_none (x ∷ xs) zero = refl
block_none (x ∷ xs) (suc rank) = ap (λ rest. x ∷ rest) (block_none xs rank)

-- one rank more
pub block_more : (marks : List Mark) (rank count : ℕ) → rank + count < length marks
    → with_block marks rank (suc count) ≡ set (with_block marks rank count) (rank + count) (kept_unless_removed (mark_at marks (rank + count)))
block_more [] rank count inside = absurd (omega arith)
block_more (x ∷ xs) zero zero inside = refl
block_more (x ∷ xs) zero (suc count) inside =
    let later = block_more xs zero count (omega arith) in
    rw (zero-add) (ap (λ rest. kept_unless_removed x ∷ rest) (rw zero-add at later))
block_more (x ∷ xs) (suc rank) count inside =
    let later = block_more xs rank count (omega arith) in
    let moved : suc rank + count ≡ suc (rank + count) = omega arith in
    rw moved (ap (λ rest. x ∷ rest) later)

-- from a block on the marks stay
pub block_past : (marks : List Mark) (rank count other : ℕ) → rank + count ≤ other → mark_at (with_block marks rank count) other ≡ mark_at marks other
block_past [] zero zero other past = refl
block_past [] zero (suc count) other past = refl
block_past [] (suc rank) zero other past = refl
block_past [] (suc rank) (suc count) other past = refl
block_past (x ∷ xs) zero zero other past = refl
block_past (x ∷ xs) zero (suc count) zero past = absurd (omega arith)
block_past (x ∷ xs) zero (suc count) (suc other) past = block_past xs zero count other (omega arith)
block_past (x ∷ xs) (suc rank) count zero past = absurd (omega arith)
block_past (x ∷ xs) (suc rank) count (suc other) past = block_past xs rank count other (omega arith)

-- and before it
pub block_before : (marks : List Mark) (rank count other : ℕ) → other < rank → mark_at (with_block marks rank count) other ≡ mark_at marks other
block_before [] zero count other before = absurd (omega arith)
block_before [] (suc rank) zero other before = refl
block_before [] (suc rank) (suc count) other before = refl
block_before (x ∷ xs) zero count other before = absurd (omega arith)
block_before (x ∷ xs) (suc rank) count zero before = refl
block_before (x ∷ xs) (suc rank) count (suc other) before = block_before xs rank count other (omega arith)

-- inside it they are kept unless they are removed
pub block_within : (marks : List Mark) (rank count other : ℕ) → rank ≤ other → other < rank + count → other < length marks
    → mark_at (with_block marks rank count) other ≡ kept_unless_removed (mark_at marks other)
block_within [] rank count other from below inside = absurd (omega arith)
block_within (x ∷ xs) zero zero other from below inside = absurd (omega arith)
block_within (x ∷ xs) zero (suc count) zero from below inside = refl
block_within (x ∷ xs) zero (suc count) (suc other) from below inside = block_within xs zero count other (omega arith) (omega arith) (omega arith)
block_within (x ∷ xs) (suc rank) count zero from below inside = absurd (omega arith)
block_within (x ∷ xs) (suc rank) count (suc other) from below inside = block_within xs rank count other (omega arith) (omega arith) (omega arith)

-- a block has as many ranks as before
pub block_length : (marks : List Mark) (rank count : ℕ) → length (with_block marks rank count) ≡ length marks
block_length [] zero zero = refl
block_length [] zero (suc count) = refl
block_length [] (suc rank) zero = refl
block_length [] (suc rank) (suc count) = refl
block_length (x ∷ xs) zero zero = refl
block_length (x ∷ xs) zero (suc count) = ap suc (block_length xs zero count)
block_length (x ∷ xs) (suc rank) count = ap suc (block_length xs rank count)

pub kept_unless_removed_is_decided : (mark : Mark) → is_decided (kept_unless_removed mark) ≡ true
kept_unless_removed_is_decided Open = refl
kept_unless_removed_is_decided (Yes seen) = refl
kept_unless_removed_is_decided Kept = refl
kept_unless_removed_is_decided Removed = refl

-- one rank more, where the marks are known to be those of the block so far
pub block_step : (marks now new : List Mark) (rank count : ℕ) → rank + count < length marks → now ≡ with_block marks rank count
    → new ≡ set now (rank + count) (kept_unless_removed (mark_at now (rank + count))) → new ≡ with_block marks rank (count + 1)
block_step marks now new rank count inside is made = rw (made, is, add-one)
    (ap (λ mark. set (with_block marks rank count) (rank + count) (kept_unless_removed mark)) (block_past marks rank count (rank + count) (omega arith))
    ∙ sym (block_more marks rank count inside))

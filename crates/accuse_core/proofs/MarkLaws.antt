-- Kept ranks as a list, read off the marks, and how changes add to it.
use Rattle.std.proofs.Common.{◌≡◌, ℕ, zero, suc, ◌+◌, ◌<◌, ◌≤◌, true, false, not, ◌⊎◌, ⊎_elim, inl, inr, List, [], ◌∷◌, ◌++◌, map, Contains, length, set, take, drop, refl, ap, sym, subst, ◌∙◌, arith, zero-add}
use Rattle.std.proofs.lemmas.Bool.{cases_lt, both_ways}
use Rattle.std.proofs.lemmas.List.{take-append-drop, length-take-le}
use Rattle.accuse_core.specs.declared.mark.Mark.{Mark}
use Rattle.accuse_core.specs.declared.mark.Mark.TheVariants.{Open, Yes, Kept, Removed}
use Rattle.accuse_core.specs.Marks.{is_kept, is_removed, is_decided, mark_at, ranks_from, kept_of, kept_unless_removed, with_first_kept, with_block, block_of, front_of}
use Rattle.accuse_core.specs.Inside.Tracking.{NoneKeptFrom}
use Rattle.accuse_core.proofs.RankLaws.{no_ranks, ranks_append, ranks_set_passing, into_ranks, out_of_ranks}
use Rattle.accuse_core.proofs.FrontLaws.{decided_before}
use Rattle.accuse_core.proofs.BlockLaws.{block_before, block_within, block_past}

-- what is decided is kept or removed
pub kept_or_removed : (mark : Mark) → is_decided mark ≡ true → (is_kept mark ≡ true) ⊎ (is_removed mark ≡ true)
kept_or_removed Open decided = cc
kept_or_removed (Yes seen) decided = cc
kept_or_removed Kept decided = inl refl
kept_or_removed Removed decided = inr refl

-- past the last rank nothing is known
pub open_past : (marks : List Mark) (rank : ℕ) → length marks ≤ rank → mark_at marks rank ≡ Open
open_past [] rank outside = refl
open_past (x ∷ xs) zero outside = absurd (omega arith)
open_past (x ∷ xs) (suc rank) outside = open_past xs rank (omega arith)

append_nil : (ranks : List ℕ) → ranks ++ [] ≡ ranks
append_nil [] = refl
append_nil (first ∷ ranks) = ap (λ rest. first ∷ rest) (append_nil ranks)

moved : (first rank : ℕ) → suc (first + rank) ≡ suc first + rank
moved first rank = omega arith

-- kept ranks are listed, and no others
pub into_kept : (marks : List Mark) (rank : ℕ) → is_kept (mark_at marks rank) ≡ true → Contains (kept_of marks) rank
into_kept marks rank kept = ⊎_elim
    (λ (inside : rank < length marks). subst (Contains (kept_of marks)) (zero-add rank) (into_ranks is_kept 0 marks rank inside kept))
    (λ (outside : length marks ≤ rank). absurd (both_ways (is_kept (mark_at marks rank)) (ap is_kept (open_past marks rank outside)) kept))
    (cases_lt rank (length marks))

pub out_of_kept : (marks : List Mark) (rank : ℕ) → Contains (kept_of marks) rank → is_kept (mark_at marks rank) ≡ true
out_of_kept marks rank held =
    let p = out_of_ranks is_kept 0 marks rank held in
    let same : p.place ≡ rank = sym (p.is ∙ zero-add p.place) in
    subst (λ r. is_kept (mark_at marks r) ≡ true) same p.holds

-- a kept rank is before a rank that isn't decided
pub kept_is_before : (marks : List Mark) (rank kept : ℕ) → NoneKeptFrom marks (front_of marks) → is_decided (mark_at marks rank) ≡ false
    → Contains (kept_of marks) kept → kept < rank
kept_is_before marks rank kept ahead undecided held = ⊎_elim
    (λ (low : kept < rank). low)
    (λ (high : rank ≤ kept). ⊎_elim
    (λ (before : rank < front_of marks). absurd (both_ways (is_decided (mark_at marks rank)) undecided (decided_before marks rank before)))
    (λ (past : front_of marks ≤ rank). absurd (both_ways (is_kept (mark_at marks kept)) (ahead kept (omega arith)) (out_of_kept marks kept held)))
    (cases_lt rank (front_of marks)))
    (cases_lt kept rank)

-- one more kept rank is put at the end of the list
pub kept_grows : (marks : List Mark) (rank : ℕ) → rank < length marks → NoneKeptFrom marks rank → kept_of (set marks rank Kept) ≡ kept_of marks ++ rank ∷ []
kept_grows marks rank inside ahead = ranks_set_passing is_kept 0 marks rank Kept inside refl ahead ∙ ap (λ n. kept_of marks ++ n ∷ []) (zero-add rank)

-- of marks that are kept unless they are removed, the kept ones are those that weren't removed
kept_of_kept : (first : ℕ) (marks : List Mark) → ranks_from is_kept first (map kept_unless_removed marks) ≡ ranks_from (λ mark. not (is_removed mark)) first marks
kept_of_kept first [] = refl
kept_of_kept first (Open ∷ marks) = ap (λ ranks. first ∷ ranks) (kept_of_kept (suc first) marks)
kept_of_kept first (Yes seen ∷ marks) = ap (λ ranks. first ∷ ranks) (kept_of_kept (suc first) marks)
kept_of_kept first (Kept ∷ marks) = ap (λ ranks. first ∷ ranks) (kept_of_kept (suc first) marks)
kept_of_kept first (Removed ∷ marks) = kept_of_kept (suc first) marks

at_drop : (marks : List Mark) (first rank : ℕ) → mark_at (drop first marks) rank ≡ mark_at marks (first + rank)
at_drop marks zero rank = ap (λ r. mark_at marks r) (sym (zero-add rank))
at_drop [] (suc first) rank = refl
at_drop (x ∷ xs) (suc first) rank = at_drop xs first rank ∙ ap (λ r. mark_at (x ∷ xs) r) (moved first rank)

-- the kept ranks of marks that are kept from the first on
kept_of_first : (first count : ℕ) (marks : List Mark) → ((rank : ℕ) → is_kept (mark_at marks rank) ≡ false)
    → ranks_from is_kept first (with_first_kept count marks) ≡ ranks_from (λ mark. not (is_removed mark)) first (take count marks)
kept_of_first first count marks none =
    let rest = drop count marks in
    let start = map kept_unless_removed (take count marks) in
    let nothing = no_ranks is_kept (first + length start) rest (λ rank. ap is_kept (at_drop marks count rank) ∙ none (count + rank)) in
    ranks_append is_kept first start rest ∙ ap (λ ranks. ranks_from is_kept first start ++ ranks) nothing ∙ append_nil (ranks_from is_kept first start) ∙ kept_of_kept first (take count marks)

-- a block puts its ranks at the end of the list, but for the removed ones
pub block_grows : (marks : List Mark) (rank count : ℕ) → rank ≤ length marks → NoneKeptFrom marks rank
    → kept_of (with_block marks rank count) ≡ kept_of marks ++ block_of marks rank count
block_grows marks rank count inside ahead =
    let front = take rank marks in
    let rest = drop rank marks in
    let none : (r : ℕ) → is_kept (mark_at rest r) ≡ false = λ r. ap is_kept (at_drop marks rank r) ∙ ahead (rank + r) (omega arith) in
    let at : 0 + length front ≡ rank = zero-add (length front) ∙ length-take-le rank marks inside in
    let with_more : (more : List Mark) → ranks_from is_kept 0 (front ++ more) ≡ ranks_from is_kept 0 front ++ ranks_from is_kept rank more =
    λ more. ranks_append is_kept 0 front more ∙ ap (λ n. ranks_from is_kept 0 front ++ ranks_from is_kept n more) at in
    let before : kept_of marks ≡ ranks_from is_kept 0 front =
    ap kept_of (sym (take-append-drop rank marks)) ∙ with_more rest ∙ ap (λ ranks. ranks_from is_kept 0 front ++ ranks) (no_ranks is_kept rank rest none) ∙ append_nil (ranks_from is_kept 0 front) in
    with_more (with_first_kept count rest) ∙ ap (λ ranks. ranks_from is_kept 0 front ++ ranks) (kept_of_first rank count rest none)
    ∙ ap (λ ranks. ranks ++ block_of marks rank count) (sym before)

-- a mark after a block was kept
pub at_block : (P : Mark → Type 0) (marks : List Mark) (rank count other : ℕ) → rank + count ≤ length marks
    → (other < rank → P (mark_at marks other)) → (rank ≤ other → other < rank + count → P (kept_unless_removed (mark_at marks other)))
    → (rank + count ≤ other → P (mark_at marks other)) → P (mark_at (with_block marks rank count) other)
at_block P marks rank count other inside before within past = ⊎_elim
    (λ (low : other < rank). subst P (sym (block_before marks rank count other low)) (before low))
    (λ (high : rank ≤ other). ⊎_elim
    (λ (below : other < rank + count). subst P (sym (block_within marks rank count other high below (omega arith))) (within high below))
    (λ (above : rank + count ≤ other). subst P (sym (block_past marks rank count other above)) (past above))
    (cases_lt other (rank + count)))
    (cases_lt other rank)

pub is_kept_mark : (mark : Mark) → is_kept mark ≡ true → mark ≡ Kept
is_kept_mark Open kept = cc
is_kept_mark (Yes seen) kept = cc
is_kept_mark Kept kept = refl
is_kept_mark Removed kept = cc

pub kept_laws : (marks : List Mark) (rank : ℕ) → (Contains (kept_of marks) rank → mark_at marks rank ≡ Kept) × (mark_at marks rank ≡ Kept → Contains (kept_of marks) rank)
kept_laws marks rank = (λ held. is_kept_mark (mark_at marks rank) (out_of_kept marks rank held), λ kept. into_kept marks rank (ap is_kept kept))

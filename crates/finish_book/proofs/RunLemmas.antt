-- How a run grows, and how often it can be halved.
use Rattle.std.proofs.Common.{◌≡◌, ℕ, suc, ◌+◌, ◌-◌, ◌^◌, ◌<◌, ◌≤◌, ◌*◌, ⊎_elim, true, false, cond, List, [], ◌∷◌, ◌++◌, All, Contains, length, ap, sym, subst, ◌∙◌, arith, append-nil}
use Rattle.std.proofs.Math.Nat.{pow-le-pow_right, one-le-pow, pow-suc}
use Rattle.std.proofs.lemmas.Bool.{cases_lt, cases_Bool}
use Rattle.std.proofs.lemmas.List.{append_assoc}
use Rattle.std.proofs.lemmas.List.Elements.{All-weaker, All-append, All-contains_itself}
use Rattle.std.specs.List.Sorted.{IsStrictlyIncreasing}
use Rattle.std.specs.Prelude.{MatchOption, Some}
use Rattle.closed_model.specs.ClosedTables.{TableView}
use Rattle.derivation.specs.declared.types.Step.{Step}
use Rattle.saturate.specs.Decisions.{IsVerdict}
use Rattle.saturate.specs.declared.types.Verdict.TheVariants.{No, Yes}
use Rattle.accuse_core.specs.declared.mark.Mark.{Mark}
use Rattle.accuse_core.specs.Marks.{is_removed, mark_at, front_of, block_of}
use Rattle.commit_book.specs.Books.{BookView, ranks_of}
use Rattle.finish_book.specs.declared.runs.Run.{Run}
use Rattle.finish_book.specs.Inside.Runs.{IsRun, IsTooLong, open_at, with_run}
use Rattle.finish_book.proofs.BlockLemmas.{IsWithin, block_within, block_ascends, block_split, block_more, block_same}

-- a power of two that is below another has the smaller exponent
pub powers_in_order : (one two n : ℕ) → 2 ^ one ≤ n → n < 2 ^ two → one + 1 ≤ two
powers_in_order one two n low high = ⊎_elim
    (λ (less : one < two). omega arith)
    (λ (more : two ≤ one). absurd (let bound : 2 ^ two ≤ 2 ^ one = pow-le-pow_right (omega arith) more in omega arith))
    (cases_lt one two)

-- the ranks from `first` up to this one that are not removed, and the next one
pub block_next : (marks : List Mark) (first rank : ℕ) (ranks : List ℕ) → first ≤ rank → rank < length marks
    → ranks ≡ block_of marks first (rank - first) → ranks ++ open_at marks rank ≡ block_of marks first (rank + 1 - first)
block_next marks first rank ranks low inside so_far =
    let there : first + (rank - first) ≡ rank = omega arith in
    let next : rank + 1 - first ≡ rank - first + 1 = omega arith in
    let within : first + (rank - first) < length marks = omega arith in
    ap (λ (l : List ℕ). l ++ open_at marks rank) so_far ∙ ⊎_elim
    (λ (removed : is_removed (mark_at marks rank) ≡ true).
    ap (λ b. block_of marks first (rank - first) ++ cond b [] (rank ∷ [])) removed
    ∙ append-nil (block_of marks first (rank - first))
    ∙ sym (block_same marks first (rank - first) within (ap (λ n. is_removed (mark_at marks n)) there ∙ removed)))
    (λ (stays : is_removed (mark_at marks rank) ≡ false).
    ap (λ b. block_of marks first (rank - first) ++ cond b [] (rank ∷ [])) stays
    ∙ ap (λ n. block_of marks first (rank - first) ++ n ∷ []) (sym there)
    ∙ sym (block_more marks first (rank - first) within (ap (λ n. is_removed (mark_at marks n)) there ∙ stays)))
    (cases_Bool (is_removed (mark_at marks rank)))
    ∙ ap (λ n. block_of marks first n) (sym next)

module _ (marks : List Mark) (front known count : ℕ) where
  -- the kept ranks and a run, followed by the next ranks, are a longer run
  pub run_grows : (kept : List ℕ) → front + known ≤ length marks
      → (kept ++ block_of marks front known) ++ block_of marks (front + known) count ≡ kept ++ block_of marks front (known + count)
  run_grows kept inside = append_assoc kept (block_of marks front known) (block_of marks (front + known) count)
      ∙ ap (λ block. kept ++ block) (sym (block_split marks front known count inside))

  -- they are before the next ranks
  pub run_before : (kept : List ℕ) → All (λ old. old < front) kept
      → All (λ old. All (λ rank. old < rank) (block_of marks (front + known) count)) (kept ++ block_of marks front known)
  run_before kept before =
      let IsBefore : ℕ → Type 0 = λ old. All (λ rank. old < rank) (block_of marks (front + known) count) in
      let next : (old : ℕ) → old < front + known → IsBefore old = λ old low.
      All-weaker (IsWithin (front + known) count) (λ rank. old < rank) (λ rank h. let first = h.0 in omega arith)
      (block_of marks (front + known) count) (block_within marks (front + known) count) in
      All-append IsBefore kept (block_of marks front known)
      (All-weaker (λ old. old < front) IsBefore (λ old low. next old (omega arith)) kept before)
      (All-weaker (IsWithin front known) IsBefore (λ old h. let high = h.1 in next old (omega arith)) (block_of marks front known) (block_within marks front known))

  -- which are ranks of the case
  pub next_inside : (ranks : ℕ) → front + known + count ≤ ranks → All (λ rank. rank < ranks) (block_of marks (front + known) count)
  next_inside ranks inside = All-weaker (IsWithin (front + known) count) (λ rank. rank < ranks) (λ rank h. let high = h.1 in omega arith)
      (block_of marks (front + known) count) (block_within marks (front + known) count)

-- the same of ranks that are known to be those of the next block, and of the table's
module _ (marks : List Mark) (front first known count : ℕ) (kept snapshot ranks : List ℕ) (next : first ≡ front + known)
    (snapshot_is : snapshot ≡ kept ++ block_of marks front known) (ranks_are : ranks ≡ block_of marks first count) where
  moved : ranks ≡ block_of marks (front + known) count
  moved = ranks_are ∙ ap (λ n. block_of marks n count) next

  pub ranks_ascend : IsStrictlyIncreasing ranks
  ranks_ascend = subst IsStrictlyIncreasing (sym ranks_are) (block_ascends marks first count)

  pub ranks_inside : (bound : ℕ) → first + count ≤ bound → All (λ rank. rank < bound) ranks
  ranks_inside bound inside = subst (λ (l : List ℕ). All (λ rank. rank < bound) l) (sym moved)
      (next_inside marks front known count bound (omega arith))

  pub ranks_after : ((rank : ℕ) → Contains kept rank → rank < front) → All (λ old. All (λ rank. old < rank) ranks) snapshot
  ranks_after before = subst (λ (l : List ℕ). All (λ old. All (λ rank. old < rank) ranks) l) (sym snapshot_is)
      (subst (λ (l : List ℕ). All (λ old. All (λ rank. old < rank) l) (kept ++ block_of marks front known)) (sym moved)
      (run_before marks front known count kept (All-weaker (Contains kept) (λ old. old < front) before kept (All-contains_itself kept))))

  pub ranks_follow : front + known ≤ length marks → snapshot ++ ranks ≡ kept ++ block_of marks front (known + count)
  ranks_follow inside = ap (λ (l : List ℕ). l ++ ranks) snapshot_is ∙ ap (λ (l : List ℕ). (kept ++ block_of marks front known) ++ l) moved
      ∙ run_grows marks front known count kept inside

-- a run after a test
module _ (book : BookView) (run : Run) (count : ℕ) (is_run : IsRun book run) (some : 0 < count) (within : count ≤ run.further) where
  pub accepted : (table : TableView) → IsVerdict book.case (with_run book (run.known + count)) (Yes table)
      → IsRun book (record { known = run.known + count; further = run.further - count; table = table; why = run.why })
  accepted table verdict =
      let same : run.known + count + (run.further - count) ≡ run.known + run.further = omega arith in record {
        inside = let inside = is_run.inside in omega arith;
        table = record { case_is = verdict.1; ranks_are = verdict.2 };
        end = subst (λ n. MatchOption run.why (front_of book.marks + n ≡ ranks_of book.case) (IsTooLong book (n + 1))) (sym same) is_run.end;
      }

  pub rejected : (steps : List Step) → IsVerdict book.case (with_run book (run.known + count)) (No steps)
      → IsRun book (record { known = run.known; further = count - 1; table = run.table; why = Some steps })
  rejected steps verdict =
      let same : run.known + (count - 1) + 1 ≡ run.known + count = omega arith in
      let inside = is_run.inside in record {
        inside = omega arith;
        table = is_run.table;
        end = subst (λ n. IsTooLong book n steps) (sym same) (record { inside = omega arith; incoherent = verdict.0; good = verdict.1 });
      }

-- the tests that may be made are enough for all ranks
pub enough_levels : (front further ranks levels : ℕ) → front + further ≤ ranks → ranks ≤ 2 ^ levels → further + 1 ≤ 2 ^ (levels + 1 - 0)
enough_levels front further ranks levels inside enough =
    let power : 2 ^ suc levels ≡ 2 ^ levels * 2 = pow-suc 2 levels in
    let one : 1 ≤ 2 ^ levels = one-le-pow levels 2 (omega arith) in
    let exponent : levels + 1 - 0 ≡ suc levels = omega arith in
    subst (λ n. further + 1 ≤ 2 ^ n) (sym exponent) (omega arith)

-- and one test fewer for what is left after one
pub halved : (further levels made : ℕ) → made < levels + 1 → further + 1 ≤ 2 ^ (levels + 1 - made) → further + 1 ≤ 2 * 2 ^ (levels - made)
halved further levels made inside small =
    let exponent : levels + 1 - made ≡ suc (levels - made) = omega arith in
    let power : 2 ^ suc (levels - made) ≡ 2 ^ (levels - made) * 2 = pow-suc 2 (levels - made) in
    let bound : further + 1 ≤ 2 ^ suc (levels - made) = subst (λ n. further + 1 ≤ 2 ^ n) exponent small in omega arith

pub one_fewer : (further levels made : ℕ) → made < levels + 1 → further + 1 ≤ 2 ^ (levels - made) → further + 1 ≤ 2 ^ (levels + 1 - (made + 1))
one_fewer further levels made inside small =
    let exponent : levels - made ≡ levels + 1 - (made + 1) = omega arith in
    subst (λ n. further + 1 ≤ 2 ^ n) exponent small

-- with no test left there is nothing to test
pub none_left : (further levels made : ℕ) → levels + 1 ≤ made → further + 1 ≤ 2 ^ (levels + 1 - made) → further ≡ 0
none_left further levels made all small =
    let none : levels + 1 - made ≡ 0 = omega arith in
    let bound : further + 1 ≤ 2 ^ 0 = subst (λ n. further + 1 ≤ 2 ^ n) none small in omega arith

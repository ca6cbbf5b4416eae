-- Reading removed rows one after another, as a loop does.
use Rattle.std.proofs.Common.{◌≡◌, ℕ, suc, ◌-◌, ◌≤◌, ◌<◌, List, [], ◌∷◌, ◌++◌, length, Option, Some, None, Result, Ok, Err, refl, sym, ap, ◌∙◌, append_assoc, arith}
use Rattle.std.proofs.lemmas.List.{append-nil, length-append}
use Rattle.derivation.specs.declared.types.Step.{Step}
use Rattle.line_fields.specs.Reading.{At}
use Rattle.evidence_lines.specs.StepReading.{step_of}
use Rattle.evidence_text.specs.declared.types.EvidenceFault.{EvidenceFault}
use Rattle.evidence_text.specs.declared.types.EvidenceFault.TheVariants.{Version, Line, Length, OutOfMemory}
use Rattle.evidence_text.specs.declared.types.Removed.{Removed}
use Rattle.evidence_lines.specs.FirstLines.{row_of}
use Rattle.evidence_text.specs.Reading.{Read, ◌>>=◌, next_line, entries, any_order, rows, FailsRead}
use Rattle.evidence_text.specs.Inside.Loops.{with_front}

abbrev Rows : Type 0
Rows = List Removed

regroup : (front : Rows) (r : Removed) (read : Read Rows) → with_front front (read >>= λ more. Ok (r ∷ more.0, more.1)) ≡ with_front (front ++ r ∷ []) read
regroup front r (Ok more) = ap (λ all. Ok (all, more.1)) (sym (append_assoc front (r ∷ []) more.0))
regroup front r (Err fault) = refl

-- a row with its steps
pub row_goes_on : (front : Rows) (first count : ℕ) (before : Option ℕ) (at after next : At) (row steps : ℕ) (list : List Step) (total : Read Rows)
    → length front < count → next_line (row_of before) (Length first) at ≡ Ok ((row, steps), after)
    → entries (any_order step_of) first steps None after ≡ Ok (list, next)
    → with_front front (rows first (count - length front) before at) ≡ total
    → let r : Removed = record { row = row; steps = list } in
    with_front (front ++ r ∷ []) (rows first (count - length (front ++ r ∷ [])) (Some row) next) ≡ total
unfolding rows
row_goes_on front first count before at after next row steps list total more head read so_far =
    let r : Removed = record { row = row; steps = list } in
    let k : count - length front ≡ suc (count - length (front ++ r ∷ [])) = omega (arith, length-append front (r ∷ [])) in
    let n = count - length (front ++ r ∷ []) in
    let one : with_front front (rows first (count - length front) before at) ≡ with_front (front ++ r ∷ []) (rows first n (Some row) next) =
    rw (k, head, read) (regroup front r (rows first n (Some row) next)) in
    sym one ∙ so_far

fails_at : (fault : EvidenceFault) {A B : Type 0} (part : Result A EvidenceFault) (total : Result B EvidenceFault)
    → ((f : EvidenceFault) → part ≡ Err f → total ≡ Err f) → FailsRead fault part → FailsRead fault total
fails_at OutOfMemory part total same fails = tt
fails_at Version part total same fails = same Version fails
fails_at (Line number) part total same fails = same (Line number) fails
fails_at (Length number) part total same fails = same (Length number) fails

-- no row
pub row_fails : (fault : EvidenceFault) (front : Rows) (first count : ℕ) (before : Option ℕ) (at : At) (total : Read Rows)
    → length front < count → FailsRead fault (next_line (row_of before) (Length first) at)
    → with_front front (rows first (count - length front) before at) ≡ total → FailsRead fault total
unfolding rows
row_fails fault front first count before at total more fails so_far =
    fails_at fault (next_line (row_of before) (Length first) at) total (λ f e. by f e) fails
  where
    by : (f : EvidenceFault) → next_line (row_of before) (Length first) at ≡ Err f → total ≡ Err f
    by f e =
        let k : count - length front ≡ suc (count - length front - 1) = omega arith in
        let one : with_front front (rows first (count - length front) before at) ≡ Err f = rw (k, e) refl in
        sym so_far ∙ one

-- a row, but not its steps
pub steps_fail : (fault : EvidenceFault) (front : Rows) (first count : ℕ) (before : Option ℕ) (at after : At) (row steps : ℕ) (total : Read Rows)
    → length front < count → next_line (row_of before) (Length first) at ≡ Ok ((row, steps), after)
    → FailsRead fault (entries (any_order step_of) first steps None after)
    → with_front front (rows first (count - length front) before at) ≡ total → FailsRead fault total
unfolding rows
steps_fail fault front first count before at after row steps total more head fails so_far =
    fails_at fault (entries (any_order step_of) first steps None after) total (λ f e. by f e) fails
  where
    by : (f : EvidenceFault) → entries (any_order step_of) first steps None after ≡ Err f → total ≡ Err f
    by f e =
        let k : count - length front ≡ suc (count - length front - 1) = omega arith in
        let one : with_front front (rows first (count - length front) before at) ≡ Err f = rw (k, head, e) refl in
        sym so_far ∙ one

pub rows_done : (front : Rows) (first count : ℕ) (before : Option ℕ) (at : At) (total : Read Rows)
    → count ≤ length front → with_front front (rows first (count - length front) before at) ≡ total → total ≡ Ok (front, at)
unfolding rows
rows_done front first count before at total past so_far =
    let k : count - length front ≡ 0 = omega arith in
    let one : with_front front (rows first (count - length front) before at) ≡ Ok (front, at) = rw k (ap (λ rs. Ok (rs, at)) (append-nil front)) in
    sym so_far ∙ one

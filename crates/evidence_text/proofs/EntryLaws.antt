-- Reading entries one after another, as a loop does.
use Rattle.std.proofs.Common.{◌≡◌, ℕ, suc, ◌-◌, ◌+◌, ◌≤◌, ◌<◌, List, [], ◌∷◌, ◌++◌, length, Option, Some, None, Ok, Err, refl, sym, ap, ◌∙◌, append_assoc, arith, slice_get}
use Rattle.std.proofs.lemmas.List.{append-nil, length-append}
use Rattle.line_fields.specs.Lines.{Fields}
use Rattle.line_fields.specs.Reading.{At}
use Rattle.evidence_text.specs.declared.types.EvidenceFault.TheVariants.{Line, Length}
use Rattle.evidence_text.specs.Reading.{Read, ◌>>=◌, entries}
use Rattle.evidence_text.specs.Inside.Loops.{with_front, last_of}

regroup : {X : Type 0} → (front : List X) (x : X) (read : Read (List X)) → with_front front (read >>= λ xs. Ok (x ∷ xs.0, xs.1)) ≡ with_front (front ++ x ∷ []) read
regroup front x (Ok xs) = ap (λ all. Ok (all, xs.1)) (sym (append_assoc front (x ∷ []) xs.0))
regroup front x (Err fault) = refl

-- the last of a list with one more
seam : {X : Type 0} → (front : List X) (x : X) → slice_get (front ++ x ∷ []) (length front) ≡ Some x
seam [] x = refl
seam (y ∷ ys) x = seam ys x

last_push : {X : Type 0} → (front : List X) (x : X) → last_of (front ++ x ∷ []) ≡ Some x
last_push front x =
    let place : length (front ++ x ∷ []) - 1 ≡ length front = omega (arith, length-append front (x ∷ [])) in
    ap (slice_get (front ++ x ∷ [])) place ∙ seam front x

-- the next line is an entry
pub goes_on : {X : Type 0} → (form : Option X → Fields → Option X) (front : List X) (first count : ℕ) (at next : At) (fields : Fields) (x : X) (total : Read (List X))
    → length front < count → at.lines ≡ fields ∷ next.lines → next.read ≡ at.read + 1 → Some x ≡ form (last_of front) fields
    → with_front front (entries form first (count - length front) (last_of front) at) ≡ total
    → with_front (front ++ x ∷ []) (entries form first (count - length (front ++ x ∷ [])) (last_of (front ++ x ∷ [])) next) ≡ total
unfolding entries
goes_on form front first count at next fields x total more lines read is so_far =
    let k : count - length front ≡ suc (count - length (front ++ x ∷ [])) = omega (arith, length-append front (x ∷ [])) in
    let last = last_push front x in
    let n = count - length (front ++ x ∷ []) in
    let after : At = record { read = at.read + 1; lines = next.lines } in
    let place : after ≡ next = ap (λ n. record next { read = n }) (sym read) in
    let one : with_front front (entries form first (count - length front) (last_of front) at) ≡ with_front (front ++ x ∷ []) (entries form first n (Some x) next) =
    rw (k, lines, ← is, place) (regroup front x (entries form first n (Some x) next)) in
    rw last (sym one ∙ so_far)

-- the text ends
pub ends : {X : Type 0} → (form : Option X → Fields → Option X) (front : List X) (first count : ℕ) (at : At) (total : Read (List X))
    → length front < count → at.lines ≡ [] → with_front front (entries form first (count - length front) (last_of front) at) ≡ total → total ≡ Err (Length first)
unfolding entries
ends form front first count at total more lines so_far =
    let k : count - length front ≡ suc (count - length front - 1) = omega arith in
    let one : with_front front (entries form first (count - length front) (last_of front) at) ≡ Err (Length first) = rw (k, lines) refl in
    sym so_far ∙ one

-- the next line is no entry
pub refuses : {X : Type 0} → (form : Option X → Fields → Option X) (front : List X) (first count : ℕ) (at next : At) (fields : Fields) (total : Read (List X))
    → length front < count → at.lines ≡ fields ∷ next.lines → next.read ≡ at.read + 1 → None ≡ form (last_of front) fields
    → with_front front (entries form first (count - length front) (last_of front) at) ≡ total → total ≡ Err (Line next.read)
unfolding entries
refuses form front first count at next fields total more lines read is so_far =
    let k : count - length front ≡ suc (count - length front - 1) = omega arith in
    let one : with_front front (entries form first (count - length front) (last_of front) at) ≡ Err (Line (at.read + 1)) = rw (k, lines, ← is) refl in
    sym so_far ∙ one ∙ ap (λ n. Err (Line n)) (sym read)

-- all entries are read
pub is_done : {X : Type 0} → (form : Option X → Fields → Option X) (front : List X) (first count : ℕ) (at : At) (total : Read (List X))
    → count ≤ length front → with_front front (entries form first (count - length front) (last_of front) at) ≡ total → total ≡ Ok (front, at)
unfolding entries
is_done form front first count at total past so_far =
    let k : count - length front ≡ 0 = omega arith in
    let one : with_front front (entries form first (count - length front) (last_of front) at) ≡ Ok (front, at) = rw k (ap (λ xs. Ok (xs, at)) (append-nil front)) in
    sym so_far ∙ one

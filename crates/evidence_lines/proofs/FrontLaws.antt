-- Reading one element more.
use Rattle.std.proofs.Common.{◌≡◌, ℕ, true, false, List, [], ◌∷◌, ◌++◌, refl, ap, sym, ◌∙◌, append_assoc, Option, Some, None}
use Rattle.std.proofs.lemmas.List.{append-nil}
use Rattle.line_fields.specs.Lines.{Fields}
use Rattle.line_fields.specs.Numbers.{short_number}
use Rattle.line_fields.specs.Reading.{◌>>=◌}
use Rattle.evidence_lines.specs.Inside.Fronts.{with_front}
use Rattle.evidence_lines.specs.Model.{onto, if_follows, number_follows, elements_in, pair_follows, pair_in, pairs_in}

onto_front : {X : Type 0} → (front : List X) (x : X) (o : Option (List X)) → with_front front (onto x o) ≡ with_front (front ++ x ∷ []) o
onto_front front x None = refl
onto_front front x (Some xs) = ap (λ all. Some all) (sym (append_assoc front (x ∷ []) xs))

-- an element that follows
pub element_more : (front : List ℕ) (before : Option ℕ) (fields : Fields) (field : List ℕ) (rest : Fields) (x : ℕ) (all : Option (List ℕ))
    → fields ≡ field ∷ rest → Some x ≡ short_number field → true ≡ number_follows before x
    → with_front front (elements_in before fields) ≡ all → with_front (front ++ x ∷ []) (elements_in (Some x) rest) ≡ all
element_more front before fields field rest x all parts number follows so_far =
    let one : with_front front (elements_in before fields) ≡ with_front (front ++ x ∷ []) (elements_in (Some x) rest) =
    rw (parts, ← number, ← follows) (onto_front front x (elements_in (Some x) rest)) in
    sym one ∙ so_far

-- no element, or one that does not follow
pub no_number : (front : List ℕ) (before : Option ℕ) (fields : Fields) (field : List ℕ) (rest : Fields) (all : Option (List ℕ))
    → fields ≡ field ∷ rest → None ≡ short_number field → with_front front (elements_in before fields) ≡ all → None ≡ all
no_number front before fields field rest all parts number so_far =
    let one : with_front front (elements_in before fields) ≡ None = rw (parts, ← number) refl in sym one ∙ so_far

pub no_order : (front : List ℕ) (before : Option ℕ) (fields : Fields) (field : List ℕ) (rest : Fields) (x : ℕ) (all : Option (List ℕ))
    → fields ≡ field ∷ rest → Some x ≡ short_number field → false ≡ number_follows before x
    → with_front front (elements_in before fields) ≡ all → None ≡ all
no_order front before fields field rest x all parts number follows so_far =
    let one : with_front front (elements_in before fields) ≡ None = rw (parts, ← number, ← follows) refl in sym one ∙ so_far

-- no field is left
pub elements_end : (front : List ℕ) (before : Option ℕ) (fields : Fields) (all : Option (List ℕ))
    → fields ≡ [] → with_front front (elements_in before fields) ≡ all → Some front ≡ all
elements_end front before fields all none so_far =
    let one : with_front front (elements_in before fields) ≡ Some front = rw none (ap (λ xs. Some xs) (append-nil front)) in
    sym one ∙ so_far

-- the pairs in fields, by the first of them
pairs_by : (before : Option (ℕ × ℕ)) (field : List ℕ) (after : Fields)
    → pairs_in before (field ∷ after) ≡ (pair_in field after >>= λ p. if_follows (pair_follows before p.0) (onto p.0 (pairs_in (Some p.0) p.1)))
pairs_by before field [] = refl
pairs_by before field (next ∷ rest) = by (short_number field) (short_number next)
  where
    made : ℕ → ℕ → Option ((ℕ × ℕ) × Fields)
    made a b = Some ((a, b), rest)

    later : (ℕ × ℕ) × Fields → Option (List (ℕ × ℕ))
    later p = if_follows (pair_follows before p.0) (onto p.0 (pairs_in (Some p.0) p.1))

    by : (a b : Option ℕ) → (a >>= λ a. b >>= λ b. later ((a, b), rest)) ≡ ((a >>= λ a. b >>= λ b. made a b) >>= later)
    by None b = refl
    by (Some a) None = refl
    by (Some a) (Some b) = refl

pub pair_more : (front : List (ℕ × ℕ)) (before : Option (ℕ × ℕ)) (fields : Fields) (field : List ℕ) (after rest : Fields) (p : ℕ × ℕ) (all : Option (List (ℕ × ℕ)))
    → fields ≡ field ∷ after → Some (p, rest) ≡ pair_in field after → true ≡ pair_follows before p
    → with_front front (pairs_in before fields) ≡ all → with_front (front ++ p ∷ []) (pairs_in (Some p) rest) ≡ all
pair_more front before fields field after rest p all parts pair follows so_far =
    let one : with_front front (pairs_in before fields) ≡ with_front (front ++ p ∷ []) (pairs_in (Some p) rest) =
    rw (parts, pairs_by before field after, ← pair, ← follows) (onto_front front p (pairs_in (Some p) rest)) in
    sym one ∙ so_far

pub no_pair : (front : List (ℕ × ℕ)) (before : Option (ℕ × ℕ)) (fields : Fields) (field : List ℕ) (after : Fields) (all : Option (List (ℕ × ℕ)))
    → fields ≡ field ∷ after → None ≡ pair_in field after → with_front front (pairs_in before fields) ≡ all → None ≡ all
no_pair front before fields field after all parts pair so_far =
    let one : with_front front (pairs_in before fields) ≡ None = rw (parts, pairs_by before field after, ← pair) refl in sym one ∙ so_far

pub no_pair_order : (front : List (ℕ × ℕ)) (before : Option (ℕ × ℕ)) (fields : Fields) (field : List ℕ) (after rest : Fields) (p : ℕ × ℕ) (all : Option (List (ℕ × ℕ)))
    → fields ≡ field ∷ after → Some (p, rest) ≡ pair_in field after → false ≡ pair_follows before p
    → with_front front (pairs_in before fields) ≡ all → None ≡ all
no_pair_order front before fields field after rest p all parts pair follows so_far =
    let one : with_front front (pairs_in before fields) ≡ None = rw (parts, pairs_by before field after, ← pair, ← follows) refl in sym one ∙ so_far

pub pairs_end : (front : List (ℕ × ℕ)) (before : Option (ℕ × ℕ)) (fields : Fields) (all : Option (List (ℕ × ℕ)))
    → fields ≡ [] → with_front front (pairs_in before fields) ≡ all → Some front ≡ all
pairs_end front before fields all none so_far =
    let one : with_front front (pairs_in before fields) ≡ Some front = rw none (ap (λ xs. Some xs) (append-nil front)) in
    sym one ∙ so_far

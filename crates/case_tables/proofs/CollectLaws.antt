-- The entries of elements with their numbers, and of the axioms of rows.
use Rattle.std.proofs.Common.{◌≡◌, ◌∙◌, ℕ, suc, ◌+◌, List, [], ◌∷◌, ◌++◌, Some, slice_get, slice_index_or, drop, sym, ap, arith}
use Rattle.std.specs.List.{flat_map}
use Rattle.std.proofs.lemmas.List.{drop_more, append-nil, append_assoc}
use Rattle.std.proofs.lemmas.List.Concat.{flat_map-cons}
use Rattle.std.proofs.lemmas.Grind.{flat_map-append}
use Rattle.std.proofs.lemmas.Option.{slice_get_within, get_or_from_slice_get}
use Rattle.concept_store.specs.declared.types.NodeAxiom.{NodeAxiom}
use Rattle.fact_table.specs.declared.types.Source.{Source}
use Rattle.case_tables.specs.Keyed.{numbered_from}
use Rattle.case_tables.specs.Tables.{rows_below}

-- what is left from a place on is the element there and what is left after it
drop_at : {X : Type 0} (xs : List X) (place : ℕ) (x : X) → slice_get xs place ≡ Some x → drop place xs ≡ x ∷ drop (place + 1) xs
drop_at xs place x at =
    drop_more xs place x (slice_get_within xs place x at)
    ∙ ap (λ y. y ∷ drop (place + 1) xs) (get_or_from_slice_get xs place x x at)

-- the entries so far, and those of what is left, when one more element has been read
pub numbered_more : {A B X : Type 0} (f : A × B → List X) (name : ℕ → A) (number place : ℕ) (xs : List B) (x : B) (before after whole : List X) → slice_get xs place ≡ Some x → before ++ flat_map f (numbered_from name number (drop place xs)) ≡ whole → after ≡ before ++ f (name number, x) → after ++ flat_map f (numbered_from name (number + 1) (drop (place + 1) xs)) ≡ whole
numbered_more f name number place xs x before after whole at all is =
    let rest = flat_map f (numbered_from name (number + 1) (drop (place + 1) xs)) in
    ap (λ entries. entries ++ rest) is
    ∙ append_assoc before (f (name number, x)) rest
    ∙ ap (λ entries. before ++ entries) (sym (flat_map-cons f (name number, x) (numbered_from name (number + 1) (drop (place + 1) xs))))
    ∙ ap (λ left. before ++ flat_map f (numbered_from name number left)) (sym (drop_at xs place x at))
    ∙ all

module _ {X : Type 0} (f : Source × NodeAxiom → List X) where
  -- the entries of both documents, and of no row
  pub no_rows : (left right got_left got_right : List NodeAxiom) (none first second : List X) → got_left ≡ left → got_right ≡ right → none ≡ [] → first ≡ none ++ flat_map f (numbered_from Source.Left 1 got_left) → second ≡ first ++ flat_map f (numbered_from Source.Right 1 got_right) →
      second ≡ flat_map f (numbered_from Source.Left 1 left ++ numbered_from Source.Right 1 right ++ [])
  no_rows left right got_left got_right none first second same_left same_right empty of_left of_right =
      let one = λ (axioms : List NodeAxiom). numbered_from Source.Left 1 axioms in
      let other = λ (axioms : List NodeAxiom). numbered_from Source.Right 1 axioms in
      of_right
      ∙ ap (λ entries. entries ++ flat_map f (other got_right)) (of_left ∙ ap (λ entries. entries ++ flat_map f (one got_left)) empty)
      ∙ ap (λ axioms. flat_map f (one axioms) ++ flat_map f (other got_right)) same_left
      ∙ ap (λ axioms. flat_map f (one left) ++ flat_map f (other axioms)) same_right
      ∙ sym (flat_map-append f (one left) (other right))
      ∙ ap (flat_map f) (sym (append-nil (one left ++ other right)))

  -- the entries of one more row
  pub one_more_row : (axioms : List (Source × NodeAxiom)) (over : List (List NodeAxiom)) (rank : ℕ) (row : List NodeAxiom) (before after : List X) → before ≡ flat_map f (axioms ++ rows_below over rank) → row ≡ slice_index_or over rank [] → after ≡ before ++ flat_map f (numbered_from (Source.Row rank) 1 row) → after ≡ flat_map f (axioms ++ rows_below over (rank + 1))
  one_more_row axioms over rank row before after is found more =
      let next = numbered_from (Source.Row rank) 1 row in
      let suc_is : suc rank ≡ rank + 1 = omega arith in
      more
      ∙ ap (λ entries. entries ++ flat_map f next) is
      ∙ sym (flat_map-append f (axioms ++ rows_below over rank) next)
      ∙ ap (flat_map f) (append_assoc axioms (rows_below over rank) next)
      ∙ ap (λ axioms'. flat_map f (axioms ++ (rows_below over rank ++ numbered_from (Source.Row rank) 1 axioms'))) found
      ∙ ap (λ n. flat_map f (axioms ++ rows_below over n)) suc_is

-- Valid evidence has no item that fails.
use Rattle.std.proofs.Common.{ℕ, ◌+◌, List, [], ◌∷◌, ◌++◌, All, get_or, subst, ⊎_elim}
use Rattle.std.specs.Prelude.{flat_map}
use Rattle.std.proofs.lemmas.List.Elements.{All-nil, All-cons, All-head, All-tail, All-append, All-get_or, All-contains, Contains-get_or, Contains-append_left, Contains-append_right}
use Rattle.std.proofs.lemmas.Option.{slice_get_within, get_or_from_slice_get}
use Rattle.el_logic.specs.declared.types.Axiom.{Axiom}
use Rattle.el_logic.specs.declared.types.Interp.{Interp}
use Rattle.el_logic.specs.declared.types.Part.{Part}
use Rattle.el_logic.specs.Meaning.{Holds}
use Rattle.fact_table.specs.declared.types.Source.{Source}
use Rattle.case_tables.specs.Keyed.{numbered_from}
use Rattle.case_file.specs.Cases.{CaseView}
use Rattle.case_file.specs.Incoherence.{axioms_of_ranks, axioms_for}
use Rattle.model_check.specs.Faults.{row_ranked, sourced_axioms, IsFirstFailing}
use Rattle.evidence_text.specs.declared.types.Removed.{Removed}
use Rattle.check_items.specs.Firsts.{IsFirstWithout}

-- what holds of a list holds of its front and of its end
front_of_all : {X : Type 0} (P : X → Type 0) (xs ys : List X) → All P (xs ++ ys) → All P xs
front_of_all P xs ys all k d inside = All-contains P (xs ++ ys) (get_or xs k d) all (Contains-append_left xs ys (get_or xs k d) (Contains-get_or xs k d inside))

end_of_all : {X : Type 0} (P : X → Type 0) (xs ys : List X) → All P (xs ++ ys) → All P ys
end_of_all P xs ys all k d inside = All-contains P (xs ++ ys) (get_or ys k d) all (Contains-append_right xs ys (get_or ys k d) (Contains-get_or ys k d inside))

-- a removed row of which something doesn't hold is none of which all holds
pub holds_of_first : (P : Removed → Type 0) (removed : List Removed) (r : Removed) → All P removed → IsFirstWithout P removed r → ⊥
holds_of_first P removed r all first =
    first.fails (subst P (get_or_from_slice_get removed first.place r r first.there)
    (All-get_or P removed first.place r (slice_get_within removed first.place r first.there) all))

module _ (i : Interp) where
  abbrev SourceHolds : Source × Axiom → Type 0
  SourceHolds one = Holds i one.1

  -- of axioms that hold none is the first that doesn't
  none_fails : (sourced : List (Source × Axiom)) (source : Source) → All SourceHolds sourced → IsFirstFailing i sourced source → ⊥
  none_fails [] source all first = absurd first
  none_fails (one ∷ others) source all first = ⊎_elim
      (λ here. here.0 (All-head SourceHolds one others all))
      (λ later. none_fails others source (All-tail SourceHolds one others all) later.1) first

  -- axioms hold with their sources
  numbered_hold : (name : ℕ → Source) (number : ℕ) (axioms : List Axiom) → All (Holds i) axioms → All SourceHolds (numbered_from name number axioms)
  numbered_hold name number [] all = All-nil SourceHolds
  numbered_hold name number (one ∷ axioms) all =
      All-cons SourceHolds (name number, one) (numbered_from name (number + 1) axioms) (All-head (Holds i) one axioms all)
      (numbered_hold name (number + 1) axioms (All-tail (Holds i) one axioms all))

  ranks_hold : (case : CaseView) (ranks : List ℕ) → All (Holds i) (axioms_of_ranks case ranks)
      → All SourceHolds (flat_map (λ rank. numbered_from (Source.Row rank) 1 (row_ranked case rank)) ranks)
  ranks_hold case [] all = All-nil SourceHolds
  ranks_hold case (rank ∷ ranks) all =
      All-append SourceHolds (numbered_from (Source.Row rank) 1 (row_ranked case rank)) (flat_map (λ r. numbered_from (Source.Row r) 1 (row_ranked case r)) ranks)
      (numbered_hold (Source.Row rank) 1 (row_ranked case rank) (front_of_all (Holds i) (row_ranked case rank) (axioms_of_ranks case ranks) all))
      (ranks_hold case ranks (end_of_all (Holds i) (row_ranked case rank) (axioms_of_ranks case ranks) all))

  -- so no axiom of a model fails
  pub no_axiom_fails : (case : CaseView) (ranks : List ℕ) (source : Source) → All (Holds i) (axioms_for case Part.Both ranks)
      → IsFirstFailing i (sourced_axioms case ranks) source → ⊥
  no_axiom_fails case ranks source all first =
      let documents = front_of_all (Holds i) (case.left ++ case.right) (axioms_of_ranks case ranks) all in
      let rows = end_of_all (Holds i) (case.left ++ case.right) (axioms_of_ranks case ranks) all in
      let left = numbered_from Source.Left 1 case.left in
      let right = numbered_from Source.Right 1 case.right in
      let sourced = flat_map (λ rank. numbered_from (Source.Row rank) 1 (row_ranked case rank)) ranks in
      none_fails (sourced_axioms case ranks) source
      (All-append SourceHolds (left ++ right) sourced
      (All-append SourceHolds left right (numbered_hold Source.Left 1 case.left (front_of_all (Holds i) case.left case.right documents))
      (numbered_hold Source.Right 1 case.right (end_of_all (Holds i) case.left case.right documents))) (ranks_hold case ranks rows)) first

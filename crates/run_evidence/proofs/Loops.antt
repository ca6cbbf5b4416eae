-- One more element, where lists are gone through.
use Rattle.std.proofs.Common.{◌≡◌, ◌<◌, ◌+◌, ℕ, zero, suc, List, [], ◌∷◌, ◌++◌, length, map, take, sym, ap, subst, ◌∙◌, arith, add-one, All}
use Rattle.std.specs.Prelude.{Option, Some, None, slice_get, slice_index}
use Rattle.std.specs.List.{range_with_len, cons_option}
use Rattle.std.specs.Option.{option_map}
use Rattle.std.proofs.lemmas.List.{map-append, append-nil, take_more}
use Rattle.std.proofs.lemmas.List.Elements.{filter_map-append}
use Rattle.std.proofs.lemmas.Option.{slice_get_within, get_or_from_slice_get}
use Rattle.std.proofs.Math.Seq.{take-length}
use Rattle.derivation.specs.declared.types.Step.{Step}
use Rattle.run_evidence.specs.Tellable.{IsEachOnce}
use Rattle.run_evidence.specs.Inside.RowNumbers.{removed_at, removed_row}
use Rattle.run_evidence.proofs.Ranks.{row_again}
use Rattle.run_evidence.proofs.Taken.{why_of, removed_of}
use Rattle.valid_evidence.specs.Rows.{rank_of_row}

-- what holds of each of a list holds of the one at a place
pub all_at : {X : Type 0} (P : X → Type 0) (xs : List X) (k : ℕ) (x : X) → All P xs → slice_get xs k ≡ Some x → P x
all_at P xs k x all at = subst P (get_or_from_slice_get xs k x x at) (all k x (slice_get_within xs k x at))

-- a list that is gone through by one more
pub mapped_more : {X Y : Type 0} (f : X → Y) (xs : List X) (k : ℕ) (x : X) → slice_get xs k ≡ Some x → map f (take (k + 1) xs) ≡ map f (take k xs) ++ f x ∷ []
mapped_more {X} f xs k x at =
    ap (map f) (take_more xs k x (slice_get_within xs k x at) ∙ ap (λ (y : X). take k xs ++ y ∷ []) (get_or_from_slice_get xs k x x at))
    ∙ map-append f (take k xs) (x ∷ [])

-- and to its end
pub mapped_whole : {X Y : Type 0} (f : X → Y) (xs : List X) (k : ℕ) → k ≡ length xs → map f (take k xs) ≡ map f xs
mapped_whole f xs k is = ap (λ (n : ℕ). map f (take n xs)) is ∙ ap (map f) (take-length xs)

-- a range with one more number
range_more : (start count : ℕ) → range_with_len start (count + 1) ≡ range_with_len start count ++ (start + count) ∷ []
range_more start count = ap (range_with_len start) (add-one count) ∙ next start count
  where
    next : (start count : ℕ) → range_with_len start (suc count) ≡ range_with_len start count ++ (start + count) ∷ []
    next start zero = ap (λ (n : ℕ). n ∷ []) (omega arith)
    next start (suc count) =
        ap (λ (ns : List ℕ). start ∷ ns) (next (start + 1) count ∙ ap (λ (n : ℕ). range_with_len (start + 1) count ++ n ∷ []) (omega arith))

module _ (order : List ℕ) (whys : List (Option (List Step))) (index : ℕ) where
  one_row : removed_of order whys (range_with_len 0 (index + 1)) ≡ removed_of order whys (range_with_len 0 index) ++ removed_of order whys (index ∷ [])
  one_row = ap (removed_of order whys) (range_more 0 index ∙ ap (λ (n : ℕ). range_with_len 0 index ++ n ∷ []) (omega arith))
      ∙ filter_map-append (removed_at order whys) (range_with_len 0 index) (index ∷ [])

  -- a row that is not removed
  pub row_left : why_of order whys index ≡ None → removed_of order whys (range_with_len 0 (index + 1)) ≡ removed_of order whys (range_with_len 0 index)
  row_left none = one_row ∙ ap (λ (o : Option (List Step)). removed_of order whys (range_with_len 0 index) ++ cons_option (option_map (removed_row order index) o) []) none
      ∙ append-nil (removed_of order whys (range_with_len 0 index))

  -- and one that is
  pub row_taken : (steps : List Step) → why_of order whys index ≡ Some steps
      → removed_of order whys (range_with_len 0 (index + 1)) ≡ removed_of order whys (range_with_len 0 index) ++ removed_row order index steps ∷ []
  row_taken steps some = one_row ∙ ap (λ (o : Option (List Step)). removed_of order whys (range_with_len 0 index) ++ cons_option (option_map (removed_row order index) o) []) some

-- where the rank of each row is noted, it is found
pub rank_found : (order ranks : List ℕ) (count : ℕ) → IsEachOnce order → count ≡ length order → ((rank : ℕ) → rank < count → slice_index ranks (slice_index order rank) ≡ rank)
    → (index : ℕ) → index < length order → slice_index ranks index ≡ rank_of_row order (index + 1)
rank_found order ranks count once all noted index inside =
    let own = row_again order once index inside in
    ap (slice_index ranks) (sym own.1) ∙ noted (rank_of_row order (index + 1)) (omega (arith, all, own.0))

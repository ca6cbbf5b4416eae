-- The elements that the live nodes are.
use Rattle.std.proofs.Common.{◌≡◌, ◌∙◌, ℕ, zero, suc, ◌+◌, Bool, true, false, ◌⊎◌, List, [], ◌∷◌, ◌++◌, length, Option, Some, None, slice_get, refl, sym, ap, subst, inl, inr, ⊎_elim, arith, length-append}
use Rattle.std.specs.Prelude.{if◌then◌else◌}
use Rattle.std.proofs.lemmas.List.{append-nil}
use Rattle.std.proofs.lemmas.Option.{none-some, same_Some}
use Rattle.fact_table.specs.declared.types.Fact.{Fact}
use Rattle.fact_table.specs.declared.types.Fact.TheVariants.{Sub}
use Rattle.el_rules.specs.Closing.{has_fact, live_from}
use Rattle.closed_model.specs.Inside.Elements.{number_of, numbers_of, live_count, AreNumbered}

-- what a list has at a place stays there when more follow
kept : {X : Type 0} (xs ys : List X) (k : ℕ) (x : X) → slice_get xs k ≡ Some x → slice_get (xs ++ ys) k ≡ Some x
kept [] ys k x at = absurd (none-some x at)
kept (a ∷ xs) ys zero x at = at
kept (a ∷ xs) ys (suc k) x at = kept xs ys k x at

-- the last element is at the length of the others
last : {X : Type 0} (xs : List X) (y : X) (k : ℕ) → k ≡ length xs → slice_get (xs ++ y ∷ []) k ≡ Some y
last [] y zero same = refl
last [] y (suc k) same = absurd (omega arith)
last (x ∷ xs) y zero same = absurd (omega arith)
last (x ∷ xs) y (suc k) same = last xs y k (omega arith)

-- an element is an earlier one or the last
early_or_last : {X : Type 0} (xs : List X) (y z : X) (k : ℕ) → slice_get (xs ++ y ∷ []) k ≡ Some z → (slice_get xs k ≡ Some z) ⊎ ((k ≡ length xs) × (y ≡ z))
early_or_last [] y z zero at = inr (refl, same_Some y z at)
early_or_last [] y z (suc k) at = absurd (none-some z at)
early_or_last (x ∷ xs) y z zero at = inl at
early_or_last (x ∷ xs) y z (suc k) at = ⊎_elim (λ early. inl early) (λ late. inr (ap suc late.0, late.1)) (early_or_last xs y z k at)

with_first : (b : Bool) (start : ℕ) (whole front end : List ℕ) → whole ≡ front ++ end → (if b then whole else start ∷ whole) ≡ (if b then front else start ∷ front) ++ end
with_first true start whole front end same = same
with_first false start whole front end same = ap (λ nodes. start ∷ nodes) same

-- the live nodes and one node more
live_more : (facts : List Fact) (start count : ℕ) → live_from facts start (suc count) ≡ live_from facts start count ++ live_from facts (start + count) 1
live_more facts start zero = let e : start ≡ start + 0 = omega arith in ap (λ node. live_from facts node 1) e
live_more facts start (suc count) =
    let e : start + 1 + count ≡ start + suc count = omega arith in
    with_first (has_fact facts (Sub start 1)) start (live_from facts (start + 1) (suc count)) (live_from facts (start + 1) count) (live_from facts (start + suc count) 1)
    (live_more facts (start + 1) count ∙ ap (λ node. live_from facts (start + 1) count ++ live_from facts node 1) e)

-- one node more is numbered
numbered_more : (live : List ℕ) (numbers : List (Option ℕ)) (node element : ℕ) → length numbers ≡ node → length live ≡ element → AreNumbered live numbers
    → (b : Bool) → AreNumbered (live ++ (if b then [] else node ∷ [])) (numbers ++ (if b then None else Some element) ∷ [])
numbered_more live numbers node element long count old true = record {
  there = λ x n at. kept numbers (None ∷ []) n (Some x) (old.there x n (subst (λ nodes. slice_get nodes x ≡ Some n) (append-nil live) at));
  back = λ n x at. ⊎_elim
      (λ early. subst (λ nodes. slice_get nodes x ≡ Some n) (sym (append-nil live)) (old.back n x early))
      (λ late. absurd (none-some x late.1))
      (early_or_last numbers None (Some x) n at);
}
numbered_more live numbers node element long count old false = record {
  there = λ x n at. ⊎_elim
      (λ early. kept numbers (Some element ∷ []) n (Some x) (old.there x n early))
      (λ late.
      let same : element ≡ x = omega (arith, late.0) in
      last numbers (Some element) n (omega (arith, late.1)) ∙ ap (λ e. Some (Some e)) same)
      (early_or_last live node n x at);
  back = λ n x at. ⊎_elim
      (λ early. kept live (node ∷ []) x n (old.back n x early))
      (λ late.
      let same : element ≡ x = same_Some element x late.1 in
      let at' : node ≡ n = omega (arith, late.0) in
      last live node x (omega arith) ∙ ap Some at')
      (early_or_last numbers (Some element) (Some x) n at);
}

length-numbers_of : (facts : List Fact) (nodes : ℕ) → length (numbers_of facts nodes) ≡ nodes
length-numbers_of facts zero = refl
length-numbers_of facts (suc nodes) =
    let more = length-append (numbers_of facts nodes) (number_of facts nodes (live_count facts nodes) ∷ []) in
    let before = length-numbers_of facts nodes in
    omega arith

-- a live node is one element more
counted : (live : List ℕ) (node count : ℕ) (b : Bool) → length live ≡ count → length (live ++ (if b then [] else node ∷ [])) ≡ (if b then count else count + 1)
counted live node count true same = ap length (append-nil live) ∙ same
counted live node count false same = let more = length-append live (node ∷ []) in omega arith

module _ (facts : List Fact) where
  -- the next node, if it is live
  next : (nodes : ℕ) → live_from facts 0 (suc nodes) ≡ live_from facts 0 nodes ++ (if has_fact facts (Sub nodes 1) then [] else nodes ∷ [])
  next nodes =
      let e : 0 + nodes ≡ nodes = omega arith in
      live_more facts 0 nodes ∙ ap (λ node. live_from facts 0 nodes ++ live_from facts node 1) e

  pub live_count_is : (nodes : ℕ) → length (live_from facts 0 nodes) ≡ live_count facts nodes
  live_count_is zero = refl
  live_count_is (suc nodes) =
      ap length (next nodes) ∙ counted (live_from facts 0 nodes) nodes (live_count facts nodes) (has_fact facts (Sub nodes 1)) (live_count_is nodes)

  -- the live nodes are numbered in order
  pub numbered : (nodes : ℕ) → AreNumbered (live_from facts 0 nodes) (numbers_of facts nodes)
  numbered zero = record { there = λ x n at. absurd (none-some n at); back = λ n x at. absurd (none-some (Some x) at) }
  numbered (suc nodes) =
      subst (λ live. AreNumbered live (numbers_of facts (suc nodes))) (sym (next nodes))
      (numbered_more (live_from facts 0 nodes) (numbers_of facts nodes) nodes (live_count facts nodes) (length-numbers_of facts nodes) (live_count_is nodes) (numbered nodes) (has_fact facts (Sub nodes 1)))

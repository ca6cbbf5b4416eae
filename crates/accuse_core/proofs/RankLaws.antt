-- The ranks whose marks pass a test.
use Rattle.std.proofs.Common.{◌≡◌, ℕ, zero, suc, ◌+◌, ◌<◌, ◌≤◌, Bool, true, false, cond, ◌⊎◌, ⊎_elim, List, [], ◌∷◌, ◌++◌, Contains, length, get_or, set, refl, ap, sym, subst, ◌∙◌, arith, add-zero, add-one, inl, inr}
use Rattle.std.proofs.lemmas.Bool.{cond-false, cases_Bool}
use Rattle.std.proofs.lemmas.List.Elements.{Contains-append_right, Contains-append_left, Contains-append_cases, Contains-push, Contains-push_cases, Contains-get_or}
use Rattle.std.specs.List.Sorted.{IsStrictlyIncreasing}
use Rattle.accuse_core.specs.declared.mark.Mark.{Mark}
use Rattle.accuse_core.specs.Marks.{mark_at, ranks_from}

-- what is put behind a list that may have one number more in front
cond_append : (b : Bool) (first : ℕ) (ranks more : List ℕ)
    → cond b (first ∷ (ranks ++ more)) (ranks ++ more) ≡ cond b (first ∷ ranks) ranks ++ more
cond_append true first ranks more = refl
cond_append false first ranks more = refl

-- an empty list contains nothing
pub nothing_in_nil : (rank : ℕ) → Contains [] rank → ⊥
nothing_in_nil rank held = let inside = held.1 in omega arith

-- what a list contains is its first number or is in the rest
pub cases_of_cons : (first rank : ℕ) (ranks : List ℕ) → Contains (first ∷ ranks) rank → (first ≡ rank) ⊎ Contains ranks rank
cases_of_cons first rank ranks held = ⊎_elim
    (λ (alone : Contains (first ∷ []) rank). ⊎_elim (λ none. absurd (nothing_in_nil rank none)) (λ same. inl same) (Contains-push_cases [] first rank alone))
    (λ (rest : Contains ranks rank). inr rest)
    (Contains-append_cases (first ∷ []) ranks rank held)

-- a number below all of an ascending list may stand before it
pub ascending_cons : (first : ℕ) (ranks : List ℕ) → ((rank : ℕ) → Contains ranks rank → first < rank) → IsStrictlyIncreasing ranks → IsStrictlyIncreasing (first ∷ ranks)
ascending_cons first ranks below ascends zero inside = below (get_or ranks 0 0) (Contains-get_or ranks 0 0 (omega arith))
ascending_cons first ranks below ascends (suc k) inside = rw add-one (subst (λ n. get_or ranks k 0 < get_or ranks n 0) (add-one k) (ascends k (omega arith)))

module _ (passes : Mark → Bool) where
  -- if no mark passes, there is no such rank
  pub no_ranks : (first : ℕ) (marks : List Mark) → ((rank : ℕ) → passes (mark_at marks rank) ≡ false) → ranks_from passes first marks ≡ []
  no_ranks first [] none = refl
  no_ranks first (mark ∷ marks) none =
      cond-false (passes mark) _ _ (none 0) ∙ no_ranks (suc first) marks (λ rank. none (suc rank))

  -- a mark that doesn't pass in the place of one that doesn't
  pub ranks_set_failing : (first : ℕ) (marks : List Mark) (rank : ℕ) (mark : Mark) → passes (mark_at marks rank) ≡ false
      → passes mark ≡ false → ranks_from passes first (set marks rank mark) ≡ ranks_from passes first marks
  ranks_set_failing first [] rank mark old new = refl
  ranks_set_failing first (x ∷ xs) zero mark old new = cond-false (passes mark) _ _ new ∙ sym (cond-false (passes x) _ _ old)
  ranks_set_failing first (x ∷ xs) (suc rank) mark old new =
      ap (λ ranks. cond (passes x) (first ∷ ranks) ranks) (ranks_set_failing (suc first) xs rank mark old new)

  -- a mark that passes in a place from which on none passed
  pub ranks_set_passing : (first : ℕ) (marks : List Mark) (rank : ℕ) (mark : Mark) → rank < length marks → passes mark ≡ true
      → ((other : ℕ) → rank ≤ other → passes (mark_at marks other) ≡ false)
      → ranks_from passes first (set marks rank mark) ≡ ranks_from passes first marks ++ (first + rank) ∷ []
  ranks_set_passing first [] rank mark inside new none = absurd (omega arith)
  ranks_set_passing first (x ∷ xs) zero mark inside new none =
      let rest = no_ranks (suc first) xs (λ other. none (suc other) (omega arith)) in
      rw (new, none 0 (omega arith), rest, add-zero) refl
  ranks_set_passing first (x ∷ xs) (suc rank) mark inside new none =
      let later = ranks_set_passing (suc first) xs rank mark (omega arith) new (λ other above. none (suc other) (omega arith)) in
      let moved : suc first + rank ≡ first + suc rank = omega arith in
      ap (λ ranks. cond (passes x) (first ∷ ranks) ranks) (later ∙ ap (λ n. ranks_from passes (suc first) xs ++ n ∷ []) moved)
      ∙ cond_append (passes x) first (ranks_from passes (suc first) xs) ((first + suc rank) ∷ [])

  -- ranks of two lists of marks after each other
  pub ranks_append : (first : ℕ) (marks more : List Mark)
      → ranks_from passes first (marks ++ more) ≡ ranks_from passes first marks ++ ranks_from passes (first + length marks) more
  ranks_append first [] more = rw add-zero refl
  ranks_append first (x ∷ xs) more =
      let moved : suc first + length xs ≡ first + suc (length xs) = omega arith in
      ap (λ ranks. cond (passes x) (first ∷ ranks) ranks) (ranks_append (suc first) xs more ∙ ap (λ n. ranks_from passes (suc first) xs ++ ranks_from passes n more) moved)
      ∙ cond_append (passes x) first (ranks_from passes (suc first) xs) (ranks_from passes (first + suc (length xs)) more)

  -- a rank whose mark passes is among them
  pub into_ranks : (first : ℕ) (marks : List Mark) (place : ℕ) → place < length marks → passes (mark_at marks place) ≡ true
      → Contains (ranks_from passes first marks) (first + place)
  into_ranks first [] place inside holds = absurd (omega arith)
  into_ranks first (x ∷ xs) zero inside holds = rw (holds, add-zero) (Contains-append_left (first ∷ []) (ranks_from passes (suc first) xs) first (Contains-push [] first))
  into_ranks first (x ∷ xs) (suc place) inside holds =
      let moved : suc first + place ≡ first + suc place = omega arith in
      let later = subst (Contains (ranks_from passes (suc first) xs)) moved (into_ranks (suc first) xs place (omega arith) holds) in
      elim (passes x) as (λ b. Contains (cond b (first ∷ ranks_from passes (suc first) xs) (ranks_from passes (suc first) xs)) (first + suc place))
      [ true ↦ Contains-append_right (first ∷ []) (ranks_from passes (suc first) xs) (first + suc place) later | false ↦ later ]

  -- a rank among them has a mark that passes
  pub record Passes (first : ℕ) (marks : List Mark) (rank : ℕ) : Type 0 where
    pub place : ℕ
    pub is : rank ≡ first + place
    pub inside : place < length marks
    pub holds : passes (mark_at marks place) ≡ true

  passes_later : (first : ℕ) (x : Mark) (xs : List Mark) (rank : ℕ) → Passes (suc first) xs rank → Passes first (x ∷ xs) rank
  passes_later first x xs rank p = let same = p.is in let low = p.inside in record {
    place = suc p.place;
    is = omega arith;
    inside = omega arith;
    holds = p.holds;
  }

  pub out_of_ranks : (first : ℕ) (marks : List Mark) (rank : ℕ) → Contains (ranks_from passes first marks) rank → Passes first marks rank
  out_of_ranks first [] rank held = absurd (nothing_in_nil rank held)
  out_of_ranks first (x ∷ xs) rank held = ⊎_elim
      (λ (holds : passes x ≡ true). ⊎_elim
      (λ (same : first ≡ rank). record { place = 0; is = omega arith; inside = omega arith; holds = holds })
      (λ later. passes_later first x xs rank (out_of_ranks (suc first) xs rank later))
      (cases_of_cons first rank (ranks_from passes (suc first) xs) (rw (holds) at held)))
      (λ (fails : passes x ≡ false). passes_later first x xs rank (out_of_ranks (suc first) xs rank (rw (fails) at held)))
      (cases_Bool (passes x))

  pub ranks_ascend : (first : ℕ) (marks : List Mark) → IsStrictlyIncreasing (ranks_from passes first marks)
  ranks_ascend first [] = λ k inside. absurd (omega arith)
  ranks_ascend first (x ∷ xs) =
      let ranks = ranks_from passes (suc first) xs in
      elim (passes x) as (λ b. IsStrictlyIncreasing (cond b (first ∷ ranks) ranks)) [
        | true ↦ ascending_cons first ranks (λ rank held. let p = out_of_ranks (suc first) xs rank held in let same = p.is in omega arith) (ranks_ascend (suc first) xs)
        | false ↦ ranks_ascend (suc first) xs
      ]

  pub ranks_at_most : (first : ℕ) (marks : List Mark) → length (ranks_from passes first marks) ≤ length marks
  ranks_at_most first [] = omega arith
  ranks_at_most first (x ∷ xs) =
      let later = ranks_at_most (suc first) xs in
      elim (passes x) as (λ b. length (cond b (first ∷ ranks_from passes (suc first) xs) (ranks_from passes (suc first) xs)) ≤ suc (length xs))
      [ true ↦ omega arith | false ↦ omega arith ]

  -- fewer than there are marks, if one of these doesn't pass
  pub fewer_ranks : (first : ℕ) (marks : List Mark) (place : ℕ) → place < length marks → passes (mark_at marks place) ≡ false
      → length (ranks_from passes first marks) < length marks
  fewer_ranks first [] place inside fails = absurd (omega arith)
  fewer_ranks first (x ∷ xs) zero inside fails = rw fails (let later = ranks_at_most (suc first) xs in omega arith)
  fewer_ranks first (x ∷ xs) (suc place) inside fails =
      let later = fewer_ranks (suc first) xs place (omega arith) fails in
      elim (passes x) as (λ b. length (cond b (first ∷ ranks_from passes (suc first) xs) (ranks_from passes (suc first) xs)) < suc (length xs))
      [ true ↦ omega arith | false ↦ omega arith ]

-- Membership of lists of ranks, one element at a time.
use Rattle.std.proofs.Common.{◌≡◌, ◌≢◌, ◌⊎◌, ◌<◌, ◌≤◌, ◌+◌, ℕ, List, [], ◌∷◌, ◌++◌, length, length-append, get_or, Contains, inl, inr, ⊎_elim, subst, arith, suc, sym, refl, ap, ◌∙◌}
use Rattle.std.specs.List.{AllPairs}
use Rattle.std.specs.List.Sorted.{IsStrictlyIncreasing}
use Rattle.std.proofs.lemmas.Bool.{cases_eq, cases_lt}
use Rattle.std.proofs.lemmas.List.{get_or_append_left, get_or_push}
use Rattle.std.proofs.lemmas.List.Kept.{AllPairs-from_increasing}
use Rattle.std.proofs.lemmas.List.Elements.{Contains-append_left, Contains-append_right, Contains-append_cases, Contains-push, Contains-push_cases, Contains-get_or}

pub Contains-nil : (rank : ℕ) → Contains [] rank → ⊥
Contains-nil rank held = omega (arith, held.1)

pub Contains-cons_head : (rank : ℕ) (ranks : List ℕ) → Contains (rank ∷ ranks) rank
Contains-cons_head rank ranks = Contains-append_left (rank ∷ []) ranks rank (Contains-push [] rank)

pub Contains-cons_tail : (first : ℕ) (ranks : List ℕ) (rank : ℕ) → Contains ranks rank → Contains (first ∷ ranks) rank
Contains-cons_tail first ranks rank held = Contains-append_right (first ∷ []) ranks rank held

pub Contains-cons_cases : (first : ℕ) (ranks : List ℕ) (rank : ℕ) → Contains (first ∷ ranks) rank → (first ≡ rank) ⊎ Contains ranks rank
Contains-cons_cases first ranks rank held =
    ⊎_elim (λ alone. ⊎_elim (λ none. absurd (Contains-nil rank none)) inl (Contains-push_cases [] first rank alone)) inr (Contains-append_cases (first ∷ []) ranks rank held)

pub Contains-pair_cases : (a b rank : ℕ) → Contains (a ∷ b ∷ []) rank → (a ≡ rank) ⊎ (b ≡ rank)
Contains-pair_cases a b rank held =
    ⊎_elim inl (λ rest. ⊎_elim inr (λ none. absurd (Contains-nil rank none)) (Contains-cons_cases b [] rank rest)) (Contains-cons_cases a (b ∷ []) rank held)

pub contains_or_not : (ranks : List ℕ) (rank : ℕ) → Contains ranks rank ⊎ ¬ (Contains ranks rank)
contains_or_not [] rank = inr (Contains-nil rank)
contains_or_not (first ∷ ranks) rank =
    ⊎_elim (λ same. inl (subst (Contains (first ∷ ranks)) same (Contains-cons_head first ranks)))
    (λ differs. ⊎_elim (λ held. inl (Contains-cons_tail first ranks rank held))
    (λ lacked. inr (λ held. ⊎_elim differs lacked (Contains-cons_cases first ranks rank held)))
    (contains_or_not ranks rank))
    (cases_eq first rank)

pub Contains-with_more : (before : List ℕ) (more : ℕ) (after : List ℕ) (rank : ℕ) → Contains (before ++ after) rank → Contains (before ++ more ∷ after) rank
Contains-with_more before more after rank held =
    ⊎_elim (Contains-append_left before (more ∷ after) rank) (λ late. Contains-append_right before (more ∷ after) rank (Contains-cons_tail more after rank late)) (Contains-append_cases before after rank held)

pub Contains-without_other : (before : List ℕ) (other : ℕ) (after : List ℕ) (rank : ℕ) → other ≢ rank → Contains (before ++ other ∷ after) rank → Contains (before ++ after) rank
Contains-without_other before other after rank differs held =
    ⊎_elim (Contains-append_left before after rank)
    (λ late. Contains-append_right before after rank (⊎_elim (λ same. absurd (differs same)) (λ later. later) (Contains-cons_cases other after rank late)))
    (Contains-append_cases before (other ∷ after) rank held)

pub IsStrictlyIncreasing-push : (ranks : List ℕ) (rank : ℕ) → IsStrictlyIncreasing ranks → ((other : ℕ) → Contains ranks other → other < rank) → IsStrictlyIncreasing (ranks ++ rank ∷ [])
IsStrictlyIncreasing-push ranks rank ascending below k within =
    let long = length-append ranks (rank ∷ []) in
    let inside : k < length ranks = omega (arith, long) in
    ⊎_elim
    (λ (next : k + 1 < length ranks). rw (get_or_append_left ranks (rank ∷ []) 0 k inside, get_or_append_left ranks (rank ∷ []) 0 (k + 1) next) (ascending k next))
    (λ (past : length ranks ≤ k + 1).
    let end : length ranks ≡ k + 1 = omega arith in
    rw (get_or_append_left ranks (rank ∷ []) 0 k inside, get_or_push ranks rank 0 (k + 1) end) (below (get_or ranks k 0) (Contains-get_or ranks k 0 inside)))
    (cases_lt (k + 1) (length ranks))

abbrev Ascends : List ℕ → Type 0
Ascends = AllPairs (λ a b. a < b)

head_is_least : (first : ℕ) (ranks : List ℕ) → Ascends (first ∷ ranks) → (rank : ℕ) → Contains ranks rank → first < rank
head_is_least first ranks ascends rank held = subst (λ other. first < other) held.2 (ascends 0 (suc held.0) rank (omega arith) (omega (arith, held.1)))

in_tail : (first second : ℕ) (ranks others : List ℕ) → first ≡ second → Ascends (first ∷ ranks) → ((rank : ℕ) → Contains (first ∷ ranks) rank → Contains (second ∷ others) rank) → (rank : ℕ) → Contains ranks rank → Contains others rank
in_tail first second ranks others same ascends into rank held =
    ⊎_elim (λ is_second. let later = head_is_least first ranks ascends rank held in absurd (omega arith)) (λ rest. rest)
    (Contains-cons_cases second others rank (into rank (Contains-cons_tail first ranks rank held)))

same_from_members : (ranks others : List ℕ) → Ascends ranks → Ascends others → ((rank : ℕ) → Contains ranks rank → Contains others rank) → ((rank : ℕ) → Contains others rank → Contains ranks rank) → ranks ≡ others
same_from_members [] [] ascends ascends_too into back = refl
same_from_members [] (second ∷ others) ascends ascends_too into back = absurd (Contains-nil second (back second (Contains-cons_head second others)))
same_from_members (first ∷ ranks) [] ascends ascends_too into back = absurd (Contains-nil first (into first (Contains-cons_head first ranks)))
same_from_members (first ∷ ranks) (second ∷ others) ascends ascends_too into back =
    let same : first ≡ second = ⊎_elim sym
    (λ first_later. ⊎_elim (λ is_first. is_first)
    (λ second_later. let below = head_is_least second others ascends_too first first_later in let above = head_is_least first ranks ascends second second_later in absurd (omega arith))
    (Contains-cons_cases first ranks second (back second (Contains-cons_head second others))))
    (Contains-cons_cases second others first (into first (Contains-cons_head first ranks))) in
    let tails = same_from_members ranks others (λ i j d low within. ascends (suc i) (suc j) d (omega arith) (omega arith)) (λ i j d low within. ascends_too (suc i) (suc j) d (omega arith) (omega arith))
    (in_tail first second ranks others same ascends into) (in_tail second first others ranks (sym same) ascends_too back) in
    ap (λ rank. rank ∷ ranks) same ∙ ap (λ rest. second ∷ rest) tails

-- ascending lists with the same members are one
pub IsStrictlyIncreasing-unique : (ranks others : List ℕ) → IsStrictlyIncreasing ranks → IsStrictlyIncreasing others → ((rank : ℕ) → Contains ranks rank → Contains others rank) → ((rank : ℕ) → Contains others rank → Contains ranks rank) → ranks ≡ others
IsStrictlyIncreasing-unique ranks others ascending ascending_too = same_from_members ranks others (AllPairs-from_increasing ranks ascending) (AllPairs-from_increasing others ascending_too)

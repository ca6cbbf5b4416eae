-- What the steps of walks over pairs show of lists that are read off them.
use Rattle.std.proofs.Common.{◌≡◌, ℕ, List, [], ◌∷◌, ◌++◌, Contains, ◌⊎◌, ⊎_elim, inl, inr, sym, subst, ap, Ok, Err, Result}
use Rattle.std.specs.Prelude.{◌↔◌, IfOk}
use Rattle.std.specs.List.Sorted.{IsStrictlyIncreasing}
use Rattle.std.proofs.lemmas.List.Elements.{Contains-append_left, Contains-append_right, Contains-append_cases, Contains-push, Contains-push_cases}
use Rattle.closed_model.specs.Models.{HaveTheSame}
use Rattle.model_members.specs.Inside.Pairs.{Lead}
use Rattle.model_members.specs.Inside.Sets.{AreListed}

-- the numbers at which pairs begin that pass
abbrev pub Begins : (ℕ → ℕ → Type 0) → List ℕ → List (ℕ × ℕ) → Type 0
Begins Q found done = (x : ℕ) → Contains found x ↔ ((y : ℕ) × Lead done x y × Q x y)

-- a pair that passes adds its first number
pub more_begin : (Q : ℕ → ℕ → Type 0) (found : List ℕ) (done : List (ℕ × ℕ)) (pair : ℕ × ℕ) → Q pair.0 pair.1 → Begins Q found done → Begins Q (found ++ pair.0 ∷ []) (done ++ pair ∷ [])
more_begin Q found done pair passes so_far x = (
  (λ there. ⊎_elim
      (λ old. let (y, led, q) = (so_far x).0 old in (y, Contains-append_left done (pair ∷ []) (x, y) led, q))
      (λ new. (pair.1, subst (λ begin. Lead (done ++ pair ∷ []) begin pair.1) new (Contains-push done pair), subst (λ begin. Q begin pair.1) new passes))
      (Contains-push_cases found pair.0 x there)),
  (λ (y, led, q). ⊎_elim
      (λ old. Contains-append_left found (pair.0 ∷ []) x ((so_far x).1 (y, old, q)))
      (λ new. subst (λ begin. Contains (found ++ pair.0 ∷ []) begin) (ap (λ (p : ℕ × ℕ). p.0) new) (Contains-push found pair.0))
      (Contains-push_cases done pair (x, y) led)),
)

-- and one that doesn't adds none
pub same_begin : (Q : ℕ → ℕ → Type 0) (found : List ℕ) (done : List (ℕ × ℕ)) (pair : ℕ × ℕ) → ¬ (Q pair.0 pair.1) → Begins Q found done → Begins Q found (done ++ pair ∷ [])
same_begin Q found done pair fails so_far x = (
  (λ there. let (y, led, q) = (so_far x).0 there in (y, Contains-append_left done (pair ∷ []) (x, y) led, q)),
  (λ (y, led, q). ⊎_elim
      (λ old. (so_far x).1 (y, old, q))
      (λ new. absurd (fails (subst (λ (p : ℕ × ℕ). Q p.0 p.1) (sym new) q)))
      (Contains-push_cases done pair (x, y) led)),
)

-- what two clauses of a call say together
pub if_both : {X E : Type 0} (P Q R : X → Type 0) (r : Result X E) → ((x : X) → P x → Q x → R x) → IfOk r P → IfOk r Q → IfOk r R
if_both P Q R (Ok x) both p q = both x p q
if_both P Q R (Err e) both p q = tt

-- what was found, in ascending order
pub listed_of : (P : ℕ → Type 0) (ordered found : List ℕ) → IsStrictlyIncreasing ordered → HaveTheSame ordered found → ((x : ℕ) → Contains found x ↔ P x) → AreListed P ordered
listed_of P ordered found up same told = record {
  ascending = up;
  same = λ x. ((λ there. (told x).0 ((same x).0 there)), (λ passes. (same x).1 ((told x).1 passes)));
}

-- two lists together have the elements of both
pub in_either : (numbers others : List ℕ) (x : ℕ) → Contains (numbers ++ others) x ↔ (Contains numbers x ⊎ Contains others x)
in_either numbers others x = (
  Contains-append_cases numbers others x,
  (λ one. ⊎_elim (Contains-append_left numbers others x) (Contains-append_right numbers others x) one),
)

-- the pairs that a pair and then a step lead to
abbrev pub Joins : List (ℕ × ℕ) → List (ℕ × ℕ) → List (ℕ × ℕ) → Type 0
Joins steps found done = (x y : ℕ) → Lead found x y ↔ ((z : ℕ) × Lead done x z × Lead steps z y)

-- one pair more
pub more_joins : (steps found more done group : List (ℕ × ℕ)) (pair : ℕ × ℕ) → Joins steps found done
    → ((x y : ℕ) → Lead group x y ↔ ((x ≡ pair.1) × Lead steps x y))
    → ((x y : ℕ) → Lead more x y ↔ (Lead found x y ⊎ ((x ≡ pair.0) × (z : ℕ) × Lead group z y)))
    → Joins steps more (done ++ pair ∷ [])
more_joins steps found more done group pair so_far grouped added x y = (
  (λ there. ⊎_elim
      (λ old. let (z, led, step) = (so_far x y).0 old in (z, Contains-append_left done (pair ∷ []) (x, z) led, step))
      (λ (same, z, in_group).
      let step = (grouped z y).0 in_group in
      (pair.1, subst (λ begin. Lead (done ++ pair ∷ []) begin pair.1) (sym same) (Contains-push done pair), subst (λ by. Lead steps by y) step.0 step.1))
      ((added x y).0 there)),
  (λ (z, led, step). ⊎_elim
      (λ old. (added x y).1 (inl ((so_far x y).1 (z, old, step))))
      (λ new. (added x y).1 (inr (sym (ap (λ (p : ℕ × ℕ). p.0) new), z, (grouped z y).1 (sym (ap (λ (p : ℕ × ℕ). p.1) new), step))))
      (Contains-push_cases done pair (x, z) led)),
)

-- where the pairs begin
abbrev pub Firsts : List ℕ → List (ℕ × ℕ) → Type 0
Firsts found done = (x : ℕ) → Contains found x ↔ ((y : ℕ) × Lead done x y)

-- one pair more
pub more_firsts : (found : List ℕ) (done : List (ℕ × ℕ)) (pair : ℕ × ℕ) → Firsts found done → Firsts (found ++ pair.0 ∷ []) (done ++ pair ∷ [])
more_firsts found done pair so_far x = (
  (λ there. ⊎_elim
      (λ old. let (y, led) = (so_far x).0 old in (y, Contains-append_left done (pair ∷ []) (x, y) led))
      (λ new. (pair.1, subst (λ begin. Lead (done ++ pair ∷ []) begin pair.1) new (Contains-push done pair)))
      (Contains-push_cases found pair.0 x there)),
  (λ (y, led). ⊎_elim
      (λ old. Contains-append_left found (pair.0 ∷ []) x ((so_far x).1 (y, old)))
      (λ new. subst (λ begin. Contains (found ++ pair.0 ∷ []) begin) (ap (λ (p : ℕ × ℕ). p.0) new) (Contains-push found pair.0))
      (Contains-push_cases done pair (x, y) led)),
)

-- what was there, and where the steps end
abbrev pub Seconds : List ℕ → List ℕ → List (ℕ × ℕ) → Type 0
Seconds start found done = (y : ℕ) → Contains found y ↔ (Contains start y ⊎ ((x : ℕ) × Lead done x y))

-- one step more
pub more_seconds : (start found : List ℕ) (done : List (ℕ × ℕ)) (step : ℕ × ℕ) → Seconds start found done → Seconds start (found ++ step.1 ∷ []) (done ++ step ∷ [])
more_seconds start found done step so_far y = (
  (λ there. ⊎_elim
      (λ old. ⊎_elim (λ was. inl was) (λ (x, led). inr (x, Contains-append_left done (step ∷ []) (x, y) led)) ((so_far y).0 old))
      (λ new. inr (step.0, subst (λ end. Lead (done ++ step ∷ []) step.0 end) new (Contains-push done step)))
      (Contains-push_cases found step.1 y there)),
  (λ told. ⊎_elim
      (λ was. Contains-append_left found (step.1 ∷ []) y ((so_far y).1 (inl was)))
      (λ (x, led). ⊎_elim
      (λ old. Contains-append_left found (step.1 ∷ []) y ((so_far y).1 (inr (x, old))))
      (λ new. subst (λ end. Contains (found ++ step.1 ∷ []) end) (ap (λ (p : ℕ × ℕ). p.1) new) (Contains-push found step.1))
      (Contains-push_cases done step (x, y) led))
      told),
)

-- where the pairs end that begin at one of these
abbrev pub Reached : List (ℕ × ℕ) → List ℕ → List ℕ → Type 0
Reached pairs found done = (y : ℕ) → Contains found y ↔ ((x : ℕ) × Contains done x × Lead pairs x y)

-- from one number more
pub more_reached : (pairs : List (ℕ × ℕ)) (found more done : List ℕ) (group : List (ℕ × ℕ)) (from : ℕ) → Reached pairs found done
    → ((x y : ℕ) → Lead group x y ↔ ((x ≡ from) × Lead pairs x y)) → Seconds found more group → Reached pairs more (done ++ from ∷ [])
more_reached pairs found more done group from so_far grouped added y = (
  (λ there. ⊎_elim
      (λ old. let (x, begins, led) = (so_far y).0 old in (x, Contains-append_left done (from ∷ []) x begins, led))
      (λ (x, in_group). let (is, led) = (grouped x y).0 in_group in (x, subst (Contains (done ++ from ∷ [])) (sym is) (Contains-push done from), led))
      ((added y).0 there)),
  (λ (x, begins, led). ⊎_elim
      (λ old. (added y).1 (inl ((so_far y).1 (x, old, led))))
      (λ new. (added y).1 (inr (x, (grouped x y).1 (sym new, led))))
      (Contains-push_cases done from x begins)),
)

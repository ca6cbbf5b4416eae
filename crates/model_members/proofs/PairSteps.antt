-- What the steps of walks over pairs show.
use Rattle.std.proofs.Common.{◌≡◌, ◌+◌, ◌<◌, ◌≤◌, ℕ, List, [], ◌∷◌, ◌++◌, length, get_or, take, drop, All, Contains, ◌⊎◌, ⊎_elim, inl, inr, sym, subst, ap, arith}
use Rattle.std.specs.Prelude.{◌↔◌}
use Rattle.std.specs.List.{AllWithin}
use Rattle.std.proofs.lemmas.List.{take_all, get_or-take, get_or-drop, length-take-le, length-drop}
use Rattle.std.proofs.lemmas.List.Elements.{All-contains, Contains-get_or, Contains-append_left, Contains-append_right, Contains-append_cases, Contains-push, Contains-push_cases}
use Rattle.model_members.specs.Inside.Pairs.{Lead}

-- what holds of each pair passed holds wherever they lead, once all are passed
pub of_each : (P : ℕ × ℕ → Type 0) (pairs : List (ℕ × ℕ)) (k : ℕ) → length pairs ≤ k → All P (take k pairs) → (x y : ℕ) → Lead pairs x y → P (x, y)
of_each P pairs k end all x y led = All-contains P pairs (x, y) (subst (All P) (take_all k pairs end) all) led

-- a pair leads where it leads
pub leads_on : (pairs : List (ℕ × ℕ)) (k : ℕ) → k < length pairs → Lead pairs (get_or pairs k (0, 0)).0 (get_or pairs k (0, 0)).1
leads_on pairs k within = Contains-get_or pairs k (0, 0) within

-- what passes below a place passes in the front
pub front_all : {X : Type 0} → (P : X → Type 0) (xs : List X) (i : ℕ) → i ≤ length xs → AllWithin P xs 0 i → All P (take i xs)
front_all P xs i fits within = λ k d less.
    let short : k < i = omega (arith, length-take-le i xs fits) in
    subst P (sym (get_or-take i xs k d short)) (within k d (omega arith) short)

-- and from the place on, in the rest
pub back_all : {X : Type 0} → (P : X → Type 0) (xs : List X) (i : ℕ) → AllWithin P xs i (length xs) → All P (drop i xs)
back_all P xs i within = λ k d less.
    subst P (sym (get_or-drop i xs k d)) (within (i + k) d (omega arith) (omega (arith, length-drop i xs)))

-- of three parts of ascending pairs, the middle one has those that begin at an element
pub of_the_middle : (pairs before rest steps after : List (ℕ × ℕ)) (from : ℕ) → pairs ≡ before ++ rest → rest ≡ steps ++ after
    → All (λ p. p.0 < from) before → All (λ p. from ≤ p.0) rest → All (λ p. p.0 < from + 1) steps → All (λ p. from + 1 ≤ p.0) after
    → (x y : ℕ) → Lead steps x y ↔ ((x ≡ from) × Lead pairs x y)
of_the_middle pairs before rest steps after from whole parts low high some past x y = (
  (λ there.
      let inside : Contains rest (x, y) = subst (λ ps. Contains ps (x, y)) (sym parts) (Contains-append_left steps after (x, y) there) in
      let least = All-contains (λ (p : ℕ × ℕ). from ≤ p.0) rest (x, y) high inside in
      let most = All-contains (λ (p : ℕ × ℕ). p.0 < from + 1) steps (x, y) some there in
      (omega arith, subst (λ ps. Contains ps (x, y)) (sym whole) (Contains-append_right before rest (x, y) inside))),
  (λ (same, there). ⊎_elim
      (λ early. let less = All-contains (λ (p : ℕ × ℕ). p.0 < from) before (x, y) low early in absurd (omega arith))
      (λ late. ⊎_elim
      (λ here. here)
      (λ behind. let more = All-contains (λ (p : ℕ × ℕ). from + 1 ≤ p.0) after (x, y) past behind in absurd (omega arith))
      (Contains-append_cases steps after (x, y) (subst (λ ps. Contains ps (x, y)) parts late)))
      (Contains-append_cases before rest (x, y) (subst (λ ps. Contains ps (x, y)) whole there))),
)

-- one end more
pub more_ends : (found start done : List (ℕ × ℕ)) (from : ℕ) (step : ℕ × ℕ)
    → ((x y : ℕ) → Lead found x y ↔ (Lead start x y ⊎ ((x ≡ from) × (z : ℕ) × Lead done z y)))
    → (x y : ℕ) → Lead (found ++ (from, step.1) ∷ []) x y ↔ (Lead start x y ⊎ ((x ≡ from) × (z : ℕ) × Lead (done ++ step ∷ []) z y))
more_ends found start done from step so_far x y = (
  (λ there. ⊎_elim
      (λ old. ⊎_elim (λ was. inl was) (λ (same, z, led). inr (same, z, Contains-append_left done (step ∷ []) (z, y) led)) ((so_far x y).0 old))
      (λ new. inr (sym (ap (λ (p : ℕ × ℕ). p.0) new), step.0, subst (λ end. Contains (done ++ step ∷ []) (step.0, end)) (ap (λ (p : ℕ × ℕ). p.1) new) (Contains-push done step)))
      (Contains-push_cases found (from, step.1) (x, y) there)),
  (λ told. ⊎_elim
      (λ was. Contains-append_left found ((from, step.1) ∷ []) (x, y) ((so_far x y).1 (inl was)))
      (λ (same, z, led). ⊎_elim
      (λ old. Contains-append_left found ((from, step.1) ∷ []) (x, y) ((so_far x y).1 (inr (same, z, old))))
      (λ new. subst (λ begin. Contains (found ++ (from, step.1) ∷ []) (begin, y)) (sym same)
      (subst (λ end. Contains (found ++ (from, step.1) ∷ []) (from, end)) (ap (λ (p : ℕ × ℕ). p.1) new) (Contains-push found (from, step.1))))
      (Contains-push_cases done step (z, y) led))
      told),
)

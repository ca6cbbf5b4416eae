-- Steps that say what the items at ascending places say.
use Rattle.std.proofs.Common.{◌≡◌, ◌∙◌, ◌+◌, ◌-◌, ◌<◌, ◌≤◌, ℕ, List, [], ◌∷◌, ◌++◌, Some, Contains, length, slice_get, get_or, sym, ap, subst, ⊎_elim, arith, length-append}
use Rattle.std.proofs.Math.Nat.{eq-or-lt_of_le}
use Rattle.std.proofs.lemmas.List.{get_or_default, get_or_append_left, get_or_push, get_or-reverse, length-reverse}
use Rattle.std.proofs.lemmas.Option.{slice_get-get_or, slice_get_within, get_or_from_slice_get}
use Rattle.std.specs.List.{ReversedBelow}
use Rattle.std.specs.Prelude.{reverse}
use Rattle.fact_table.specs.declared.types.Proved.{Proved}
use Rattle.derivation.specs.declared.types.Step.{Step}
use Rattle.derivation.specs.Steps.{IsAscending}
use Rattle.derivation.specs.Traces.{IsPremiseOf, TellsItem, TellsPlace}
use Rattle.derivation.specs.Inside.Needed.{AreNeeded}

-- the places ascend to the goal's, and with each are those of its premises
pub record AreReady (items : List Proved) (goal : ℕ) (places : List ℕ) : Type 0 where
  pub ascending : IsAscending places
  pub last : (k : ℕ) × (length places ≡ k + 1) × (slice_get places k ≡ Some goal)
  pub premises : (place : ℕ) (item : Proved) (premise : ℕ) → Contains places place → slice_get items place ≡ Some item
      → IsPremiseOf item.reason premise → Contains places premise

-- an element of a list turned round is one of the list
turned_back : (old new : List ℕ) → length new ≡ length old → ReversedBelow old new (length old) → (x : ℕ) → Contains new x → Contains old x
turned_back old new len turned x held =
    (length old - 1 - held.0, omega (arith, len, held.1), sym (turned held.0 x (omega (arith, len, held.1))) ∙ held.2)

-- and one of the list is there after it was turned round
turned_to : (old new : List ℕ) → length new ≡ length old → ReversedBelow old new (length old) → (x : ℕ) → Contains old x → Contains new x
turned_to old new len turned x held =
    let same : length old - 1 - (length old - 1 - held.0) ≡ held.0 = omega (arith, held.1) in (
      length old - 1 - held.0,
      omega (arith, len, held.1),
      turned (length old - 1 - held.0) x (omega (arith, held.1)) ∙ ap (λ k. get_or old k x) same ∙ held.2,
    )

-- the first element of a list turned round is the last
first_last : (old : List ℕ) (goal : ℕ) (k : ℕ) → (rest : List ℕ) × (old ≡ goal ∷ rest) → k ≡ 0 → get_or old k 0 ≡ goal
first_last old goal k first none = ap (λ n. get_or old n 0) none ∙ ap (λ places. get_or places 0 0) first.1

-- places that were gathered, turned round
pub turned_places : (items : List Proved) (goal : ℕ) (old new : List ℕ) → AreNeeded items goal old → new ≡ reverse old → AreReady items goal new
turned_places items goal old new needed is =
    let len : length new ≡ length old = ap length is ∙ length-reverse old in
    let turned : ReversedBelow old new (length old) = λ k d within. ap (λ xs. get_or xs k d) is ∙ get_or-reverse old k d within in
    let size : length old ≡ length needed.first.0 + 1 = ap length needed.first.1 ∙ omega arith in
    record {
      ascending = λ i j less inside.
          let first = turned i 0 (omega (arith, less, inside, len)) in
          let second = turned j 0 (omega (arith, inside, len)) in
          let down = needed.descending (length old - 1 - j) (length old - 1 - i) 0 (omega (arith, less, inside, len)) (omega (arith, less, inside, len)) in
          omega (arith, first, second, down);
      last = (
        length needed.first.0,
        omega (arith, size, len),
        slice_get-get_or new (length needed.first.0) 0 (omega (arith, size, len))
            ∙ ap Some (turned (length needed.first.0) 0 (omega (arith, size)) ∙ first_last old goal (length old - 1 - length needed.first.0) needed.first (omega (arith, size))),
      );
      premises = λ place item premise held at names.
          turned_to old new len turned premise (needed.premises place item premise (turned_back old new len turned place held) at names);
    }

-- an element at a place of a list is one of it
pub held_at : (xs : List ℕ) (k d : ℕ) → k < length xs → Contains xs (get_or xs k d)
held_at xs k d within = (k, within, get_or_default xs k (get_or xs k d) d within)

-- a number below one more than another is this one at most
up_to : (k n m : ℕ) → m ≡ n + 1 → k < m → k ≤ n
up_to k n m same below = omega (arith, same, below)

-- with one more step, the steps say one more item
pub told_next : (items : List Proved) (places : List ℕ) (steps : List Step) (step : Step) (place : ℕ) (item : Proved)
    → ((k : ℕ) (other : Step) → slice_get steps k ≡ Some other → TellsPlace items places k other)
    → slice_get places (length steps) ≡ Some place → slice_get items place ≡ Some item → TellsItem places item step
    → (k : ℕ) (other : Step) → slice_get (steps ++ step ∷ []) k ≡ Some other → TellsPlace items places k other
told_next items places steps step place item before at there tells k other here =
    let within = slice_get_within (steps ++ step ∷ []) k other here in
    let value = get_or_from_slice_get (steps ++ step ∷ []) k other step here in
    ⊎_elim
    (λ same. subst (λ s. TellsPlace items places k s) (sym (get_or_push steps step step k (sym same)) ∙ value)
    (subst (λ n. TellsPlace items places n step) (sym same) (place, item, at, there, tells)))
    (λ less. before k other (slice_get-get_or steps k step less ∙ ap Some (sym (get_or_append_left steps (step ∷ []) step k less) ∙ value)))
    (eq-or-lt_of_le (up_to k (length steps) (length (steps ++ step ∷ [])) (length-append steps (step ∷ [])) within))

-- A new lock has its rule.
use Rattle.std.proofs.Common.{◌≡◌, ◌<◌, ℕ, List, [], ◌∷◌, ◌++◌, Option, Some, None, refl, sym, ap, ◌∙◌, subst, arith}
use mathlib.Core.Logic.{dite}
use native.Mathlib.Decide.{ℕ_discrete}
use Rattle.atomic_table.specs.Table.{State, opening}
use Rattle.commit_lock.specs.declared.lock.SeatView.{SeatView}
use Rattle.commit_lock.specs.Inside.LockRule.{first_seat, Knows, Counts, LockRule}
use Rattle.commit_lock.proofs.Views.{only_one}
use Rattle.commit_lock.proofs.SeatNumbers.{lives_as-own, lives_as-other}

-- the first seat of a lock has the number 0, and no other
first_counts : {C E : Type 0} (c : C) → Counts 1 (first_seat {C = C} {E = E} c ∷ [])
first_counts {C = C} {E = E} c =
    let first : SeatView C E = first_seat c in record {
      apart = λ n. dite (ℕ_discrete 0 n)
          (λ is. let one = lives_as-own n first refl is in omega arith)
          (λ is_not. let none = lives_as-other n first refl is_not in omega arith);
      drawn = λ n above. let none = lives_as-other n first refl (λ is. omega arith) in omega arith;
      below = λ place view at.
          subst (λ (v : SeatView C E). v.number < 1) (only_one first view place at) (omega arith);
      standing = refl;
      rooms = refl;
    }

module _ {V C E : Type 0} (case_of : V → C) (entries_of : V → List E) (worker : E → ℕ) (key : C) where
  abbrev Rule : State (Option V) (SeatView C E) → Type 0
  Rule = LockRule case_of entries_of worker key

  -- the case of the option, or another
  case_or : C → Option C → C
  case_or other (Some c) = c
  case_or other None = other

  -- a new lock has its rule
  opens : (value : V) → entries_of value ≡ [] → case_of value ≡ key
      → Rule (opening (2 ∷ []) (Some value ∷ []) (first_seat key))
  unfolding case_or
  opens value none is =
      let first : SeatView C E = first_seat key in record {
        log = [];
        made = 1;
        word = refl;
        one_holder = omega arith;
        free = λ _. (value, refl, is, none);
        held = λ e. absurd (omega arith);
        each = λ place view at. subst (Knows case_of entries_of worker key []) (only_one first view place at) (record {
          case = λ c e. ap (case_or key) (sym e);
          seen = ([], refl);
          own = λ _. refl;
          holder = omega arith;
          entered = λ e. absurd (omega arith);
          standing = omega arith;
          before = ([], refl);
          beside = ([], refl);
          kept = refl;
          kept_beside = refl;
          partner = λ _ e. omega arith;
        });
        counts = first_counts key;
        numbers = λ n above. refl;
        witness = (0, first, refl, omega arith, refl);
      }

  -- the same for slots to which the value was pushed
  pub opens_with : (before slots : List (Option V)) (value : V) → before ≡ [] → slots ≡ before ++ Some value ∷ []
      → entries_of value ≡ [] → case_of value ≡ key → Rule (opening (2 ∷ []) slots (first_seat key))
  opens_with before slots value empty pushed none case =
      let is : slots ≡ Some value ∷ [] = pushed ∙ ap (λ (l : List (Option V)). l ++ Some value ∷ []) empty in
      subst (λ (l : List (Option V)). Rule (opening (2 ∷ []) l (first_seat key))) (sym is) (opens value none case)

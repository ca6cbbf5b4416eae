-- What short lists contain.
use Rattle.std.proofs.Common.{◌≡◌, ◌⊎◌, List, [], ◌∷◌, All, Contains, ⊎_elim, inl, inr, arith}
use Rattle.std.proofs.lemmas.List.Elements.{All-nil, All-cons, All-contains, Contains-append_left, Contains-append_right, Contains-push, Contains-push_cases}

pub in_none : {X : Type 0} → (x : X) → Contains [] x → ⊥
in_none x h = absurd (omega (arith, h.1))

pub in_one : {X : Type 0} → (a x : X) → Contains (a ∷ []) x → a ≡ x
in_one a x h = ⊎_elim (λ none. absurd (in_none x none)) (λ e. e) (Contains-push_cases [] a x h)

pub one_holds : {X : Type 0} → (a : X) → Contains (a ∷ []) a
one_holds a = Contains-push [] a

pub in_two : {X : Type 0} → (a b x : X) → Contains (a ∷ b ∷ []) x → (a ≡ x) ⊎ (b ≡ x)
in_two a b x h = ⊎_elim (λ one. inl (in_one a x one)) inr (Contains-push_cases (a ∷ []) b x h)

pub first_of_two : {X : Type 0} → (a b : X) → Contains (a ∷ b ∷ []) a
first_of_two a b = Contains-append_left (a ∷ []) (b ∷ []) a (one_holds a)

pub second_of_two : {X : Type 0} → (a b : X) → Contains (a ∷ b ∷ []) b
second_of_two a b = Contains-push (a ∷ []) b

pub all_of : {X : Type 0} → (P : X → Type 0) (xs : List X) (x : X) → All P xs → Contains xs x → P x
all_of P xs x h k = All-contains P xs x h k

-- the same of three elements
pub first_of_three : {X : Type 0} → (a b c : X) → Contains (a ∷ b ∷ c ∷ []) a
first_of_three a b c = Contains-append_left (a ∷ []) (b ∷ c ∷ []) a (one_holds a)

pub second_of_three : {X : Type 0} → (a b c : X) → Contains (a ∷ b ∷ c ∷ []) b
second_of_three a b c = Contains-append_left (a ∷ b ∷ []) (c ∷ []) b (second_of_two a b)

pub third_of_three : {X : Type 0} → (a b c : X) → Contains (a ∷ b ∷ c ∷ []) c
third_of_three a b c = Contains-append_right (a ∷ b ∷ []) (c ∷ []) c (one_holds c)

-- what both of two elements pass
pub all_of_two : {X : Type 0} → (P : X → Type 0) (a b : X) → P a → P b → All P (a ∷ b ∷ [])
all_of_two P a b p q = All-cons P a (b ∷ []) p (All-cons P b [] q (All-nil P))

-- Loops over the entries of a table.
use Rattle.std.proofs.Common.{◌≡◌, ℕ, ◌+◌, ◌<◌, ◌≤◌, List, length, Contains, Some, subst, ⊎_elim, arith}
use Rattle.std.specs.Prelude.{slice_get}
use Rattle.std.proofs.lemmas.Bool.{cases_lt}
use Rattle.std.proofs.lemmas.Option.{slice_get_within}
use Rattle.rule_steps.specs.Inside.Entries.{EachBelow}
use Rattle.rule_steps.proofs.PlaceLaws.{place_of}

module _ {T : Type 0} (xs : List T) where
  -- none yet
  pub each_none : (P : T → Type 0) → EachBelow xs 0 P
  each_none P k x below at = absurd (omega arith)

  -- one more
  pub each_more : (n : ℕ) (P Q : T → Type 0) (here : T) → ((x : T) → P x → Q x) → EachBelow xs n P → slice_get xs n ≡ Some here → Q here → EachBelow xs (n + 1) Q
  each_more n P Q here weaker each at is k x below is_at = ⊎_elim
      (λ less. weaker x (each k x less is_at))
      (λ more. let same : k ≡ n = omega arith in subst Q (same_at same is_at) is)
      (cases_lt k n)
    where
      same_at : k ≡ n → slice_get xs k ≡ Some x → here ≡ x
      same_at same found = let other : slice_get xs n ≡ Some x = subst (λ j. slice_get xs j ≡ Some x) same found in cc

  -- all of them
  pub each_all : (n : ℕ) (P : T → Type 0) (x : T) → length xs ≤ n → EachBelow xs n P → Contains xs x → P x
  each_all n P x past each held =
      let found = place_of xs x held in
      let within : found.0 < length xs = slice_get_within xs found.0 x found.1 in
      each found.0 x (omega arith) found.1

  -- so it is in another way
  pub each_map : (n : ℕ) (P Q : T → Type 0) → ((x : T) → P x → Q x) → EachBelow xs n P → EachBelow xs n Q
  each_map n P Q weaker each k x below at = weaker x (each k x below at)

-- Walks down a group of facts, from a bound to the first.
use Rattle.std.proofs.Common.{◌≡◌, ℕ, ◌+◌, ◌<◌, ◌≤◌, List, Some, None, subst, sym, ◌∙◌, ⊎_elim, arith}
use Rattle.std.proofs.lemmas.Bool.{cases_lt, cases_eq}
use Rattle.std.proofs.lemmas.Option.{same_Some}
use Rattle.fact_table.specs.declared.types.Fact.{Fact}
use Rattle.fact_table.specs.declared.types.FactGroup.{FactGroup}
use Rattle.fact_table.specs.Places.{IsLastBelow}
use Rattle.rule_steps.specs.Answering.{IsAt}
use Rattle.rule_steps.specs.Inside.Steps.{AreMetFrom}

module _ (key : Fact → FactGroup) (group : FactGroup) (initial : List Fact) (bound : ℕ) where
  -- none was met
  pub met_none : (P : Fact → Type 0) → AreMetFrom key initial group bound bound P
  met_none P k fact low high at is = absurd (omega arith)

  -- one more was met, in a list that has grown
  pub met_more : (current : List Fact) (below partner : ℕ) (here : Fact) (P Q : Fact → Type 0) → ((k : ℕ) (fact : Fact) → IsAt k initial fact → IsAt k current fact) →
      IsLastBelow key current group below (Some partner) → IsAt partner current here → ((fact : Fact) → P fact → Q fact) → Q here →
      AreMetFrom key initial group below bound P → AreMetFrom key initial group partner bound Q
  met_more current below partner here P Q stays last at weaker is met k fact low high was grouped = ⊎_elim
      (λ (less : k < below). ⊎_elim
      (λ (same : k ≡ partner). subst Q (same_fact same (stays k fact was)) is)
      (λ differs. let past : partner + 1 ≤ k = beyond differs in absurd (last.2 k past less (fact, stays k fact was, grouped)))
      (cases_eq k partner))
      (λ more. weaker fact (met k fact more high was grouped))
      (cases_lt k below)
    where
      same_fact : k ≡ partner → IsAt k current fact → here ≡ fact
      same_fact same now = let moved : IsAt partner current fact = subst (λ j. IsAt j current fact) same now in same_Some here fact (sym at ∙ moved)

      beyond : (k ≡ partner → ⊥) → partner + 1 ≤ k
      beyond differs = ⊎_elim (λ less. absurd (differs (omega arith))) (λ more. more) (cases_lt k (partner + 1))

  -- all of them were met
  pub met_all : (current : List Fact) (below : ℕ) (P : Fact → Type 0) → ((k : ℕ) (fact : Fact) → IsAt k initial fact → IsAt k current fact) →
      IsLastBelow key current group below None → AreMetFrom key initial group below bound P → (k : ℕ) (fact : Fact) → k < bound → IsAt k initial fact → key fact ≡ group → P fact
  met_all current below P stays last met k fact high was grouped = ⊎_elim
      (λ less. absurd (last k (omega arith) less (fact, stays k fact was, grouped)))
      (λ more. met k fact more high was grouped)
      (cases_lt k below)

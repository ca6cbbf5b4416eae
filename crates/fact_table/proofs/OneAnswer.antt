-- Look-ups have one answer at most.
use Rattle.std.proofs.Common.{◌≡◌, ℕ, List, Option, Some, None, refl, ap, arith, inl, inr}
use Rattle.std.proofs.lemmas.Bool.{cases_order}
use Rattle.fact_table.specs.declared.types.Fact.{Fact}
use Rattle.fact_table.specs.Lists.{AreDistinctFacts}
use Rattle.fact_table.specs.Places.{IsFoundAt, IsLastBelow, IsNextPast}

-- a fact is found at one place
pub found_once : (facts : List Fact) (fact : Fact) (one other : Option ℕ) → AreDistinctFacts facts → IsFoundAt facts fact one → IsFoundAt facts fact other → one ≡ other
found_once facts fact None None distinct h k = refl
found_once facts fact None (Some q) distinct h k = absurd (h q k)
found_once facts fact (Some p) None distinct h k = absurd (k p h)
found_once facts fact (Some p) (Some q) distinct h k = ap Some (distinct p q fact h k)

-- one place is the last
pub last_once : {X K : Type 0} (key : X → K) (xs : List X) (k : K) (below : ℕ) (one other : Option ℕ) → IsLastBelow key xs k below one → IsLastBelow key xs k below other → one ≡ other
last_once key xs k below None None h g = refl
last_once key xs k below None (Some q) h g = absurd (h q (omega arith) g.0 g.1)
last_once key xs k below (Some p) None h g = absurd (g p (omega arith) h.0 h.1)
last_once key xs k below (Some p) (Some q) h g = elim (cases_order p q) [
  | inl same ↦ ap Some same
  | inr (inl less) ↦ absurd (h.2 q (omega (arith, less)) g.0 g.1)
  | inr (inr more) ↦ absurd (g.2 p (omega (arith, more)) h.0 h.1)
]

-- one place is the next
pub next_once : {X K : Type 0} (key : X → K) (xs : List X) (k : K) (after one other : Option ℕ) → IsNextPast key xs k after one → IsNextPast key xs k after other → one ≡ other
next_once key xs k after None None h g = refl
next_once key xs k after None (Some q) h g = absurd (h q g.0 g.1)
next_once key xs k after (Some p) None h g = absurd (g p h.0 h.1)
next_once key xs k after (Some p) (Some q) h g = elim (cases_order p q) [
  | inl same ↦ ap Some same
  | inr (inl less) ↦ absurd (g.2 p h.0 less h.1)
  | inr (inr more) ↦ absurd (h.2 q g.0 more g.1)
]

-- Facts that are found in a list, and the nodes that may have a member.
use Rattle.std.proofs.Common.{◌≡◌, ◌+◌, ◌<◌, ◌≤◌, ◌∙◌, ◌&&◌, ◌==◌, ◌⊎◌, if◌then◌else◌, ℕ, zero, suc, Bool, true, false, List, [], ◌∷◌, Some, slice_get, Contains, refl, sym, ap, subst, inl, inr, ⊎_elim, arith, rules}
use Rattle.std.proofs.lemmas.Bool.{and_parts, and_from, eqb-true, eq-eqb}
use Rattle.std.proofs.Math.Bool.{or-true}
use Rattle.std.proofs.Math.Nat.{eq-or-lt_of_le}
use Rattle.std.proofs.lemmas.Map.Views.{Contains-from_any}
use Rattle.std.proofs.lemmas.Option.{slice_get-get_or, same_Some}
use Rattle.fact_table.specs.declared.types.Fact.{Fact}
use Rattle.fact_table.specs.declared.types.Fact.TheVariants.{Sub, Link}
use Rattle.el_rules.specs.Closing.{same_fact, has_fact, live_from}

-- facts that pass as the same are one
same_is : (one other : Fact) → same_fact one other ≡ true → one ≡ other
same_is (Sub a b) (Sub c d) passed =
    let parts = and_parts (a == c) (b == d) passed in
    ap (λ n. Sub n b) (eqb-true a c parts.0) ∙ ap (λ n. Sub c n) (eqb-true b d parts.1)
same_is (Link a r b) (Link c s d) passed =
    let parts = and_parts ((a == c) && (r == s)) (b == d) passed in
    let two = and_parts (a == c) (r == s) parts.0 in
    ap (λ n. Link n r b) (eqb-true a c two.0) ∙ ap (λ n. Link c n b) (eqb-true r s two.1) ∙ ap (λ n. Link c s n) (eqb-true b d parts.1)
same_is (Sub a b) (Link c s d) passed = absurd (search rules)
same_is (Link a r b) (Sub c d) passed = absurd (search rules)

-- and a fact is the same as itself
is_same : (fact : Fact) → same_fact fact fact ≡ true
is_same (Sub a b) = and_from (a == a) (b == b) (eq-eqb a a refl) (eq-eqb b b refl)
is_same (Link a r b) = and_from ((a == a) && (r == r)) (b == b) (and_from (a == a) (r == r) (eq-eqb a a refl) (eq-eqb r r refl)) (eq-eqb b b refl)

pub found : (facts : List Fact) (fact : Fact) → has_fact facts fact ≡ true → Contains facts fact
found facts fact has = Contains-from_any same_is fact facts has

any_at : (facts : List Fact) (fact : Fact) (k : ℕ) → slice_get facts k ≡ Some fact → has_fact facts fact ≡ true
any_at [] fact k at = absurd (search rules)
any_at (one ∷ facts) fact zero at =
    let first : same_fact fact one ≡ true = subst (λ f. same_fact fact f ≡ true) (sym (same_Some one fact at)) (is_same fact) in
    rw first refl
any_at (one ∷ facts) fact (suc k) at =
    let later : has_fact facts fact ≡ true = any_at facts fact k at in
    rw later (or-true (same_fact fact one))

pub finds : (facts : List Fact) (fact : Fact) → Contains facts fact → has_fact facts fact ≡ true
finds facts fact held = any_at facts fact held.0 (slice_get-get_or facts held.0 fact held.1 ∙ ap Some held.2)

-- a test answers yes or no
pub answer : (test : Bool) → (test ≡ true) ⊎ (test ≡ false)
answer true = inl refl
answer false = inr refl

-- a fact that is not found is not there
pub not_found : (facts : List Fact) (fact : Fact) → has_fact facts fact ≡ false → Contains facts fact → ⊥
not_found facts fact hasnt held = let has = finds facts fact held in absurd (search (rules, has, hasnt))

pub not_there : (facts : List Fact) (fact : Fact) → ¬ (Contains facts fact) → has_fact facts fact ≡ false
not_there facts fact absent = ⊎_elim (λ has. absurd (absent (found facts fact has))) (λ hasnt. hasnt) (answer (has_fact facts fact))

-- a live node is one of this number from the start on, and is not put within owl:Nothing
pub record IsLive (facts : List Fact) (start count n : ℕ) : Type 0 where
  pub from : start ≤ n
  pub to : n < start + count
  pub live : has_fact facts (Sub n 1) ≡ false

-- from one node later on
later_live : (facts : List Fact) (start count n : ℕ) → IsLive facts (start + 1) count n → IsLive facts start (suc count) n
later_live facts start count n is = record { from = omega (arith, is.from); to = omega (arith, is.to); live = is.live }

-- the first of the list, or a later one
live_first : (facts : List Fact) (start count x n : ℕ) → has_fact facts (Sub start 1) ≡ false → slice_get (start ∷ live_from facts (start + 1) count) x ≡ Some n
    → ((k : ℕ) → slice_get (live_from facts (start + 1) count) k ≡ Some n → IsLive facts (start + 1) count n) → IsLive facts start (suc count) n
live_first facts start count zero n hasnt at later =
    subst (IsLive facts start (suc count)) (same_Some start n at) (record { from = omega arith; to = omega arith; live = hasnt })
live_first facts start count (suc k) n hasnt at later = later_live facts start count n (later k at)

-- each number in the list of live nodes is one
pub live_at : (facts : List Fact) (start count x n : ℕ) → slice_get (live_from facts start count) x ≡ Some n → IsLive facts start count n
live_at facts start zero x n at = absurd (search rules)
live_at facts start (suc count) x n at =
    ⊎_elim
    (λ has. later_live facts start count n (live_at facts (start + 1) count x n
    (subst (λ b. slice_get (if b then live_from facts (start + 1) count else start ∷ live_from facts (start + 1) count) x ≡ Some n) has at)))
    (λ hasnt. live_first facts start count x n hasnt
    (subst (λ b. slice_get (if b then live_from facts (start + 1) count else start ∷ live_from facts (start + 1) count) x ≡ Some n) hasnt at)
    (λ k later. live_at facts (start + 1) count k n later))
    (answer (has_fact facts (Sub start 1)))

-- a test does not answer yes and no
pub true_false : {test : Bool} → test ≡ true → test ≡ false → ⊥
true_false passed failed = let both : true ≡ false = sym passed ∙ failed in absurd (search (rules, both))

-- a live node but the first is live from one node later on
live_past : (facts : List Fact) (start count n : ℕ) → IsLive facts start (suc count) n → (start ≡ n → ⊥) → IsLive facts (start + 1) count n
live_past facts start count n is other = record {
  from = ⊎_elim (λ same. absurd (other same)) (λ less. omega (arith, less)) (eq-or-lt_of_le is.from);
  to = omega (arith, is.to);
  live = is.live;
}

live_here : (facts : List Fact) (start count n : ℕ) → IsLive facts start (suc count) n
    → (IsLive facts (start + 1) count n → (x : ℕ) × (slice_get (live_from facts (start + 1) count) x ≡ Some n))
    → (x : ℕ) × (slice_get (start ∷ live_from facts (start + 1) count) x ≡ Some n)
live_here facts start count n is later =
    ⊎_elim (λ same. (zero, ap Some same))
    (λ less. let rest = later (record { from = omega (arith, less); to = omega (arith, is.to); live = is.live }) in (suc rest.0, rest.1))
    (eq-or-lt_of_le is.from)

-- and each live node is in the list
pub live_has : (facts : List Fact) (start count n : ℕ) → IsLive facts start count n → (x : ℕ) × (slice_get (live_from facts start count) x ≡ Some n)
live_has facts start zero n is = absurd (omega (arith, is.from, is.to))
live_has facts start (suc count) n is =
    ⊎_elim
    (λ has. let rest = live_has facts (start + 1) count n (live_past facts start count n is (λ same. true_false (subst (λ k. has_fact facts (Sub k 1) ≡ true) same has) is.live)) in
    (rest.0, subst (λ b. slice_get (if b then live_from facts (start + 1) count else start ∷ live_from facts (start + 1) count) rest.0 ≡ Some n) (sym has) rest.1))
    (λ hasnt. let here = live_here facts start count n is (λ past. live_has facts (start + 1) count n past) in
    (here.0, subst (λ b. slice_get (if b then live_from facts (start + 1) count else start ∷ live_from facts (start + 1) count) here.0 ≡ Some n) (sym hasnt) here.1))
    (answer (has_fact facts (Sub start 1)))

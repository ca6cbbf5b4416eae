-- Two nodes are the same exactly where they are equal.
use Rattle.std.proofs.Common.{◌≡◌, ℕ, true, ◌&&◌, refl, sym, ap, subst, true≢false}
use Rattle.std.specs.Prelude.{◌==◌}
use Rattle.std.specs.Cmp.{IsEquivalence, both_ways}
use Rattle.std.proofs.lemmas.Bool.{eqb-true, eq-eqb, and_from, and_parts}
use Rattle.concept_store.specs.declared.types.Node.{Node}
use Rattle.concept_store.specs.declared.types.Node.TheVariants.{Top, Bottom, Class, And, Exists}
use Rattle.concept_store.specs.Nodes.{same_node}
use Rattle.concept_store.specs.Inside.Hashes.{node_writes}

-- two pairs of numbers that pass the tests are equal
pairs_equal : (a b c d : ℕ) → ((a == c) && (b == d)) ≡ true → (a ≡ c) × (b ≡ d)
pairs_equal a b c d passed = let parts = and_parts (a == c) (b == d) passed in (eqb-true a c parts.0, eqb-true b d parts.1)

-- nodes that pass the test are equal
pub same_node_equal : (one other : Node) → same_node one other ≡ true → one ≡ other
same_node_equal Top Top passed = refl
same_node_equal Bottom Bottom passed = refl
same_node_equal (Class a) (Class b) passed = ap Class (eqb-true a b passed)
same_node_equal (And a b) (And c d) passed = let parts = pairs_equal a b c d passed in λ i. And (parts.0 i) (parts.1 i)
same_node_equal (Exists a b) (Exists c d) passed = let parts = pairs_equal a b c d passed in λ i. Exists (parts.0 i) (parts.1 i)
same_node_equal _ _ passed = absurd (true≢false (sym passed))

-- a node passes the test with itself
pub same_node_itself : (node : Node) → same_node node node ≡ true
same_node_itself Top = refl
same_node_itself Bottom = refl
same_node_itself (Class a) = eq-eqb a a refl
same_node_itself (And a b) = and_from (a == a) (b == b) (eq-eqb a a refl) (eq-eqb b b refl)
same_node_itself (Exists a b) = and_from (a == a) (b == b) (eq-eqb a a refl) (eq-eqb b b refl)

-- the test goes both ways
same_node_turned : (one other : Node) → same_node one other ≡ true → same_node other one ≡ true
same_node_turned one other passed = subst (λ node. same_node other node ≡ true) (sym (same_node_equal one other passed)) (same_node_itself other)

pub same_node_laws : IsEquivalence same_node
same_node_laws = record {
  refl = same_node_itself;
  symm = λ one other. both_ways (same_node one other) (same_node other one) (same_node_turned one other) (same_node_turned other one);
  congr = λ one other third passed. ap (λ node. same_node node third) (same_node_equal one other passed);
}

-- equal nodes write the same
pub same_node_writes : (one other : Node) → same_node one other ≡ true → node_writes one ≡ node_writes other
same_node_writes one other passed = ap node_writes (same_node_equal one other passed)

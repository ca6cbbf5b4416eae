-- The roles that axioms over nodes lead to are roles of their store.
use Rattle.std.proofs.Common.{ℕ, suc, ◌+◌, ◌-◌, ◌<◌, ◌≤◌, inl, inr, List, [], ◌∷◌, length, All, subst, arith}
use Rattle.std.proofs.lemmas.List.Elements.{All-contains, All-cons, All-nil}
use Rattle.el_logic.specs.declared.types.Axiom.{Axiom}
use Rattle.el_logic.specs.declared.types.Axiom.TheVariants as A
use Rattle.concept_store.specs.declared.types.NodeAxiom.{NodeAxiom}
use Rattle.concept_store.specs.Trees.{Tree}
use Rattle.concept_store.specs.Nodes.{over, all_over, part_count, parts_within}
use Rattle.concept_store.specs.Roles.{IsOver}
use Rattle.el_rules.specs.Saying.{IncludesRole, Joins, JoinsAlong, MakesReflexive}

-- the roles that an axiom leads to are below a number
pub record LeadsWithin (roles : ℕ) (said : NodeAxiom) : Type 0 where
  pub includes : (r s : ℕ) → IncludesRole said r s → s < roles
  pub joins : (r s t : ℕ) → Joins said r s t → t < roles
  pub reflexive : (r : ℕ) → MakesReflexive said r → r < roles

-- the parts of a chain, and the role that it is within
along_within : (roles front : ℕ) (rest : List ℕ) (part into r s t : ℕ) → into < roles → part + (length rest - 1) ≤ roles → JoinsAlong front rest part into r s t → t < roles
along_within roles front [] part into r s t below room joins = absurd joins
along_within roles front (next ∷ []) part into r s t below room (one, two, same) = subst (λ role. role < roles) same below
along_within roles front (next ∷ more ∷ rest) part into r s t below room (inl (one, two, same)) = omega arith
along_within roles front (next ∷ more ∷ rest) part into r s t below room (inr later) = along_within roles part (more ∷ rest) (part + 1) into r s t below (omega arith) later

-- so it is with an axiom whose names are among the properties, and whose parts of a chain have room
pub over_within : (trees : List Tree) (classes props roles first : ℕ) (axiom' : Axiom) → IsOver classes props axiom' → props ≤ roles → first + part_count axiom' ≤ roles → LeadsWithin roles (over trees first axiom')
over_within trees classes props roles first (A.SubClass low high) is fits room = record { includes = λ r s says. absurd says; joins = λ r s t says. absurd says; reflexive = λ r says. absurd says }
over_within trees classes props roles first (A.Equivalent exprs) is fits room = record { includes = λ r s says. absurd says; joins = λ r s t says. absurd says; reflexive = λ r says. absurd says }
over_within trees classes props roles first (A.Disjoint exprs) is fits room = record { includes = λ r s says. absurd says; joins = λ r s t says. absurd says; reflexive = λ r says. absurd says }
over_within trees classes props roles first (A.SubRole [] role) is fits room =
    let below : role < props = is.properties 0 0 (omega arith) in
    record { includes = λ r s says. subst (λ n. n < roles) says.1 (omega arith); joins = λ r s t says. absurd says; reflexive = λ r says. absurd says }
over_within trees classes props roles first (A.SubRole (one ∷ rest) role) is fits room =
    let below : role < props = is.properties 0 0 (omega arith) in
    record {
      includes = λ r s says. subst (λ n. n < roles) says.1 (omega arith);
      joins = λ r s t says. along_within roles one rest first role r s t (omega arith) (omega arith) says;
      reflexive = λ r says. absurd says;
    }
over_within trees classes props roles first (A.EquivalentRoles names) is fits room = record {
  includes = λ r s says. let below = All-contains (λ role. role < props) names s is.properties says.1 in omega arith;
  joins = λ r s t says. absurd says;
  reflexive = λ r says. absurd says;
}
over_within trees classes props roles first (A.Transitive role) is fits room =
    let below : role < props = is.properties 0 0 (omega arith) in
    record { includes = λ r s says. absurd says; joins = λ r s t says. subst (λ n. n < roles) says.2 (omega arith); reflexive = λ r says. absurd says }
over_within trees classes props roles first (A.Reflexive role) is fits room =
    let below : role < props = is.properties 0 0 (omega arith) in
    record { includes = λ r s says. absurd says; joins = λ r s t says. absurd says; reflexive = λ r says. subst (λ n. n < roles) says (omega arith) }
over_within trees classes props roles first (A.Domain role expr) is fits room = record { includes = λ r s says. absurd says; joins = λ r s t says. absurd says; reflexive = λ r says. absurd says }

-- and with several axioms
pub all_within : (trees : List Tree) (classes props roles first : ℕ) (axioms : List Axiom) → All (IsOver classes props) axioms → props ≤ roles → first + parts_within axioms ≤ roles
    → All (LeadsWithin roles) (all_over trees first axioms)
all_within trees classes props roles first [] each fits room = All-nil (LeadsWithin roles)
all_within trees classes props roles first (axiom' ∷ axioms) each fits room =
    All-cons (LeadsWithin roles) (over trees first axiom') (all_over trees (first + part_count axiom') axioms)
    (over_within trees classes props roles first axiom' (each 0 axiom' (omega arith)) fits (omega arith))
    (all_within trees classes props roles (first + part_count axiom') axioms (λ k d within. each (suc k) d (omega arith)) fits (omega arith))

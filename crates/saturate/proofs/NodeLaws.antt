-- Facts that follow are about nodes of the case.
use Rattle.std.proofs.Common.{◌≡◌, ℕ, zero, suc, ◌+◌, ◌<◌, List, length, Some, sym, subst, arith}
use Rattle.std.specs.Prelude.{slice_get}
use Rattle.concept_store.specs.declared.types.Node.{Node}
use Rattle.concept_store.specs.declared.types.NodeAxiom.{NodeAxiom}
use Rattle.fact_table.specs.declared.types.Fact.{Fact}
use Rattle.fact_table.specs.declared.types.Fact.TheVariants.{Sub, Link}
use Rattle.fact_table.specs.declared.types.FactSide.{FactSide}
use Rattle.fact_table.specs.declared.types.Proved.{Proved}
use Rattle.fact_table.specs.declared.types.Rule.{Rule}
use Rattle.fact_table.specs.Groups.{node_at}
use Rattle.fact_table.specs.Lists.{facts_of}
use Rattle.el_rules.specs.Rules.{Gives}
use Rattle.el_rules.specs.Theories.{IsNamedBy}
use Rattle.el_rules.specs.Following.{IsEarlier}
use Rattle.case_file.specs.Cases.{theory_of}
use Rattle.rule_steps.specs.Counted.{GroundsView, nodes_of}
use Rattle.rule_steps.specs.Growing.{AreDerived}

-- the first node of the fact is one of the nodes
abbrev IsFromNode : List Node → Fact → Type 0
IsFromNode nodes fact = node_at FactSide.From fact < length nodes

-- a rule gives such a fact if its first premise is such
given_from : (nodes : List Node) (Named : NodeAxiom → Type 0) (One Two : Fact → Type 0) → ((fact : Fact) → One fact → IsFromNode nodes fact) → (rule : Rule) (fact : Fact) → Gives nodes Named One Two rule fact → IsFromNode nodes fact
given_from nodes Named One Two one Rule.Itself (Sub a b) given = given.0
given_from nodes Named One Two one Rule.Top (Sub a b) given = given.0
given_from nodes Named One Two one Rule.Incl (Sub a d) (c, said, is, says, p) = one (Sub a c) p
given_from nodes Named One Two one Rule.Left (Sub a c) (n, d, node, p) = one (Sub a n) p
given_from nodes Named One Two one Rule.Right (Sub a d) (n, c, node, p) = one (Sub a n) p
given_from nodes Named One Two one Rule.Both (Sub a n) (c, d, node, p, q) = one (Sub a c) p
given_from nodes Named One Two one Rule.Out (Link a r c) (n, node, p) = one (Sub a n) p
given_from nodes Named One Two one Rule.Into (Sub a n) (r, b, c, node, p, q) = one (Link a r b) p
given_from nodes Named One Two one Rule.Void (Sub a n) (r, b, same, p, q) = one (Link a r b) p
given_from nodes Named One Two one Rule.Role (Link a s b) (r, said, is, says, p) = one (Link a r b) p
given_from nodes Named One Two one Rule.Chain (Link a t c) (r, s, b, said, is, says, p, q) = one (Link a r b) p
given_from nodes Named One Two one Rule.Refl (Link a r b) (said, is, says, within, same) = within
given_from nodes Named One Two one Rule.Dom (Sub a c) (r, b, said, is, says, p) = one (Link a r b) p
given_from nodes Named One Two one Rule.Disj (Sub a n) (c, d, said, same, is, says, p, q) = one (Sub a c) p
given_from nodes Named One Two one _ fact given = absurd given

module _ (grounds : GroundsView) (items : List Proved) (item_at : (k : ℕ) (fact : Fact) → slice_get (facts_of items) k ≡ Some fact → (item : Proved) × (slice_get items k ≡ Some item) × (item.fact ≡ fact))
    (derived : AreDerived grounds items) where
  -- the first items have such facts
  first_from : (count k : ℕ) (item : Proved) → k < count → slice_get items k ≡ Some item → IsFromNode (nodes_of grounds) item.fact
  first_from zero k item less at = absurd (omega arith)
  first_from (suc count) k item less at =
      given_from (nodes_of grounds) (IsNamedBy (theory_of grounds.case) grounds.part grounds.ranks item.reason.source) (IsEarlier items k item.reason.first) (IsEarlier items k item.reason.second)
      (λ fact (one, before, is, same). subst (IsFromNode (nodes_of grounds)) same (first_from count item.reason.first one (omega arith) is)) item.reason.rule item.fact (derived.follows k item at)

  -- so each link is from a node
  pub link_from_node : (k a r b : ℕ) → slice_get (facts_of items) k ≡ Some (Link a r b) → a < length (nodes_of grounds)
  link_from_node k a r b at =
      let found = item_at k (Link a r b) at in
      subst (IsFromNode (nodes_of grounds)) found.2 (first_from (k + 1) k found.0 (omega arith) found.1)

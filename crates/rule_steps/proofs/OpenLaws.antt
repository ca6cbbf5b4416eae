-- What a node is made of.
use Rattle.std.proofs.Common.{◌≡◌, ℕ, List, Contains, refl, subst, sym, ◌∙◌, arith}
use Rattle.std.proofs.lemmas.Option.{same_Some}
use Rattle.concept_store.specs.Nodes.{IsNode}
use Rattle.concept_store.specs.declared.types.Node.{Node}
use Rattle.concept_store.specs.declared.types.Node.TheVariants.{And, Exists}
use Rattle.fact_table.specs.declared.types.Fact.{Fact}
use Rattle.fact_table.specs.declared.types.Fact.TheVariants.{Sub, Link}
use Rattle.fact_table.specs.declared.types.Rule.{Rule}
use Rattle.fact_table.specs.declared.types.Source.{Source}
use Rattle.fact_table.specs.declared.types.Proved.{Proved}
use Rattle.fact_layers.specs.Tops.{Topped, whole}
use Rattle.rule_steps.specs.Counted.{GroundsView, nodes_of}
use Rattle.rule_steps.specs.Growing.{facts_in}
use Rattle.rule_steps.specs.Answering.{IsAt}
use Rattle.rule_steps.specs.Inside.Steps.{IsDerivedFrom, IsOpened}
use Rattle.rule_steps.proofs.GrowthLaws.{earlier_at}

-- an item by a rule of one premise and without an axiom
abbrev pub alone : Fact → Rule → ℕ → Proved
alone fact rule place = record { fact = fact; reason = record { first = place; second = 0; source = Source.Nothing; rule = rule } }

module _ (grounds : GroundsView) (layers : Topped) (place a n : ℕ) where
  pub left_follows : (c d : ℕ) → IsNode (nodes_of grounds) n (And c d) → IsAt place (facts_in layers) (Sub a n) → IsDerivedFrom grounds (whole layers) (alone (Sub a c) Rule.Left place)
  left_follows c d node at = record {
    follows = (n, d, node, earlier_at (whole layers) place (Sub a n) at);
    names = record { first_is = λ few. absurd (omega arith); second_is = λ few. refl; source_is = λ no. refl };
  }

  pub right_follows : (c d : ℕ) → IsNode (nodes_of grounds) n (And c d) → IsAt place (facts_in layers) (Sub a n) → IsDerivedFrom grounds (whole layers) (alone (Sub a d) Rule.Right place)
  right_follows c d node at = record {
    follows = (n, c, node, earlier_at (whole layers) place (Sub a n) at);
    names = record { first_is = λ few. absurd (omega arith); second_is = λ few. refl; source_is = λ no. refl };
  }

  pub out_follows : (r c : ℕ) → IsNode (nodes_of grounds) n (Exists r c) → IsAt place (facts_in layers) (Sub a n) → IsDerivedFrom grounds (whole layers) (alone (Link a r c) Rule.Out place)
  out_follows r c node at = record {
    follows = (n, node, earlier_at (whole layers) place (Sub a n) at);
    names = record { first_is = λ few. absurd (omega arith); second_is = λ few. refl; source_is = λ no. refl };
  }

-- both parts of an intersection
pub opened_both : (nodes : List Node) (facts : List Fact) (a n c d : ℕ) → IsNode nodes n (And c d) → Contains facts (Sub a c) → Contains facts (Sub a d) → IsOpened nodes facts a n
opened_both nodes facts a n c d node one other = record {
  left = λ x y is. subst (λ z. Contains facts (Sub a z)) (first x y (same_Some (And c d) (And x y) (sym node ∙ is))) one;
  right = λ x y is. subst (λ z. Contains facts (Sub a z)) (second x y (same_Some (And c d) (And x y) (sym node ∙ is))) other;
  out = λ r x is. absurd (differs r x (same_Some (And c d) (Exists r x) (sym node ∙ is)));
}
  where
    first : (x y : ℕ) → And c d ≡ And x y → c ≡ x
    first x y same = cc

    second : (x y : ℕ) → And c d ≡ And x y → d ≡ y
    second x y same = cc

    differs : (r x : ℕ) → And c d ≡ Exists r x → ⊥
    differs r x same = cc

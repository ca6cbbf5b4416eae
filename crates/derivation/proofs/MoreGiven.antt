-- What a rule gives from some kinds of axioms and premises, it gives from wider ones.
use Rattle.std.proofs.Common.{◌≡◌, ◌<◌, true, List, refl, lit<, arith}
use Rattle.concept_store.specs.declared.types.Node.{Node}
use Rattle.concept_store.specs.declared.types.NodeAxiom.{NodeAxiom}
use Rattle.fact_table.specs.declared.types.Fact.{Fact}
use Rattle.fact_table.specs.declared.types.Fact.TheVariants.{Sub, Link}
use Rattle.fact_table.specs.declared.types.Rule.{Rule}
use Rattle.el_rules.specs.Rules.{Gives, premises, names_axiom}

module _ (nodes : List Node) (Named More : NodeAxiom → Type 0) (One OneMore Two TwoMore : Fact → Type 0) where
  -- what the rule starts from is of the wider kinds
  pub record AreWider (rule : Rule) : Type 0 where
    pub named : names_axiom rule ≡ true → (said : NodeAxiom) → Named said → More said
    pub one : 0 < premises rule → (fact : Fact) → One fact → OneMore fact
    pub two : 1 < premises rule → (fact : Fact) → Two fact → TwoMore fact

  -- so it is for each rule
  pub given_more : (rule : Rule) (fact : Fact) → AreWider rule → Gives nodes Named One Two rule fact → Gives nodes More OneMore TwoMore rule fact
  given_more Rule.Itself (Sub a b) wider given = given
  given_more Rule.Top (Sub a b) wider given = given
  given_more Rule.Incl (Sub a d) wider (c, said, is, says, first) = (c, said, wider.named refl said is, says, wider.one (lit< tt) (Sub a c) first)
  given_more Rule.Left (Sub a c) wider (n, d, node, first) = (n, d, node, wider.one (lit< tt) (Sub a n) first)
  given_more Rule.Right (Sub a d) wider (n, c, node, first) = (n, c, node, wider.one (lit< tt) (Sub a n) first)
  given_more Rule.Both (Sub a n) wider (c, d, node, first, second) = (c, d, node, wider.one (lit< tt) (Sub a c) first, wider.two (lit< tt) (Sub a d) second)
  given_more Rule.Out (Link a r c) wider (n, node, first) = (n, node, wider.one (lit< tt) (Sub a n) first)
  given_more Rule.Into (Sub a n) wider (r, b, c, node, first, second) = (r, b, c, node, wider.one (lit< tt) (Link a r b) first, wider.two (lit< tt) (Sub b c) second)
  given_more Rule.Void (Sub a n) wider (r, b, nothing, first, second) = (r, b, nothing, wider.one (lit< tt) (Link a r b) first, wider.two (lit< tt) (Sub b 1) second)
  given_more Rule.Role (Link a s b) wider (r, said, is, says, first) = (r, said, wider.named refl said is, says, wider.one (lit< tt) (Link a r b) first)
  given_more Rule.Chain (Link a t c) wider (r, s, b, said, is, says, first, second) =
      (r, s, b, said, wider.named refl said is, says, wider.one (lit< tt) (Link a r b) first, wider.two (lit< tt) (Link b s c) second)
  given_more Rule.Refl (Link a r b) wider (said, is, says, node, same) = (said, wider.named refl said is, says, node, same)
  given_more Rule.Dom (Sub a c) wider (r, b, said, is, says, first) = (r, b, said, wider.named refl said is, says, wider.one (lit< tt) (Link a r b) first)
  given_more Rule.Disj (Sub a n) wider (c, d, said, nothing, is, says, first, second) =
      (c, d, said, nothing, wider.named refl said is, says, wider.one (lit< tt) (Sub a c) first, wider.two (lit< tt) (Sub a d) second)
  given_more _ fact wider given = absurd given

module _ (nodes : List Node) (Named : NodeAxiom → Type 0) (One Two : Fact → Type 0) where
  -- a rule that starts from facts is given some of each kind
  pub given_premises : (rule : Rule) (fact : Fact) → Gives nodes Named One Two rule fact
      → (0 < premises rule → (first : Fact) × One first) × (1 < premises rule → (second : Fact) × Two second)
  given_premises Rule.Itself (Sub a b) given = ((λ many. absurd (omega arith)), (λ many. absurd (omega arith)))
  given_premises Rule.Top (Sub a b) given = ((λ many. absurd (omega arith)), (λ many. absurd (omega arith)))
  given_premises Rule.Incl (Sub a d) (c, said, is, says, first) = ((λ _. ((Sub a c), first)), (λ many. absurd (omega arith)))
  given_premises Rule.Left (Sub a c) (n, d, node, first) = ((λ _. ((Sub a n), first)), (λ many. absurd (omega arith)))
  given_premises Rule.Right (Sub a d) (n, c, node, first) = ((λ _. ((Sub a n), first)), (λ many. absurd (omega arith)))
  given_premises Rule.Both (Sub a n) (c, d, node, first, second) = ((λ _. ((Sub a c), first)), (λ _. ((Sub a d), second)))
  given_premises Rule.Out (Link a r c) (n, node, first) = ((λ _. ((Sub a n), first)), (λ many. absurd (omega arith)))
  given_premises Rule.Into (Sub a n) (r, b, c, node, first, second) = ((λ _. ((Link a r b), first)), (λ _. ((Sub b c), second)))
  given_premises Rule.Void (Sub a n) (r, b, nothing, first, second) = ((λ _. ((Link a r b), first)), (λ _. ((Sub b 1), second)))
  given_premises Rule.Role (Link a s b) (r, said, is, says, first) = ((λ _. ((Link a r b), first)), (λ many. absurd (omega arith)))
  given_premises Rule.Chain (Link a t c) (r, s, b, said, is, says, first, second) = ((λ _. ((Link a r b), first)), (λ _. ((Link b s c), second)))
  given_premises Rule.Refl (Link a r b) (said, is, says, node, same) = ((λ many. absurd (omega arith)), (λ many. absurd (omega arith)))
  given_premises Rule.Dom (Sub a c) (r, b, said, is, says, first) = ((λ _. ((Link a r b), first)), (λ many. absurd (omega arith)))
  given_premises Rule.Disj (Sub a n) (c, d, said, nothing, is, says, first, second) = ((λ _. ((Sub a c), first)), (λ _. ((Sub a d), second)))
  given_premises _ fact given = absurd given

-- What a rule gives when its premises and axioms change.
use Rattle.std.proofs.Common.{List}
use Rattle.concept_store.specs.declared.types.Node.{Node}
use Rattle.concept_store.specs.declared.types.NodeAxiom.{NodeAxiom}
use Rattle.fact_table.specs.declared.types.Fact.{Fact}
use Rattle.fact_table.specs.declared.types.Fact.TheVariants.{Sub, Link}
use Rattle.fact_table.specs.declared.types.Rule.{Rule}
use Rattle.el_rules.specs.Rules.{Gives}

module _ (nodes : List Node) (Named Known : NodeAxiom → Type 0) (One Two First Second : Fact → Type 0)
    (named : (said : NodeAxiom) → Named said → Known said) (one : (fact : Fact) → One fact → First fact) (two : (fact : Fact) → Two fact → Second fact) where
  -- from more facts, and by more axioms, it gives no less
  pub gives_more : (rule : Rule) (fact : Fact) → Gives nodes Named One Two rule fact → Gives nodes Known First Second rule fact
  gives_more Rule.Itself (Sub a b) given = given
  gives_more Rule.Top (Sub a b) given = given
  gives_more Rule.Incl (Sub a d) (c, said, is, says, p) = (c, said, named said is, says, one (Sub a c) p)
  gives_more Rule.Left (Sub a c) (n, d, node, p) = (n, d, node, one (Sub a n) p)
  gives_more Rule.Right (Sub a d) (n, c, node, p) = (n, c, node, one (Sub a n) p)
  gives_more Rule.Both (Sub a n) (c, d, node, p, q) = (c, d, node, one (Sub a c) p, two (Sub a d) q)
  gives_more Rule.Out (Link a r c) (n, node, p) = (n, node, one (Sub a n) p)
  gives_more Rule.Into (Sub a n) (r, b, c, node, p, q) = (r, b, c, node, one (Link a r b) p, two (Sub b c) q)
  gives_more Rule.Void (Sub a n) (r, b, same, p, q) = (r, b, same, one (Link a r b) p, two (Sub b 1) q)
  gives_more Rule.Role (Link a s b) (r, said, is, says, p) = (r, said, named said is, says, one (Link a r b) p)
  gives_more Rule.Chain (Link a t c) (r, s, b, said, is, says, p, q) = (r, s, b, said, named said is, says, one (Link a r b) p, two (Link b s c) q)
  gives_more Rule.Refl (Link a r b) (said, is, says, within, same) = (said, named said is, says, within, same)
  gives_more Rule.Dom (Sub a c) (r, b, said, is, says, p) = (r, b, said, named said is, says, one (Link a r b) p)
  gives_more Rule.Disj (Sub a n) (c, d, said, same, is, says, p, q) = (c, d, said, same, named said is, says, one (Sub a c) p, two (Sub a d) q)
  gives_more _ fact given = absurd given

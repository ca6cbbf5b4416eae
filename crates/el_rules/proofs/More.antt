-- More facts and more axioms give more.
use Rattle.std.proofs.Common.{List}
use Rattle.concept_store.specs.declared.types.Node.{Node}
use Rattle.concept_store.specs.declared.types.NodeAxiom.{NodeAxiom}
use Rattle.fact_table.specs.declared.types.Fact.{Fact}
use Rattle.fact_table.specs.declared.types.Fact.TheVariants.{Sub, Link}
use Rattle.fact_table.specs.declared.types.Rule.{Rule}
use Rattle.el_rules.specs.Rules.{Gives}

-- what a rule gives it still gives from wider kinds of facts and of axioms
pub gives_more : (nodes : List Node) (Named More : NodeAxiom → Type 0) (One OneMore Two TwoMore : Fact → Type 0) → ((said : NodeAxiom) → Named said → More said)
    → ((one : Fact) → One one → OneMore one) → ((two : Fact) → Two two → TwoMore two) → (rule : Rule) (fact : Fact)
    → Gives nodes Named One Two rule fact → Gives nodes More OneMore TwoMore rule fact
gives_more nodes Named More One OneMore Two TwoMore named one two Rule.Itself (Sub a b) given = given
gives_more nodes Named More One OneMore Two TwoMore named one two Rule.Top (Sub a b) given = given
gives_more nodes Named More One OneMore Two TwoMore named one two Rule.Incl (Sub a d) (c, said, is, says, p) = (c, said, named said is, says, one (Sub a c) p)
gives_more nodes Named More One OneMore Two TwoMore named one two Rule.Left (Sub a c) (n, d, node, p) = (n, d, node, one (Sub a n) p)
gives_more nodes Named More One OneMore Two TwoMore named one two Rule.Right (Sub a d) (n, c, node, p) = (n, c, node, one (Sub a n) p)
gives_more nodes Named More One OneMore Two TwoMore named one two Rule.Both (Sub a n) (c, d, node, p, q) = (c, d, node, one (Sub a c) p, two (Sub a d) q)
gives_more nodes Named More One OneMore Two TwoMore named one two Rule.Out (Link a r c) (n, node, p) = (n, node, one (Sub a n) p)
gives_more nodes Named More One OneMore Two TwoMore named one two Rule.Into (Sub a n) (r, b, c, node, p, q) = (r, b, c, node, one (Link a r b) p, two (Sub b c) q)
gives_more nodes Named More One OneMore Two TwoMore named one two Rule.Void (Sub a n) (r, b, is, p, q) = (r, b, is, one (Link a r b) p, two (Sub b 1) q)
gives_more nodes Named More One OneMore Two TwoMore named one two Rule.Role (Link a s b) (r, said, is, says, p) = (r, said, named said is, says, one (Link a r b) p)
gives_more nodes Named More One OneMore Two TwoMore named one two Rule.Chain (Link a t c) (r, s, b, said, is, says, p, q) = (r, s, b, said, named said is, says, one (Link a r b) p, two (Link b s c) q)
gives_more nodes Named More One OneMore Two TwoMore named one two Rule.Refl (Link a r b) (said, is, says, within, same) = (said, named said is, says, within, same)
gives_more nodes Named More One OneMore Two TwoMore named one two Rule.Dom (Sub a c) (r, b, said, is, says, p) = (r, b, said, named said is, says, one (Link a r b) p)
gives_more nodes Named More One OneMore Two TwoMore named one two Rule.Disj (Sub a n) (c, d, said, nothing, is, says, p, q) = (c, d, said, nothing, named said is, says, one (Sub a c) p, two (Sub a d) q)
gives_more nodes Named More One OneMore Two TwoMore named one two _ fact given = absurd given

-- What a rule gives when its premises and axioms change.
use Rattle.std.proofs.Common.{◌<◌, ◌⊎◌, List, inl, inr, arith}
use Rattle.concept_store.specs.declared.types.Node.{Node}
use Rattle.concept_store.specs.declared.types.NodeAxiom.{NodeAxiom}
use Rattle.fact_table.specs.declared.types.Fact.{Fact}
use Rattle.fact_table.specs.declared.types.Fact.TheVariants.{Sub, Link}
use Rattle.fact_table.specs.declared.types.Rule.{Rule}
use Rattle.el_rules.specs.Rules.{Gives, premises}

-- from more it gives no less
pub gives_more : (nodes : List Node) (Named Known One Two First Second : _ → Type 0) → ((said : NodeAxiom) → Named said → Known said) → ((fact : Fact) → One fact → First fact) → ((fact : Fact) → Two fact → Second fact) →
    (rule : Rule) (fact : Fact) → Gives nodes Named One Two rule fact → Gives nodes Known First Second rule fact
gives_more nodes Named Known One Two First Second named one two Rule.Itself (Sub a b) given = given
gives_more nodes Named Known One Two First Second named one two Rule.Top (Sub a b) given = given
gives_more nodes Named Known One Two First Second named one two Rule.Incl (Sub a d) (c, said, is, says, p) = (c, said, named said is, says, one (Sub a c) p)
gives_more nodes Named Known One Two First Second named one two Rule.Left (Sub a c) (n, d, node, p) = (n, d, node, one (Sub a n) p)
gives_more nodes Named Known One Two First Second named one two Rule.Right (Sub a d) (n, c, node, p) = (n, c, node, one (Sub a n) p)
gives_more nodes Named Known One Two First Second named one two Rule.Both (Sub a n) (c, d, node, p, q) = (c, d, node, one (Sub a c) p, two (Sub a d) q)
gives_more nodes Named Known One Two First Second named one two Rule.Out (Link a r c) (n, node, p) = (n, node, one (Sub a n) p)
gives_more nodes Named Known One Two First Second named one two Rule.Into (Sub a n) (r, b, c, node, p, q) = (r, b, c, node, one (Link a r b) p, two (Sub b c) q)
gives_more nodes Named Known One Two First Second named one two Rule.Void (Sub a n) (r, b, same, p, q) = (r, b, same, one (Link a r b) p, two (Sub b 1) q)
gives_more nodes Named Known One Two First Second named one two Rule.Role (Link a s b) (r, said, is, says, p) = (r, said, named said is, says, one (Link a r b) p)
gives_more nodes Named Known One Two First Second named one two Rule.Chain (Link a t c) (r, s, b, said, is, says, p, q) = (r, s, b, said, named said is, says, one (Link a r b) p, two (Link b s c) q)
gives_more nodes Named Known One Two First Second named one two Rule.Refl (Link a r b) (said, is, says, within, same) = (said, named said is, says, within, same)
gives_more nodes Named Known One Two First Second named one two Rule.Dom (Sub a c) (r, b, said, is, says, p) = (r, b, said, named said is, says, one (Link a r b) p)
gives_more nodes Named Known One Two First Second named one two Rule.Disj (Sub a n) (c, d, said, same, is, says, p, q) = (c, d, said, same, named said is, says, one (Sub a c) p, two (Sub a d) q)
gives_more nodes Named Known One Two First Second named one two _ fact given = absurd given

-- what a rule gives from old and new facts it gives from old ones, or its first is new, or its second
pub gives_apart : (nodes : List Node) (Named : NodeAxiom → Type 0) (Old New : Fact → Type 0) (rule : Rule) (fact : Fact) → 0 < premises rule → Gives nodes Named (λ f. Old f ⊎ New f) (λ f. Old f ⊎ New f) rule fact →
    Gives nodes Named Old Old rule fact
    ⊎ (Gives nodes Named New (λ f. Old f ⊎ New f) rule fact ⊎ ((1 < premises rule) × Gives nodes Named (λ f. Old f ⊎ New f) New rule fact))
gives_apart nodes Named Old New Rule.Itself fact some given = absurd (omega arith)
gives_apart nodes Named Old New Rule.Top fact some given = absurd (omega arith)
gives_apart nodes Named Old New Rule.Refl fact some given = absurd (omega arith)
gives_apart nodes Named Old New Rule.Incl (Sub a d) some (c, said, is, says, inl p) = inl (c, said, is, says, p)
gives_apart nodes Named Old New Rule.Incl (Sub a d) some (c, said, is, says, inr p) = inr (inl (c, said, is, says, p))
gives_apart nodes Named Old New Rule.Left (Sub a c) some (n, d, node, inl p) = inl (n, d, node, p)
gives_apart nodes Named Old New Rule.Left (Sub a c) some (n, d, node, inr p) = inr (inl (n, d, node, p))
gives_apart nodes Named Old New Rule.Right (Sub a d) some (n, c, node, inl p) = inl (n, c, node, p)
gives_apart nodes Named Old New Rule.Right (Sub a d) some (n, c, node, inr p) = inr (inl (n, c, node, p))
gives_apart nodes Named Old New Rule.Both (Sub a n) some (c, d, node, inl p, inl q) = inl (c, d, node, p, q)
gives_apart nodes Named Old New Rule.Both (Sub a n) some (c, d, node, inr p, q) = inr (inl (c, d, node, p, q))
gives_apart nodes Named Old New Rule.Both (Sub a n) some (c, d, node, p, inr q) = inr (inr (omega arith, (c, d, node, p, q)))
gives_apart nodes Named Old New Rule.Out (Link a r c) some (n, node, inl p) = inl (n, node, p)
gives_apart nodes Named Old New Rule.Out (Link a r c) some (n, node, inr p) = inr (inl (n, node, p))
gives_apart nodes Named Old New Rule.Into (Sub a n) some (r, b, c, node, inl p, inl q) = inl (r, b, c, node, p, q)
gives_apart nodes Named Old New Rule.Into (Sub a n) some (r, b, c, node, inr p, q) = inr (inl (r, b, c, node, p, q))
gives_apart nodes Named Old New Rule.Into (Sub a n) some (r, b, c, node, p, inr q) = inr (inr (omega arith, (r, b, c, node, p, q)))
gives_apart nodes Named Old New Rule.Void (Sub a n) some (r, b, same, inl p, inl q) = inl (r, b, same, p, q)
gives_apart nodes Named Old New Rule.Void (Sub a n) some (r, b, same, inr p, q) = inr (inl (r, b, same, p, q))
gives_apart nodes Named Old New Rule.Void (Sub a n) some (r, b, same, p, inr q) = inr (inr (omega arith, (r, b, same, p, q)))
gives_apart nodes Named Old New Rule.Role (Link a s b) some (r, said, is, says, inl p) = inl (r, said, is, says, p)
gives_apart nodes Named Old New Rule.Role (Link a s b) some (r, said, is, says, inr p) = inr (inl (r, said, is, says, p))
gives_apart nodes Named Old New Rule.Chain (Link a t c) some (r, s, b, said, is, says, inl p, inl q) = inl (r, s, b, said, is, says, p, q)
gives_apart nodes Named Old New Rule.Chain (Link a t c) some (r, s, b, said, is, says, inr p, q) = inr (inl (r, s, b, said, is, says, p, q))
gives_apart nodes Named Old New Rule.Chain (Link a t c) some (r, s, b, said, is, says, p, inr q) = inr (inr (omega arith, (r, s, b, said, is, says, p, q)))
gives_apart nodes Named Old New Rule.Dom (Sub a c) some (r, b, said, is, says, inl p) = inl (r, b, said, is, says, p)
gives_apart nodes Named Old New Rule.Dom (Sub a c) some (r, b, said, is, says, inr p) = inr (inl (r, b, said, is, says, p))
gives_apart nodes Named Old New Rule.Disj (Sub a n) some (c, d, said, same, is, says, inl p, inl q) = inl (c, d, said, same, is, says, p, q)
gives_apart nodes Named Old New Rule.Disj (Sub a n) some (c, d, said, same, is, says, inr p, q) = inr (inl (c, d, said, same, is, says, p, q))
gives_apart nodes Named Old New Rule.Disj (Sub a n) some (c, d, said, same, is, says, p, inr q) = inr (inr (omega arith, (c, d, said, same, is, says, p, q)))
gives_apart nodes Named Old New _ fact some given = absurd given

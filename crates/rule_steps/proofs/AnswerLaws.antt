-- All rules for one fact.
use Rattle.std.proofs.Common.{◌≡◌, ℕ, ◌+◌, List, Contains, Some, subst, sym, ◌∙◌, ap, arith}
use Rattle.std.specs.Prelude.{Option, None, slice_get}
use Rattle.std.specs.Option.{option_map}
use Rattle.std.proofs.lemmas.Option.{same_Some, slice_get-map}
use Rattle.concept_store.specs.Nodes.{IsNode}
use Rattle.concept_store.specs.declared.types.Node.{Node}
use Rattle.concept_store.specs.declared.types.Node.TheVariants.{And, Exists}
use Rattle.concept_store.specs.declared.types.NodeAxiom.{NodeAxiom}
use Rattle.fact_table.specs.declared.types.Fact.{Fact}
use Rattle.fact_table.specs.declared.types.Fact.TheVariants.{Sub, Link}
use Rattle.fact_table.specs.declared.types.Rule.{Rule}
use Rattle.fact_table.specs.declared.types.Proved.{Proved}
use Rattle.fact_table.specs.Lists.{facts_of}
use Rattle.fact_layers.specs.Tops.{Topped}
use Rattle.el_rules.specs.Following.{IsPlacedBelow}
use Rattle.rule_steps.specs.Counted.{GroundsView, IsCounted, IsCountedSince, nodes_of}
use Rattle.rule_steps.specs.Growing.{facts_in, HasGrown}
use Rattle.rule_steps.specs.Answering.{IsAt, IsAnsweredFirst, IsAnsweredSecond, IsAnswered}
use Rattle.rule_steps.specs.Inside.Steps.{IsOpened}
use Rattle.rule_steps.proofs.Giving.{gives_more}
use Rattle.rule_steps.proofs.GrowthLaws.{has_stays}

-- the fact of the item at a place
pub fact_of_item : (items : List Proved) (place : ℕ) (item : Proved) → slice_get items place ≡ Some item → IsAt place (facts_of items) item.fact
fact_of_item items place item at = slice_get-map (λ (x : Proved). x.fact) items place ∙ ap (λ (o : Option Proved). option_map (λ (x : Proved). x.fact) o) at

-- what is made of a node stays there
pub opened_stays : (grounds : GroundsView) (old new : Topped) (a n : ℕ) → HasGrown grounds old new → IsOpened (nodes_of grounds) (facts_in old) a n → IsOpened (nodes_of grounds) (facts_in new) a n
opened_stays grounds old new a n grown opened = record {
  left = λ c d node. has_stays grounds old new (Sub a c) grown (opened.left c d node);
  right = λ c d node. has_stays grounds old new (Sub a d) grown (opened.right c d node);
  out = λ r c node. has_stays grounds old new (Link a r c) grown (opened.out r c node);
}

-- what is answered for axioms of all sources is answered for those that count
pub any_source : (grounds : GroundsView) (p : ℕ) (facts : List Fact) (rule : Rule) → IsAnsweredFirst (nodes_of grounds) (IsCountedSince None grounds) p facts rule → IsAnsweredFirst (nodes_of grounds) (IsCounted grounds) p facts rule
any_source grounds p facts rule answered fact some given =
    answered fact some (gives_more (nodes_of grounds) (IsCounted grounds) (IsCountedSince None grounds) (IsAt p facts) (IsPlacedBelow (p + 1) facts) (IsAt p facts) (IsPlacedBelow (p + 1) facts)
    (λ said (source, (counts, named)). (source, ((tt, counts), named))) (λ f at. at) (λ f below. below) rule fact given)

module _ (nodes : List Node) (Named : NodeAxiom → Type 0) (p : ℕ) (facts : List Fact) where
  -- no place has two facts
  sub_no_link : (a c x r y : ℕ) → IsAt p facts (Sub a c) → IsAt p facts (Link x r y) → ⊥
  sub_no_link a c x r y one other = let same : Sub a c ≡ Link x r y = same_Some (Sub a c) (Link x r y) (sym one ∙ other) in cc

  -- a subsumption is answered if each rule that starts from one is
  module _ (a c : ℕ) (at : IsAt p facts (Sub a c)) where
    sub_left : IsOpened nodes facts a c → IsAnsweredFirst nodes Named p facts Rule.Left
    sub_left opened (Link x r y) some given = absurd given
    sub_left opened (Sub x y) some (n, d, node, is) =
        let same : Sub a c ≡ Sub x n = same_Some (Sub a c) (Sub x n) (sym at ∙ is) in
        let low : a ≡ x = cc in
        let high : n ≡ c = cc in
        subst (λ z. Contains facts (Sub z y)) low (opened.left y d (subst (λ z. IsNode nodes z (And y d)) high node))

    sub_right : IsOpened nodes facts a c → IsAnsweredFirst nodes Named p facts Rule.Right
    sub_right opened (Link x r y) some given = absurd given
    sub_right opened (Sub x y) some (n, d, node, is) =
        let same : Sub a c ≡ Sub x n = same_Some (Sub a c) (Sub x n) (sym at ∙ is) in
        let low : a ≡ x = cc in
        let high : n ≡ c = cc in
        subst (λ z. Contains facts (Sub z y)) low (opened.right d y (subst (λ z. IsNode nodes z (And d y)) high node))

    sub_out : IsOpened nodes facts a c → IsAnsweredFirst nodes Named p facts Rule.Out
    sub_out opened (Sub x y) some given = absurd given
    sub_out opened (Link x r y) some (n, node, is) =
        let same : Sub a c ≡ Sub x n = same_Some (Sub a c) (Sub x n) (sym at ∙ is) in
        let low : a ≡ x = cc in
        let high : n ≡ c = cc in
        subst (λ z. Contains facts (Link z r y)) low (opened.out r y (subst (λ z. IsNode nodes z (Exists r y)) high node))

    sub_first : IsAnsweredFirst nodes Named p facts Rule.Incl → IsOpened nodes facts a c → IsAnsweredFirst nodes Named p facts Rule.Both → IsAnsweredFirst nodes Named p facts Rule.Disj →
        (rule : Rule) → IsAnsweredFirst nodes Named p facts rule
    sub_first incl opened both disj Rule.Incl fact some given = incl fact some given
    sub_first incl opened both disj Rule.Both fact some given = both fact some given
    sub_first incl opened both disj Rule.Disj fact some given = disj fact some given
    sub_first incl opened both disj Rule.Left fact some given = sub_left opened fact some given
    sub_first incl opened both disj Rule.Right fact some given = sub_right opened fact some given
    sub_first incl opened both disj Rule.Out fact some given = sub_out opened fact some given
    sub_first incl opened both disj Rule.Into (Sub x n) some (r, b, d, node, is, two) = absurd (sub_no_link a c x r b at is)
    sub_first incl opened both disj Rule.Void (Sub x n) some (r, b, same, is, two) = absurd (sub_no_link a c x r b at is)
    sub_first incl opened both disj Rule.Role (Link x s b) some (r, said, named, says, is) = absurd (sub_no_link a c x r b at is)
    sub_first incl opened both disj Rule.Dom (Sub x d) some (r, b, said, named, says, is) = absurd (sub_no_link a c x r b at is)
    sub_first incl opened both disj Rule.Chain (Link x t d) some (r, s, b, said, named, says, is, two) = absurd (sub_no_link a c x r b at is)
    sub_first incl opened both disj Rule.Itself fact some given = absurd (omega arith)
    sub_first incl opened both disj Rule.Top fact some given = absurd (omega arith)
    sub_first incl opened both disj Rule.Refl fact some given = absurd (omega arith)
    sub_first incl opened both disj _ fact some given = absurd given

    sub_second : IsAnsweredSecond nodes Named p facts Rule.Both → IsAnsweredSecond nodes Named p facts Rule.Disj → IsAnsweredSecond nodes Named p facts Rule.Into → IsAnsweredSecond nodes Named p facts Rule.Void →
        (rule : Rule) → IsAnsweredSecond nodes Named p facts rule
    sub_second both disj into void Rule.Both fact some given = both fact some given
    sub_second both disj into void Rule.Disj fact some given = disj fact some given
    sub_second both disj into void Rule.Into fact some given = into fact some given
    sub_second both disj into void Rule.Void fact some given = void fact some given
    sub_second both disj into void Rule.Chain (Sub x y) some given = absurd given
    sub_second both disj into void Rule.Chain (Link x t d) some (r, s, b, said, named, says, one, is) = absurd (sub_no_link a c b s d at is)
    sub_second both disj into void Rule.Itself fact some given = absurd (omega arith)
    sub_second both disj into void Rule.Top fact some given = absurd (omega arith)
    sub_second both disj into void Rule.Refl fact some given = absurd (omega arith)
    sub_second both disj into void Rule.Incl fact some given = absurd (omega arith)
    sub_second both disj into void Rule.Left fact some given = absurd (omega arith)
    sub_second both disj into void Rule.Right fact some given = absurd (omega arith)
    sub_second both disj into void Rule.Out fact some given = absurd (omega arith)
    sub_second both disj into void Rule.Role fact some given = absurd (omega arith)
    sub_second both disj into void Rule.Dom fact some given = absurd (omega arith)

    pub sub_answered : IsAnsweredFirst nodes Named p facts Rule.Incl → IsOpened nodes facts a c → IsAnsweredFirst nodes Named p facts Rule.Both → IsAnsweredSecond nodes Named p facts Rule.Both →
        IsAnsweredFirst nodes Named p facts Rule.Disj → IsAnsweredSecond nodes Named p facts Rule.Disj → IsAnsweredSecond nodes Named p facts Rule.Into → IsAnsweredSecond nodes Named p facts Rule.Void → IsAnswered nodes Named p facts
    sub_answered incl opened both both_too disj disj_too into void rule = (sub_first incl opened both disj rule, sub_second both_too disj_too into void rule)

    -- inclusions of roles give nothing from it
    pub sub_gives_no_role : IsAnsweredFirst nodes Named p facts Rule.Role
    sub_gives_no_role (Sub x y) some given = absurd given
    sub_gives_no_role (Link x s b) some (r, said, named, says, is) = absurd (sub_no_link a c x r b at is)

  -- a link is answered if each rule that starts from one is
  module _ (a r b : ℕ) (at : IsAt p facts (Link a r b)) where
    link_no_sub : (x y : ℕ) → IsAt p facts (Sub x y) → ⊥
    link_no_sub x y is = sub_no_link x y a r b is at

    link_first : IsAnsweredFirst nodes Named p facts Rule.Role → IsAnsweredFirst nodes Named p facts Rule.Dom → IsAnsweredFirst nodes Named p facts Rule.Void → IsAnsweredFirst nodes Named p facts Rule.Into →
        IsAnsweredFirst nodes Named p facts Rule.Chain → (rule : Rule) → IsAnsweredFirst nodes Named p facts rule
    link_first role dom void into chain Rule.Role fact some given = role fact some given
    link_first role dom void into chain Rule.Dom fact some given = dom fact some given
    link_first role dom void into chain Rule.Void fact some given = void fact some given
    link_first role dom void into chain Rule.Into fact some given = into fact some given
    link_first role dom void into chain Rule.Chain fact some given = chain fact some given
    link_first role dom void into chain Rule.Incl (Sub x d) some (y, said, named, says, is) = absurd (link_no_sub x y is)
    link_first role dom void into chain Rule.Left (Sub x d) some (n, y, node, is) = absurd (link_no_sub x n is)
    link_first role dom void into chain Rule.Right (Sub x d) some (n, y, node, is) = absurd (link_no_sub x n is)
    link_first role dom void into chain Rule.Both (Sub x n) some (c, d, node, is, two) = absurd (link_no_sub x c is)
    link_first role dom void into chain Rule.Out (Link x s d) some (n, node, is) = absurd (link_no_sub x n is)
    link_first role dom void into chain Rule.Disj (Sub x n) some (c, d, said, same, named, says, is, two) = absurd (link_no_sub x c is)
    link_first role dom void into chain Rule.Itself fact some given = absurd (omega arith)
    link_first role dom void into chain Rule.Top fact some given = absurd (omega arith)
    link_first role dom void into chain Rule.Refl fact some given = absurd (omega arith)
    link_first role dom void into chain _ fact some given = absurd given

    link_second : IsAnsweredSecond nodes Named p facts Rule.Chain → (rule : Rule) → IsAnsweredSecond nodes Named p facts rule
    link_second chain Rule.Chain fact some given = chain fact some given
    link_second chain Rule.Both (Link x s y) some given = absurd given
    link_second chain Rule.Both (Sub x n) some (c, d, node, one, is) = absurd (link_no_sub x d is)
    link_second chain Rule.Disj (Link x s y) some given = absurd given
    link_second chain Rule.Disj (Sub x n) some (c, d, said, same, named, says, one, is) = absurd (link_no_sub x d is)
    link_second chain Rule.Into (Link x s y) some given = absurd given
    link_second chain Rule.Into (Sub x n) some (s, y, d, node, one, is) = absurd (link_no_sub y d is)
    link_second chain Rule.Void (Link x s y) some given = absurd given
    link_second chain Rule.Void (Sub x n) some (s, y, same, one, is) = absurd (link_no_sub y 1 is)
    link_second chain Rule.Itself fact some given = absurd (omega arith)
    link_second chain Rule.Top fact some given = absurd (omega arith)
    link_second chain Rule.Refl fact some given = absurd (omega arith)
    link_second chain Rule.Incl fact some given = absurd (omega arith)
    link_second chain Rule.Left fact some given = absurd (omega arith)
    link_second chain Rule.Right fact some given = absurd (omega arith)
    link_second chain Rule.Out fact some given = absurd (omega arith)
    link_second chain Rule.Role fact some given = absurd (omega arith)
    link_second chain Rule.Dom fact some given = absurd (omega arith)

    pub link_answered : IsAnsweredFirst nodes Named p facts Rule.Role → IsAnsweredFirst nodes Named p facts Rule.Dom → IsAnsweredFirst nodes Named p facts Rule.Void → IsAnsweredFirst nodes Named p facts Rule.Into →
        IsAnsweredFirst nodes Named p facts Rule.Chain → IsAnsweredSecond nodes Named p facts Rule.Chain → IsAnswered nodes Named p facts
    link_answered role dom void into chain chain_too rule = (link_first role dom void into chain rule, link_second chain_too rule)

    -- inclusions of nodes give nothing from it
    pub link_gives_no_sub : IsAnsweredFirst nodes Named p facts Rule.Incl
    link_gives_no_sub (Link x s y) some given = absurd given
    link_gives_no_sub (Sub x d) some (y, said, named, says, is) = absurd (link_no_sub x y is)

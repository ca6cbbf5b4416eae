-- How a saturation begins, and what it has decided at its end.
use Rattle.std.proofs.Common.{◌≡◌, ℕ, ◌<◌, List, [], length, Contains, Option, Some, None, MatchOption, sym, subst, arith}
use Rattle.std.specs.Prelude.{slice_get}
use Rattle.std.proofs.lemmas.Option.{none-some}
use Rattle.el_logic.specs.declared.types.Part.{Part}
use Rattle.concept_store.specs.declared.types.Node.{Node}
use Rattle.concept_store.specs.declared.types.NodeAxiom.{NodeAxiom}
use Rattle.fact_table.specs.declared.types.Fact.{Fact}
use Rattle.fact_table.specs.declared.types.Fact.TheVariants.{Sub, Link}
use Rattle.fact_table.specs.declared.types.Proved.{Proved}
use Rattle.fact_table.specs.declared.types.Rule.{Rule}
use Rattle.fact_table.specs.declared.types.Source.{Source}
use Rattle.fact_layers.specs.Tops.{Topped, whole}
use Rattle.el_rules.specs.Rules.{Gives, premises}
use Rattle.el_rules.specs.Theories.{Theory, IsNamedBy, IsSourceOf}
use Rattle.el_rules.specs.Following.{EachFollowsByReason, IsEarlier, IsPlacedBelow}
use Rattle.case_file.specs.Cases.{CaseView, IsMustHave}
use Rattle.rule_steps.specs.Counted.{GroundsView, IsCounted, nodes_of}
use Rattle.rule_steps.specs.Growing.{facts_in, AreDerived}
use Rattle.rule_steps.specs.Answering.{AreClosedBelow, AreBegunBelow}
use Rattle.saturate.specs.Inside.Clashes.{IsClash, HasClashAt, AreLiveWithin}
use Rattle.saturate.specs.Inside.Saturated.{IsReady, IsSaturated, IsLive}
use Rattle.saturate.proofs.Giving.{gives_more}
use Rattle.saturate.proofs.Places.{held_at}

-- no facts follow
pub derived_none : (grounds : GroundsView) (items : List Proved) → items ≡ [] → AreDerived grounds items
derived_none grounds items none = subst (AreDerived grounds) (sym none) (record {
  follows = λ k item at. absurd (none-some item at);
  links = λ k a r b at. absurd (none-some (Link a r b) at);
})

-- no fact is below the first place
no_place : (facts : List Fact) (fact : Fact) → IsPlacedBelow 0 facts fact → ⊥
no_place facts fact (k, below, at) = omega arith

-- so no rule with premises gives a fact from there
pub no_premise : (nodes : List Node) (Named : NodeAxiom → Type 0) (facts : List Fact) (rule : Rule) (fact : Fact) → 0 < premises rule
    → Gives nodes Named (IsPlacedBelow 0 facts) (IsPlacedBelow 0 facts) rule fact → ⊥
no_premise nodes Named facts Rule.Itself fact some given = omega (arith, some)
no_premise nodes Named facts Rule.Top fact some given = omega (arith, some)
no_premise nodes Named facts Rule.Refl fact some given = omega (arith, some)
no_premise nodes Named facts Rule.Incl (Sub a d) some (c, said, is, says, p) = no_place facts (Sub a c) p
no_premise nodes Named facts Rule.Left (Sub a c) some (n, d, node, p) = no_place facts (Sub a n) p
no_premise nodes Named facts Rule.Right (Sub a d) some (n, c, node, p) = no_place facts (Sub a n) p
no_premise nodes Named facts Rule.Both (Sub a n) some (c, d, node, p, q) = no_place facts (Sub a c) p
no_premise nodes Named facts Rule.Out (Link a r c) some (n, node, p) = no_place facts (Sub a n) p
no_premise nodes Named facts Rule.Into (Sub a n) some (r, b, c, node, p, q) = no_place facts (Link a r b) p
no_premise nodes Named facts Rule.Void (Sub a n) some (r, b, same, p, q) = no_place facts (Link a r b) p
no_premise nodes Named facts Rule.Role (Link a s b) some (r, said, is, says, p) = no_place facts (Link a r b) p
no_premise nodes Named facts Rule.Chain (Link a t c) some (r, s, b, said, is, says, p, q) = no_place facts (Link a r b) p
no_premise nodes Named facts Rule.Dom (Sub a c) some (r, b, said, is, says, p) = no_place facts (Link a r b) p
no_premise nodes Named facts Rule.Disj (Sub a n) some (c, d, said, same, is, says, p, q) = no_place facts (Sub a c) p
no_premise nodes Named facts _ fact some given = given

-- all places are to be answered
pub ready_none : (grounds : GroundsView) (layers : Topped) → AreDerived grounds (whole layers) → AreBegunBelow (nodes_of grounds) (IsCounted grounds) (length (nodes_of grounds)) (facts_in layers)
    → IsReady grounds layers 0
ready_none grounds layers derived begun = record {
  derived = derived;
  begun = begun;
  within = omega arith;
  closed = λ rule fact some given. absurd (no_premise (nodes_of grounds) (IsCounted grounds) (facts_in layers) rule fact some given);
  live = λ place past under. absurd (omega arith);
}

-- a source of some ranks is one of more
source_more : (olds ranks : List ℕ) → ((rank : ℕ) → Contains olds rank → Contains ranks rank) → (source : Source) → IsSourceOf Part.Both olds source → IsSourceOf Part.Both ranks source
source_more olds ranks kept (Source.Left number) of = tt
source_more olds ranks kept (Source.Right number) of = tt
source_more olds ranks kept (Source.Row rank number) of = kept rank of
source_more olds ranks kept Source.Nothing of = absurd of

-- what follows from some rows follows from more
pub follows_more : (nodes : List Node) (theory : Theory) (olds ranks : List ℕ) (items : List Proved) → ((rank : ℕ) → Contains olds rank → Contains ranks rank)
    → EachFollowsByReason nodes theory Part.Both olds items → EachFollowsByReason nodes theory Part.Both ranks items
follows_more nodes theory olds ranks items kept follows k item at =
    let source = item.reason.source in
    let First : Fact → Type 0 = IsEarlier items k item.reason.first in
    let Second : Fact → Type 0 = IsEarlier items k item.reason.second in
    gives_more nodes (IsNamedBy theory Part.Both olds source) (IsNamedBy theory Part.Both ranks source) First Second First Second
    (λ said named. (source_more olds ranks kept source named.0, named.1)) (λ f is. is) (λ f is. is) item.reason.rule item.fact (follows k item at)

-- facts that leave no class empty have no clash at any place
no_clash : (case : CaseView) (fact : Fact) (facts : List Fact) (place : ℕ) → ((node : ℕ) → IsMustHave case node → ¬ (Contains facts (Sub node 1))) → slice_get facts place ≡ Some fact → ¬ (IsClash case fact)
no_clash case (Sub node within) facts place live at (bottom, must) =
    live node must (subst (λ n. Contains facts (Sub node n)) bottom (held_at facts place (Sub node within) at))
no_clash case (Link a r b) facts place live at clash = clash

pub table_live : (case : CaseView) (facts : List Fact) (below : ℕ) → ((node : ℕ) → IsMustHave case node → ¬ (Contains facts (Sub node 1))) → AreLiveWithin case 0 below facts
table_live case facts below live place past under (fact, at, clash) = no_clash case fact facts place live at clash

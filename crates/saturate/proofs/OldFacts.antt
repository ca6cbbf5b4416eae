-- The facts of a closed table, when rows are added.
use Rattle.std.proofs.Common.{ℕ, List, [], ◌++◌, length, Contains}
use Rattle.std.specs.Prelude.{slice_index_or}
use Rattle.std.proofs.lemmas.List.Elements.{Contains-append_left, All-contains}
use Rattle.el_logic.specs.declared.types.Part.{Part}
use Rattle.concept_store.specs.declared.types.Node.{Node}
use Rattle.concept_store.specs.declared.types.NodeAxiom.{NodeAxiom}
use Rattle.fact_table.specs.declared.types.Fact.{Fact}
use Rattle.fact_table.specs.declared.types.Fact.TheVariants.{Sub, Link}
use Rattle.fact_table.specs.declared.types.Rule.{Rule}
use Rattle.fact_table.specs.declared.types.Source.{Source}
use Rattle.el_rules.specs.Rules.{Gives}
use Rattle.el_rules.specs.Saying.{MakesReflexive}
use Rattle.el_rules.specs.Theories.{IsStated}
use Rattle.el_rules.specs.Following.{AreClosed, IsPlacedBelow}
use Rattle.case_file.specs.Cases.{CaseView, theory_of}
use Rattle.rule_steps.specs.Counted.{IsCounted}
use Rattle.rule_steps.specs.Answering.{AreClosedBelow, IsNoFact}
use Rattle.rule_steps.specs.RowAxioms.{IsInclusion, HaveRowsInclusions}
use Rattle.saturate.specs.Inside.Saturated.{grounds_of}
use Rattle.saturate.proofs.Giving.{gives_more}
use Rattle.saturate.proofs.Places.{was_at, held_at}

-- facts that are closed are closed at their places in a longer list
pub closed_in_longer : (nodes : List Node) (Named : NodeAxiom → Type 0) (facts more : List Fact) → AreClosed nodes Named facts → AreClosedBelow nodes Named (length facts) (facts ++ more)
closed_in_longer nodes Named facts more closed rule fact some given =
    let Below : Fact → Type 0 = IsPlacedBelow (length facts) (facts ++ more) in
    let was : (f : Fact) → IsPlacedBelow (length facts) (facts ++ more) f → Contains facts f = λ f below. held_at facts below.0 f (was_at facts more below.0 f below.1 below.2) in
    Contains-append_left facts more fact (closed rule fact (gives_more nodes Named Named Below Below (Contains facts) (Contains facts) (λ said is. is) was was rule fact given))

module _ (no_inclusion : (said : NodeAxiom) (role : ℕ) → IsInclusion said → ¬ (MakesReflexive said role)) where
  -- what makes a role reflexive is in the documents, so it was stated without the rows
  reflexive_stated : (case : CaseView) (olds ranks : List ℕ) (said : NodeAxiom) (r : ℕ) → HaveRowsInclusions case.over → MakesReflexive said r
      → IsCounted (grounds_of case ranks) said → IsStated (theory_of case) Part.Both olds said
  reflexive_stated case olds ranks said r rows says (Source.Left number, (counts, named)) = (Source.Left number, (tt, named))
  reflexive_stated case olds ranks said r rows says (Source.Right number, (counts, named)) = (Source.Right number, (tt, named))
  reflexive_stated case olds ranks said r rows says (Source.Row rank number, (counts, (k, same, at))) =
      absurd (no_inclusion said r (All-contains IsInclusion (slice_index_or case.over rank []) said (rows rank) (held_at (slice_index_or case.over rank []) k said at)) says)
  reflexive_stated case olds ranks said r rows says (Source.Nothing, (counts, named)) = absurd named

  -- what the rules without premises give is among closed facts, whatever rows are added
  pub begun_in_closed : (case : CaseView) (olds ranks : List ℕ) (facts : List Fact) → HaveRowsInclusions case.over → AreClosed case.store.nodes (IsStated (theory_of case) Part.Both olds) facts
      → (rule : Rule) (fact : Fact) → Gives case.store.nodes (IsCounted (grounds_of case ranks)) IsNoFact IsNoFact rule fact → Contains facts fact
  begun_in_closed case olds ranks facts rows closed Rule.Itself (Sub a b) given = closed Rule.Itself (Sub a b) given
  begun_in_closed case olds ranks facts rows closed Rule.Top (Sub a b) given = closed Rule.Top (Sub a b) given
  begun_in_closed case olds ranks facts rows closed Rule.Refl (Link a r b) (said, counts, says, within, same) =
      closed Rule.Refl (Link a r b) (said, reflexive_stated case olds ranks said r rows says counts, says, within, same)
  begun_in_closed case olds ranks facts rows closed Rule.Incl (Sub a d) given = absurd given.4
  begun_in_closed case olds ranks facts rows closed Rule.Left (Sub a c) given = absurd given.3
  begun_in_closed case olds ranks facts rows closed Rule.Right (Sub a d) given = absurd given.3
  begun_in_closed case olds ranks facts rows closed Rule.Both (Sub a n) given = absurd given.3
  begun_in_closed case olds ranks facts rows closed Rule.Out (Link a r c) given = absurd given.2
  begun_in_closed case olds ranks facts rows closed Rule.Into (Sub a n) given = absurd given.4
  begun_in_closed case olds ranks facts rows closed Rule.Void (Sub a n) given = absurd given.3
  begun_in_closed case olds ranks facts rows closed Rule.Role (Link a s b) given = absurd given.4
  begun_in_closed case olds ranks facts rows closed Rule.Chain (Link a t c) given = absurd given.6
  begun_in_closed case olds ranks facts rows closed Rule.Dom (Sub a c) given = absurd given.5
  begun_in_closed case olds ranks facts rows closed Rule.Disj (Sub a n) given = absurd given.6
  begun_in_closed case olds ranks facts rows closed _ fact given = absurd given

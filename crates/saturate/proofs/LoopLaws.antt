-- Loops over places and nodes, while facts are added.
use Rattle.std.proofs.Common.{◌≡◌, ℕ, ◌+◌, ◌<◌, ◌≤◌, List, Some, ◌++◌, length, length-append, sym, subst, ⊎_elim, arith}
use Rattle.std.proofs.lemmas.Bool.{cases_lt}
use Rattle.std.proofs.lemmas.List.Elements.{Contains-append_left}
use Rattle.concept_store.specs.declared.types.Node.{Node}
use Rattle.concept_store.specs.declared.types.NodeAxiom.{NodeAxiom}
use Rattle.fact_table.specs.declared.types.Fact.{Fact}
use Rattle.fact_table.specs.declared.types.Rule.{Rule}
use Rattle.fact_layers.specs.Tops.{Topped}
use Rattle.el_rules.specs.Following.{IsPlacedBelow}
use Rattle.case_file.specs.Cases.{CaseView}
use Rattle.rule_steps.specs.Counted.{GroundsView, IsCountedSince, nodes_of}
use Rattle.rule_steps.specs.Growing.{facts_in, HasGrown}
use Rattle.rule_steps.specs.Answering.{IsAt, IsAnsweredFirst, IsAnsweredByInclusions, IsBegun, AreBegunBelow}
use Rattle.saturate.specs.Inside.Clashes.{AreLiveWithin}
use Rattle.saturate.specs.Inside.Rows.{AreAnsweredByRows}
use Rattle.saturate.proofs.Giving.{gives_more}
use Rattle.saturate.proofs.Places.{was_at, grown_facts}
use Rattle.saturate.proofs.ClashLaws.{live_stays}

-- one more node is begun
pub begun_more : (nodes : List Node) (Named : NodeAxiom → Type 0) (node : ℕ) (facts : List Fact) → AreBegunBelow nodes Named node facts → IsBegun nodes Named node facts → AreBegunBelow nodes Named (node + 1) facts
begun_more nodes Named node facts each here other below = ⊎_elim
    (λ less. each other less)
    (λ more. let same : other ≡ node = omega arith in subst (λ n. IsBegun nodes Named n facts) (sym same) here)
    (cases_lt other node)

-- the list is no shorter
pub grown_length : (grounds : GroundsView) (old new : Topped) → HasGrown grounds old new → length (facts_in old) ≤ length (facts_in new)
grown_length grounds old new grown =
    let longer = grown_facts grounds old new grown in
    subst (λ (facts : List Fact). length (facts_in old) ≤ length facts) (sym longer.1) (simp length-append (omega arith))

-- the old places stay without a clash
pub live_grown : (grounds : GroundsView) (case : CaseView) (old new : Topped) (from below : ℕ) → HasGrown grounds old new → below ≤ length (facts_in old) → AreLiveWithin case from below (facts_in old) → AreLiveWithin case from below (facts_in new)
live_grown grounds case old new from below grown within live =
    let longer = grown_facts grounds old new grown in
    subst (AreLiveWithin case from below) (sym longer.1) (live_stays case (facts_in old) longer.0 from below within live)

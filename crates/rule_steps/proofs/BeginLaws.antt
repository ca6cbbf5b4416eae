-- Facts from nothing.
use Rattle.std.proofs.Common.{ℕ, ◌<◌, ◌≤◌, List, length, Contains, refl, subst, sym}
use Rattle.std.specs.Prelude.{None}
use Rattle.fact_table.specs.declared.types.Fact.{Fact}
use Rattle.fact_table.specs.declared.types.Fact.TheVariants.{Sub, Link}
use Rattle.fact_table.specs.declared.types.Rule.{Rule}
use Rattle.fact_table.specs.declared.types.Source.{Source}
use Rattle.fact_layers.specs.Tops.{Topped, whole}
use Rattle.el_rules.specs.Saying.{MakesReflexive}
use Rattle.case_tables.specs.declared.types.Reflexive.{Reflexive}
use Rattle.rule_steps.specs.Counted.{GroundsView, IsCounting, IsCounted, nodes_of}
use Rattle.rule_steps.specs.Answering.{IsBegun}
use Rattle.rule_steps.specs.Inside.Entries.{AreEntriesOf, EachBelow}
use Rattle.rule_steps.specs.Inside.Steps.{IsDerivedFrom, HasReflexive}
use Rattle.rule_steps.proofs.LoopLaws.{each_all}
use Rattle.rule_steps.proofs.SingleLaws.{GivesCounted}

module _ (grounds : GroundsView) (layers : Topped) (node : ℕ) (within : node < length (nodes_of grounds)) where
  pub itself_follows : IsDerivedFrom grounds (whole layers) (record { fact = Sub node node; reason = record { first = 0; second = 0; source = Source.Nothing; rule = Rule.Itself } })
  itself_follows = record { follows = (within, refl); names = record { first_is = λ few. refl; second_is = λ few. refl; source_is = λ no. refl } }

  pub top_follows : IsDerivedFrom grounds (whole layers) (record { fact = Sub node 0; reason = record { first = 0; second = 0; source = Source.Nothing; rule = Rule.Top } })
  top_follows = record { follows = (within, refl); names = record { first_is = λ few. refl; second_is = λ few. refl; source_is = λ no. refl } }

  pub reflexive_follows : (entries : List (ℕ × Reflexive)) (entry : ℕ × Reflexive) → AreEntriesOf grounds (λ (e : ℕ × Reflexive). e.1.source) (λ e said. MakesReflexive said e.0) entries → Contains entries entry → IsCounting grounds entry.1.source →
      IsDerivedFrom grounds (whole layers) (record { fact = Link node entry.0 node; reason = record { first = 0; second = 0; source = entry.1.source; rule = Rule.Refl } })
  reflexive_follows entries entry are held counts =
      let says = (are entry counts).0 held in
      record { follows = (says.0, (counts, says.1), says.2, within, refl); names = record { first_is = λ few. refl; second_is = λ few. refl; source_is = λ no. cc } }

-- all entries were tried
pub reflexive_all : (grounds : GroundsView) (node n : ℕ) (facts : List Fact) (entries : List (ℕ × Reflexive)) → AreEntriesOf grounds (λ (e : ℕ × Reflexive). e.1.source) (λ e said. MakesReflexive said e.0) entries → length entries ≤ n →
    EachBelow entries n (GivesCounted grounds None (λ (e : ℕ × Reflexive). e.1.source) (λ (e : ℕ × Reflexive). Link node e.0 node) facts) → HasReflexive grounds node facts
reflexive_all grounds node n facts entries are past each role said (source, (counts, named)) says =
    let entry : ℕ × Reflexive = (role, record { source = source }) in
    each_all entries n (GivesCounted grounds None (λ (e : ℕ × Reflexive). e.1.source) (λ (e : ℕ × Reflexive). Link node e.0 node) facts) entry past each ((are entry counts).1 (said, named, says)) tt counts

-- the rules without premises
pub begun_all : (grounds : GroundsView) (node : ℕ) (facts : List Fact) → Contains facts (Sub node node) → Contains facts (Sub node 0) → HasReflexive grounds node facts → IsBegun (nodes_of grounds) (IsCounted grounds) node facts
begun_all grounds node facts itself top reflexive Rule.Itself (Sub a b) is given =
    subst (λ x. Contains facts (Sub a x)) given.1 (subst (λ x. Contains facts (Sub x x)) (sym is) itself)
begun_all grounds node facts itself top reflexive Rule.Top (Sub a b) is given =
    subst (λ x. Contains facts (Sub a x)) (sym given.1) (subst (λ x. Contains facts (Sub x 0)) (sym is) top)
begun_all grounds node facts itself top reflexive Rule.Refl (Link a r b) is (said, named, says, within, same) =
    subst (λ x. Contains facts (Link a r x)) same (subst (λ x. Contains facts (Link x r x)) (sym is) (reflexive r said named says))
begun_all grounds node facts itself top reflexive Rule.Incl (Sub a d) is given = absurd given.4
begun_all grounds node facts itself top reflexive Rule.Left (Sub a c) is given = absurd given.3
begun_all grounds node facts itself top reflexive Rule.Right (Sub a c) is given = absurd given.3
begun_all grounds node facts itself top reflexive Rule.Both (Sub a n) is given = absurd given.3
begun_all grounds node facts itself top reflexive Rule.Out (Link a r c) is given = absurd given.2
begun_all grounds node facts itself top reflexive Rule.Into (Sub a n) is given = absurd given.4
begun_all grounds node facts itself top reflexive Rule.Void (Sub a n) is given = absurd given.3
begun_all grounds node facts itself top reflexive Rule.Role (Link a s b) is given = absurd given.4
begun_all grounds node facts itself top reflexive Rule.Chain (Link a t c) is given = absurd given.6
begun_all grounds node facts itself top reflexive Rule.Dom (Sub a c) is given = absurd given.5
begun_all grounds node facts itself top reflexive Rule.Disj (Sub a n) is given = absurd given.6
begun_all grounds node facts itself top reflexive _ fact is given = absurd given

-- Nodes that an axiom separates.
use Rattle.std.proofs.Common.{◌≡◌, ◌≢◌, ℕ, ◌+◌, ◌≤◌, ◌↔◌, List, length, Contains, Some, refl, subst, sym, ◌∙◌, arith}
use Rattle.std.specs.Prelude.{slice_get}
use Rattle.std.proofs.lemmas.Option.{same_Some}
use Rattle.concept_store.specs.declared.types.NodeAxiom.{NodeAxiom}
use Rattle.concept_store.specs.declared.types.NodeAxiom.TheVariants.{Disjoint}
use Rattle.fact_table.specs.declared.types.Fact.{Fact}
use Rattle.fact_table.specs.declared.types.Fact.TheVariants.{Sub, Link}
use Rattle.fact_table.specs.declared.types.Rule.{Rule}
use Rattle.fact_table.specs.declared.types.Source.{Source}
use Rattle.fact_layers.specs.Tops.{Topped, whole}
use Rattle.el_rules.specs.Following.{IsPlacedBelow}
use Rattle.el_rules.specs.Saying.{Separates}
use Rattle.el_rules.specs.Theories.{Theory, IsNumbered, IsNamed}
use Rattle.case_file.specs.Cases.{theory_of}
use Rattle.case_tables.specs.declared.types.Operand.{Operand}
use Rattle.case_tables.specs.Named.{IsOperandAt}
use Rattle.rule_steps.specs.Counted.{GroundsView, IsCounting, IsCounted, nodes_of}
use Rattle.rule_steps.specs.Growing.{facts_in}
use Rattle.rule_steps.specs.Answering.{IsAt, IsAnsweredFirst, IsAnsweredSecond}
use Rattle.rule_steps.specs.Inside.Entries.{AreEntriesOf, EachBelow}
use Rattle.rule_steps.specs.Inside.Steps.{IsDerivedFrom, IsApart, SeparatesBy}
use Rattle.rule_steps.proofs.GrowthLaws.{earlier_at}
use Rattle.rule_steps.proofs.LoopLaws.{each_all}

-- a number names one axiom
numbered_once : (axioms : List NodeAxiom) (number : ℕ) (one other : NodeAxiom) → IsNumbered axioms number one → IsNumbered axioms number other → one ≡ other
numbered_once axioms number one other (k, same, at) (j, too, at_too) =
    let places : k ≡ j = omega arith in
    let moved : slice_get axioms j ≡ Some one = subst (λ i. slice_get axioms i ≡ Some one) places at in
    same_Some one other (sym moved ∙ at_too)

-- a source names one axiom
named_once : (theory : Theory) (source : Source) (one other : NodeAxiom) → IsNamed theory source one → IsNamed theory source other → one ≡ other
named_once theory (Source.Left number) one other is too = numbered_once theory.left number one other is too
named_once theory (Source.Right number) one other is too = numbered_once theory.right number one other is too
named_once theory (Source.Row rank number) one other is too = numbered_once _ number one other is too
named_once theory Source.Nothing one other is too = absurd is

-- what separates two nodes separates them the other way round
separates_back : (said : NodeAxiom) (c d : ℕ) → Separates said c d → Separates said d c
separates_back (Disjoint nodes) c d (i, j, differs, one, two) = (j, i, (λ same. differs (sym same)), two, one)
separates_back _ c d says = absurd says

-- the first node is an operand
separates_operand : (said : NodeAxiom) (c d : ℕ) → Separates said c d → (i : ℕ) × IsOperandAt said i c
separates_operand (Disjoint nodes) c d (i, j, differs, one, two) = (i, one)
separates_operand _ c d says = absurd says

module _ (grounds : GroundsView) where
  -- two operands at two positions of an axiom that counts
  pub separates_by : (one other : ℕ) (here there : Operand) (entries others : List Operand) → AreEntriesOf grounds (λ e. e.source) (λ e said. IsOperandAt said e.position one) entries →
      AreEntriesOf grounds (λ e. e.source) (λ e said. IsOperandAt said e.position other) others →
      ((said : NodeAxiom) (a b : ℕ) → Separates said a b ↔ ((i j : ℕ) × (i ≢ j) × IsOperandAt said i a × IsOperandAt said j b)) →
      Contains entries here → Contains others there → IsApart here there → IsCounting grounds here.source → SeparatesBy grounds here.source one other
  separates_by one other here there entries others are are_too law held held_too apart counts =
      let first = (are here counts).0 held in
      let second = (are_too there (subst (IsCounting grounds) apart.0 counts)).0 held_too in
      let same : second.0 ≡ first.0 = named_once (theory_of grounds.case) here.source second.0 first.0 (subst (λ s. IsNamed (theory_of grounds.case) s second.0) (sym apart.0) second.1) first.1 in
      (first.0, (counts, first.1), (law first.0 one other).1 (here.position, there.position, apart.1, first.2, subst (λ said. IsOperandAt said there.position other) same second.2))

  -- if no operand of the first node is apart from one of the other, no axiom that counts separates them
  pub separates_not : (one other n : ℕ) (entries others : List Operand) → AreEntriesOf grounds (λ e. e.source) (λ e said. IsOperandAt said e.position one) entries →
      AreEntriesOf grounds (λ e. e.source) (λ e said. IsOperandAt said e.position other) others →
      ((said : NodeAxiom) (a b : ℕ) → Separates said a b ↔ ((i j : ℕ) × (i ≢ j) × IsOperandAt said i a × IsOperandAt said j b)) → length entries ≤ n →
      EachBelow entries n (λ (e : Operand). (there : Operand) → Contains others there → IsApart e there → IsCounting grounds e.source → ⊥) → (source : Source) → SeparatesBy grounds source one other → ⊥
  separates_not one other n entries others are are_too law past each source (said, (counts, named), says) =
      let at = (law said one other).0 says in
      let first : Operand = record { position = at.0; source = source } in
      let second : Operand = record { position = at.1; source = source } in
      each_all entries n (λ (e : Operand). (there : Operand) → Contains others there → IsApart e there → IsCounting grounds e.source → ⊥) first past each ((are first counts).1 (said, named, at.3))
      second ((are_too second counts).1 (said, named, at.4)) (refl, at.2) counts

  -- a node that is no operand is separated from none
  pub operands_none : (one other : ℕ) (entries : List Operand) → AreEntriesOf grounds (λ e. e.source) (λ e said. IsOperandAt said e.position one) entries → length entries ≡ 0 → (source : Source) → SeparatesBy grounds source one other → ⊥
  operands_none one other entries are none source (said, (counts, named), says) =
      let at = separates_operand said one other says in
      let entry : Operand = record { position = at.0; source = source } in
      let held = (are entry counts).1 (said, named, at.1) in
      omega (arith, held.1, none)

  -- owl:Nothing, from two nodes that are separated
  pub apart_follows : (layers : Topped) (place other a c d : ℕ) (source : Source) → SeparatesBy grounds source c d → IsAt place (facts_in layers) (Sub a c) → IsAt other (facts_in layers) (Sub a d) →
      IsDerivedFrom grounds (whole layers) (record { fact = Sub a 1; reason = record { first = place; second = other; source = source; rule = Rule.Disj } })
  apart_follows layers place other a c d source (said, named, says) at at_other = record {
    follows = (c, d, said, refl, named, says, earlier_at (whole layers) place (Sub a c) at, earlier_at (whole layers) other (Sub a d) at_other);
    names = record { first_is = λ few. absurd (omega arith); second_is = λ few. absurd (omega arith); source_is = λ no. cc };
  }

  -- all partners were tried
  pub apart_first : (place a c : ℕ) (facts : List Fact) → IsAt place facts (Sub a c) → ((source : Source) (d : ℕ) → SeparatesBy grounds source c d → IsPlacedBelow (place + 1) facts (Sub a d) → Contains facts (Sub a 1)) →
      IsAnsweredFirst (nodes_of grounds) (IsCounted grounds) place facts Rule.Disj
  apart_first place a c facts at each (Link x r y) some given = absurd given
  apart_first place a c facts at each (Sub x node) some (b, d, said, is, (source, named), says, one, two) =
      let same : Sub a c ≡ Sub x b = same_Some (Sub a c) (Sub x b) (sym at ∙ one) in
      let low : a ≡ x = cc in
      let high : b ≡ c = cc in
      subst (λ z. Contains facts (Sub x z)) (sym is) (subst (λ z. Contains facts (Sub z 1)) low
      (each source d (said, named, subst (λ z. Separates said z d) high says) (subst (λ z. IsPlacedBelow (place + 1) facts (Sub z d)) (sym low) two)))

  pub apart_second : (place a c : ℕ) (facts : List Fact) → IsAt place facts (Sub a c) → ((source : Source) (d : ℕ) → SeparatesBy grounds source c d → IsPlacedBelow (place + 1) facts (Sub a d) → Contains facts (Sub a 1)) →
      IsAnsweredSecond (nodes_of grounds) (IsCounted grounds) place facts Rule.Disj
  apart_second place a c facts at each (Link x r y) some given = absurd given
  apart_second place a c facts at each (Sub x node) some (b, d, said, is, (source, named), says, one, two) =
      let same : Sub a c ≡ Sub x d = same_Some (Sub a c) (Sub x d) (sym at ∙ two) in
      let low : a ≡ x = cc in
      let high : d ≡ c = cc in
      subst (λ z. Contains facts (Sub x z)) (sym is) (subst (λ z. Contains facts (Sub z 1)) low
      (each source b (said, named, separates_back said b c (subst (λ z. Separates said b z) high says)) (subst (λ z. IsPlacedBelow (place + 1) facts (Sub z b)) (sym low) one)))

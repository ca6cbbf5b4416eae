-- The steps of a good derivation have lines, once they name rows by their numbers.
use Rattle.std.proofs.Common.{◌≡◌, ◌⊎◌, inl, inr, ◌≤◌, ◌<◌, ◌+◌, ℕ, zero, suc, Bool, true, false, List, [], ◌∷◌, length, map, refl, sym, ap, subst, ◌∙◌, arith, All, Contains, get_or}
use Rattle.std.specs.Prelude.{Some, slice_get, slice_index_or}
use Rattle.std.specs.List.{AllByRecursion}
use Rattle.std.proofs.lemmas.Bool.{cases_lt}
use Rattle.std.proofs.lemmas.List.{get_or_past}
use Rattle.std.proofs.lemmas.Option.{slice_get_within, slice_get-get_or}
use Rattle.std.proofs.lemmas.List.Elements.{All-contains, All-get_or, Contains-append_left, Contains-append_right, Contains-push}
use Rattle.el_logic.specs.declared.types.Part.{Part}
use Rattle.concept_store.specs.declared.types.Node.{Node}
use Rattle.concept_store.specs.declared.types.NodeAxiom.{NodeAxiom}
use Rattle.fact_table.specs.declared.types.Fact.{Fact}
use Rattle.fact_table.specs.declared.types.Fact.TheVariants.{Sub, Link}
use Rattle.fact_table.specs.declared.types.Rule.{Rule}
use Rattle.fact_table.specs.declared.types.Rule.TheVariants as rule
use Rattle.fact_table.specs.declared.types.Source.{Source}
use Rattle.el_rules.specs.Rules.{Gives}
use Rattle.el_rules.specs.Following.{NamesNoMore}
use Rattle.el_rules.specs.Theories.{IsNamedBy, IsSourceOf}
use Rattle.case_file.specs.Cases.{CaseView, theory_of}
use Rattle.derivation.specs.declared.types.Step.{Step}
use Rattle.derivation.specs.Steps.{AreGoodSteps, IsGoodStep, IsStepBefore}
use Rattle.evidence_lines.specs.Steps.{names_first, names_second, names_axiom, IsPremise, IsSource, HasStepLine}
use Rattle.run_evidence.specs.Inside.RowNumbers.{HasRanksBelow, source_by_row, step_by_row}

-- a premise that a rule does not name is 0
first_line : (r : Rule) (first second : ℕ) (source : Source) → NamesNoMore r first second source → IsPremise (names_first r) first
first_line rule.Itself first second source more = more.first_is (omega arith)
first_line rule.Top first second source more = more.first_is (omega arith)
first_line rule.Refl first second source more = more.first_is (omega arith)
first_line rule.Incl first second source more = tt
first_line rule.Left first second source more = tt
first_line rule.Right first second source more = tt
first_line rule.Both first second source more = tt
first_line rule.Out first second source more = tt
first_line rule.Into first second source more = tt
first_line rule.Void first second source more = tt
first_line rule.Role first second source more = tt
first_line rule.Chain first second source more = tt
first_line rule.Dom first second source more = tt
first_line rule.Disj first second source more = tt

second_line : (r : Rule) (first second : ℕ) (source : Source) → NamesNoMore r first second source → IsPremise (names_second r) second
second_line rule.Itself first second source more = more.second_is (omega arith)
second_line rule.Top first second source more = more.second_is (omega arith)
second_line rule.Refl first second source more = more.second_is (omega arith)
second_line rule.Incl first second source more = more.second_is (omega arith)
second_line rule.Left first second source more = more.second_is (omega arith)
second_line rule.Right first second source more = more.second_is (omega arith)
second_line rule.Out first second source more = more.second_is (omega arith)
second_line rule.Role first second source more = more.second_is (omega arith)
second_line rule.Dom first second source more = more.second_is (omega arith)
second_line rule.Both first second source more = tt
second_line rule.Into first second source more = tt
second_line rule.Void first second source more = tt
second_line rule.Chain first second source more = tt
second_line rule.Disj first second source more = tt

-- the axiom that a rule names, if it names one
abbrev AxiomIs : (NodeAxiom → Type 0) → Bool → Source → Type 0
AxiomIs Named true source = (said : NodeAxiom) × Named said
AxiomIs Named false source = source ≡ Source.Nothing

named_by : (nodes : List Node) (Named : NodeAxiom → Type 0) (One Two : Fact → Type 0) (r : Rule) (fact : Fact) (first second : ℕ) (source : Source)
    → Gives nodes Named One Two r fact → NamesNoMore r first second source → AxiomIs Named (names_axiom r) source
named_by nodes Named One Two rule.Itself fact first second source h more = more.source_is refl
named_by nodes Named One Two rule.Top fact first second source h more = more.source_is refl
named_by nodes Named One Two rule.Left fact first second source h more = more.source_is refl
named_by nodes Named One Two rule.Right fact first second source h more = more.source_is refl
named_by nodes Named One Two rule.Both fact first second source h more = more.source_is refl
named_by nodes Named One Two rule.Out fact first second source h more = more.source_is refl
named_by nodes Named One Two rule.Into fact first second source h more = more.source_is refl
named_by nodes Named One Two rule.Void fact first second source h more = more.source_is refl
named_by nodes Named One Two rule.Incl (Sub a d) first second source h more = (h.1, h.2)
named_by nodes Named One Two rule.Incl (Link a r b) first second source h more = absurd h
named_by nodes Named One Two rule.Role (Sub a d) first second source h more = absurd h
named_by nodes Named One Two rule.Role (Link a r b) first second source h more = (h.1, h.2)
named_by nodes Named One Two rule.Chain (Sub a d) first second source h more = absurd h
named_by nodes Named One Two rule.Chain (Link a r b) first second source h more = (h.3, h.4)
named_by nodes Named One Two rule.Refl (Sub a d) first second source h more = absurd h
named_by nodes Named One Two rule.Refl (Link a r b) first second source h more = (h.0, h.1)
named_by nodes Named One Two rule.Dom (Sub a d) first second source h more = (h.2, h.3)
named_by nodes Named One Two rule.Dom (Link a r b) first second source h more = absurd h
named_by nodes Named One Two rule.Disj (Sub a d) first second source h more = (h.2, h.4)
named_by nodes Named One Two rule.Disj (Link a r b) first second source h more = absurd h

-- an element at its place
at_place : {X : Type 0} (xs : List X) (k : ℕ) (x : X) → k < length xs → get_or xs k x ≡ x → slice_get xs k ≡ Some x
at_place {X} xs k x inside is = slice_get-get_or xs k x inside ∙ ap (λ (y : X). Some y) is

module _ (case : CaseView) (part : Part) (ranks : List ℕ) (below : All (λ rank. rank < length case.order) ranks) where
  -- a source that names an axiom of the part or of the ranks has one of the case's ranks
  source_below : (p : Part) (source : Source) → IsSourceOf p ranks source → HasRanksBelow (length case.order) source
  source_below p (Source.Left number) h = tt
  source_below p (Source.Right number) h = tt
  source_below Part.Left (Source.Row rank number) h = All-contains (λ r. r < length case.order) ranks rank below h
  source_below Part.Right (Source.Row rank number) h = All-contains (λ r. r < length case.order) ranks rank below h
  source_below Part.Both (Source.Row rank number) h = All-contains (λ r. r < length case.order) ranks rank below h
  source_below p Source.Nothing h = tt

  nothing_below : (source : Source) → source ≡ Source.Nothing → HasRanksBelow (length case.order) source
  nothing_below source e = subst (HasRanksBelow (length case.order)) (sym e) tt

  axiom_below : (b : Bool) (source : Source) → AxiomIs (IsNamedBy (theory_of case) part ranks source) b source → HasRanksBelow (length case.order) source
  axiom_below true source h = source_below part source h.1.0
  axiom_below false source h = nothing_below source h

  -- what a good step names
  axiom_of : (steps : List Step) (count : ℕ) (step : Step) → IsGoodStep case part ranks steps count step
      → AxiomIs (IsNamedBy (theory_of case) part ranks step.source) (names_axiom step.rule) step.source
  axiom_of steps count step good =
      named_by case.store.nodes (IsNamedBy (theory_of case) part ranks step.source) (IsStepBefore steps count step.first) (IsStepBefore steps count step.second)
      step.rule step.fact step.first step.second step.source good.given good.no_more

  pub step_below : (steps : List Step) (count : ℕ) (step : Step) → IsGoodStep case part ranks steps count step → HasRanksBelow (length case.order) step.source
  step_below steps count step good = axiom_below (names_axiom step.rule) step.source (axiom_of steps count step good)

  -- so good steps have ranks of the case
  pub steps_below : (steps : List Step) → AreGoodSteps case part ranks steps → All (λ step. HasRanksBelow (length case.order) step.source) steps
  steps_below steps good = λ k d inside. step_below steps k (get_or steps k d) (good k (get_or steps k d) inside (slice_get-get_or steps k d inside))

  module _ (few : All (λ axioms. length axioms ≤ 2) case.over) where
    -- a row has two axioms at most
    few_at : (rank : ℕ) → length (slice_index_or case.over rank []) ≤ 2
    few_at rank = by (cases_lt rank (length case.over))
      where
        by : (rank < length case.over) ⊎ (length case.over ≤ rank) → length (slice_index_or case.over rank []) ≤ 2
        by (inl inside) = All-get_or (λ axioms. length axioms ≤ 2) case.over rank [] inside few
        by (inr past) = let e = ap length (get_or_past case.over rank [] past) in omega (arith, e)

    one_or_two : (number k : ℕ) → number ≡ k + 1 → k < 2 → (number ≡ 1) ⊎ (number ≡ 2)
    one_or_two number zero e small = inl (omega arith)
    one_or_two number (suc k) e small = inr (omega arith)

    source_line : (b : Bool) (source : Source) → AxiomIs (IsNamedBy (theory_of case) part ranks source) b source → IsSource b (source_by_row case.order source)
    source_line true (Source.Left number) h = tt
    source_line true (Source.Right number) h = tt
    source_line true (Source.Row rank number) h =
        let at = h.1.1 in
        let inside = slice_get_within (slice_index_or case.over rank []) at.0 h.0 at.2 in
        let few = few_at rank in
        one_or_two number at.0 at.1 (omega arith)
    source_line true Source.Nothing h = absurd h.1.1
    source_line false source h = ap (source_by_row case.order) h

    -- so good steps have lines
    step_line : (steps : List Step) (count : ℕ) (step : Step) → IsGoodStep case part ranks steps count step → HasStepLine (step_by_row case.order step)
    step_line steps count step good = record {
      first = first_line step.rule step.first step.second step.source good.no_more;
      second = second_line step.rule step.first step.second step.source good.no_more;
      source = source_line (names_axiom step.rule) step.source (axiom_of steps count step good);
    }

    lines_from : (all steps : List Step) → ((step : Step) → Contains steps step → (k : ℕ) × IsGoodStep case part ranks all k step)
        → AllByRecursion HasStepLine (map (step_by_row case.order) steps)
    lines_from all [] each = tt
    lines_from all (step ∷ steps) each =
        let one = each step (Contains-append_left (step ∷ []) steps step (Contains-push [] step)) in
        (step_line all one.0 step one.1, lines_from all steps (λ s held. each s (Contains-append_right (step ∷ []) steps s held)))

    pub steps_lines : (steps : List Step) → AreGoodSteps case part ranks steps → AllByRecursion HasStepLine (map (step_by_row case.order) steps)
    steps_lines steps good = lines_from steps steps (λ step held. (held.0, good held.0 step held.1 (at_place steps held.0 step held.1 held.2)))

-- What is good for some ranks is good for more.
use Rattle.std.proofs.Common.{ℕ, List, Contains}
use Rattle.el_logic.specs.declared.types.Part.{Part}
use Rattle.fact_table.specs.declared.types.Source.{Source}
use Rattle.el_rules.specs.Theories.{IsSourceOf, IsNamedBy}
use Rattle.case_file.specs.Cases.{CaseView, theory_of}
use Rattle.derivation.specs.declared.types.Step.{Step}
use Rattle.derivation.specs.Steps.{IsStepBefore, AreGoodSteps}
use Rattle.derivation.proofs.MoreGiven.{given_more}

-- a source is one of more ranks
source_more : (part : Part) (ranks more : List ℕ) → ((rank : ℕ) → Contains ranks rank → Contains more rank) → (source : Source) → IsSourceOf part ranks source → IsSourceOf part more source
source_more Part.Left ranks more wider (Source.Left number) of = of
source_more Part.Left ranks more wider (Source.Right number) of = of
source_more Part.Left ranks more wider (Source.Row rank number) of = wider rank of
source_more Part.Left ranks more wider Source.Nothing of = of
source_more Part.Right ranks more wider (Source.Left number) of = of
source_more Part.Right ranks more wider (Source.Right number) of = of
source_more Part.Right ranks more wider (Source.Row rank number) of = wider rank of
source_more Part.Right ranks more wider Source.Nothing of = of
source_more Part.Both ranks more wider (Source.Left number) of = of
source_more Part.Both ranks more wider (Source.Right number) of = of
source_more Part.Both ranks more wider (Source.Row rank number) of = wider rank of
source_more Part.Both ranks more wider Source.Nothing of = of

-- so good steps stay good
pub steps_more : (case : CaseView) (part : Part) (ranks more : List ℕ) (steps : List Step) → ((rank : ℕ) → Contains ranks rank → Contains more rank)
    → AreGoodSteps case part ranks steps → AreGoodSteps case part more steps
steps_more case part ranks more steps wider good k step below at =
    let is = good k step below at in
    record {
      given = given_more case.store.nodes (IsNamedBy (theory_of case) part ranks step.source) (IsNamedBy (theory_of case) part more step.source)
          (IsStepBefore steps k step.first) (IsStepBefore steps k step.first) (IsStepBefore steps k step.second) (IsStepBefore steps k step.second) step.rule step.fact
          (record {
            named = λ _ said named. (source_more part ranks more wider step.source named.0, named.1);
            one = λ _ fact held. held;
            two = λ _ fact held. held;
          }) is.given;
      no_more = is.no_more;
    }

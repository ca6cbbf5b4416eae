-- Lines of steps: how each is spelled, and which steps have a line.
use Rattle.std.specs.Prelude.{◌≡◌, ◌⊎◌, ℕ, ◌<◌, ◌^◌, Bool, true, false, List, [], ◌∷◌, ◌++◌, codes, decimal, ⊤}
use Rattle.fact_table.specs.declared.types.Fact.{Fact}
use Rattle.fact_table.specs.declared.types.Fact.TheVariants.{Sub, Link}
use Rattle.fact_table.specs.declared.types.Rule.{Rule}
use Rattle.fact_table.specs.declared.types.Rule.TheVariants as rule
use Rattle.fact_table.specs.declared.types.Source.{Source}
use Rattle.fact_table.specs.declared.types.Source.TheVariants.{Left, Right, Row, Nothing}
use Rattle.derivation.specs.declared.types.Step.{Step}
use Rattle.line_fields.specs.Lines.{Fields}

abbrev pub fact_fields : Fact → Fields
fact_fields (Sub a b) = codes "sub" ∷ decimal a ∷ decimal b ∷ []
fact_fields (Link a r b) = codes "link" ∷ decimal a ∷ decimal r ∷ decimal b ∷ []

abbrev pub rule_word : Rule → List ℕ
rule_word rule.Itself = codes "self"
rule_word rule.Top = codes "top"
rule_word rule.Incl = codes "incl"
rule_word rule.Left = codes "left"
rule_word rule.Right = codes "right"
rule_word rule.Both = codes "both"
rule_word rule.Out = codes "out"
rule_word rule.Into = codes "into"
rule_word rule.Void = codes "void"
rule_word rule.Role = codes "role"
rule_word rule.Chain = codes "chain"
rule_word rule.Refl = codes "refl"
rule_word rule.Dom = codes "dom"
rule_word rule.Disj = codes "disj"

-- the rule names an earlier step, a second one, an axiom
abbrev pub names_first : Rule → Bool
names_first rule.Itself = false
names_first rule.Top = false
names_first rule.Incl = true
names_first rule.Left = true
names_first rule.Right = true
names_first rule.Both = true
names_first rule.Out = true
names_first rule.Into = true
names_first rule.Void = true
names_first rule.Role = true
names_first rule.Chain = true
names_first rule.Refl = false
names_first rule.Dom = true
names_first rule.Disj = true

abbrev pub names_second : Rule → Bool
names_second rule.Itself = false
names_second rule.Top = false
names_second rule.Incl = false
names_second rule.Left = false
names_second rule.Right = false
names_second rule.Both = true
names_second rule.Out = false
names_second rule.Into = true
names_second rule.Void = true
names_second rule.Role = false
names_second rule.Chain = true
names_second rule.Refl = false
names_second rule.Dom = false
names_second rule.Disj = true

abbrev pub names_axiom : Rule → Bool
names_axiom rule.Itself = false
names_axiom rule.Top = false
names_axiom rule.Incl = true
names_axiom rule.Left = false
names_axiom rule.Right = false
names_axiom rule.Both = false
names_axiom rule.Out = false
names_axiom rule.Into = false
names_axiom rule.Void = false
names_axiom rule.Role = true
names_axiom rule.Chain = true
names_axiom rule.Refl = true
names_axiom rule.Dom = true
names_axiom rule.Disj = true

-- the number of a step, if the rule names one
abbrev pub premise_fields : Bool → ℕ → Fields
premise_fields true number = decimal number ∷ []
premise_fields false number = []

-- an axiom by its number in its document; one of a row by the row's number and its own
abbrev pub source_fields : Source → Fields
source_fields (Left number) = codes "left" ∷ decimal number ∷ []
source_fields (Right number) = codes "right" ∷ decimal number ∷ []
source_fields (Row row number) = codes "row" ∷ decimal row ∷ decimal number ∷ []
source_fields Nothing = []

abbrev pub argument_fields : Step → Fields
argument_fields step =
    premise_fields (names_first step.rule) step.first
    ++ (premise_fields (names_second step.rule) step.second ++ source_fields step.source)

abbrev pub step_fields : Step → Fields
step_fields step = fact_fields step.fact ++ (rule_word step.rule ∷ argument_fields step)

-- a number that the rule does not name is 0
abbrev pub IsPremise : Bool → ℕ → Type 0
IsPremise true number = ⊤
IsPremise false number = number ≡ 0

-- a rule that names an axiom has one, and of a row the first or the second; another rule has none
abbrev pub IsSource : Bool → Source → Type 0
IsSource true (Left number) = ⊤
IsSource true (Right number) = ⊤
IsSource true (Row row number) = (number ≡ 1) ⊎ (number ≡ 2)
IsSource true Nothing = ⊥
IsSource false source = source ≡ Nothing

-- the step has a line
pub record HasStepLine (step : Step) : Type 0 where
  pub first : IsPremise (names_first step.rule) step.first
  pub second : IsPremise (names_second step.rule) step.second
  pub source : IsSource (names_axiom step.rule) step.source

-- the numbers of a step are those of its type
abbrev pub AreFactNumbers : Fact → Type 0
AreFactNumbers (Sub a b) = (a < 2 ^ 32) × (b < 2 ^ 32)
AreFactNumbers (Link a r b) = (a < 2 ^ 32) × (r < 2 ^ 32) × (b < 2 ^ 32)

abbrev pub AreSourceNumbers : Source → Type 0
AreSourceNumbers (Left number) = number < 2 ^ 32
AreSourceNumbers (Right number) = number < 2 ^ 32
AreSourceNumbers (Row row number) = (row < 2 ^ 32) × (number < 2 ^ 32)
AreSourceNumbers Nothing = ⊤

pub record AreStepNumbers (step : Step) : Type 0 where
  pub first : step.first < 2 ^ 64
  pub second : step.second < 2 ^ 64
  pub fact : AreFactNumbers step.fact
  pub source : AreSourceNumbers step.source

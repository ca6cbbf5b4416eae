-- How a line of a step is read.
use Rattle.std.specs.Prelude.{ℕ, ◌==◌, ◌||◌, Bool, if◌then◌else◌, List, [], ◌∷◌, codes, bytes_eq, Option, Some, None}
use Rattle.std.specs.Option.{option_or}
use Rattle.fact_table.specs.declared.types.Fact.{Fact}
use Rattle.fact_table.specs.declared.types.Fact.TheVariants.{Sub, Link}
use Rattle.fact_table.specs.declared.types.Rule.{Rule}
use Rattle.fact_table.specs.declared.types.Rule.TheVariants as rule
use Rattle.fact_table.specs.declared.types.Source.{Source}
use Rattle.fact_table.specs.declared.types.Source.TheVariants.{Left, Right, Row, Nothing}
use Rattle.derivation.specs.declared.types.Step.{Step}
use Rattle.line_fields.specs.Lines.{Fields}
use Rattle.line_fields.specs.Reading.{◌>>=◌, with_rest, long_in, short_in, is_end}
use Rattle.evidence_lines.specs.Steps.{rule_word, names_first, names_second, names_axiom}

abbrev pub sub_in : Fields → Option (Fact × Fields)
sub_in fields = do
  a ← short_in fields
  b ← short_in a.1
  Some (Sub a.0 b.0, b.1)

abbrev pub link_in : Fields → Option (Fact × Fields)
link_in fields = do
  a ← short_in fields
  r ← short_in a.1
  b ← short_in r.1
  Some (Link a.0 r.0 b.0, b.1)

abbrev pub fact_in : Fields → Option (Fact × Fields)
fact_in [] = None
fact_in (word ∷ rest) =
    if bytes_eq word (codes "sub") then sub_in rest else
    if bytes_eq word (codes "link") then link_in rest else None

abbrev pub first_rules : List Rule
first_rules =
    rule.Itself ∷ rule.Top ∷ rule.Incl ∷ rule.Left ∷ rule.Right ∷ rule.Both ∷ rule.Out ∷ []

abbrev pub last_rules : List Rule
last_rules = rule.Into ∷ rule.Void ∷ rule.Role ∷ rule.Chain ∷ rule.Refl ∷ rule.Dom ∷ rule.Disj ∷ []

-- the first of these rules that has the word
abbrev pub first_rule : List Rule → List ℕ → Option Rule
first_rule [] word = None
first_rule (r ∷ rs) word = if bytes_eq word (rule_word r) then Some r else first_rule rs word

abbrev pub rule_named : List ℕ → Option Rule
rule_named word = option_or (first_rule first_rules word) (first_rule last_rules word)

abbrev pub rule_in : Fields → Option (Rule × Fields)
rule_in [] = None
rule_in (word ∷ rest) = with_rest rest (rule_named word)

-- the number of a step, if the rule names one
abbrev pub premise_in : Bool → Fields → Option (ℕ × Fields)
premise_in named fields = if named then long_in fields else Some (0, fields)

abbrev pub left_in : Fields → Option (Source × Fields)
left_in fields = do
  number ← short_in fields
  Some (Left number.0, number.1)

abbrev pub right_in : Fields → Option (Source × Fields)
right_in fields = do
  number ← short_in fields
  Some (Right number.0, number.1)

abbrev pub row_in : Fields → Option (Source × Fields)
row_in fields = do
  row ← short_in fields
  number ← short_in row.1
  if number.0 == 1 || number.0 == 2 then Some (Row row.0 number.0, number.1) else None

abbrev pub axiom_in : Fields → Option (Source × Fields)
axiom_in [] = None
axiom_in (word ∷ rest) =
    if bytes_eq word (codes "left") then left_in rest else
    if bytes_eq word (codes "right") then right_in rest else
    if bytes_eq word (codes "row") then row_in rest else None

-- an axiom, if the rule names one
abbrev pub source_in : Bool → Fields → Option (Source × Fields)
source_in named fields = if named then axiom_in fields else Some (Nothing, fields)

abbrev pub ended_step : Fact → Rule → ℕ → ℕ → Source × Fields → Option Step
ended_step fact rule first second source =
    if is_end source.1
    then Some (record {
      first = first;
      second = second;
      fact = fact;
      source = source.0;
      rule = rule;
    })
    else None

-- the step that a line with these fields is
unfoldable pub step_of : Fields → Option Step
step_of fields = do
  fact ← fact_in fields
  rule ← rule_in fact.1
  first ← premise_in (names_first rule.0) rule.1
  second ← premise_in (names_second rule.0) first.1
  source ← source_in (names_axiom rule.0) second.1
  ended_step fact.0 rule.0 first.0 second.0 source

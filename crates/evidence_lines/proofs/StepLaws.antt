-- A line of a step is read as the step that it spells, and as no other.
use Rattle.std.proofs.Common.{◌≡◌, ◌⊎◌, inl, inr, ℕ, ◌^◌, ◌<◌, ◌==◌, ◌||◌, Bool, true, false, cond, List, [], ◌∷◌, ◌++◌, refl, ap, sym, subst, ◌∙◌, arith, Option, Some, None}
use Rattle.std.specs.Prelude.{decimal, bytes_eq, codes, ⊤}
use Rattle.std.specs.Option.{option_or}
use Rattle.std.proofs.lemmas.Bool.{eqb-true}
use Rattle.std.proofs.lemmas.List.{append-nil}
use Rattle.std.proofs.lemmas.Option.{cond_some}
use Rattle.fact_table.specs.declared.types.Fact.{Fact}
use Rattle.fact_table.specs.declared.types.Fact.TheVariants.{Sub, Link}
use Rattle.fact_table.specs.declared.types.Rule.{Rule}
use Rattle.fact_table.specs.declared.types.Rule.TheVariants as rule
use Rattle.fact_table.specs.declared.types.Source.{Source}
use Rattle.fact_table.specs.declared.types.Source.TheVariants.{Left, Right, Row, Nothing}
use Rattle.derivation.specs.declared.types.Step.{Step}
use Rattle.line_fields.specs.Lines.{Fields}
use Rattle.line_fields.specs.Reading.{◌>>=◌, short_in, is_end}
use Rattle.evidence_lines.specs.Steps.{fact_fields, rule_word, names_first, names_second, names_axiom, premise_fields, source_fields, argument_fields, step_fields, IsPremise, IsSource, HasStepLine, AreFactNumbers, AreSourceNumbers, AreStepNumbers}
use Rattle.evidence_lines.specs.StepReading.{sub_in, link_in, fact_in, first_rules, last_rules, first_rule, rule_named, rule_in, premise_in, left_in, right_in, row_in, axiom_in, source_in, ended_step, step_of}
use Rattle.evidence_lines.proofs.Found.{NumberLaw, bound, some_is, none_is, word_case, end_is, Takes, taken, Makes, makes, rest_is, short_takes, long_takes}

-- ---- facts

abbrev TakesFact : Fields → Fact × Fields → Type 0
TakesFact fields found = Takes fact_fields AreFactNumbers fields found

sub_takes : NumberLaw → (rest : Fields) (found : Fact × Fields) → sub_in rest ≡ Some found → TakesFact (codes "sub" ∷ rest) found
sub_takes law rest found e =
    let a = bound (short_in rest) (λ a. short_in a.1 >>= λ b. Some (Sub a.0 b.0, b.1)) found e in
    let b = bound (short_in a.found.1) (λ b. Some (Sub a.found.0 b.0, b.1)) found a.later in
    let first = short_takes law rest a.found a.is in
    let second = short_takes law a.found.1 b.found b.is in
    taken fact_fields AreFactNumbers (codes "sub" ∷ rest) (Sub a.found.0 b.found.0, b.found.1) found b.later
    (ap (λ r. codes "sub" ∷ r) (first.whole ∙ ap (λ r. decimal a.found.0 ∷ r) second.whole)) (first.fits, second.fits)

link_takes : NumberLaw → (rest : Fields) (found : Fact × Fields) → link_in rest ≡ Some found → TakesFact (codes "link" ∷ rest) found
link_takes law rest found e =
    let a = bound (short_in rest) (λ a. short_in a.1 >>= λ r. short_in r.1 >>= λ b. Some (Link a.0 r.0 b.0, b.1)) found e in
    let r = bound (short_in a.found.1) (λ r. short_in r.1 >>= λ b. Some (Link a.found.0 r.0 b.0, b.1)) found a.later in
    let b = bound (short_in r.found.1) (λ b. Some (Link a.found.0 r.found.0 b.0, b.1)) found r.later in
    let first = short_takes law rest a.found a.is in
    let second = short_takes law a.found.1 r.found r.is in
    let third = short_takes law r.found.1 b.found b.is in
    taken fact_fields AreFactNumbers (codes "link" ∷ rest) (Link a.found.0 r.found.0 b.found.0, b.found.1) found b.later
    (ap (λ t. codes "link" ∷ t) (first.whole ∙ ap (λ t. decimal a.found.0 ∷ t) (second.whole ∙ ap (λ t. decimal r.found.0 ∷ t) third.whole)))
    (first.fits, second.fits, third.fits)

fact_takes : NumberLaw → (fields : Fields) (found : Fact × Fields) → fact_in fields ≡ Some found → TakesFact fields found
fact_takes law [] found e = none_is found e
fact_takes law (word ∷ rest) found e =
    elim (word_case word (codes "sub") (sub_in rest) (cond (bytes_eq word (codes "link")) (link_in rest) None) found e) [
      | inl h ↦ subst (λ w. TakesFact (w ∷ rest) found) (sym h.0) (sub_takes law rest found h.1)
      | inr h ↦ elim (word_case word (codes "link") (link_in rest) None found h) [
        | inl k ↦ subst (λ w. TakesFact (w ∷ rest) found) (sym k.0) (link_takes law rest found k.1)
        | inr k ↦ none_is found k
      ]
    ]

fact_again : NumberLaw → (fact : Fact) (rest : Fields) → AreFactNumbers fact → fact_in (fact_fields fact ++ rest) ≡ Some (fact, rest)
fact_again law (Sub a b) rest fits = rw (law.short_again a fits.0, law.short_again b fits.1) refl
fact_again law (Link a r b) rest fits = rw (law.short_again a fits.0, law.short_again r fits.1, law.short_again b fits.2) refl

-- ---- rules

rule_found : (r : Rule) → rule_named (rule_word r) ≡ Some r
rule_found rule.Itself = refl
rule_found rule.Top = refl
rule_found rule.Incl = refl
rule_found rule.Left = refl
rule_found rule.Right = refl
rule_found rule.Both = refl
rule_found rule.Out = refl
rule_found rule.Into = refl
rule_found rule.Void = refl
rule_found rule.Role = refl
rule_found rule.Chain = refl
rule_found rule.Refl = refl
rule_found rule.Dom = refl
rule_found rule.Disj = refl

first_rule_word : (rs : List Rule) (word : List ℕ) (r : Rule) → first_rule rs word ≡ Some r → word ≡ rule_word r
first_rule_word [] word r e = none_is r e
first_rule_word (k ∷ rs) word r e =
    elim (word_case word (rule_word k) (Some k) (first_rule rs word) r e) [
      | inl h ↦ h.0 ∙ ap rule_word (some_is k r h.1)
      | inr h ↦ first_rule_word rs word r h
    ]

option_or_is : {X P : Type 0} → (one other : Option X) (x : X) → (one ≡ Some x → P) → (other ≡ Some x → P) → option_or one other ≡ Some x → P
option_or_is (Some y) other x first second e = first e
option_or_is None other x first second e = second e

rule_word_is : (word : List ℕ) (r : Rule) → rule_named word ≡ Some r → word ≡ rule_word r
rule_word_is word r e =
    option_or_is (first_rule first_rules word) (first_rule last_rules word) r (first_rule_word first_rules word r) (first_rule_word last_rules word r) e

abbrev one_rule : Rule → Fields
one_rule r = rule_word r ∷ []

rule_takes : (fields : Fields) (found : Rule × Fields) → rule_in fields ≡ Some found → Takes one_rule (λ r. ⊤) fields found
rule_takes [] found e = none_is found e
rule_takes (word ∷ rest) found e =
    let is = rest_is rest (rule_named word) found e in
    record { whole = ap (λ w. w ∷ rest) (rule_word_is word found.0 is.0) ∙ ap (λ r. rule_word found.0 ∷ r) is.1; fits = tt }

-- ---- premises

abbrev FitsPremise : Bool → ℕ → Type 0
FitsPremise named n = IsPremise named n × (n < 2 ^ 64)

premise_takes : NumberLaw → (named : Bool) (fields : Fields) (found : ℕ × Fields) → premise_in named fields ≡ Some found
    → Takes (premise_fields named) (FitsPremise named) fields found
premise_takes law true fields found e = let number = long_takes law fields found e in record { whole = number.whole; fits = (tt, number.fits) }
premise_takes law false fields found e =
    taken (premise_fields false) (FitsPremise false) fields (0, fields) found e refl (refl, omega arith)

premise_again : NumberLaw → (named : Bool) (n : ℕ) (rest : Fields) → IsPremise named n → n < 2 ^ 64 → premise_in named (premise_fields named n ++ rest) ≡ Some (n, rest)
premise_again law true n rest is below = rw (law.long_again n below) refl
premise_again law false n rest is below = rw is refl

-- ---- axioms

abbrev FitsSource : Bool → Source → Type 0
FitsSource named source = IsSource named source × AreSourceNumbers source

abbrev TakesSource : Bool → Fields → Source × Fields → Type 0
TakesSource named fields found = Takes source_fields (FitsSource named) fields found

left_takes : NumberLaw → (rest : Fields) (found : Source × Fields) → left_in rest ≡ Some found → TakesSource true (codes "left" ∷ rest) found
left_takes law rest found e =
    let a = bound (short_in rest) (λ a. Some (Left a.0, a.1)) found e in
    let first = short_takes law rest a.found a.is in
    taken source_fields (FitsSource true) (codes "left" ∷ rest) (Left a.found.0, a.found.1) found a.later (ap (λ r. codes "left" ∷ r) first.whole) (tt, first.fits)

right_takes : NumberLaw → (rest : Fields) (found : Source × Fields) → right_in rest ≡ Some found → TakesSource true (codes "right" ∷ rest) found
right_takes law rest found e =
    let a = bound (short_in rest) (λ a. Some (Right a.0, a.1)) found e in
    let first = short_takes law rest a.found a.is in
    taken source_fields (FitsSource true) (codes "right" ∷ rest) (Right a.found.0, a.found.1) found a.later (ap (λ r. codes "right" ∷ r) first.whole) (tt, first.fits)

one_or_two : (n : ℕ) → (n == 1 || n == 2) ≡ true → (n ≡ 1) ⊎ (n ≡ 2)
one_or_two n e = by (n == 1) refl e
  where
    by : (b : Bool) → (n == 1) ≡ b → (b || n == 2) ≡ true → (n ≡ 1) ⊎ (n ≡ 2)
    by true t e = inl (eqb-true n 1 t)
    by false t e = inr (eqb-true n 2 e)

row_takes : NumberLaw → (rest : Fields) (found : Source × Fields) → row_in rest ≡ Some found → TakesSource true (codes "row" ∷ rest) found
row_takes law rest found e =
    let a = bound (short_in rest) (λ row. short_in row.1 >>= λ n. cond (n.0 == 1 || n.0 == 2) (Some (Row row.0 n.0, n.1)) None) found e in
    let b = bound (short_in a.found.1) (λ n. cond (n.0 == 1 || n.0 == 2) (Some (Row a.found.0 n.0, n.1)) None) found a.later in
    let first = short_takes law rest a.found a.is in
    let second = short_takes law a.found.1 b.found b.is in
    let test = cond_some (b.found.0 == 1 || b.found.0 == 2) (Row a.found.0 b.found.0, b.found.1) found b.later in
    taken source_fields (FitsSource true) (codes "row" ∷ rest) (Row a.found.0 b.found.0, b.found.1) found (ap (λ x. Some x) test.1)
    (ap (λ r. codes "row" ∷ r) (first.whole ∙ ap (λ r. decimal a.found.0 ∷ r) second.whole)) (one_or_two b.found.0 test.0, (first.fits, second.fits))

axiom_takes : NumberLaw → (fields : Fields) (found : Source × Fields) → axiom_in fields ≡ Some found → TakesSource true fields found
axiom_takes law [] found e = none_is found e
axiom_takes law (word ∷ rest) found e =
    let others = cond (bytes_eq word (codes "row")) (row_in rest) None in
    elim (word_case word (codes "left") (left_in rest) (cond (bytes_eq word (codes "right")) (right_in rest) others) found e) [
      | inl h ↦ subst (λ w. TakesSource true (w ∷ rest) found) (sym h.0) (left_takes law rest found h.1)
      | inr h ↦ elim (word_case word (codes "right") (right_in rest) others found h) [
        | inl k ↦ subst (λ w. TakesSource true (w ∷ rest) found) (sym k.0) (right_takes law rest found k.1)
        | inr k ↦ elim (word_case word (codes "row") (row_in rest) None found k) [
          | inl m ↦ subst (λ w. TakesSource true (w ∷ rest) found) (sym m.0) (row_takes law rest found m.1)
          | inr m ↦ none_is found m
        ]
      ]
    ]

source_takes : NumberLaw → (named : Bool) (fields : Fields) (found : Source × Fields) → source_in named fields ≡ Some found → TakesSource named fields found
source_takes law true fields found e = axiom_takes law fields found e
source_takes law false fields found e =
    taken source_fields (FitsSource false) fields (Nothing, fields) found e refl (refl, tt)

row_again : NumberLaw → (row number : ℕ) → (number ≡ 1) ⊎ (number ≡ 2) → (row < 2 ^ 32) × (number < 2 ^ 32) → row_in (decimal row ∷ decimal number ∷ []) ≡ Some (Row row number, [])
row_again law row number (inl e) fits = rw (law.short_again row fits.0, law.short_again number fits.1, e) refl
row_again law row number (inr e) fits = rw (law.short_again row fits.0, law.short_again number fits.1, e) refl

source_again : NumberLaw → (named : Bool) (source : Source) → IsSource named source → AreSourceNumbers source → source_in named (source_fields source) ≡ Some (source, [])
source_again law true (Left number) is fits = rw (law.short_again number fits) refl
source_again law true (Right number) is fits = rw (law.short_again number fits) refl
source_again law true (Row row number) is fits = row_again law row number is fits
source_again law true Nothing is fits = absurd is
source_again law false source is fits = rw is refl

-- ---- steps

pub record FitsStep (step : Step) : Type 0 where
  pub line : HasStepLine step
  pub numbers : AreStepNumbers step

ended_takes : (fact : Fact) (rule : Rule) (first second : ℕ) (source : Source × Fields) (step : Step) → ended_step fact rule first second source ≡ Some step
    → (source.1 ≡ []) × (record { first = first; second = second; fact = fact; source = source.0; rule = rule } ≡ step)
ended_takes fact rule first second source step e =
    let test = cond_some (is_end source.1) (record { first = first; second = second; fact = fact; source = source.0; rule = rule }) step e in
    (end_is source.1 test.0, test.1)

pub step_back : NumberLaw → (fields : Fields) (step : Step) → step_of fields ≡ Some step → Makes step_fields FitsStep fields step
unfolding step_of
step_back law fields step e =
    let f = bound (fact_in fields) (λ f. rule_in f.1 >>= λ r. premise_in (names_first r.0) r.1 >>= λ p. premise_in (names_second r.0) p.1 >>= λ q. source_in (names_axiom r.0) q.1 >>= ended_step f.0 r.0 p.0 q.0) step e in
    let r = bound (rule_in f.found.1) (λ r. premise_in (names_first r.0) r.1 >>= λ p. premise_in (names_second r.0) p.1 >>= λ q. source_in (names_axiom r.0) q.1 >>= ended_step f.found.0 r.0 p.0 q.0) step f.later in
    let p = bound (premise_in (names_first r.found.0) r.found.1) (λ p. premise_in (names_second r.found.0) p.1 >>= λ q. source_in (names_axiom r.found.0) q.1 >>= ended_step f.found.0 r.found.0 p.0 q.0) step r.later in
    let q = bound (premise_in (names_second r.found.0) p.found.1) (λ q. source_in (names_axiom r.found.0) q.1 >>= ended_step f.found.0 r.found.0 p.found.0 q.0) step p.later in
    let s = bound (source_in (names_axiom r.found.0) q.found.1) (ended_step f.found.0 r.found.0 p.found.0 q.found.0) step q.later in
    let ended = ended_takes f.found.0 r.found.0 p.found.0 q.found.0 s.found step s.later in
    let tf = fact_takes law fields f.found f.is in
    let tr = rule_takes f.found.1 r.found r.is in
    let tp = premise_takes law (names_first r.found.0) r.found.1 p.found p.is in
    let tq = premise_takes law (names_second r.found.0) p.found.1 q.found q.is in
    let ts = source_takes law (names_axiom r.found.0) q.found.1 s.found s.is in
    let last : q.found.1 ≡ source_fields s.found.0 = ts.whole ∙ ap (λ t. source_fields s.found.0 ++ t) ended.0 ∙ append-nil (source_fields s.found.0) in
    makes step_fields FitsStep fields (record { first = p.found.0; second = q.found.0; fact = f.found.0; source = s.found.0; rule = r.found.0 }) step (ap (λ x. Some x) ended.1)
    (tf.whole ∙ ap (λ t. fact_fields f.found.0 ++ t) (tr.whole ∙ ap (λ t. rule_word r.found.0 ∷ t)
    (tp.whole ∙ ap (λ t. premise_fields (names_first r.found.0) p.found.0 ++ t) (tq.whole ∙ ap (λ t. premise_fields (names_second r.found.0) q.found.0 ++ t) last))))
    (record {
      line = record { first = tp.fits.0; second = tq.fits.0; source = ts.fits.0 };
      numbers = record { first = tp.fits.1; second = tq.fits.1; fact = tf.fits; source = ts.fits.1 };
    })

pub step_again : NumberLaw → (step : Step) → FitsStep step → step_of (step_fields step) ≡ Some step
unfolding step_of
step_again law step fits =
    rw (
      fact_again law step.fact (rule_word step.rule ∷ argument_fields step) fits.numbers.fact,
      rule_found step.rule,
      premise_again law (names_first step.rule) step.first (premise_fields (names_second step.rule) step.second ++ source_fields step.source) fits.line.first fits.numbers.first,
      premise_again law (names_second step.rule) step.second (source_fields step.source) fits.line.second fits.numbers.second,
      source_again law (names_axiom step.rule) step.source fits.line.source fits.numbers.source,
    ) refl

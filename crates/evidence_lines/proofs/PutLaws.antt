-- A line that is put field by field.
use Rattle.std.proofs.Common.{◌≡◌, ℕ, List, [], ◌∷◌, ◌++◌, refl, ap, sym, ◌∙◌, append_assoc, Result, Ok, Err}
use Rattle.std.specs.Prelude.{codes, decimal, OnOk}
use Rattle.fact_table.specs.declared.types.Fact.{Fact}
use Rattle.fact_table.specs.declared.types.Fact.TheVariants.{Sub, Link}
use Rattle.derivation.specs.declared.types.Step.{Step}
use Rattle.line_fields.specs.Lines.{Fields, spaced, joined, line}
use Rattle.evidence_lines.specs.Steps.{fact_fields, rule_word, names_first, names_second, premise_fields, source_fields, argument_fields, step_fields}

pub spaced-append : (fields more : Fields) → spaced (fields ++ more) ≡ spaced fields ++ spaced more
spaced-append [] more = refl
spaced-append (field ∷ fields) more =
    ap (λ t. 32 ∷ t) (ap (λ t. field ++ t) (spaced-append fields more) ∙ sym (append_assoc field (spaced fields) (spaced more)))

pub joined-append : (field : List ℕ) (fields more : Fields) → joined ((field ∷ fields) ++ more) ≡ joined (field ∷ fields) ++ spaced more
joined-append field fields more =
    ap (λ t. field ++ t) (spaced-append fields more) ∙ sym (append_assoc field (spaced fields) (spaced more))

-- parts that are put one after another
seven_parts : (a b c d e f g : List ℕ) → (((((a ++ b) ++ c) ++ d) ++ e) ++ f) ++ g ≡ a ++ (b ++ (c ++ (d ++ (e ++ (f ++ g)))))
seven_parts a b c d e f g = simp append_assoc

four_parts : (a b c d e : List ℕ) → (a ++ (b ++ (c ++ d))) ++ e ≡ a ++ (b ++ (c ++ (d ++ e)))
four_parts a b c d e = simp append_assoc

six_parts : (text first word one two last : List ℕ)
    → (((((text ++ first) ++ 32 ∷ word) ++ one) ++ two) ++ last) ++ 10 ∷ []
    ≡ text ++ ((first ++ (32 ∷ (word ++ (one ++ (two ++ last))))) ++ 10 ∷ [])
six_parts text first word one two last =
    seven_parts text first (32 ∷ word) one two last (10 ∷ [])
    ∙ sym (ap (λ t. text ++ t) (append_assoc first (32 ∷ (word ++ (one ++ (two ++ last)))) (10 ∷ [])
    ∙ ap (λ t. first ++ (32 ∷ t)) (four_parts word one two last (10 ∷ []))))

fact_joined : (fact : Fact) (more : Fields) → joined (fact_fields fact ++ more) ≡ joined (fact_fields fact) ++ spaced more
fact_joined (Sub a b) more = joined-append (codes "sub") (decimal a ∷ decimal b ∷ []) more
fact_joined (Link a r b) more = joined-append (codes "link") (decimal a ∷ decimal r ∷ decimal b ∷ []) more

arguments_spaced : (step : Step) → spaced (argument_fields step)
    ≡ spaced (premise_fields (names_first step.rule) step.first) ++ (spaced (premise_fields (names_second step.rule) step.second) ++ spaced (source_fields step.source))
arguments_spaced step =
    spaced-append (premise_fields (names_first step.rule) step.first) (premise_fields (names_second step.rule) step.second ++ source_fields step.source)
    ∙ ap (λ t. spaced (premise_fields (names_first step.rule) step.first) ++ t) (spaced-append (premise_fields (names_second step.rule) step.second) (source_fields step.source))

-- the parts of a step's line
pub step_parts : (step : Step) (text : List ℕ)
    → (((((text ++ joined (fact_fields step.fact)) ++ 32 ∷ rule_word step.rule) ++ spaced (premise_fields (names_first step.rule) step.first))
    ++ spaced (premise_fields (names_second step.rule) step.second)) ++ spaced (source_fields step.source)) ++ 10 ∷ []
    ≡ text ++ line (step_fields step)
step_parts step text =
    let first = joined (fact_fields step.fact) in
    six_parts text first (rule_word step.rule) (spaced (premise_fields (names_first step.rule) step.first)) (spaced (premise_fields (names_second step.rule) step.second)) (spaced (source_fields step.source))
    ∙ ap (λ t. text ++ ((first ++ (32 ∷ (rule_word step.rule ++ t))) ++ 10 ∷ [])) (sym (arguments_spaced step))
    ∙ ap (λ t. text ++ (t ++ 10 ∷ [])) (sym (fact_joined step.fact (rule_word step.rule ∷ argument_fields step)))

-- what follows from what holds if the call did not fail
pub on_ok : {T E : Type 0} → (r : Result T E) (P Q : Type 0) → (P → Q) → OnOk r P → OnOk r Q
on_ok (Ok x) P Q f h = f h
on_ok (Err e) P Q f h = h

use Rattle.std.proofs.Common.{◌≡◌, [], ◌∷◌, ◌++◌, ap, ◌∙◌, refl}
use Rattle.line_fields.specs.Lines.{joined, spaced, line}
use Rattle.evidence_lines.specs.Steps.{fact_fields, rule_word, names_first, names_second, premise_fields, source_fields, step_fields}
use Rattle.evidence_lines.proofs.PutLaws.{step_parts, on_ok}
use Rattle.evidence_lines.proofs.put.put_step.Goals as goal

pub returns : goal.returns
returns c =
    let step = c.args.step.now in
    let so_far : c.put_source.new.text ≡ ((((c.args.text.now ++ joined (fact_fields step.fact)) ++ 32 ∷ rule_word step.rule)
    ++ spaced (premise_fields (names_first step.rule) step.first)) ++ spaced (premise_fields (names_second step.rule) step.second)) ++ spaced (source_fields step.source) =
    rw (c.in_ok-put_source.ensures, c.in_ok-put_premise-2.ensures, c.names_second.ensures, c.in_ok-put_premise.ensures, c.names_first.ensures, c.in_ok-put_field.ensures, c.rule_word.ensures, c.in_ok-put_fact.ensures) refl in
    on_ok c.end_line.result (c.end_line.new.text ≡ c.put_source.new.text ++ 10 ∷ []) (c.end_line.new.text ≡ c.args.text.now ++ line (step_fields step))
    (λ e. e ∙ ap (λ t. t ++ 10 ∷ []) so_far ∙ step_parts step c.args.text.now) c.end_line.ensures

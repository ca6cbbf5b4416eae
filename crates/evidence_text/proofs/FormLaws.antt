-- Each line of evidence is fields without a space and a line feed.
use Rattle.std.proofs.Common.{◌≡◌, ℕ, ◌+◌, ◌^◌, ◌<◌, true, List, [], ◌∷◌, ◌++◌, length, Option, None, refl, sym, subst}
use Rattle.std.specs.Prelude.{codes}
use Rattle.std.specs.List.{AllByRecursion, flat_map}
use Rattle.std.proofs.lemmas.List.Concat.{flat_map-cons}
use Rattle.line_fields.specs.Lines.{Fields, IsLine}
use Rattle.evidence_lines.specs.Steps.{step_fields, HasStepLine, AreStepNumbers}
use Rattle.evidence_lines.specs.StepReading.{step_of}
use Rattle.evidence_lines.specs.Names.{node_fields, role_fields, HasNodeLine, HasRoleLine, node_of, role_of, IsNodeValue, IsRoleValue}
use Rattle.evidence_lines.specs.Omitted.{omitted_fields}
use Rattle.evidence_lines.specs.Journal.{entry_fields, HasEntryLine, entry_of, AreEntryNumbers}
use Rattle.evidence_lines.specs.Model.{class_fields, property_fields, HasClassLine, HasPropertyLine, AreElementNumbers, ArePairNumbers}
use Rattle.evidence_lines.specs.declared.types.Kind.{Kind}
use Rattle.evidence_lines.specs.declared.types.Kind.TheVariants as kind
use Rattle.evidence_text.specs.declared.types.Removed.{Removed}
use Rattle.evidence_text.specs.declared.types.Body.{Body}
use Rattle.evidence_text.specs.declared.types.Body.TheVariants as body
use Rattle.evidence_text.specs.declared.types.Evidence.{Evidence}
use Rattle.evidence_lines.specs.FirstLines.{is_plain, end_fields}
use Rattle.evidence_text.specs.EvidenceText.{section_lines, omitted_list, removed_lines, rows_lines, lines_from, model_lines, body_lines, evidence_lines, HaveLinesFrom, HasBodyText, HasText, AreRemovedNumbers, AreBodyNumbers, IsEvidenceValue}
use Rattle.evidence_text.specs.Reading.{any_order, ordered_omitted}
use Rattle.evidence_text.proofs.SectionLaws.{CountLaw, IsForm, AllFit, entries_line, FitsAny, any_form, any_fit}
use Rattle.evidence_text.proofs.BodyLaws.{LineLaws}
use Rattle.evidence_text.proofs.TextLaws.{FitsOmitted, omitted_form, omitted_fit}

abbrev AreLines : List Fields → Type 0
AreLines lines = AllByRecursion IsLine lines

-- lines, one list after another
lines-append : (lines more : List Fields) → AreLines lines → AreLines more → AreLines (lines ++ more)
lines-append [] more each later = later
lines-append (l ∷ lines) more each later = (each.0, lines-append lines more each.1 later)

section_line : CountLaw → {X : Type 0} → (form : Option X → Fields → Option X) (spell : X → Fields) (Fits : Option X → X → Type 0) → IsForm form spell Fits
    → (w : List ℕ) (xs : List X) → is_plain w ≡ true → length xs < 2 ^ 64 → AllFit Fits None xs → AreLines (section_lines w spell xs)
section_line law form spell Fits forms w xs plain below fit = ((law w plain).line (length xs) tt below, entries_line form spell Fits forms None xs fit)

removed_line : LineLaws → (r : Removed) → AllByRecursion HasStepLine r.steps → AreRemovedNumbers r → AreLines (removed_lines r)
removed_line laws r has numbers = (
  (laws.rows None).line (r.row, length r.steps) refl (numbers.row, numbers.count),
  entries_line (any_order step_of) step_fields (FitsAny HasStepLine AreStepNumbers) (any_form step_of step_fields HasStepLine AreStepNumbers laws.steps) None r.steps
      (any_fit HasStepLine AreStepNumbers None r.steps has numbers.steps),
)

each_line : LineLaws → (rs : List Removed) → AllByRecursion (λ r. AllByRecursion HasStepLine r.steps) rs → AllByRecursion AreRemovedNumbers rs → AreLines (flat_map removed_lines rs)
each_line laws [] has numbers = tt
each_line laws (r ∷ rs) has numbers =
    subst (λ l. AreLines l) (sym (flat_map-cons removed_lines r rs)) (lines-append (removed_lines r) (flat_map removed_lines rs) (removed_line laws r has.0 numbers.0) (each_line laws rs has.1 numbers.1))

classes_line : LineLaws → (place : ℕ) (xs : List (List ℕ)) → HaveLinesFrom HasClassLine place xs → AllByRecursion AreElementNumbers xs → AreLines (lines_from class_fields place xs)
classes_line laws place [] has is = tt
classes_line laws place (x ∷ xs) has is = ((laws.classes place).line x has.0 is.0, classes_line laws (place + 1) xs has.1 is.1)

properties_line : LineLaws → (place : ℕ) (xs : List (List (ℕ × ℕ))) → HaveLinesFrom HasPropertyLine place xs → AllByRecursion ArePairNumbers xs → AreLines (lines_from property_fields place xs)
properties_line laws place [] has is = tt
properties_line laws place (x ∷ xs) has is = ((laws.properties place).line x has.0 is.0, properties_line laws (place + 1) xs has.1 is.1)

body_line : LineLaws → (k : Kind) (b : Body) → HasBodyText k b → AreBodyNumbers b → AreLines (body_lines b)
body_line laws kind.Diagnosis (body.Diagnosis removed model journal) has is =
    lines-append (rows_lines removed) (model_lines model ++ section_lines (codes "journal") entry_fields journal.entries)
    ((laws.counts (codes "removed") refl).line (length removed) tt is.0, each_line laws removed has.1 is.1)
    (lines-append (model_lines model) (section_lines (codes "journal") entry_fields journal.entries) (
      laws.size.line model.size tt is.2.size,
      lines-append (lines_from class_fields 0 model.classes) (lines_from property_fields 0 model.roles) (classes_line laws 0 model.classes has.2 is.2.classes) (properties_line laws 0 model.roles has.3 is.2.roles),
    )
    (section_line laws.counts (any_order entry_of) entry_fields (FitsAny HasEntryLine AreEntryNumbers) (any_form entry_of entry_fields HasEntryLine AreEntryNumbers laws.entries)
    (codes "journal") journal.entries refl is.3 (any_fit HasEntryLine AreEntryNumbers None journal.entries has.4 is.4)))
body_line laws kind.Diagnosis (body.Refusal steps) has is = absurd has
body_line laws (kind.Refusal p) (body.Diagnosis removed model journal) has is = absurd has
body_line laws (kind.Refusal p) (body.Refusal steps) has is =
    section_line laws.counts (any_order step_of) step_fields (FitsAny HasStepLine AreStepNumbers) (any_form step_of step_fields HasStepLine AreStepNumbers laws.steps)
    (codes "steps") steps refl is.0 (any_fit HasStepLine AreStepNumbers None steps has is.1)

-- all lines of evidence
pub evidence_line : LineLaws → (e : Evidence) → HasText e → IsEvidenceValue e → AreLines (evidence_lines e)
evidence_line laws e has is =
    let O = section_lines (codes "omitted") omitted_fields (omitted_list e.omitted) in
    let N = section_lines (codes "nodes") node_fields e.nodes in
    let R = section_lines (codes "roles") role_fields e.roles in
    let os = section_line laws.counts ordered_omitted omitted_fields FitsOmitted (omitted_form laws) (codes "omitted") (omitted_list e.omitted) refl is.omitted_count
    (omitted_fit None (omitted_list e.omitted) has.omitted is.omitted) in
    let ns = section_line laws.counts (any_order node_of) node_fields (FitsAny HasNodeLine IsNodeValue) (any_form node_of node_fields HasNodeLine IsNodeValue laws.nodes) (codes "nodes") e.nodes refl is.nodes_count
    (any_fit HasNodeLine IsNodeValue None e.nodes has.nodes is.nodes) in
    let rs = section_line laws.counts (any_order role_of) role_fields (FitsAny HasRoleLine IsRoleValue) (any_form role_of role_fields HasRoleLine IsRoleValue laws.roles) (codes "roles") e.roles refl is.roles_count
    (any_fit HasRoleLine IsRoleValue None e.roles has.roles is.roles) in (
      laws.version.line tt tt tt,
      (
        laws.kinds.line e.kind tt tt,
        lines-append (O ++ (N ++ R)) (body_lines e.body ++ end_fields ∷ [])
            (lines-append O (N ++ R) os (lines-append N R ns rs))
            (lines-append (body_lines e.body) (end_fields ∷ []) (body_line laws e.kind e.body has.body is.body) (laws.end.line tt tt tt, tt)),
      ),
    )

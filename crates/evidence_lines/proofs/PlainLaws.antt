-- The fields of lines have no space and no line feed.
use Rattle.std.proofs.Common.{◌≡◌, ◌≢◌, ℕ, ◌+◌, ◌^◌, ◌<◌, ◌&&◌, Bool, true, false, not, List, [], ◌∷◌, ◌++◌, refl, arith}
use Rattle.std.specs.Prelude.{decimal, codes}
use Rattle.std.specs.List.{AllByRecursion, list_all}
use Rattle.std.proofs.lemmas.Bool.Decides.{nat_tests}
use Rattle.std.proofs.lemmas.Bool.{and_parts, not-true}
use Rattle.el_logic.specs.declared.types.Side.{Side}
use Rattle.el_logic.specs.declared.types.Side.TheVariants as side
use Rattle.fact_table.specs.declared.types.Fact.{Fact}
use Rattle.fact_table.specs.declared.types.Fact.TheVariants.{Sub, Link}
use Rattle.fact_table.specs.declared.types.Rule.{Rule}
use Rattle.fact_table.specs.declared.types.Rule.TheVariants as rule
use Rattle.fact_table.specs.declared.types.Source.{Source}
use Rattle.fact_table.specs.declared.types.Source.TheVariants as source
use Rattle.derivation.specs.declared.types.Step.{Step}
use Rattle.ofn_heads.specs.declared.outside.HeadId.{HeadId}
use Rattle.ofn_heads.specs.declared.outside.HeadId.TheVariants as id
use Rattle.ofn_heads.specs.Heads.{name_of}
use Rattle.accuse_core.specs.declared.event.Event.{Event}
use Rattle.accuse_core.specs.declared.event.Event.TheVariants as event
use Rattle.accuse_core.specs.declared.event.Reply.{Reply}
use Rattle.accuse_core.specs.declared.event.Reply.TheVariants as reply
use Rattle.accuse_core.specs.declared.journal.Entry.{Entry}
use Rattle.line_fields.specs.Lines.{Fields, parts_fields, IsField, IsLine}
use Rattle.evidence_lines.specs.declared.types.NodeLine.{NodeLine}
use Rattle.evidence_lines.specs.declared.types.NodeLine.TheVariants as node
use Rattle.evidence_lines.specs.declared.types.RoleLine.{RoleLine}
use Rattle.evidence_lines.specs.declared.types.RoleLine.TheVariants as role
use Rattle.evidence_lines.specs.declared.types.SidedOmitted.{SidedOmitted}
use Rattle.evidence_lines.specs.Steps.{fact_fields, rule_word, names_first, names_second, premise_fields, source_fields, argument_fields, step_fields, AreFactNumbers, AreSourceNumbers, AreStepNumbers}
use Rattle.evidence_lines.specs.Names.{iri_field, is_iri_byte, is_iri, side_word, node_fields, role_fields, HasNodeLine, HasRoleLine, IsNodeValue, IsRoleValue}
use Rattle.evidence_lines.specs.Omitted.{omitted_fields, ArePlaceNumbers}
use Rattle.evidence_lines.specs.Journal.{event_fields, reply_fields, entry_fields, AreEventNumbers, AreReplyNumbers, AreEntryNumbers}
use Rattle.evidence_lines.specs.Model.{element_fields, pair_fields, class_fields, property_fields, AreElementNumbers, ArePairNumbers}
use Rattle.evidence_lines.proofs.Found.{NumberLaw}

abbrev AreFields : Fields → Type 0
AreFields fields = AllByRecursion IsField fields

-- bytes that pass the test are a field
pub word : (bytes : List ℕ) → list_all (λ b. not (parts_fields b)) bytes ≡ true → IsField bytes
word [] e = tt
word (b ∷ bs) e = let h = and_parts (not (parts_fields b)) (list_all (λ b. not (parts_fields b)) bs) e in (not-true (parts_fields b) h.0, word bs h.1)

fields-append : (fields more : Fields) → AreFields fields → AreFields more → AreFields (fields ++ more)
fields-append [] more each later = later
fields-append (field ∷ fields) more each later = (each.0, fields-append fields more each.1 later)

-- a number below 2 ^ 32
short : NumberLaw → (n : ℕ) → n < 2 ^ 32 → IsField (decimal n)
short law n below = law.field n (omega arith)

-- ---- steps

fact_plain : NumberLaw → (f : Fact) → AreFactNumbers f → AreFields (fact_fields f)
fact_plain law (Sub a b) fits = (word (codes "sub") refl, (short law a fits.0, (short law b fits.1, tt)))
fact_plain law (Link a r b) fits = (word (codes "link") refl, (short law a fits.0, (short law r fits.1, (short law b fits.2, tt))))

rule_plain : (r : Rule) → IsField (rule_word r)
rule_plain rule.Itself = word (rule_word rule.Itself) refl
rule_plain rule.Top = word (rule_word rule.Top) refl
rule_plain rule.Incl = word (rule_word rule.Incl) refl
rule_plain rule.Left = word (rule_word rule.Left) refl
rule_plain rule.Right = word (rule_word rule.Right) refl
rule_plain rule.Both = word (rule_word rule.Both) refl
rule_plain rule.Out = word (rule_word rule.Out) refl
rule_plain rule.Into = word (rule_word rule.Into) refl
rule_plain rule.Void = word (rule_word rule.Void) refl
rule_plain rule.Role = word (rule_word rule.Role) refl
rule_plain rule.Chain = word (rule_word rule.Chain) refl
rule_plain rule.Refl = word (rule_word rule.Refl) refl
rule_plain rule.Dom = word (rule_word rule.Dom) refl
rule_plain rule.Disj = word (rule_word rule.Disj) refl

premise_plain : NumberLaw → (named : Bool) (n : ℕ) → n < 2 ^ 64 → AreFields (premise_fields named n)
premise_plain law true n below = (law.field n below, tt)
premise_plain law false n below = tt

source_plain : NumberLaw → (s : Source) → AreSourceNumbers s → AreFields (source_fields s)
source_plain law (source.Left number) fits = (word (codes "left") refl, (short law number fits, tt))
source_plain law (source.Right number) fits = (word (codes "right") refl, (short law number fits, tt))
source_plain law (source.Row row number) fits = (word (codes "row") refl, (short law row fits.0, (short law number fits.1, tt)))
source_plain law source.Nothing fits = tt

some_fact : (f : Fact) (more : Fields) → fact_fields f ++ more ≢ []
some_fact (Sub a b) more e = absurd cc
some_fact (Link a r b) more e = absurd cc

pub step_line : NumberLaw → (step : Step) → AreStepNumbers step → IsLine (step_fields step)
step_line law step fits = record {
  some = some_fact step.fact (rule_word step.rule ∷ argument_fields step);
  each = fields-append (fact_fields step.fact) (rule_word step.rule ∷ argument_fields step) (fact_plain law step.fact fits.fact) (
    rule_plain step.rule,
    fields-append (premise_fields (names_first step.rule) step.first) (premise_fields (names_second step.rule) step.second ++ source_fields step.source)
        (premise_plain law (names_first step.rule) step.first fits.first)
        (fields-append (premise_fields (names_second step.rule) step.second) (source_fields step.source)
        (premise_plain law (names_second step.rule) step.second fits.second) (source_plain law step.source fits.source)),
  );
}

-- ---- nodes and roles

iri_byte_plain : (b : ℕ) → is_iri_byte b ≡ true → parts_fields b ≡ false
iri_byte_plain b e = grind (arith, nat_tests, e)

iri_rest : (iri : List ℕ) → is_iri iri ≡ true → IsField (iri ++ 62 ∷ [])
iri_rest [] e = (refl, tt)
iri_rest (b ∷ bs) e = let h = and_parts (is_iri_byte b) (is_iri bs) e in (iri_byte_plain b h.0, iri_rest bs h.1)

iri_plain : (iri : List ℕ) → is_iri iri ≡ true → IsField (iri_field iri)
iri_plain iri e = (refl, iri_rest iri e)

pub not_nil : (field : List ℕ) (fields : Fields) → (field ∷ fields) ≢ []
not_nil field fields e = absurd cc

pub node_line : NumberLaw → (n : NodeLine) → HasNodeLine n → IsNodeValue n → IsLine (node_fields n)
node_line law node.Top has is = record { some = not_nil (codes "top") []; each = (word (codes "top") refl, tt) }
node_line law node.Bottom has is = record { some = not_nil (codes "bottom") []; each = (word (codes "bottom") refl, tt) }
node_line law (node.Class iri) has is = record { some = not_nil (codes "class") (iri_field iri ∷ []); each = (word (codes "class") refl, (iri_plain iri has, tt)) }
node_line law (node.And i j) has is =
    record { some = not_nil (codes "and") (decimal i ∷ decimal j ∷ []); each = (word (codes "and") refl, (short law i is.0, (short law j is.1, tt))) }
node_line law (node.Exists r i) has is =
    record { some = not_nil (codes "some") (decimal r ∷ decimal i ∷ []); each = (word (codes "some") refl, (short law r is.0, (short law i is.1, tt))) }

side_plain : (s : Side) → IsField (side_word s)
side_plain side.Left = word (codes "left") refl
side_plain side.Right = word (codes "right") refl

pub role_line : NumberLaw → (r : RoleLine) → HasRoleLine r → IsRoleValue r → IsLine (role_fields r)
role_line law (role.Property iri) has is = record { some = not_nil (codes "property") (iri_field iri ∷ []); each = (word (codes "property") refl, (iri_plain iri has, tt)) }
role_line law (role.Part s number length) has is = record {
  some = not_nil (codes "part") (side_word s ∷ decimal number ∷ decimal length ∷ []);
  each = (word (codes "part") refl, (side_plain s, (short law number is.0, (short law length is.1, tt))));
}

-- ---- axioms that are left out

head_plain : (h : HeadId) → IsField (name_of h)
head_plain id.DisjointUnion = word (name_of id.DisjointUnion) refl
head_plain id.ObjectPropertyRange = word (name_of id.ObjectPropertyRange) refl
head_plain id.DisjointObjectProperties = word (name_of id.DisjointObjectProperties) refl
head_plain id.InverseObjectProperties = word (name_of id.InverseObjectProperties) refl
head_plain id.FunctionalObjectProperty = word (name_of id.FunctionalObjectProperty) refl
head_plain id.InverseFunctionalObjectProperty = word (name_of id.InverseFunctionalObjectProperty) refl
head_plain id.IrreflexiveObjectProperty = word (name_of id.IrreflexiveObjectProperty) refl
head_plain id.SymmetricObjectProperty = word (name_of id.SymmetricObjectProperty) refl
head_plain id.AsymmetricObjectProperty = word (name_of id.AsymmetricObjectProperty) refl
head_plain id.SubDataPropertyOf = word (name_of id.SubDataPropertyOf) refl
head_plain id.EquivalentDataProperties = word (name_of id.EquivalentDataProperties) refl
head_plain id.DisjointDataProperties = word (name_of id.DisjointDataProperties) refl
head_plain id.DataPropertyDomain = word (name_of id.DataPropertyDomain) refl
head_plain id.DataPropertyRange = word (name_of id.DataPropertyRange) refl
head_plain id.FunctionalDataProperty = word (name_of id.FunctionalDataProperty) refl
head_plain id.DatatypeDefinition = word (name_of id.DatatypeDefinition) refl
head_plain id.HasKey = word (name_of id.HasKey) refl
head_plain id.SameIndividual = word (name_of id.SameIndividual) refl
head_plain id.DifferentIndividuals = word (name_of id.DifferentIndividuals) refl
head_plain id.ClassAssertion = word (name_of id.ClassAssertion) refl
head_plain id.ObjectPropertyAssertion = word (name_of id.ObjectPropertyAssertion) refl
head_plain id.NegativeObjectPropertyAssertion = word (name_of id.NegativeObjectPropertyAssertion) refl
head_plain id.DataPropertyAssertion = word (name_of id.DataPropertyAssertion) refl
head_plain id.NegativeDataPropertyAssertion = word (name_of id.NegativeDataPropertyAssertion) refl
head_plain id.ObjectUnionOf = word (name_of id.ObjectUnionOf) refl
head_plain id.ObjectComplementOf = word (name_of id.ObjectComplementOf) refl
head_plain id.ObjectOneOf = word (name_of id.ObjectOneOf) refl
head_plain id.ObjectAllValuesFrom = word (name_of id.ObjectAllValuesFrom) refl
head_plain id.ObjectHasValue = word (name_of id.ObjectHasValue) refl
head_plain id.ObjectHasSelf = word (name_of id.ObjectHasSelf) refl
head_plain id.ObjectMinCardinality = word (name_of id.ObjectMinCardinality) refl
head_plain id.ObjectMaxCardinality = word (name_of id.ObjectMaxCardinality) refl
head_plain id.ObjectExactCardinality = word (name_of id.ObjectExactCardinality) refl
head_plain id.DataSomeValuesFrom = word (name_of id.DataSomeValuesFrom) refl
head_plain id.DataAllValuesFrom = word (name_of id.DataAllValuesFrom) refl
head_plain id.DataHasValue = word (name_of id.DataHasValue) refl
head_plain id.DataMinCardinality = word (name_of id.DataMinCardinality) refl
head_plain id.DataMaxCardinality = word (name_of id.DataMaxCardinality) refl
head_plain id.DataExactCardinality = word (name_of id.DataExactCardinality) refl
head_plain id.ObjectInverseOf = word (name_of id.ObjectInverseOf) refl
head_plain id.DataIntersectionOf = word (name_of id.DataIntersectionOf) refl
head_plain id.DataUnionOf = word (name_of id.DataUnionOf) refl
head_plain id.DataComplementOf = word (name_of id.DataComplementOf) refl
head_plain id.DataOneOf = word (name_of id.DataOneOf) refl
head_plain id.DatatypeRestriction = word (name_of id.DatatypeRestriction) refl
head_plain id.Import = word (name_of id.Import) refl
head_plain id.DLSafeRule = word (name_of id.DLSafeRule) refl
head_plain id.TopObjectProperty = word (name_of id.TopObjectProperty) refl
head_plain id.BottomObjectProperty = word (name_of id.BottomObjectProperty) refl

pub omitted_line : NumberLaw → (o : SidedOmitted) → ArePlaceNumbers o → IsLine (omitted_fields o)
omitted_line law o fits = record {
  some = not_nil (side_word o.side) (decimal o.omitted.place.line ∷ decimal o.omitted.place.column ∷ name_of o.omitted.head ∷ []);
  each = (side_plain o.side, (law.field o.omitted.place.line fits.line, (law.field o.omitted.place.column fits.column, (head_plain o.omitted.head, tt))));
}

-- ---- journals

event_plain : NumberLaw → (e : Event) → AreEventNumbers e → AreFields (event_fields e)
event_plain law (event.Take worker rank) fits = (short law worker fits.0, (word (codes "take") refl, (short law rank fits.1, tt)))
event_plain law (event.TakeFront worker) fits = (short law worker fits, (word (codes "front") refl, tt))
event_plain law (event.No worker rank seen) fits = (short law worker fits.0, (word (codes "no") refl, (short law rank fits.1, (short law seen fits.2, tt))))
event_plain law (event.Yes worker rank seen) fits = (short law worker fits.0, (word (codes "yes") refl, (short law rank fits.1, (short law seen fits.2, tt))))
event_plain law (event.Block worker rank count seen) fits =
    (short law worker fits.0, (word (codes "block") refl, (short law rank fits.1, (short law count fits.2, (short law seen fits.3, tt)))))

reply_plain : NumberLaw → (r : Reply) → AreReplyNumbers r → AreFields (reply_fields r)
reply_plain law reply.Over fits = (word (codes "over") refl, tt)
reply_plain law (reply.Seen seen) fits = (word (codes "seen") refl, (short law seen fits, tt))
reply_plain law reply.Done fits = (word (codes "done") refl, tt)
reply_plain law (reply.Front rank seen) fits = (short law rank fits.0, (short law seen fits.1, tt))
reply_plain law reply.Late fits = (word (codes "late") refl, tt)
reply_plain law reply.Marked fits = (word (codes "marked") refl, tt)
reply_plain law (reply.Stale kept) fits = (word (codes "stale") refl, (short law kept fits, tt))
reply_plain law reply.Kept fits = (word (codes "kept") refl, tt)
reply_plain law reply.Far fits = (word (codes "far") refl, tt)
reply_plain law reply.Noted fits = (word (codes "noted") refl, tt)

some_event : (e : Event) (more : Fields) → event_fields e ++ more ≢ []
some_event (event.Take worker rank) more e = absurd cc
some_event (event.TakeFront worker) more e = absurd cc
some_event (event.No worker rank seen) more e = absurd cc
some_event (event.Yes worker rank seen) more e = absurd cc
some_event (event.Block worker rank count seen) more e = absurd cc

pub entry_line : NumberLaw → (e : Entry) → AreEntryNumbers e → IsLine (entry_fields e)
entry_line law e fits = record {
  some = some_event e.event (reply_fields e.reply);
  each = fields-append (event_fields e.event) (reply_fields e.reply) (event_plain law e.event fits.event) (reply_plain law e.reply fits.reply);
}

-- ---- models

elements_plain : NumberLaw → (xs : List ℕ) → AreElementNumbers xs → AreFields (element_fields xs)
elements_plain law [] fits = tt
elements_plain law (x ∷ xs) fits = (short law x fits.0, elements_plain law xs fits.1)

pairs_plain : NumberLaw → (ps : List (ℕ × ℕ)) → ArePairNumbers ps → AreFields (pair_fields ps)
pairs_plain law [] fits = tt
pairs_plain law (p ∷ ps) fits = (short law p.0 fits.0, (short law p.1 fits.1, pairs_plain law ps fits.2))

pub members_line : NumberLaw → (place : ℕ) (xs : List ℕ) → place + 2 < 2 ^ 32 → AreElementNumbers xs → IsLine (class_fields place xs)
members_line law place xs below fits = record {
  some = not_nil (codes "class") (decimal (place + 2) ∷ element_fields xs);
  each = (word (codes "class") refl, (short law (place + 2) below, elements_plain law xs fits));
}

pub pairs_line : NumberLaw → (place : ℕ) (ps : List (ℕ × ℕ)) → place < 2 ^ 32 → ArePairNumbers ps → IsLine (property_fields place ps)
pairs_line law place ps below fits = record {
  some = not_nil (codes "role") (decimal place ∷ pair_fields ps);
  each = (word (codes "role") refl, (short law place below, pairs_plain law ps fits));
}

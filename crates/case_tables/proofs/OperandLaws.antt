-- The entries of a disjointness's operands, of domains and of reflexive roles.
use Rattle.std.proofs.Common.{◌≡◌, ◌∙◌, ℕ, zero, suc, ◌+◌, List, [], ◌∷◌, Some, slice_get, Contains, sym, ap, subst, arith}
use Rattle.std.proofs.lemmas.Option.{none-some}
use Rattle.concept_store.specs.declared.types.NodeAxiom.{NodeAxiom}
use Rattle.concept_store.specs.declared.types.NodeAxiom.TheVariants as N
use Rattle.fact_table.specs.declared.types.Source.{Source}
use Rattle.el_rules.specs.Saying.{Separates, HasDomain, MakesReflexive}
use Rattle.case_tables.specs.declared.types.Operand.{Operand}
use Rattle.case_tables.specs.declared.types.RoleDomain.{RoleDomain}
use Rattle.case_tables.specs.declared.types.Reflexive.{Reflexive}
use Rattle.case_tables.specs.Entries.{operand, operands_from, operands_said, domains_said, reflexive_said}
use Rattle.case_tables.specs.Named.{IsOperandAt}
use Rattle.case_tables.proofs.Members.{none, only, later, some_is}

-- operands from a position on
from_has : (source : Source) (position : ℕ) (nodes : List ℕ) (key : ℕ) (entry : Operand) → Contains (operands_from source position nodes) (key, entry) → (source ≡ entry.source) × ((k : ℕ) × (entry.position ≡ position + k) × (slice_get nodes k ≡ Some key))
from_has source position [] key entry in' = absurd (none (key, entry) in')
from_has source position (node ∷ nodes) key entry (zero, within, at) =
    let e : position ≡ position + 0 = omega arith in
    (ap (λ p. p.1.source) at, (0, sym (ap (λ p. p.1.position) at) ∙ e, ap (λ p. Some (p.0)) at))
from_has source position (node ∷ nodes) key entry (suc k, within, at) =
    let rest = from_has source (position + 1) nodes key entry (k, omega (arith, within), at) in
    let place = rest.1 in
    let e : position + 1 + place.0 ≡ position + suc (place.0) = omega arith in
    (rest.0, (suc (place.0), place.1 ∙ e, place.2))

has_from : (source : Source) (position : ℕ) (nodes : List ℕ) (k key : ℕ) → slice_get nodes k ≡ Some key → Contains (operands_from source position nodes) (key, operand source (position + k))
has_from source position [] k key at = absurd (none-some key at)
has_from source position (node ∷ nodes) zero key at =
    let e : position ≡ position + 0 = omega arith in
    (0, omega arith, λ i. (some_is node key at i, operand source (e i)))
has_from source position (node ∷ nodes) (suc k) key at =
    let rest = operands_from source (position + 1) nodes in
    let e : position + 1 + k ≡ position + suc k = omega arith in
    later (node, operand source position) rest (key, operand source (position + suc k))
    (subst (λ n. Contains rest (key, operand source n)) e (has_from source (position + 1) nodes k key at))

-- operands of a disjointness
pub operand_has : (source : Source) (axiom' : NodeAxiom) (key : ℕ) (entry : Operand) → Contains (operands_said source axiom') (key, entry) → (source ≡ entry.source) × IsOperandAt axiom' entry.position key
operand_has source (N.Disjoint nodes) key entry in' =
    let found = from_has source 0 nodes key entry in' in
    let place = found.1 in
    let e : place.0 ≡ entry.position = omega (arith, place.1) in
    (found.0, subst (λ n. slice_get nodes n ≡ Some key) e place.2)
operand_has source _ key entry in' = absurd (none (key, entry) in')

pub has_operand : (axiom' : NodeAxiom) (key : ℕ) (entry : Operand) → IsOperandAt axiom' entry.position key → Contains (operands_said entry.source axiom') (key, entry)
has_operand (N.Disjoint nodes) key entry at =
    let e : 0 + entry.position ≡ entry.position = omega arith in
    subst (λ n. Contains (operands_from entry.source 0 nodes) (key, operand entry.source n)) e (has_from entry.source 0 nodes entry.position key at)
has_operand _ key entry at = absurd at

-- two positions of a disjointness are what it separates
pub separates_at : (axiom' : NodeAxiom) (one other : ℕ) → Separates axiom' one other → (i j : ℕ) × (i ≡ j → ⊥) × IsOperandAt axiom' i one × IsOperandAt axiom' j other
separates_at (N.Disjoint nodes) one other says = says
separates_at _ one other says = absurd says

pub at_separates : (axiom' : NodeAxiom) (one other : ℕ) → (i j : ℕ) × (i ≡ j → ⊥) × IsOperandAt axiom' i one × IsOperandAt axiom' j other → Separates axiom' one other
at_separates (N.Disjoint nodes) one other says = says
at_separates _ one other (i, j, apart, is, is') = absurd is

-- domains
pub domain_has : (source : Source) (axiom' : NodeAxiom) (key : ℕ) (entry : RoleDomain) → Contains (domains_said source axiom') (key, entry) → (source ≡ entry.source) × HasDomain axiom' key entry.domain
domain_has source (N.Domain role node) key entry in' =
    let same = only (role, record { domain = node; source = source }) (key, entry) in' in
    (ap (λ p. p.1.source) same, (ap (λ p. p.0) same, ap (λ p. p.1.domain) same))
domain_has source _ key entry in' = absurd (none (key, entry) in')

pub has_domain : (axiom' : NodeAxiom) (key : ℕ) (entry : RoleDomain) → HasDomain axiom' key entry.domain → Contains (domains_said entry.source axiom') (key, entry)
has_domain (N.Domain role node) key entry says =
    (0, omega arith, λ i. (says.0 i, record { domain = says.1 i; source = entry.source }))
has_domain _ key entry says = absurd says

-- reflexive roles
pub reflexive_has : (source : Source) (axiom' : NodeAxiom) (key : ℕ) (entry : Reflexive) → Contains (reflexive_said source axiom') (key, entry) → (source ≡ entry.source) × MakesReflexive axiom' key
reflexive_has source (N.Reflexive role) key entry in' =
    let same = only (role, record { source = source }) (key, entry) in' in
    (ap (λ p. p.1.source) same, ap (λ p. p.0) same)
reflexive_has source _ key entry in' = absurd (none (key, entry) in')

pub has_reflexive : (axiom' : NodeAxiom) (key : ℕ) (entry : Reflexive) → MakesReflexive axiom' key → Contains (reflexive_said entry.source axiom') (key, entry)
has_reflexive (N.Reflexive role) key entry says = (0, omega arith, λ i. (says i, record { source = entry.source }))
has_reflexive _ key entry says = absurd says

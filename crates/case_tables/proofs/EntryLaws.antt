-- The entries of a key are what the axioms of a case say of it.
use Rattle.std.proofs.Common.{◌≡◌, ℕ, List, [], ◌∷◌, map, Contains, sym, ap, subst, arith}
use Rattle.concept_store.specs.declared.types.NodeAxiom.{NodeAxiom}
use Rattle.concept_store.specs.declared.types.NodeAxiom.TheVariants as N
use Rattle.fact_table.specs.declared.types.Source.{Source}
use Rattle.el_rules.specs.Saying.{Includes, IncludesRole}
use Rattle.case_file.specs.Cases.{CaseView}
use Rattle.case_tables.specs.declared.types.Inclusion.{Inclusion}
use Rattle.case_tables.specs.declared.types.RoleInclusion.{RoleInclusion}
use Rattle.case_tables.specs.Keyed.{of_key}
use Rattle.case_tables.specs.Entries.{inclusion, role_inclusion, each_with_each, inclusions_said, single_said, role_inclusions_said}
use Rattle.case_tables.specs.Tables.{said_in, named_axioms}
use Rattle.case_tables.specs.Named.{IsNamedIn}
use Rattle.case_tables.proofs.Members.{none, only, of_key_has, has_of_key, in_flat, flat_in, in_map, map_in}
use Rattle.case_tables.proofs.NamedLaws.{has_source, source_has}

-- a table over axioms, by what one axiom says
module _ {T : Type 0} (said : Source → NodeAxiom → List (ℕ × T)) (source_of : T → Source) (Says : NodeAxiom → ℕ → T → Type 0) where
  pub said_has : ((source : Source) (axiom' : NodeAxiom) (key : ℕ) (entry : T) → Contains (said source axiom') (key, entry) → (source ≡ source_of entry) × Says axiom' key entry) →
      (case : CaseView) (key : ℕ) (entry : T) → Contains (of_key (said_in said case) key) entry → (axiom' : NodeAxiom) × IsNamedIn case (source_of entry) axiom' × Says axiom' key entry
  said_has one case key entry in' =
      let found = in_flat (λ named. said named.0 named.1) (named_axioms case) (key, entry) (of_key_has (said_in said case) key entry in') in
      let source = found.0.0 in
      let axiom' = found.0.1 in
      let says = one source axiom' key entry found.2 in
      (axiom', subst (λ s. IsNamedIn case s axiom') says.0 (has_source case source axiom' found.1), says.1)

  pub has_said : ((axiom' : NodeAxiom) (key : ℕ) (entry : T) → Says axiom' key entry → Contains (said (source_of entry) axiom') (key, entry)) →
      (case : CaseView) (key : ℕ) (entry : T) → (axiom' : NodeAxiom) × IsNamedIn case (source_of entry) axiom' × Says axiom' key entry → Contains (of_key (said_in said case) key) entry
  has_said one case key entry (axiom', named, says) =
      has_of_key (said_in said case) key entry
      (flat_in (λ named'. said named'.0 named'.1) (named_axioms case) (key, entry) (source_of entry, axiom') (source_has case (source_of entry) axiom' named) (one axiom' key entry says))

-- each number with each
module _ {T : Type 0} (entry : ℕ → T) (numbers : List ℕ) where
  pub each_has : (key : ℕ) (found : T) → Contains (each_with_each entry numbers) (key, found) → Contains numbers key × ((other : ℕ) × Contains numbers other × (entry other ≡ found))
  each_has key found in' =
      let one = in_flat (λ k. map (λ other. (k, entry other)) numbers) numbers (key, found) in' in
      let two = in_map (λ other. (one.0, entry other)) numbers (key, found) one.2 in
      (subst (Contains numbers) (ap (λ p. p.0) two.2) one.1, (two.0, two.1, ap (λ p. p.1) two.2))

  pub has_each : (key other : ℕ) → Contains numbers key → Contains numbers other → Contains (each_with_each entry numbers) (key, entry other)
  has_each key other one two =
      flat_in (λ k. map (λ other'. (k, entry other')) numbers) numbers (key, entry other) key one
      (map_in (λ other'. (key, entry other')) numbers other two)

-- inclusions of nodes
pub inclusion_has : (source : Source) (axiom' : NodeAxiom) (key : ℕ) (entry : Inclusion) → Contains (inclusions_said source axiom') (key, entry) → (source ≡ entry.source) × Includes axiom' key entry.into
inclusion_has source (N.SubClass low high) key entry in' =
    let same = only (low, inclusion source high) (key, entry) in' in
    (ap (λ p. p.1.source) same, (ap (λ p. p.0) same, ap (λ p. p.1.into) same))
inclusion_has source (N.Equivalent nodes) key entry in' =
    let found = each_has (inclusion source) nodes key entry in' in
    let same = found.1.2 in
    (ap (λ e. e.source) same, (found.0, subst (Contains nodes) (ap (λ e. e.into) same) found.1.1))
inclusion_has source _ key entry in' = absurd (none (key, entry) in')

pub has_inclusion : (axiom' : NodeAxiom) (key : ℕ) (entry : Inclusion) → Includes axiom' key entry.into → Contains (inclusions_said entry.source axiom') (key, entry)
has_inclusion (N.SubClass low high) key entry says =
    (0, omega arith, λ i. (says.0 i, record { into = says.1 i; source = entry.source }))
has_inclusion (N.Equivalent nodes) key entry says = has_each (inclusion entry.source) nodes key entry.into says.0 says.1
has_inclusion _ key entry says = absurd says

-- inclusions of roles
single_has : (source : Source) (chain : List ℕ) (into : ℕ) (key : ℕ) (entry : RoleInclusion) → Contains (single_said source chain into) (key, entry) → (source ≡ entry.source) × ((chain ≡ key ∷ []) × (into ≡ entry.into))
single_has source [] into key entry in' = absurd (none (key, entry) in')
single_has source (role ∷ []) into key entry in' =
    let same = only (role, role_inclusion source into) (key, entry) in' in
    (ap (λ p. p.1.source) same, (ap (λ p. p.0 ∷ []) same, ap (λ p. p.1.into) same))
single_has source (role ∷ next ∷ rest) into key entry in' = absurd (none (key, entry) in')

pub role_inclusion_has : (source : Source) (axiom' : NodeAxiom) (key : ℕ) (entry : RoleInclusion) → Contains (role_inclusions_said source axiom') (key, entry) → (source ≡ entry.source) × IncludesRole axiom' key entry.into
role_inclusion_has source (N.SubRole chain into part) key entry in' = single_has source chain into key entry in'
role_inclusion_has source (N.EquivalentRoles roles) key entry in' =
    let found = each_has (role_inclusion source) roles key entry in' in
    let same = found.1.2 in
    (ap (λ e. e.source) same, (found.0, subst (Contains roles) (ap (λ e. e.into) same) found.1.1))
role_inclusion_has source _ key entry in' = absurd (none (key, entry) in')

pub has_role_inclusion : (axiom' : NodeAxiom) (key : ℕ) (entry : RoleInclusion) → IncludesRole axiom' key entry.into → Contains (role_inclusions_said entry.source axiom') (key, entry)
has_role_inclusion (N.SubRole chain into part) key entry says =
    subst (λ roles. Contains (single_said entry.source roles into) (key, entry)) (sym says.0)
    (0, omega arith, λ i. (key, record { into = says.1 i; source = entry.source }))
has_role_inclusion (N.EquivalentRoles roles) key entry says = has_each (role_inclusion entry.source) roles key entry.into says.0 says.1
has_role_inclusion _ key entry says = absurd says

-- The entries of joins.
use Rattle.std.proofs.Common.{◌≡◌, ◌∙◌, ℕ, zero, suc, ◌+◌, inl, inr, List, [], ◌∷◌, Contains, refl, sym, ap, subst, arith}
use Rattle.concept_store.specs.declared.types.NodeAxiom.{NodeAxiom}
use Rattle.concept_store.specs.declared.types.NodeAxiom.TheVariants as N
use Rattle.fact_table.specs.declared.types.Source.{Source}
use Rattle.el_rules.specs.Saying.{Joins, JoinsAlong}
use Rattle.case_tables.specs.declared.types.Join.{Join}
use Rattle.case_file.specs.Cases.{CaseView}
use Rattle.case_tables.specs.Keyed.{of_key}
use Rattle.case_tables.specs.Entries.{join, joins_along, joins_said, by_second}
use Rattle.case_tables.specs.Tables.{said_in}
use Rattle.case_tables.specs.Named.{IsNamedIn}
use Rattle.case_tables.proofs.Members.{none, only, later, of_key_has, has_of_key, in_map, map_in}
use Rattle.case_tables.proofs.EntryLaws.{said_has, has_said}

-- what an entry says is that its roles are joined, by its source and with its first role as key
abbrev pub JoinsOf : NodeAxiom → ℕ → Join → Type 0
JoinsOf axiom' key entry = (key ≡ entry.first) × Joins axiom' entry.first entry.second entry.into

-- the joins along a chain
along_has : (source : Source) (front : ℕ) (rest : List ℕ) (part into key : ℕ) (entry : Join) → Contains (joins_along source front rest part into) (key, entry) →
    (source ≡ entry.source) × ((key ≡ entry.first) × JoinsAlong front rest part into entry.first entry.second entry.into)
along_has source front [] part into key entry in' = absurd (none (key, entry) in')
along_has source front (next ∷ []) part into key entry in' =
    let same = only (front, join source front next into) (key, entry) in' in
    (ap (λ p. p.1.source) same, (sym (ap (λ p. p.0) same) ∙ ap (λ p. p.1.first) same, (ap (λ p. p.1.first) same, ap (λ p. p.1.second) same, ap (λ p. p.1.into) same)))
along_has source front (next ∷ more ∷ rest) part into key entry (zero, within, same) =
    (ap (λ p. p.1.source) same, (sym (ap (λ p. p.0) same) ∙ ap (λ p. p.1.first) same, inl (ap (λ p. p.1.first) same, ap (λ p. p.1.second) same, ap (λ p. p.1.into) same)))
along_has source front (next ∷ more ∷ rest) part into key entry (suc k, within, same) =
    let found = along_has source part (more ∷ rest) (part + 1) into key entry (k, omega (arith, within), same) in
    (found.0, (found.1.0, inr found.1.1))

joined : (source : Source) (front next into one two three : ℕ) → front ≡ one → next ≡ two → into ≡ three → ◌≡◌ {A = ℕ × Join} (front, join source front next into) (one, join source one two three)
joined source front next into one two three a b c i = (a i, join source (a i) (b i) (c i))

has_along : (source : Source) (front : ℕ) (rest : List ℕ) (part into one two three : ℕ) → JoinsAlong front rest part into one two three → Contains (joins_along source front rest part into) (one, join source one two three)
has_along source front [] part into one two three says = absurd says
has_along source front (next ∷ []) part into one two three (a, b, c) = (0, omega arith, joined source front next into one two three a b c)
has_along source front (next ∷ more ∷ rest) part into one two three (inl (a, b, c)) = (0, omega arith, joined source front next part one two three a b c)
has_along source front (next ∷ more ∷ rest) part into one two three (inr says) =
    later (front, join source front next part) (joins_along source part (more ∷ rest) (part + 1) into) (one, join source one two three)
    (has_along source part (more ∷ rest) (part + 1) into one two three says)

-- the joins of an axiom
pub join_has : (source : Source) (axiom' : NodeAxiom) (key : ℕ) (entry : Join) → Contains (joins_said source axiom') (key, entry) → (source ≡ entry.source) × JoinsOf axiom' key entry
join_has source (N.Transitive role) key entry in' =
    let same = only (role, join source role role role) (key, entry) in' in
    (ap (λ p. p.1.source) same, (sym (ap (λ p. p.0) same) ∙ ap (λ p. p.1.first) same, (ap (λ p. p.1.first) same, ap (λ p. p.1.second) same, ap (λ p. p.1.into) same)))
join_has source (N.SubRole [] into part) key entry in' = absurd (none (key, entry) in')
join_has source (N.SubRole (role ∷ rest) into part) key entry in' = along_has source role rest part into key entry in'
join_has source _ key entry in' = absurd (none (key, entry) in')

pub has_join : (axiom' : NodeAxiom) (key : ℕ) (entry : Join) → JoinsOf axiom' key entry → Contains (joins_said entry.source axiom') (key, entry)
has_join (N.Transitive role) key entry (at, (a, b, c)) =
    subst (λ k. Contains (joins_said entry.source (N.Transitive role)) (k, entry)) (sym at)
    (0, omega arith, joined entry.source role role role entry.first entry.second entry.into a b c)
has_join (N.SubRole [] into part) key entry (at, says) = absurd says
has_join (N.SubRole (role ∷ rest) into part) key entry (at, says) =
    subst (λ k. Contains (joins_along entry.source role rest part into) (k, entry)) (sym at)
    (has_along entry.source role rest part into entry.first entry.second entry.into says)
has_join _ key entry (at, says) = absurd says

-- the same joins by their second role
pub second_has : (case : CaseView) (role : ℕ) (entry : Join) → Contains (of_key (by_second (said_in joins_said case)) role) entry →
    (axiom' : NodeAxiom) × IsNamedIn case entry.source axiom' × ((role ≡ entry.second) × Joins axiom' entry.first entry.second entry.into)
second_has case role entry in' =
    let pairs = said_in joins_said case in
    let found = in_map (λ pair. (pair.1.second, pair.1)) pairs (role, entry) (of_key_has (by_second pairs) role entry in') in
    let same = ap (λ p. p.1) found.2 in
    let key = found.0.0 in
    let there = subst (λ e. Contains pairs (key, e)) same found.1 in
    let says = said_has joins_said (λ e. e.source) JoinsOf join_has case key entry (has_of_key pairs key entry there) in
    (says.0, says.1, (sym (ap (λ p. p.0) found.2) ∙ ap (λ e. e.second) same, says.2.1))

pub has_second : (case : CaseView) (role : ℕ) (entry : Join) →
    (axiom' : NodeAxiom) × IsNamedIn case entry.source axiom' × ((role ≡ entry.second) × Joins axiom' entry.first entry.second entry.into) → Contains (of_key (by_second (said_in joins_said case)) role) entry
has_second case role entry (axiom', named, says) =
    let pairs = said_in joins_said case in
    let there = has_said joins_said (λ e. e.source) JoinsOf has_join case entry.first entry (axiom', named, (refl, says.1)) in
    has_of_key (by_second pairs) role entry
    (subst (λ k. Contains (by_second pairs) (k, entry)) (sym says.0)
    (map_in (λ pair. (pair.1.second, pair.1)) pairs (entry.first, entry) (of_key_has pairs entry.first entry there)))

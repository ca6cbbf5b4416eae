-- What an axiom or a node says of a key, as entries with their keys.
use Rattle.std.specs.Prelude.{ℕ, ◌+◌, true, false, List, [], ◌∷◌, map, flat_map}
use Rattle.concept_store.specs.declared.types.Node.{Node}
use Rattle.concept_store.specs.declared.types.Node.TheVariants.{And, Exists}
use Rattle.concept_store.specs.declared.types.NodeAxiom.{NodeAxiom}
use Rattle.concept_store.specs.declared.types.NodeAxiom.TheVariants as N
use Rattle.fact_table.specs.declared.types.Source.{Source}
use Rattle.case_tables.specs.declared.types.Inclusion.{Inclusion}
use Rattle.case_tables.specs.declared.types.RoleInclusion.{RoleInclusion}
use Rattle.case_tables.specs.declared.types.Operand.{Operand}
use Rattle.case_tables.specs.declared.types.Join.{Join}
use Rattle.case_tables.specs.declared.types.RoleDomain.{RoleDomain}
use Rattle.case_tables.specs.declared.types.Reflexive.{Reflexive}
use Rattle.case_tables.specs.declared.types.Whole.{Whole}
use Rattle.case_tables.specs.declared.types.Restriction.{Restriction}

abbrev pub inclusion : Source → ℕ → Inclusion
inclusion source into = record { into = into; source = source }

abbrev pub role_inclusion : Source → ℕ → RoleInclusion
role_inclusion source into = record { into = into; source = source }

abbrev pub operand : Source → ℕ → Operand
operand source position = record { position = position; source = source }

abbrev pub join : Source → ℕ → ℕ → ℕ → Join
join source first second into =
    record { first = first; second = second; into = into; source = source }

-- each of the numbers with each of them as its entry
abbrev pub each_with_each : {T : Type 0} → (ℕ → T) → List ℕ → List (ℕ × T)
each_with_each entry numbers = flat_map (λ key. map (λ other. (key, entry other)) numbers) numbers

-- the inclusions of nodes, by the lower node
abbrev pub inclusions_said : Source → NodeAxiom → List (ℕ × Inclusion)
inclusions_said source (N.SubClass low high) = (low, inclusion source high) ∷ []
inclusions_said source (N.Equivalent nodes) = each_with_each (inclusion source) nodes
inclusions_said source _ = []

-- the operands of a disjointness from a position on, each by itself
abbrev pub operands_from : Source → ℕ → List ℕ → List (ℕ × Operand)
operands_from source position [] = []
operands_from source position (node ∷ nodes) =
    (node, operand source position) ∷ operands_from source (position + 1) nodes

-- the operands of a disjointness, each by itself
abbrev pub operands_said : Source → NodeAxiom → List (ℕ × Operand)
operands_said source (N.Disjoint nodes) = operands_from source 0 nodes
operands_said source _ = []

-- what a chain of one role says
abbrev pub single_said : Source → List ℕ → ℕ → List (ℕ × RoleInclusion)
single_said source (role ∷ []) into = (role, role_inclusion source into) ∷ []
single_said source _ into = []

-- the inclusions of roles, by the lower role
abbrev pub role_inclusions_said : Source → NodeAxiom → List (ℕ × RoleInclusion)
role_inclusions_said source (N.SubRole chain into first) = single_said source chain into
role_inclusions_said source (N.EquivalentRoles roles) = each_with_each (role_inclusion source) roles
role_inclusions_said source _ = []

-- what a join leads to: the part of the chain that it ends, or the role that the chain is within
abbrev pub led_to : List ℕ → ℕ → ℕ → ℕ
led_to [] part into = into
led_to (role ∷ rest) part into = part

-- the joins along a chain of which a front was passed, as one role, by their first role
abbrev pub joins_along : Source → ℕ → List ℕ → ℕ → ℕ → List (ℕ × Join)
joins_along source front [] part into = []
joins_along source front (next ∷ rest) part into =
    (front, join source front next (led_to rest part into))
    ∷ joins_along source part rest (part + 1) into

-- the joins, by their first role
abbrev pub joins_said : Source → NodeAxiom → List (ℕ × Join)
joins_said source (N.Transitive role) = (role, join source role role role) ∷ []
joins_said source (N.SubRole (role ∷ rest) into first) = joins_along source role rest first into
joins_said source _ = []

-- the same entries, by their second role
abbrev pub by_second : List (ℕ × Join) → List (ℕ × Join)
by_second entries = map (λ pair. (pair.1.second, pair.1)) entries

-- the domains, by their role
abbrev pub domains_said : Source → NodeAxiom → List (ℕ × RoleDomain)
domains_said source (N.Domain role node) = (role, record { domain = node; source = source }) ∷ []
domains_said source _ = []

-- the reflexive roles
abbrev pub reflexive_said : Source → NodeAxiom → List (ℕ × Reflexive)
reflexive_said source (N.Reflexive role) = (role, record { source = source }) ∷ []
reflexive_said source _ = []

-- an intersection, by its left part and then by its right part
abbrev pub wholes_held : ℕ → Node → List (ℕ × Whole)
wholes_held node (And left right) =
    (left, record { node = node; other = right; is_left = true })
    ∷ (right, record { node = node; other = left; is_left = false }) ∷ []
wholes_held node _ = []

-- what a role leads from into a filler, by the filler
abbrev pub restrictions_held : ℕ → Node → List (ℕ × Restriction)
restrictions_held node (Exists role filler) =
    (filler, record { node = node; role = role; filler = filler }) ∷ []
restrictions_held node _ = []

-- the same entries, by their role
abbrev pub by_role : List (ℕ × Restriction) → List (ℕ × Restriction)
by_role entries = map (λ pair. (pair.1.role, pair.1)) entries

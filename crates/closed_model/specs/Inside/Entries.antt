-- What facts say of the members of class names and of the pairs of property names.
use Rattle.std.specs.Prelude.{ℕ, ◌-◌, ◌==◌, if◌then◌else◌, nat_lt, List, Option, Some, None, slice_index_or}
use Rattle.std.specs.List.{filter_map}
use Rattle.fact_table.specs.declared.types.Fact.{Fact}
use Rattle.fact_table.specs.declared.types.Fact.TheVariants.{Sub, Link}

-- the element that a node is, if it is one
abbrev pub element_at : List (Option ℕ) → ℕ → Option ℕ
element_at numbers node = slice_index_or numbers node None

-- the class name that a node stands for, among this number of them
abbrev pub class_of : ℕ → ℕ → Option ℕ
class_of classes node =
    if nat_lt node 2 then None else if nat_lt (node - 2) classes then Some (node - 2) else None

-- both, if there are both
abbrev pub joined : {A B : Type 0} → Option A → Option B → Option (A × B)
joined (Some a) (Some b) = Some (a, b)
joined _ _ = None

-- a class name and a member of it, if the fact says one
abbrev pub member_said : List (Option ℕ) → ℕ → Fact → Option (ℕ × ℕ)
member_said numbers classes (Sub node within) =
    joined (class_of classes within) (element_at numbers node)
member_said numbers classes (Link a r b) = None

-- a property name and a pair of it, if the fact says one
abbrev pub pair_said : List (Option ℕ) → ℕ → Fact → Option (ℕ × (ℕ × ℕ))
pair_said numbers properties (Sub node within) = None
pair_said numbers properties (Link a r b) =
    joined (if nat_lt r properties then Some r else None)
    (joined (element_at numbers a) (element_at numbers b))

-- the value of an entry with this key
abbrev pub value_at : {T : Type 0} → ℕ → ℕ × T → Option T
value_at key entry = if entry.0 == key then Some entry.1 else None

-- the values of the entries with this key, in their order
abbrev pub values_at : {T : Type 0} → List (ℕ × T) → ℕ → List T
values_at entries key = filter_map (value_at key) entries

-- Why axioms have no store.
use Rattle.std.specs.Prelude.{Bool, true, false}
use Rattle.byte_words.specs.Faults.{OrOutOfMemory}
use Rattle.concept_store.specs.declared.types.StoreFault.{StoreFault}
use Rattle.concept_store.specs.declared.types.StoreFault.TheVariants as fault

abbrev pub store_ran_out : StoreFault → Bool
store_ran_out fault.OutOfMemory = true
store_ran_out _ = false

abbrev pub IsLimitFault : Type 0 → Type 0 → StoreFault → Type 0
IsLimitFault TooManyNodes TooManyRoles fault.Nodes = TooManyNodes
IsLimitFault TooManyNodes TooManyRoles fault.Roles = TooManyRoles
IsLimitFault TooManyNodes TooManyRoles fault.OutOfMemory = ⊥

-- the fault says so many nodes or so many roles only where this is so
abbrev pub IsStoreFault : Type 0 → Type 0 → StoreFault → Type 0
IsStoreFault TooManyNodes TooManyRoles found = OrOutOfMemory store_ran_out (IsLimitFault TooManyNodes TooManyRoles) found

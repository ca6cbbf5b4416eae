-- What a fault says, where memory may run out at any time.
use Rattle.std.specs.Prelude.{Bool, MatchBool, ⊤}

-- memory ran out, as the test tells, or this holds of the fault
abbrev pub OrOutOfMemory : {Fault : Type 0} → (Fault → Bool) → (Fault → Type 0) → Fault → Type 0
OrOutOfMemory ran_out Holds fault = MatchBool (ran_out fault) ⊤ (Holds fault)

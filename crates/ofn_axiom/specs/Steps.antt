-- Steps that may meet a fault.
use Rattle.std.specs.Prelude.{Result, Ok, Err}
use Rattle.ofn_axiom.specs.declared.fault.OffsetFault.{OffsetFault}

-- a step, and another on what it gives; the first fault stands
infixl 10 ◌>>=◌
abbrev pub ◌>>=◌ : {A B : Type 0} → Result A OffsetFault → (A → Result B OffsetFault) →
    Result B OffsetFault
(Ok x) >>= f = f x
(Err e) >>= f = Err e

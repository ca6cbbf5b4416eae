-- What code returns, beside what is read.
use Rattle.std.specs.Prelude.{◌≡◌, Result, Ok, Err, ⊤}
use Rattle.ofn_axiom.specs.declared.fault.OffsetFault.{OffsetFault}
use Rattle.ofn_axiom.specs.declared.fault.Stop.{Stop}
use Rattle.ofn_axiom.specs.declared.fault.Stop.TheVariants as stop

-- reading stopped at this fault, unless memory ran out
abbrev pub Fails : {X : Type 0} → Stop → Result X OffsetFault → Type 0
Fails stop.Memory read = ⊤
Fails (stop.Fault f) read = read ≡ Err f

-- what a function returned, seen by the view, is what is read, unless memory ran out
abbrev pub Gives : {X Y : Type 0} → (X → Y) → Result X Stop → Result Y OffsetFault → Type 0
Gives view (Ok x) read = read ≡ Ok (view x)
Gives view (Err e) read = Fails e read

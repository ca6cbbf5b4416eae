-- Steps that met no fault.
use Rattle.std.proofs.Common.{◌≡◌, Bool, true, false, cond, refl, sym, ap, true≢false}
use Rattle.std.specs.Prelude.{Result, Ok, Err, is_ok}
use Rattle.ofn_axiom.specs.declared.fault.OffsetFault.{OffsetFault}
use Rattle.ofn_axiom.specs.Steps.{◌>>=◌}

-- the value, or another
abbrev value_or : {A : Type 0} → A → Result A OffsetFault → A
value_or other (Ok x) = x
value_or other (Err f) = other

-- a value is read
abbrev read : {A : Type 0} → A → Result A OffsetFault
read x = Ok x

-- a fault stands
abbrev failed : {A : Type 0} → OffsetFault → Result A OffsetFault
failed f = Err f

-- what is read is one value
pub same_value : {A : Type 0} (x y : A) → read x ≡ read y → x ≡ y
same_value {A} x y e = ap (value_or x) e

-- a fault is no value
pub no_value : {A : Type 0} (f : OffsetFault) (y : A) → failed f ≡ read y → ⊥
no_value {A} f y e = let w : false ≡ true = ap (λ (r : Result A OffsetFault). is_ok r) e in true≢false (sym w)

-- two steps gave a value, so the first one did
pub both_steps : {A B : Type 0} (r : Result A OffsetFault) (next : A → Result B OffsetFault) (y : B) → (r >>= next) ≡ Ok y → (x : A) × (r ≡ Ok x) × (next x ≡ Ok y)
both_steps (Ok x) next y e = (x, refl, e)
both_steps (Err f) next y e = absurd (no_value f y e)

-- a test before a value passed
pub tested : {A : Type 0} (b : Bool) (f : OffsetFault) (x y : A) → cond b (Err f) (Ok x) ≡ Ok y → x ≡ y
tested true f x y e = absurd (no_value f y e)
tested false f x y e = same_value x y e

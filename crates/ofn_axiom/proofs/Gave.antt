-- What a step or a test was that gave something.
use Rattle.std.proofs.Common.{◌≡◌, Bool, true, false, cond, refl}
use Rattle.std.specs.Prelude.{Result, Ok, Err}
use Rattle.ofn_axiom.specs.declared.fault.OffsetFault.{OffsetFault}
use Rattle.ofn_axiom.specs.Steps.{◌>>=◌}

-- a step that gave something
pub step_gave : {A B : Type 0} {P : Type 0} (r : Result A OffsetFault) (f : A → Result B OffsetFault) (b : B) → (r >>= f) ≡ Ok b → ((a : A) → r ≡ Ok a → f a ≡ Ok b → P) → P
step_gave (Ok a) f b e then = then a refl e
step_gave (Err x) f b e then = cc

-- a test that gave something
pub test_gave : {A P : Type 0} (t : Bool) (r s : Result A OffsetFault) (a : A) → cond t r s ≡ Ok a → (r ≡ Ok a → P) → (s ≡ Ok a → P) → P
test_gave true r s a e one other = one e
test_gave false r s a e one other = other e

-- a test that passed
pub test_passed : {A P : Type 0} (t : Bool) (r : Result A OffsetFault) (x : OffsetFault) (a : A) → cond t r (Err x) ≡ Ok a → (t ≡ true → r ≡ Ok a → P) → P
test_passed true r x a e then = then refl e
test_passed false r x a e then = cc

-- a test that failed
pub test_failed : {A P : Type 0} (t : Bool) (r : Result A OffsetFault) (x : OffsetFault) (a : A) → cond t (Err x) r ≡ Ok a → (t ≡ false → r ≡ Ok a → P) → P
test_failed true r x a e then = cc
test_failed false r x a e then = then refl e

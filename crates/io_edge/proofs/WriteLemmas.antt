-- A writer that got a front of the bytes, and then more of them.
use Rattle.std.proofs.Common.{ℕ, ◌+◌, ◌-◌, ◌≤◌, List, Option, length, take, drop}
use Rattle.std.proofs.Math.Seq.{take-add}
use Rattle.std.proofs.lemmas.List.{take_rest}
use Rattle.std.proofs.lemmas.Grind.{common_steps}
use Rattle.std.proofs.Common.{arith}
use Rattle.std.proofs.KnownBytes.{Appends-trans}
use Rattle.std.specs.Io.KnownBytes.{Appends}

-- it has got the longer front
pub appends_more : (old mid new : Option (List ℕ)) (bytes : List ℕ) (written count : ℕ) → Appends old mid (take written bytes) → Appends mid new (take count (take (length bytes - written) (drop written bytes))) → Appends old new (take (written + count) bytes)
appends_more old mid new bytes written count front more =
    rw take-add (Appends-trans old mid new (take written bytes) (take count (drop written bytes)) front (rw take_rest at more))

-- which is no longer than the bytes
pub take_within : (bytes : List ℕ) (written count : ℕ) → written ≤ length bytes → count ≤ length (take (length bytes - written) (drop written bytes)) → written + count ≤ length bytes
take_within bytes written count front more = grind (arith, common_steps)

-- Places, and what prefixes are declared with.
use Rattle.std.proofs.Common.{◌≡◌, ◌≢◌, ℕ, Bool, true, false, List, length, take, refl, sym, ◌∙◌}
use Rattle.std.specs.Prelude.{bytes_eq, IsSomeAnd, Option, Some, None, Ok, Err}
use Rattle.std.specs.Cmp.Lexicographic.{bytes_decides}
use Rattle.std.proofs.Math.Seq.{take-length}
use Rattle.text_names.specs.Prefixes.{Prefixes, with_prefix}
use Rattle.ofn_axiom.specs.declared.fault.OffsetFault.TheVariants as fault
use Rattle.ofn_axiom.specs.Documents.{declared_over}

-- a front that is the whole
pub whole_front : (text : List ℕ) → take (length text) text ≡ text
whole_front text = take-length text

-- the prefix has another IRI
pub clash : (at : ℕ) (prefixes : Prefixes) (both : List ℕ × List ℕ) (held : Option (List ℕ)) → IsSomeAnd held (λ h. h ≢ both.1) → declared_over at prefixes both held ≡ Err (fault.PrefixClash at)
clash at prefixes both None other = absurd other
clash at prefixes both (Some h) other = by (bytes_eq h both.1) refl
  where
    by : (b : Bool) → bytes_eq h both.1 ≡ b → declared_over at prefixes both (Some h) ≡ Err (fault.PrefixClash at)
    by true e = absurd (other ((bytes_decides h both.1).0 e))
    by false e = rw e refl

-- or it has none or the same
pub no_clash : (at : ℕ) (prefixes : Prefixes) (both : List ℕ × List ℕ) (held : Option (List ℕ)) → (IsSomeAnd held (λ h. h ≢ both.1) → ⊥) → declared_over at prefixes both held ≡ Ok (with_prefix prefixes both.0 both.1)
no_clash at prefixes both None same = refl
no_clash at prefixes both (Some h) same = by (bytes_eq h both.1) refl
  where
    by : (b : Bool) → bytes_eq h both.1 ≡ b → declared_over at prefixes both (Some h) ≡ Ok (with_prefix prefixes both.0 both.1)
    by true e = rw e refl
    by false e = absurd (same (λ equal. let yes = (bytes_decides h both.1).1 equal in let different : false ≡ true = sym e ∙ yes in cc))

-- Sets of elements.
use Rattle.std.specs.Prelude.{◌↔◌, ℕ, ◌<◌, ⊤, List, All, Contains}
use Rattle.std.specs.List.Sorted.{IsStrictlyIncreasing}
use Rattle.el_logic.specs.declared.types.Expr.{Expr}
use Rattle.el_logic.specs.declared.types.Interp.{Interp}
use Rattle.el_logic.specs.Meaning.{IsMember}
use Rattle.model_members.specs.declared.sets.Members.{Members}
use Rattle.model_members.specs.declared.sets.Members.TheVariants.{Whole, Listed}

-- the element is one of the set, in a domain of this size
abbrev pub Has : ℕ → Members → ℕ → Type 0
Has size Whole x = x < size
Has size (Listed numbers) x = Contains numbers x

-- ascending numbers of elements
abbrev pub AreElements : ℕ → List ℕ → Type 0
AreElements size numbers = IsStrictlyIncreasing numbers × All (λ x. x < size) numbers

-- a set of elements, of which a list ascends
abbrev pub IsSet : ℕ → Members → Type 0
IsSet size Whole = ⊤
IsSet size (Listed numbers) = AreElements size numbers

-- the set of just the elements that pass
pub record IsSetOf (size : ℕ) (Passes : ℕ → Type 0) (set : Members) : Type 0 where
  pub ordered : IsSet size set
  pub same : (x : ℕ) → Has size set x ↔ Passes x

-- the expression has just the members of the set
abbrev pub HasMembers : Interp → Members → Expr → Type 0
HasMembers i set e = (x : ℕ) → Has i.size set x ↔ IsMember i x e

-- ascending numbers, just those that pass
pub record AreListed (Passes : ℕ → Type 0) (numbers : List ℕ) : Type 0 where
  pub ascending : IsStrictlyIncreasing numbers
  pub same : (x : ℕ) → Contains numbers x ↔ Passes x

-- ascending numbers of elements, with each that is a member of all operands
pub record HasAll (i : Interp) (operands : List Expr) (numbers : List ℕ) : Type 0 where
  pub elements : AreElements i.size numbers
  pub all : (x : ℕ) → All (IsMember i x) operands → Contains numbers x

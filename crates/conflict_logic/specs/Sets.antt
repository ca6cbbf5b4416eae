-- Sets of ranks, as lists by what they contain, and families of incoherent sets.
use Rattle.std.specs.Prelude.{ℕ, List, Contains}

-- each rank of the first is one of the second
abbrev pub IsPart : List ℕ → List ℕ → Type 0
IsPart part whole = (rank : ℕ) → Contains part rank → Contains whole rank

-- a part that lacks one rank of the whole
pub record IsProperPart (part whole : List ℕ) : Type 0 where
  pub within : IsPart part whole
  pub missing : ℕ
  pub held : Contains whole missing
  pub lacked : ¬ (Contains part missing)

-- more ranks never make an incoherent set coherent
abbrev pub IsClosedUnderAdding : (List ℕ → Type 0) → Type 0
IsClosedUnderAdding incoherent =
    (part whole : List ℕ) → IsPart part whole → incoherent part → incoherent whole

-- incoherent, and no proper part is
pub record IsConflict (incoherent : List ℕ → Type 0) (ranks : List ℕ) : Type 0 where
  pub together : incoherent ranks
  pub least : (part : List ℕ) → IsProperPart part ranks → ¬ (incoherent part)

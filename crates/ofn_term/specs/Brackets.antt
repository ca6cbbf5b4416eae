-- Brackets and their partners.
use Rattle.std.specs.Prelude.{◌≡◌, ◌≤◌, ℕ, ◌+◌, Bool, true, if◌then◌else◌, List, [], ◌∷◌, ◌++◌}
use Rattle.ofn_lex.specs.declared.token.Token.{Token}
use Rattle.ofn_term.specs.Words.{is_open, is_close}

-- how many brackets open, and how many close
abbrev pub opens : List Token → ℕ
opens [] = 0
opens (token ∷ tokens) = (if is_open token then 1 else 0) + opens tokens

abbrev pub closes : List Token → ℕ
closes [] = 0
closes (token ∷ tokens) = (if is_close token then 1 else 0) + closes tokens

-- at no place have more brackets closed than opened, and at none are more than so many open
pub record StayWithin (most : ℕ) (tokens : List Token) : Type 0 where
  pub paired : (front rest : List Token) → tokens ≡ front ++ rest → closes front ≤ opens front
  pub shallow : (front rest : List Token) → tokens ≡ front ++ rest →
      opens front ≤ closes front + most

-- at the offset stands a bracket that passes a test; before it the tokens stay within the bounds,
-- and as many brackets are open as the level says
pub record IsBracketAt (most : ℕ) (tokens : List Token) (passes : Token → Bool)
    (level offset : ℕ) : Type 0 where
  pub front : List Token
  pub bracket : Token
  pub rest : List Token
  pub whole : tokens ≡ front ++ bracket ∷ rest
  pub before : StayWithin most front
  pub level_there : opens front ≡ closes front + level
  pub test : passes bracket ≡ true
  pub place : bracket.start ≡ offset

-- a closing bracket stands where none is open
abbrev pub IsUnopened : ℕ → List Token → ℕ → Type 0
IsUnopened most tokens offset = IsBracketAt most tokens is_close 0 offset

-- an opening bracket stands where as many are open as may be
abbrev pub IsTooDeep : ℕ → List Token → ℕ → Type 0
IsTooDeep most tokens offset = IsBracketAt most tokens is_open most offset

-- no closing bracket among the tokens is the partner of one before them
abbrev pub LeaveOpen : List Token → Type 0
LeaveOpen tokens = (front rest : List Token) → tokens ≡ front ++ rest → closes front ≤ opens front

-- after an opening bracket stands its partner, a closing one: between the two, brackets are in
-- pairs
pub record HasPartner (behind : List Token) : Type 0 where
  pub between : List Token
  pub bracket : Token
  pub rest : List Token
  pub whole : behind ≡ between ++ bracket ∷ rest
  pub closing : is_close bracket ≡ true
  pub paired : LeaveOpen between
  pub closed : opens between ≡ closes between

-- the brackets before an opening one have partners, and it has none
pub record IsUnclosed (most : ℕ) (tokens : List Token) (offset : ℕ) : Type 0 where
  pub within : StayWithin most tokens
  pub bracket_at : IsBracketAt most tokens is_open 0 offset
  pub never : LeaveOpen bracket_at.rest

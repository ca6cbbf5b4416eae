-- Brackets that stay within their bounds, with one more token at the front.
use Rattle.std.proofs.Common.{◌≡◌, ◌≤◌, ◌<◌, ℕ, ◌+◌, Bool, true, false, cond, List, [], ◌∷◌, ◌++◌, refl, ap, sym, subst, arith}
use Rattle.ofn_lex.specs.declared.token.Token.{Token}
use Rattle.ofn_lex.specs.declared.token.TokenKind.{TokenKind}
use Rattle.ofn_lex.specs.declared.token.TokenKind.TheVariants.{Open, Close, Equals, FullIri, Quoted, Lang, Carets, Run}
use Rattle.ofn_term.specs.Words.{is_open_kind, is_close_kind, is_open, is_close}
use Rattle.ofn_term.specs.Brackets.{opens, closes}

-- an opening bracket does not close
pub open_is_not_closing : (kind : TokenKind) → is_open_kind kind ≡ true → is_close_kind kind ≡ false
open_is_not_closing Open e = refl
open_is_not_closing Close e = sym e
open_is_not_closing Equals e = refl
open_is_not_closing FullIri e = refl
open_is_not_closing Quoted e = refl
open_is_not_closing Lang e = refl
open_is_not_closing Carets e = refl
open_is_not_closing Run e = refl

-- as in StayWithin, where so many brackets are open before the tokens
pub record Within (most depth : ℕ) (tokens : List Token) : Type 0 where
  pub paired : (front rest : List Token) → tokens ≡ front ++ rest → closes front ≤ depth + opens front
  pub shallow : (front rest : List Token) → tokens ≡ front ++ rest → depth + opens front ≤ closes front + most

-- as in IsBracketAt
pub record At (most depth : ℕ) (tokens : List Token) (passes : Token → Bool) (level offset : ℕ) : Type 0 where
  pub front : List Token
  pub bracket : Token
  pub rest : List Token
  pub whole : tokens ≡ front ++ bracket ∷ rest
  pub before : Within most depth front
  pub level_there : depth + opens front ≡ closes front + level
  pub test : passes bracket ≡ true
  pub place : bracket.start ≡ offset

-- one of the brackets that are open before the tokens stays open
abbrev pub Never : ℕ → List Token → Type 0
Never depth tokens = (front rest : List Token) → tokens ≡ front ++ rest → closes front < depth + opens front

-- equal lists have equal rests
pub tail_of : (x y : Token) (xs ys : List Token) → x ∷ xs ≡ y ∷ ys → xs ≡ ys
tail_of x y xs ys e = cc

-- equal lists have equal first elements
pub head_of : (x y : Token) (xs ys : List Token) → x ∷ xs ≡ y ∷ ys → x ≡ y
head_of x y xs ys e = cc

-- one more token in front
abbrev pub opened : Token → ℕ
opened token = cond (is_open token) 1 0

-- how many brackets a token closes
abbrev pub closed : Token → ℕ
closed token = cond (is_close token) 1 0

-- no tokens close nothing
pub none_paired : (depth : ℕ) (front rest : List Token) → [] ≡ front ++ rest → closes front ≤ depth + opens front
none_paired depth [] rest e = omega arith
none_paired depth (x ∷ front) rest e = cc

-- no tokens open nothing
pub none_shallow : (most depth : ℕ) → depth ≤ most → (front rest : List Token) → [] ≡ front ++ rest → depth + opens front ≤ closes front + most
none_shallow most depth l [] rest e = omega arith
none_shallow most depth l (x ∷ front) rest e = cc

-- no tokens stay within the bounds
pub none_within : (most depth : ℕ) → depth ≤ most → Within most depth []
none_within most depth l = record { paired = none_paired depth; shallow = none_shallow most depth l }

-- one more token, where no more close than are open
pub step_paired : (depth next : ℕ) (token : Token) (tokens : List Token) → depth + opened token ≡ next + closed token →
    ((front rest : List Token) → tokens ≡ front ++ rest → closes front ≤ next + opens front) →
    (front rest : List Token) → token ∷ tokens ≡ front ++ rest → closes front ≤ depth + opens front
step_paired depth next token tokens count behind [] rest e = omega arith
step_paired depth next token tokens count behind (x ∷ front) rest e =
    let same = head_of token x tokens (front ++ rest) e in
    let h : closes front ≤ next + opens front = behind front rest (tail_of token x tokens (front ++ rest) e) in
    let here : closed token + closes front ≤ depth + (opened token + opens front) = omega arith in
    subst (λ (t : Token). closed t + closes front ≤ depth + (opened t + opens front)) same here

-- one more token, where no more are open than may be
pub step_shallow : (most depth next : ℕ) (token : Token) (tokens : List Token) → depth ≤ most → depth + opened token ≡ next + closed token →
    ((front rest : List Token) → tokens ≡ front ++ rest → next + opens front ≤ closes front + most) →
    (front rest : List Token) → token ∷ tokens ≡ front ++ rest → depth + opens front ≤ closes front + most
step_shallow most depth next token tokens l count behind [] rest e = omega arith
step_shallow most depth next token tokens l count behind (x ∷ front) rest e =
    let same = head_of token x tokens (front ++ rest) e in
    let h : next + opens front ≤ closes front + most = behind front rest (tail_of token x tokens (front ++ rest) e) in
    let here : depth + (opened token + opens front) ≤ closed token + closes front + most = omega arith in
    subst (λ (t : Token). depth + (opened t + opens front) ≤ closed t + closes front + most) same here

-- one more token within the bounds
pub step_within : (most depth next : ℕ) (token : Token) (tokens : List Token) → depth ≤ most → depth + opened token ≡ next + closed token →
    Within most next tokens → Within most depth (token ∷ tokens)
step_within most depth next token tokens l count behind = record {
  paired = step_paired depth next token tokens count behind.paired;
  shallow = step_shallow most depth next token tokens l count behind.shallow;
}

-- one more token that leaves the bracket open
pub step_never : (depth next : ℕ) (token : Token) (tokens : List Token) → 0 < depth → depth + opened token ≡ next + closed token →
    Never next tokens → Never depth (token ∷ tokens)
step_never depth next token tokens some count behind [] rest e = omega arith
step_never depth next token tokens some count behind (x ∷ front) rest e =
    let same = head_of token x tokens (front ++ rest) e in
    let h : closes front < next + opens front = behind front rest (tail_of token x tokens (front ++ rest) e) in
    let here : closed token + closes front < depth + (opened token + opens front) = omega arith in
    subst (λ (t : Token). closed t + closes front < depth + (opened t + opens front)) same here

-- a bracket further on
unfoldable pub step_at : (most depth next : ℕ) (token : Token) (tokens : List Token) (passes : Token → Bool) (level offset : ℕ) → depth ≤ most → depth + opened token ≡ next + closed token →
    At most next tokens passes level offset → At most depth (token ∷ tokens) passes level offset
step_at most depth next token tokens passes level offset l count at =
    let there = at.level_there in
    let level_here : depth + (opened token + opens at.front) ≡ closed token + closes at.front + level = omega arith in
    record {
      front = token ∷ at.front;
      bracket = at.bracket;
      rest = at.rest;
      whole = ap (λ (ts : List Token). token ∷ ts) at.whole;
      before = step_within most depth next token at.front l count at.before;
      level_there = level_here;
      test = at.test;
      place = at.place;
    }

-- the bracket is the first token
unfoldable pub first_at : (most depth : ℕ) (token : Token) (tokens : List Token) (passes : Token → Bool) (level offset : ℕ) → depth ≤ most → depth ≡ level → passes token ≡ true → token.start ≡ offset →
    At most depth (token ∷ tokens) passes level offset
first_at most depth token tokens passes level offset l e test place = record {
  front = [];
  bracket = token;
  rest = tokens;
  whole = refl;
  before = none_within most depth l;
  level_there = omega arith;
  test = test;
  place = place;
}

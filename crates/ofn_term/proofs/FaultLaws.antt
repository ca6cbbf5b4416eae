-- Tokens whose brackets have a first fault are those for which the function gives it.
use Rattle.std.proofs.Common.{◌≡◌, ◌≤◌, ◌<◌, ℕ, ◌+◌, ◌-◌, Bool, true, false, cond, List, [], ◌∷◌, ◌++◌, append_assoc, append-nil, refl, ap, sym, subst, ◌∙◌, arith}
use Rattle.std.specs.Prelude.{Some, None, ◌==◌, nat_lt}
use Rattle.std.proofs.lemmas.Bool.Decides.{nat_tests}
use Rattle.ofn_lex.specs.declared.token.Token.{Token}
use Rattle.ofn_term.specs.declared.fault.TermFault.TheVariants.{Unopened, Unclosed, TooDeep}
use Rattle.ofn_term.specs.Words.{is_open, is_close}
use Rattle.ofn_term.specs.Brackets.{opens, closes, LeaveOpen, StayWithin, IsBracketAt, IsUnopened, IsTooDeep, IsUnclosed}
use Rattle.ofn_term.specs.Inside.PieceReading.{first_open, bracket_fault}
use Rattle.ofn_term.proofs.Closing.{fault_at_open, closing_is_not_open}
use Rattle.ofn_term.proofs.FaultSteps.{Within, Never, opened, closed, open_is_not_closing}
use Rattle.ofn_term.proofs.Faults.{first_kept, opened_one}
use Rattle.ofn_term.proofs.Reading.{fault_past}

-- after one more token
tail_paired : (depth next : ℕ) (token : Token) (tokens : List Token) → depth + opened token ≡ next + closed token →
    ((front rest : List Token) → token ∷ tokens ≡ front ++ rest → closes front ≤ depth + opens front) →
    (front rest : List Token) → tokens ≡ front ++ rest → closes front ≤ next + opens front
tail_paired depth next token tokens count all front rest e =
    let h : closed token + closes front ≤ depth + (opened token + opens front) = all (token ∷ front) rest (ap (λ (ts : List Token). token ∷ ts) e) in
    omega arith

-- depth stays in its bound over the rest
tail_shallow : (most depth next : ℕ) (token : Token) (tokens : List Token) → depth + opened token ≡ next + closed token →
    ((front rest : List Token) → token ∷ tokens ≡ front ++ rest → depth + opens front ≤ closes front + most) →
    (front rest : List Token) → tokens ≡ front ++ rest → next + opens front ≤ closes front + most
tail_shallow most depth next token tokens count all front rest e =
    let h : depth + (opened token + opens front) ≤ closed token + closes front + most = all (token ∷ front) rest (ap (λ (ts : List Token). token ∷ ts) e) in
    omega arith

-- the rest stays within the bounds
tail_within : (most depth next : ℕ) (token : Token) (tokens : List Token) → depth + opened token ≡ next + closed token → Within most depth (token ∷ tokens) → Within most next tokens
tail_within most depth next token tokens count within = record {
  paired = tail_paired depth next token tokens count within.paired;
  shallow = tail_shallow most depth next token tokens count within.shallow;
}

-- the rest leaves the bracket open
tail_never : (depth next : ℕ) (token : Token) (tokens : List Token) → depth + opened token ≡ next + closed token → Never depth (token ∷ tokens) → Never next tokens
tail_never depth next token tokens count never front rest e =
    let h : closed token + closes front < depth + (opened token + opens front) = never (token ∷ front) rest (ap (λ (ts : List Token). token ∷ ts) e) in
    omega arith

-- a token with no fault of its own, and how many brackets are open after it
record Passes (most depth first : ℕ) (token : Token) : Type 0 where
  next : ℕ
  first' : ℕ
  count : depth + opened token ≡ next + closed token
  same : (tokens : List Token) → bracket_fault most depth first (token ∷ tokens) ≡ bracket_fault most next first' tokens
  kept : 0 < depth → first' ≡ first

-- the first fault, past a closing bracket that has a partner
pub fault_at_closing : (most depth first : ℕ) (token : Token) (tokens : List Token) → is_open token ≡ false → is_close token ≡ true → 0 < depth →
    bracket_fault most depth first (token ∷ tokens) ≡ bracket_fault most (depth - 1) first tokens
fault_at_closing most depth first token tokens o c some =
    let not_none : (depth == 0) ≡ false = grind (arith, nat_tests) in
    rw (o, c, not_none) refl

-- a test that fails counts nothing
pub no_one : (b : Bool) → b ≡ false → let n : ℕ = cond b 1 0 in n ≡ 0
no_one b e = ap (λ (v : Bool). let n : ℕ = cond v 1 0 in n) e

-- tokens without a fault are passed over
passes_by : (v w : Bool) (most depth first : ℕ) (token : Token) → is_open token ≡ v → is_close token ≡ w →
    closed token ≤ depth + opened token → depth + opened token ≤ closed token + most → Passes most depth first token
passes_by true w most depth first token o c paired shallow =
    let one : opened token ≡ 1 = opened_one (is_open token) o in
    let none : closed token ≡ 0 = no_one (is_close token) (open_is_not_closing token.kind o) in
    let room : depth < most = omega arith in
    let count : depth + opened token ≡ depth + 1 + closed token = omega arith in
    record {
      next = depth + 1;
      first' = first_open depth first token.start;
      count = count;
      same = λ tokens. fault_at_open most depth first token tokens o room;
      kept = first_kept depth first token.start;
    }
passes_by false true most depth first token o c paired shallow =
    let none : opened token ≡ 0 = no_one (is_open token) o in
    let one : closed token ≡ 1 = opened_one (is_close token) c in
    let some : 0 < depth = omega arith in
    let count : depth + opened token ≡ depth - 1 + closed token = omega arith in
    record {
      next = depth - 1;
      first' = first;
      count = count;
      same = λ tokens. fault_at_closing most depth first token tokens o c some;
      kept = λ k. refl;
    }
passes_by false false most depth first token o c paired shallow =
    let none : opened token ≡ 0 = no_one (is_open token) o in
    let none' : closed token ≡ 0 = no_one (is_close token) c in
    let count : depth + opened token ≡ depth + closed token = omega arith in
    record {
      next = depth;
      first' = first;
      count = count;
      same = λ tokens. fault_past most depth first token tokens o c;
      kept = λ k. refl;
    }

passes : (most depth first : ℕ) (token : Token) (tokens : List Token) → Within most depth (token ∷ tokens) → Passes most depth first token
passes most depth first token tokens within =
    let p : closed token + 0 ≤ depth + (opened token + 0) = within.paired (token ∷ []) tokens refl in
    let s : depth + (opened token + 0) ≤ closed token + 0 + most = within.shallow (token ∷ []) tokens refl in
    passes_by (is_open token) (is_close token) most depth first token refl refl (omega arith) (omega arith)

-- tokens with no fault of their own
record Passed (most depth first : ℕ) (front rest : List Token) : Type 0 where
  next : ℕ
  first' : ℕ
  count : depth + opens front ≡ next + closes front
  same : bracket_fault most depth first (front ++ rest) ≡ bracket_fault most next first' rest

-- the first fault, past a front without one
passed : (most depth first : ℕ) (front rest : List Token) → Within most depth front → Passed most depth first front rest
passed most depth first [] rest within = record { next = depth; first' = first; count = refl; same = refl }
passed most depth first (token ∷ front) rest within =
    let here = passes most depth first token front within in
    let behind = passed most here.next here.first' front rest (tail_within most depth here.next token front here.count within) in
    let c : depth + opened token ≡ here.next + closed token = here.count in
    let d : here.next + opens front ≡ behind.next + closes front = behind.count in
    let total : depth + (opened token + opens front) ≡ behind.next + (closed token + closes front) = omega arith in
    record { next = behind.next; first' = behind.first'; count = total; same = here.same (front ++ rest) ∙ behind.same }

-- brackets that stay open are the fault
never_closed : (most depth first : ℕ) (tokens : List Token) → Within most depth tokens → Never depth tokens → 0 < depth → bracket_fault most depth first tokens ≡ Some (Unclosed first)
never_closed most depth first [] within never some =
    let not_none : (depth == 0) ≡ false = grind (arith, nat_tests) in
    rw not_none refl
never_closed most depth first (token ∷ tokens) within never some =
    let here = passes most depth first token tokens within in
    let behind = tail_never depth here.next token tokens here.count never in
    let h : 0 < here.next + 0 = behind [] tokens refl in
    let some_open : 0 < here.next = omega arith in
    here.same tokens
    ∙ never_closed most here.next here.first' tokens (tail_within most depth here.next token tokens here.count within) behind some_open
    ∙ ap (λ (n : ℕ). Some (Unclosed n)) (here.kept some)

-- where no bracket is open before the tokens
from_within : (most : ℕ) (tokens : List Token) → StayWithin most tokens → Within most 0 tokens
from_within most tokens within = record {
  paired = λ front rest e. let h : closes front ≤ opens front = within.paired front rest e in omega arith;
  shallow = λ front rest e. let h : opens front ≤ closes front + most = within.shallow front rest e in omega arith;
}

-- the bracket at which the function comes to stand
record ComesTo (most : ℕ) (tokens : List Token) (passes_test : Token → Bool) (level offset : ℕ) (at : IsBracketAt most tokens passes_test level offset) : Type 0 where
  first' : ℕ
  same : bracket_fault most 0 0 tokens ≡ bracket_fault most level first' (at.bracket ∷ at.rest)

-- the first fault is that of the token it comes to
comes_to : (most : ℕ) (tokens : List Token) (test : Token → Bool) (level offset : ℕ) (at : IsBracketAt most tokens test level offset) → ComesTo most tokens test level offset at
comes_to most tokens test level offset at =
    let by = passed most 0 0 at.front (at.bracket ∷ at.rest) (from_within most at.front at.before) in
    let c : 0 + opens at.front ≡ by.next + closes at.front = by.count in
    let d : opens at.front ≡ closes at.front + level = at.level_there in
    let there : by.next ≡ level = omega arith in
    record {
      first' = by.first';
      same = ap (bracket_fault most 0 0) at.whole ∙ by.same ∙ ap (λ (n : ℕ). bracket_fault most n by.first' (at.bracket ∷ at.rest)) there;
    }

-- a closing bracket without partner is the first fault
pub unopened_found : (most : ℕ) (tokens : List Token) (offset : ℕ) → IsUnopened most tokens offset → bracket_fault most 0 0 tokens ≡ Some (Unopened offset)
unopened_found most tokens offset at =
    let to = comes_to most tokens is_close 0 offset at in
    let closing : is_close at.bracket ≡ true = at.test in
    let other : is_open at.bracket ≡ false = closing_is_not_open at.bracket.kind closing in
    let here : bracket_fault most 0 to.first' (at.bracket ∷ at.rest) ≡ Some (Unopened at.bracket.start) = rw (other, closing) refl in
    to.same ∙ here ∙ ap (λ (n : ℕ). Some (Unopened n)) at.place

-- a bracket that is too deep is the first fault
pub too_deep_found : (most : ℕ) (tokens : List Token) (offset : ℕ) → IsTooDeep most tokens offset → bracket_fault most 0 0 tokens ≡ Some (TooDeep offset)
too_deep_found most tokens offset at =
    let to = comes_to most tokens is_open most offset at in
    let opening : is_open at.bracket ≡ true = at.test in
    let full : nat_lt most most ≡ false = grind (arith, nat_tests) in
    let here : bracket_fault most most to.first' (at.bracket ∷ at.rest) ≡ Some (TooDeep at.bracket.start) = rw (opening, full) refl in
    to.same ∙ here ∙ ap (λ (n : ℕ). Some (TooDeep n)) at.place

-- tokens in pairs have no fault
pub none_found : (most : ℕ) (tokens : List Token) → StayWithin most tokens → opens tokens ≡ closes tokens → bracket_fault most 0 0 tokens ≡ None
none_found most tokens within total =
    let by = passed most 0 0 tokens [] (from_within most tokens within) in
    let c : 0 + opens tokens ≡ by.next + closes tokens = by.count in
    let none : by.next ≡ 0 = omega arith in
    ap (bracket_fault most 0 0) (sym (append-nil tokens)) ∙ by.same ∙ ap (λ (n : ℕ). bracket_fault most n by.first' []) none

-- after the bracket that is never closed
pub opens-append : (xs ys : List Token) → opens (xs ++ ys) ≡ opens xs + opens ys
opens-append [] ys = omega arith
opens-append (x ∷ xs) ys = let h : opens (xs ++ ys) ≡ opens xs + opens ys = opens-append xs ys in omega arith

-- closing brackets of two lists
pub closes-append : (xs ys : List Token) → closes (xs ++ ys) ≡ closes xs + closes ys
closes-append [] ys = omega arith
closes-append (x ∷ xs) ys = let h : closes (xs ++ ys) ≡ closes xs + closes ys = closes-append xs ys in omega arith

-- what follows stays within the bounds
behind_within : (most : ℕ) (front : List Token) (bracket : Token) (rest : List Token) → StayWithin most (front ++ bracket ∷ rest) → opens front ≡ closes front + 0 → is_open bracket ≡ true → LeaveOpen rest → Within most 1 rest
behind_within most front bracket rest within level opening never =
    let one : opened bracket ≡ 1 = opened_one (is_open bracket) opening in
    let none : closed bracket ≡ 0 = no_one (is_close bracket) (open_is_not_closing bracket.kind opening) in
    record {
      paired = λ inner others e. let h : closes inner ≤ opens inner = never inner others e in omega arith;
      shallow = λ inner others e.
          let whole : front ++ bracket ∷ rest ≡ (front ++ bracket ∷ inner) ++ others = ap (λ (ts : List Token). front ++ bracket ∷ ts) e ∙ sym (append_assoc front (bracket ∷ inner) others) in
          let h : opens (front ++ bracket ∷ inner) ≤ closes (front ++ bracket ∷ inner) + most = within.shallow (front ++ bracket ∷ inner) others whole in
          omega (arith, opens-append front (bracket ∷ inner), closes-append front (bracket ∷ inner));
    }

-- an opening bracket without partner is the first fault
pub unclosed_found : (most : ℕ) (tokens : List Token) (offset : ℕ) → IsUnclosed most tokens offset → bracket_fault most 0 0 tokens ≡ Some (Unclosed offset)
unclosed_found most tokens offset is =
    let at = is.bracket_at in
    let to = comes_to most tokens is_open 0 offset at in
    let opening : is_open at.bracket ≡ true = at.test in
    let behind = behind_within most at.front at.bracket at.rest (subst (StayWithin most) at.whole is.within) at.level_there opening is.never in
    let h : 1 + 0 ≤ 0 + most = behind.shallow [] at.rest refl in
    let room : 0 < most = omega arith in
    let never = λ (inner others : List Token) (e : at.rest ≡ inner ++ others). let k : closes inner ≤ opens inner = is.never inner others e in let l : closes inner < 1 + opens inner = omega arith in l in
    to.same
    ∙ fault_at_open most 0 to.first' at.bracket at.rest opening room
    ∙ never_closed most 1 at.bracket.start at.rest behind never (omega arith)
    ∙ ap (λ (n : ℕ). Some (Unclosed n)) at.place

-- After a group, the brackets are as they were before it.
use Rattle.std.proofs.Common.{◌≡◌, ℕ, zero, suc, ◌+◌, ◌-◌, ◌<◌, Bool, true, false, cond, List, [], ◌∷◌, refl, ap, sym, ◌∙◌, arith}
use Rattle.std.specs.Prelude.{Some, ◌==◌, nat_lt}
use Rattle.std.proofs.lemmas.Bool.Decides.{nat_tests}
use Rattle.ofn_lex.specs.declared.token.Token.{Token}
use Rattle.ofn_lex.specs.declared.token.TokenKind.{TokenKind}
use Rattle.ofn_lex.specs.declared.token.TokenKind.TheVariants.{Open, Close, Equals, FullIri, Quoted, Lang, Carets, Run}
use Rattle.ofn_term.specs.declared.fault.TermFault.TheVariants.{Unopened, TooDeep}
use Rattle.ofn_term.specs.Words.{is_open_kind, is_close_kind, is_open, is_close}
use Rattle.ofn_term.specs.Inside.PieceReading.{first_open, bracket_fault}

-- a closing bracket does not open
pub closing_is_not_open : (kind : TokenKind) → is_close_kind kind ≡ true → is_open_kind kind ≡ false
closing_is_not_open Open e = sym e
closing_is_not_open Close e = refl
closing_is_not_open Equals e = refl
closing_is_not_open FullIri e = refl
closing_is_not_open Quoted e = refl
closing_is_not_open Lang e = refl
closing_is_not_open Carets e = refl
closing_is_not_open Run e = refl

-- what a token says where no bracket is open, by whether it opens or closes
at_level_none : (v w : Bool) (most a b start : ℕ) (tokens : List Token) → bracket_fault most 0 a tokens ≡ bracket_fault most 0 b tokens →
    cond v (cond (nat_lt 0 most) (bracket_fault most 1 start tokens) (Some (TooDeep start))) (cond w (Some (Unopened start)) (bracket_fault most 0 a tokens))
    ≡ cond v (cond (nat_lt 0 most) (bracket_fault most 1 start tokens) (Some (TooDeep start))) (cond w (Some (Unopened start)) (bracket_fault most 0 b tokens))
at_level_none true w most a b start tokens e = refl
at_level_none false true most a b start tokens e = refl
at_level_none false false most a b start tokens e = e

-- where no bracket is open, none is the first
pub none_is_first : (most a b : ℕ) (tokens : List Token) → bracket_fault most 0 a tokens ≡ bracket_fault most 0 b tokens
none_is_first most a b [] = refl
none_is_first most a b (token ∷ tokens) = at_level_none (is_open token) (is_close token) most a b token.start tokens (none_is_first most a b tokens)

-- one bracket more is open
pub open_again : (most depth first start : ℕ) (tokens : List Token) → bracket_fault most depth (first_open depth first start) tokens ≡ bracket_fault most depth first tokens
open_again most zero first start tokens = none_is_first most start first tokens
open_again most (suc depth) first start tokens =
    let same : first_open (suc depth) first start ≡ first = grind (arith, nat_tests) in
    ap (λ (n : ℕ). bracket_fault most (suc depth) n tokens) same

-- the first fault, past a closing bracket
pub fault_at_close : (most depth first : ℕ) (close : Token) (behind : List Token) → is_open close ≡ false → is_close close ≡ true →
    bracket_fault most (depth + 1) first (close ∷ behind) ≡ bracket_fault most depth first behind
fault_at_close most depth first close behind o c =
    let some_open : ((depth + 1) == 0) ≡ false = grind (arith, nat_tests) in
    let one_less : depth + 1 - 1 ≡ depth = omega arith in
    rw (o, c, some_open, one_less) refl

-- the first fault, past an opening bracket
pub fault_at_open : (most depth first : ℕ) (bracket : Token) (behind : List Token) → is_open bracket ≡ true → depth < most →
    bracket_fault most depth first (bracket ∷ behind) ≡ bracket_fault most (depth + 1) (first_open depth first bracket.start) behind
fault_at_open most depth first bracket behind o l =
    let allowed : nat_lt depth most ≡ true = grind (arith, nat_tests) in
    rw (o, allowed) refl

-- the brackets in a group are in pairs, and so are its own
pub fault_behind_group : (most depth first inside : ℕ) (bracket close : Token) (behind rest others : List Token) →
    inside ≡ first_open depth first bracket.start → is_open bracket ≡ true → depth < most →
    rest ≡ close ∷ others → is_close close ≡ true →
    bracket_fault most (depth + 1) inside behind ≡ bracket_fault most (depth + 1) inside rest →
    bracket_fault most depth first (bracket ∷ behind) ≡ bracket_fault most depth first others
fault_behind_group most depth first inside bracket close behind rest others same o l e closes inner =
    fault_at_open most depth first bracket behind o l
    ∙ ap (λ (n : ℕ). bracket_fault most (depth + 1) n behind) (sym same)
    ∙ inner
    ∙ ap (bracket_fault most (depth + 1) inside) e
    ∙ fault_at_close most depth inside close others (closing_is_not_open close.kind closes) closes
    ∙ ap (λ (n : ℕ). bracket_fault most depth n others) same
    ∙ open_again most depth first bracket.start others

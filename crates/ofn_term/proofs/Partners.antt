-- The bracket that is answered as unclosed has no partner, and those before it have.
use Rattle.std.proofs.Common.{◌≡◌, ◌≤◌, ◌<◌, ℕ, ◌+◌, ◌-◌, Bool, true, false, List, [], ◌∷◌, ◌++◌, append_assoc, refl, ap, sym, ◌∙◌, arith}
use Rattle.std.specs.Prelude.{◌==◌}
use Rattle.std.proofs.lemmas.Bool.Decides.{nat_tests}
use Rattle.ofn_lex.specs.declared.token.Token.{Token}
use Rattle.ofn_term.specs.Words.{is_open, is_close}
use Rattle.ofn_term.specs.Brackets.{opens, closes, HasPartner, IsUnclosed}
use Rattle.ofn_term.proofs.Closing.{closing_is_not_open}
use Rattle.ofn_term.proofs.FaultSteps.{opened, closed, open_is_not_closing, none_paired, step_paired}
use Rattle.ofn_term.proofs.Faults.{opened_one}
use Rattle.ofn_term.proofs.FaultLaws.{no_one, opens-append, closes-append}

-- as in HasPartner, of the innermost of so many brackets that are open before the tokens and one more
record Partner (depth : ℕ) (behind : List Token) : Type 0 where
  between : List Token
  bracket : Token
  rest : List Token
  whole : behind ≡ between ++ bracket ∷ rest
  closing : is_close bracket ≡ true
  paired : (front others : List Token) → between ≡ front ++ others → closes front ≤ depth + opens front
  level : depth + opens between ≡ closes between

-- one bracket more
one_more : (depth next : ℕ) (token : Token) (tokens : List Token) → depth + opened token ≡ next + closed token → Partner next tokens → Partner depth (token ∷ tokens)
one_more depth next token tokens count partner =
    let e : next + opens partner.between ≡ closes partner.between = partner.level in
    let level_here : depth + (opened token + opens partner.between) ≡ closed token + closes partner.between = omega arith in
    record {
      between = token ∷ partner.between;
      bracket = partner.bracket;
      rest = partner.rest;
      whole = ap (λ (ts : List Token). token ∷ ts) partner.whole;
      closing = partner.closing;
      paired = step_paired depth next token partner.between count partner.paired;
      level = level_here;
    }

-- where more brackets close than open, one closes the bracket before them
abbrev Sought : List Token → Type 0
Sought tokens = (depth : ℕ) → depth + opens tokens < closes tokens → Partner depth tokens

-- the partner, at a closing bracket
at_closing : (b : Bool) (depth : ℕ) (token : Token) (tokens : List Token) → (depth == 0) ≡ b → is_close token ≡ true → depth + (opened token + opens tokens) < closed token + closes tokens → Sought tokens → Partner depth (token ∷ tokens)
at_closing true depth token tokens test closing more behind =
    let none : depth ≡ 0 = grind (arith, nat_tests) in
    record { between = []; bracket = token; rest = tokens; whole = refl; closing = closing; paired = none_paired depth; level = omega arith }
at_closing false depth token tokens test closing more behind =
    let some : 0 < depth = grind (arith, nat_tests) in
    let one : closed token ≡ 1 = opened_one (is_close token) closing in
    let none : opened token ≡ 0 = no_one (is_open token) (closing_is_not_open token.kind closing) in
    let count : depth + opened token ≡ depth - 1 + closed token = omega arith in
    one_more depth (depth - 1) token tokens count (behind (depth - 1) (omega arith))

-- the partner, at another token
at_token : (v w : Bool) (depth : ℕ) (token : Token) (tokens : List Token) → is_open token ≡ v → is_close token ≡ w → depth + (opened token + opens tokens) < closed token + closes tokens → Sought tokens → Partner depth (token ∷ tokens)
at_token true w depth token tokens o c more behind =
    let one : opened token ≡ 1 = opened_one (is_open token) o in
    let none : closed token ≡ 0 = no_one (is_close token) (open_is_not_closing token.kind o) in
    let count : depth + opened token ≡ depth + 1 + closed token = omega arith in
    one_more depth (depth + 1) token tokens count (behind (depth + 1) (omega arith))
at_token false true depth token tokens o c more behind = at_closing (depth == 0) depth token tokens refl c more behind
at_token false false depth token tokens o c more behind =
    let none : opened token ≡ 0 = no_one (is_open token) o in
    let none' : closed token ≡ 0 = no_one (is_close token) c in
    let count : depth + opened token ≡ depth + closed token = omega arith in
    one_more depth depth token tokens count (behind depth (omega arith))

-- a partner is found or the brackets stay open
sought : (tokens : List Token) → Sought tokens
sought [] depth more = absurd (omega arith)
sought (token ∷ tokens) depth more = at_token (is_open token) (is_close token) depth token tokens refl refl more (sought tokens)

-- a bracket that does not stay open has a partner
partner_of : (behind : List Token) → Partner 0 behind → HasPartner behind
partner_of behind partner =
    let e : 0 + opens partner.between ≡ closes partner.between = partner.level in
    let level_here : opens partner.between ≡ closes partner.between = omega arith in
    record {
      between = partner.between;
      bracket = partner.bracket;
      rest = partner.rest;
      whole = partner.whole;
      closing = partner.closing;
      paired = λ front others f. let h : closes front ≤ 0 + opens front = partner.paired front others f in omega arith;
      closed = level_here;
    }

-- brackets before the unclosed one have partners
pub earlier_have_partners : (most : ℕ) (tokens : List Token) (offset : ℕ) (is : IsUnclosed most tokens offset) (front : List Token) (bracket : Token) (behind : List Token) →
    is.bracket_at.front ≡ front ++ bracket ∷ behind → is_open bracket ≡ true → HasPartner behind
earlier_have_partners most tokens offset is front bracket behind e opening =
    let one : opened bracket ≡ 1 = opened_one (is_open bracket) opening in
    let none : closed bracket ≡ 0 = no_one (is_close bracket) (open_is_not_closing bracket.kind opening) in
    let before : closes front ≤ opens front = is.bracket_at.before.paired front (bracket ∷ behind) e in
    let level : opens is.bracket_at.front ≡ closes is.bracket_at.front + 0 = is.bracket_at.level_there in
    let opens_all : opens is.bracket_at.front ≡ opens front + (opened bracket + opens behind) = ap opens e ∙ opens-append front (bracket ∷ behind) in
    let closes_all : closes is.bracket_at.front ≡ closes front + (closed bracket + closes behind) = ap closes e ∙ closes-append front (bracket ∷ behind) in
    partner_of behind (sought behind 0 (omega arith))

-- the unclosed one has none
pub unclosed_has_no_partner : (most : ℕ) (tokens : List Token) (offset : ℕ) (is : IsUnclosed most tokens offset) → HasPartner is.bracket_at.rest → ⊥
unclosed_has_no_partner most tokens offset is partner =
    let one : closed partner.bracket ≡ 1 = opened_one (is_close partner.bracket) partner.closing in
    let none : opened partner.bracket ≡ 0 = no_one (is_open partner.bracket) (closing_is_not_open partner.bracket.kind partner.closing) in
    let whole : is.bracket_at.rest ≡ (partner.between ++ partner.bracket ∷ []) ++ partner.rest = partner.whole ∙ sym (append_assoc partner.between (partner.bracket ∷ []) partner.rest) in
    let h : closes (partner.between ++ partner.bracket ∷ []) ≤ opens (partner.between ++ partner.bracket ∷ []) = is.never (partner.between ++ partner.bracket ∷ []) partner.rest whole in
    let e : opens partner.between ≡ closes partner.between = partner.closed in
    let opens_all : opens (partner.between ++ partner.bracket ∷ []) ≡ opens partner.between + (opened partner.bracket + 0) = opens-append partner.between (partner.bracket ∷ []) in
    let closes_all : closes (partner.between ++ partner.bracket ∷ []) ≡ closes partner.between + (closed partner.bracket + 0) = closes-append partner.between (partner.bracket ∷ []) in
    absurd (omega arith)

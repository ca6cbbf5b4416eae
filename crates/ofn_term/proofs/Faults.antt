-- The first fault of brackets, and where it stands by how many brackets open and close before it.
use Rattle.std.proofs.Common.{◌≡◌, ◌≤◌, ◌<◌, ℕ, zero, suc, ◌+◌, ◌-◌, Bool, true, false, cond, ◌⊎◌, inl, inr, List, [], ◌∷◌, refl, ap, sym, ◌∙◌, arith}
use Rattle.std.specs.Prelude.{Option, Some, None, ◌==◌, nat_lt}
use Rattle.std.proofs.lemmas.Bool.Decides.{nat_tests}
use Rattle.ofn_lex.specs.declared.token.Token.{Token}
use Rattle.ofn_term.specs.declared.fault.TermFault.{TermFault}
use Rattle.ofn_term.specs.declared.fault.TermFault.TheVariants.{Lex, Unopened, Unclosed, TooDeep, OutOfMemory}
use Rattle.ofn_term.specs.Words.{is_open, is_close}
use Rattle.ofn_term.specs.Brackets.{opens, closes, LeaveOpen, StayWithin, IsBracketAt, IsUnclosed}
use Rattle.ofn_term.specs.Inside.PieceReading.{first_open, bracket_fault}
use Rattle.ofn_term.proofs.Closing.{closing_is_not_open}
use Rattle.ofn_term.proofs.FaultSteps.{open_is_not_closing, Within, At, Never, opened, closed, none_within, step_within, step_never, step_at, first_at}

-- the first open bracket has no partner: it is the one at the offset, or one of the tokens
pub record Unpaired (most depth : ℕ) (tokens : List Token) (offset : ℕ) : Type 0 where
  at : At most depth tokens is_open 0 offset
  never : LeaveOpen at.rest

-- what the function says of tokens before which so many brackets are open, the first of them at first
abbrev Says : ℕ → ℕ → ℕ → List Token → Option TermFault → Type 0
Says most depth first tokens None = Within most depth tokens × (depth + opens tokens ≡ closes tokens)
Says most depth first tokens (Some (Unopened offset)) = At most depth tokens is_close 0 offset
Says most depth first tokens (Some (TooDeep offset)) = At most depth tokens is_open most offset
Says most depth first tokens (Some (Unclosed offset)) =
    Within most depth tokens × ((Never depth tokens × (0 < depth) × (offset ≡ first)) ⊎ Unpaired most depth tokens offset)
Says most depth first tokens (Some (Lex offset)) = ⊥
Says most depth first tokens (Some OutOfMemory) = ⊥

-- the bracket that is open after one more token is the first that was open, or the token itself
record FirstIs (depth first first' : ℕ) (token : Token) : Type 0 where
  kept : 0 < depth → first' ≡ first
  new : depth ≡ 0 → is_open token ≡ true → first' ≡ token.start

-- the bracket that opens is the first
opened_is : (b : Bool) (depth next c : ℕ) → depth ≡ 0 → 0 < next → depth + cond b 1 0 ≡ next + c → b ≡ true
opened_is true depth next c z l e = refl
opened_is false depth next c z l e = absurd (omega arith)

-- a test that passes counts one
pub opened_one : (b : Bool) → b ≡ true → let n : ℕ = cond b 1 0 in n ≡ 1
opened_one b e = ap (λ (v : Bool). let n : ℕ = cond v 1 0 in n) e

-- a first bracket that stays open has no partner
never_unpaired : (most depth next first first' : ℕ) (token : Token) (tokens : List Token) (offset : ℕ) → depth ≤ most → depth ≡ 0 → depth + opened token ≡ next + closed token →
    FirstIs depth first first' token → Never next tokens → 0 < next → offset ≡ first' → Unpaired most depth (token ∷ tokens) offset
unfolding first_at
never_unpaired most depth next first first' token tokens offset l z count is never some here =
    let opening : is_open token ≡ true = opened_is (is_open token) depth next (closed token) z some count in
    let one : opened token ≡ 1 = opened_one (is_open token) opening in
    let place : token.start ≡ offset = sym (here ∙ is.new z opening) in
    record {
      at = first_at most depth token tokens is_open 0 offset l z opening place;
      never = λ front rest e. let h : closes front < next + opens front = never front rest e in omega arith;
    }

-- one more token before an unclosed bracket
unclosed_step : (most depth next first first' : ℕ) (token : Token) (tokens : List Token) (offset : ℕ) → depth ≤ most → depth + opened token ≡ next + closed token → FirstIs depth first first' token →
    (Never next tokens × (0 < next) × (offset ≡ first')) ⊎ Unpaired most next tokens offset →
    (Never depth (token ∷ tokens) × (0 < depth) × (offset ≡ first)) ⊎ Unpaired most depth (token ∷ tokens) offset
unfolding step_at
unclosed_step most zero next first first' token tokens offset l count is (inl h) =
    inr (never_unpaired most zero next first first' token tokens offset l refl count is h.0 h.1 h.2)
unclosed_step most (suc depth) next first first' token tokens offset l count is (inl h) =
    let some : 0 < suc depth = omega arith in
    inl (step_never (suc depth) next token tokens some count h.0, some, h.2 ∙ is.kept some)
unclosed_step most depth next first first' token tokens offset l count is (inr unpaired) =
    inr (record { at = step_at most depth next token tokens is_open 0 offset l count unpaired.at; never = unpaired.never })

-- one more token before what is said
says_step : (most depth next first first' : ℕ) (token : Token) (tokens : List Token) (found : Option TermFault) → depth ≤ most → depth + opened token ≡ next + closed token → FirstIs depth first first' token →
    Says most next first' tokens found → Says most depth first (token ∷ tokens) found
says_step most depth next first first' token tokens None l count is says =
    let total : next + opens tokens ≡ closes tokens = says.1 in
    let here : depth + (opened token + opens tokens) ≡ closed token + closes tokens = omega arith in
    (step_within most depth next token tokens l count says.0, here)
says_step most depth next first first' token tokens (Some (Unopened offset)) l count is says = step_at most depth next token tokens is_close 0 offset l count says
says_step most depth next first first' token tokens (Some (TooDeep offset)) l count is says = step_at most depth next token tokens is_open most offset l count says
says_step most depth next first first' token tokens (Some (Unclosed offset)) l count is says =
    (step_within most depth next token tokens l count says.0, unclosed_step most depth next first first' token tokens offset l count is says.1)
says_step most depth next first first' token tokens (Some (Lex offset)) l count is says = says
says_step most depth next first first' token tokens (Some OutOfMemory) l count is says = says

-- the first open bracket stays while one is open
pub first_kept : (depth first start : ℕ) → 0 < depth → first_open depth first start ≡ first
first_kept depth first start some = grind (arith, nat_tests)

-- the first open bracket is a new one
first_new : (depth first start : ℕ) → depth ≡ 0 → first_open depth first start ≡ start
first_new depth first start none = grind (arith, nat_tests)

-- a test has one answer
not_open : (b : Bool) → b ≡ false → b ≡ true → ⊥
not_open b e f = cc

-- what is said of the tokens after
abbrev SaysBehind : ℕ → List Token → Type 0
SaysBehind most tokens = (depth first : ℕ) → depth ≤ most → Says most depth first tokens (bracket_fault most depth first tokens)

-- what is said at an opening bracket
says_at_open : (b : Bool) (most depth first : ℕ) (token : Token) (tokens : List Token) → nat_lt depth most ≡ b → is_open token ≡ true → depth ≤ most → SaysBehind most tokens →
    Says most depth first (token ∷ tokens) (cond b (bracket_fault most (depth + 1) (first_open depth first token.start) tokens) (Some (TooDeep token.start)))
says_at_open true most depth first token tokens test opening l behind =
    let room : depth < most = grind (arith, nat_tests) in
    let one : opened token ≡ 1 = opened_one (is_open token) opening in
    let none : closed token ≡ 0 = ap (λ (v : Bool). let n : ℕ = cond v 1 0 in n) (open_is_not_closing token.kind opening) in
    let count : depth + opened token ≡ depth + 1 + closed token = omega arith in
    says_step most depth (depth + 1) first (first_open depth first token.start) token tokens _ l count
    (record { kept = first_kept depth first token.start; new = λ z o. first_new depth first token.start z })
    (behind (depth + 1) (first_open depth first token.start) (omega arith))
says_at_open false most depth first token tokens test opening l behind =
    let full : depth ≡ most = grind (arith, nat_tests) in
    first_at most depth token tokens is_open most token.start l full opening refl

-- what is said at a closing bracket
says_at_close : (b : Bool) (most depth first : ℕ) (token : Token) (tokens : List Token) → (depth == 0) ≡ b → is_close token ≡ true → depth ≤ most → SaysBehind most tokens →
    Says most depth first (token ∷ tokens) (cond b (Some (Unopened token.start)) (bracket_fault most (depth - 1) first tokens))
says_at_close true most depth first token tokens test closing l behind =
    let none : depth ≡ 0 = grind (arith, nat_tests) in
    first_at most depth token tokens is_close 0 token.start l none closing refl
says_at_close false most depth first token tokens test closing l behind =
    let some : 0 < depth = grind (arith, nat_tests) in
    let one : closed token ≡ 1 = opened_one (is_close token) closing in
    let no_bracket : is_open token ≡ false = closing_is_not_open token.kind closing in
    let none : opened token ≡ 0 = ap (λ (v : Bool). let n : ℕ = cond v 1 0 in n) no_bracket in
    let count : depth + opened token ≡ depth - 1 + closed token = omega arith in
    says_step most depth (depth - 1) first first token tokens _ l count
    (record { kept = λ k. refl; new = λ z o. absurd (not_open (is_open token) no_bracket o) })
    (behind (depth - 1) first (omega arith))

-- what is said at a token
says_at_token : (v w : Bool) (most depth first : ℕ) (token : Token) (tokens : List Token) → is_open token ≡ v → is_close token ≡ w → depth ≤ most → SaysBehind most tokens →
    Says most depth first (token ∷ tokens)
    (cond v (cond (nat_lt depth most) (bracket_fault most (depth + 1) (first_open depth first token.start) tokens) (Some (TooDeep token.start)))
    (cond w (cond (depth == 0) (Some (Unopened token.start)) (bracket_fault most (depth - 1) first tokens))
    (bracket_fault most depth first tokens)))
says_at_token true w most depth first token tokens o c l behind = says_at_open (nat_lt depth most) most depth first token tokens refl o l behind
says_at_token false true most depth first token tokens o c l behind = says_at_close (depth == 0) most depth first token tokens refl c l behind
says_at_token false false most depth first token tokens o c l behind =
    let none : opened token ≡ 0 = ap (λ (v : Bool). let n : ℕ = cond v 1 0 in n) o in
    let none' : closed token ≡ 0 = ap (λ (v : Bool). let n : ℕ = cond v 1 0 in n) c in
    let count : depth + opened token ≡ depth + closed token = omega arith in
    says_step most depth depth first first token tokens _ l count
    (record { kept = λ k. refl; new = λ z q. absurd (not_open (is_open token) o q) })
    (behind depth first l)

-- no tokens leave the bracket open
never_none : (depth : ℕ) → 0 < depth → Never depth []
never_none depth some [] rest e = omega arith
never_none depth some (x ∷ front) rest e = cc

-- what is said at the end
says_at_end : (b : Bool) (most depth first : ℕ) → (depth == 0) ≡ b → depth ≤ most → Says most depth first [] (cond b None (Some (Unclosed first)))
says_at_end true most depth first test l =
    let none : depth ≡ 0 = grind (arith, nat_tests) in
    let total : depth + 0 ≡ 0 = omega arith in
    (none_within most depth l, total)
says_at_end false most depth first test l =
    let some : 0 < depth = grind (arith, nat_tests) in
    (none_within most depth l, inl (never_none depth some, some, refl))

-- what is said of tokens holds
says : (most depth first : ℕ) (tokens : List Token) → depth ≤ most → Says most depth first tokens (bracket_fault most depth first tokens)
says most depth first [] l = says_at_end (depth == 0) most depth first refl l
says most depth first (token ∷ tokens) l =
    says_at_token (is_open token) (is_close token) most depth first token tokens refl refl l (λ d f. says most d f tokens)

-- where no bracket is open before the tokens
pub to_within : (most : ℕ) (tokens : List Token) → Within most 0 tokens → StayWithin most tokens
to_within most tokens within = record {
  paired = λ front rest e. let h : closes front ≤ 0 + opens front = within.paired front rest e in omega arith;
  shallow = λ front rest e. let h : 0 + opens front ≤ closes front + most = within.shallow front rest e in omega arith;
}

-- the bracket, with none open before
to_at : (most : ℕ) (tokens : List Token) (passes : Token → Bool) (level offset : ℕ) → At most 0 tokens passes level offset → IsBracketAt most tokens passes level offset
to_at most tokens passes level offset at =
    let there = at.level_there in
    let here : opens at.front ≡ closes at.front + level = omega arith in
    record {
      front = at.front;
      bracket = at.bracket;
      rest = at.rest;
      whole = at.whole;
      before = to_within most at.front at.before;
      level_there = here;
      test = at.test;
      place = at.place;
    }

-- an unclosed bracket, with none open before
to_unclosed : (most first : ℕ) (tokens : List Token) (offset : ℕ) → Within most 0 tokens →
    (Never 0 tokens × (0 < 0) × (offset ≡ first)) ⊎ Unpaired most 0 tokens offset → IsUnclosed most tokens offset
unfolding to_at
to_unclosed most first tokens offset within (inl h) = let none : 0 < 0 = h.1 in absurd (omega arith)
to_unclosed most first tokens offset within (inr unpaired) =
    record { within = to_within most tokens within; bracket_at = to_at most tokens is_open 0 offset unpaired.at; never = unpaired.never }

-- what a first fault of the brackets of all tokens says of them
abbrev pub IsFaultOf : ℕ → List Token → Option TermFault → Type 0
IsFaultOf most tokens None = StayWithin most tokens × (opens tokens ≡ closes tokens)
IsFaultOf most tokens (Some (Unopened offset)) = IsBracketAt most tokens is_close 0 offset
IsFaultOf most tokens (Some (TooDeep offset)) = IsBracketAt most tokens is_open most offset
IsFaultOf most tokens (Some (Unclosed offset)) = IsUnclosed most tokens offset
IsFaultOf most tokens (Some (Lex offset)) = ⊥
IsFaultOf most tokens (Some OutOfMemory) = ⊥

-- what is said of all tokens
said_of_all : (most : ℕ) (tokens : List Token) (found : Option TermFault) → Says most 0 0 tokens found → IsFaultOf most tokens found
said_of_all most tokens None says =
    let total : 0 + opens tokens ≡ closes tokens = says.1 in
    let here : opens tokens ≡ closes tokens = omega arith in
    (to_within most tokens says.0, here)
said_of_all most tokens (Some (Unopened offset)) says = to_at most tokens is_close 0 offset says
said_of_all most tokens (Some (TooDeep offset)) says = to_at most tokens is_open most offset says
said_of_all most tokens (Some (Unclosed offset)) says = to_unclosed most 0 tokens offset says.0 says.1
said_of_all most tokens (Some (Lex offset)) says = says
said_of_all most tokens (Some OutOfMemory) says = says

-- the first fault of all tokens
pub fault_said : (most : ℕ) (tokens : List Token) → IsFaultOf most tokens (bracket_fault most 0 0 tokens)
fault_said most tokens = said_of_all most tokens (bracket_fault most 0 0 tokens) (says most 0 0 tokens (omega arith))

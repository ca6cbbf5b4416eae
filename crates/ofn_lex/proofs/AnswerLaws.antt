-- What is read at an offset is what the format has there, and nothing else is; so a text has one list of tokens.
use Rattle.std.proofs.Common.{◌≡◌, ◌≤◌, ◌<◌, ℕ, zero, suc, ◌+◌, ◌-◌, Bool, true, false, List, [], ◌∷◌, ◌++◌, length, drop, refl, ap, sym, subst, ◌∙◌, arith, Option, Some, None, Result, Ok, Err, append-nil, eqb-true, length-append, length-drop}
use Rattle.std.specs.Prelude.{◌==◌, ◌||◌}
use Rattle.std.proofs.lemmas.List.{drop-drop, drop_at}
use Rattle.ofn_lex.specs.declared.token.Token.{Token}
use Rattle.ofn_lex.specs.declared.token.LexFault.{LexFault}
use Rattle.ofn_lex.specs.declared.token.TokenKind.{TokenKind}
use Rattle.ofn_lex.specs.declared.token.TokenKind.TheVariants.{Open, Close, Equals, FullIri, Quoted, Lang, Carets, Run}
use Rattle.ofn_lex.specs.Bytes.{is_white_space, begins_gap, is_run_byte}
use Rattle.ofn_lex.specs.Ends.{gap_end}
use Rattle.ofn_lex.specs.Forms.{GapPart, gap_bytes, IsGap, HasForm}
use Rattle.ofn_lex.specs.NextToken.{token_at, or_fault, first_of, past_gap, next_of}
use Rattle.ofn_lex.specs.Texts.{NoneLonger, BeginsNone, IsNext, IsAnswer, IsLast, HasTokens, HasReading}
use Rattle.ofn_lex.proofs.EndLaws.{gap_found, gap_again, BeginsNoGap}
use Rattle.ofn_lex.proofs.TokenLaws.{IsFront, IsFrontIfSome, token_is_front, first_token, Reaches, form_is_read}

-- what is left after a front
pub drop_behind : (text : List ℕ) (from : ℕ) (front rest : List ℕ) → drop from text ≡ front ++ rest → drop (from + length front) text ≡ rest
drop_behind text from front rest e = sym (drop-drop (length front) from text) ∙ ap (drop (length front)) e ∙ drop_at front rest (length front) refl

-- no front with a form is longer than the token that is read
longest_of : (at : ℕ) (bytes own : List ℕ) (token : Token) → first_token at bytes ≡ Some token → token.end ≡ at + length own → NoneLonger (length own) bytes
longest_of at bytes own token read ends kind front others form whole =
    let reached : Reaches kind (at + length front) (Some token) = subst (Reaches kind (at + length front)) (sym (ap (first_token at) whole) ∙ read) (form_is_read kind at front others form) in
    let far : at + length front ≤ token.end = reached.1 in
    omega arith

-- what is read at a byte that begins no gap
answer_of_token : (text : List ℕ) (from at : ℕ) (gap : List GapPart) (b : ℕ) (bs : List ℕ) (o : Option Token) → token_at at b bs ≡ o →
    drop from text ≡ gap_bytes gap ++ b ∷ bs → IsGap gap (b ∷ bs) → begins_gap b ≡ false → at ≡ from + length (gap_bytes gap) → IsAnswer text from (or_fault at o)
answer_of_token text from at gap b bs None read whole passed stops here =
    record {
      gap = gap;
      byte = b;
      rest = bs;
      whole = whole;
      passed = passed;
      no_gap = stops;
      no_token = λ kind front others form e. subst (Reaches kind (at + length front)) (sym (ap (first_token at) e) ∙ read) (form_is_read kind at front others form);
      offset = here;
    }
answer_of_token text from at gap b bs (Some token) read whole passed stops here =
    let front : IsFront at (b ∷ bs) token = subst (IsFrontIfSome at (b ∷ bs)) read (token_is_front at b bs) in
    record {
      gap = gap;
      own = front.own;
      rest = front.rest;
      whole = whole ∙ ap (λ (l : List ℕ). gap_bytes gap ++ l) front.whole;
      passed = subst (IsGap gap) front.whole passed;
      form = front.form;
      longest = subst (NoneLonger (length front.own)) front.whole (longest_of at (b ∷ bs) front.own token read front.ends);
      starts = front.starts ∙ here;
      ends = front.ends ∙ ap (λ (n : ℕ). n + length front.own) (sym front.starts);
    }

-- what is read after a gap
answer_behind_gap : (text : List ℕ) (from at : ℕ) (gap : List GapPart) (rest : List ℕ) → drop from text ≡ gap_bytes gap ++ rest → IsGap gap rest → BeginsNoGap rest → at ≡ from + length (gap_bytes gap) → IsAnswer text from (first_of at rest)
answer_behind_gap text from at gap [] whole passed stops here = record { gap = gap; whole = whole ∙ append-nil (gap_bytes gap); passed = passed }
answer_behind_gap text from at gap (b ∷ bs) whole passed stops here = answer_of_token text from at gap b bs (token_at at b bs) refl whole passed stops here

-- what is read is what the format has
pub next_is_answer : (text : List ℕ) (from : ℕ) → IsAnswer text from (next_of text from)
next_is_answer text from =
    let g = gap_found from (drop from text) in
    let tail : drop (past_gap text from) text ≡ g.rest = ap (λ (n : ℕ). drop n text) g.ends ∙ drop_behind text from (gap_bytes g.gap) g.rest g.whole in
    subst (λ (l : List ℕ). IsAnswer text from (first_of (past_gap text from) l)) (sym tail) (answer_behind_gap text from (past_gap text from) g.gap g.rest g.whole g.passed g.stops g.ends)

-- what is read after a gap
next_behind_gap : (text : List ℕ) (from : ℕ) (gap : List GapPart) (rest : List ℕ) → drop from text ≡ gap_bytes gap ++ rest → IsGap gap rest → BeginsNoGap rest → next_of text from ≡ first_of (from + length (gap_bytes gap)) rest
next_behind_gap text from gap rest whole passed stops =
    let past : past_gap text from ≡ from + length (gap_bytes gap) = ap (gap_end from) whole ∙ gap_again from gap rest passed stops in
    ap (λ (n : ℕ). first_of n (drop n text)) past ∙ ap (first_of (from + length (gap_bytes gap))) (drop_behind text from (gap_bytes gap) rest whole)

-- a byte of a run begins no gap
run_begins_no_gap : (v w : Bool) (b : ℕ) → is_white_space b ≡ v → (b == 35) ≡ w → is_run_byte b ≡ true → (v || w) ≡ false
run_begins_no_gap true w b i j e = cc
run_begins_no_gap false true b i j e = let same = ap is_run_byte (eqb-true b 35 j) in cc
run_begins_no_gap false false b i j e = refl

-- a token begins no gap
form_begins_no_gap : (kind : TokenKind) (own rest : List ℕ) → HasForm kind own → BeginsNoGap (own ++ rest)
form_begins_no_gap Open own rest form = subst (λ (l : List ℕ). BeginsNoGap (l ++ rest)) (sym form) refl
form_begins_no_gap Close own rest form = subst (λ (l : List ℕ). BeginsNoGap (l ++ rest)) (sym form) refl
form_begins_no_gap Equals own rest form = subst (λ (l : List ℕ). BeginsNoGap (l ++ rest)) (sym form) refl
form_begins_no_gap FullIri own rest form = subst (λ (l : List ℕ). BeginsNoGap (l ++ rest)) (sym form.2) refl
form_begins_no_gap Quoted own rest form = subst (λ (l : List ℕ). BeginsNoGap (l ++ rest)) (sym form.2) refl
form_begins_no_gap Lang own rest form = subst (λ (l : List ℕ). BeginsNoGap (l ++ rest)) (sym form.3) refl
form_begins_no_gap Carets own rest form = subst (λ (l : List ℕ). BeginsNoGap (l ++ rest)) (sym form) refl
form_begins_no_gap Run [] rest form = absurd (omega (arith, form.0))
form_begins_no_gap Run (b ∷ bs) rest form = let all = form.1 in run_begins_no_gap (is_white_space b) (b == 35) b refl refl all.0

-- a token, as an answer
abbrev ok_token : Token → Result (Option Token) LexFault
ok_token token = Ok (Some token)

-- a fault, as an answer
abbrev err_fault : LexFault → Result (Option Token) LexFault
err_fault fault = Err fault

-- tokens with the same parts are the same
same_token : (t u : Token) → t.kind ≡ u.kind → t.start ≡ u.start → t.end ≡ u.end → t ≡ u
same_token t u k s e = λ i. record { kind = k i; start = s i; end = e i }

-- a front that has a form, and that no front with a form is longer than, is the token that is read
read_is_longest : (at : ℕ) (own rest bytes : List ℕ) (token : Token) (o : Option Token) → first_token at bytes ≡ o → bytes ≡ own ++ rest → HasForm token.kind own → NoneLonger (length own) (own ++ rest) →
    token.start ≡ at → token.end ≡ token.start + length own → first_of at bytes ≡ Ok (Some token)
read_is_longest at own rest [] token o read whole form longest starts ends =
    let reached : Reaches token.kind (at + length own) None = subst (Reaches token.kind (at + length own)) (sym (ap (first_token at) whole)) (form_is_read token.kind at own rest form) in
    absurd reached
read_is_longest at own rest (b ∷ bs) token None read whole form longest starts ends =
    let reached : Reaches token.kind (at + length own) None = subst (Reaches token.kind (at + length own)) (sym (ap (first_token at) whole) ∙ read) (form_is_read token.kind at own rest form) in
    absurd reached
read_is_longest at own rest (b ∷ bs) token (Some other) read whole form longest starts ends =
    let reached : Reaches token.kind (at + length own) (Some other) = subst (Reaches token.kind (at + length own)) (sym (ap (first_token at) whole) ∙ read) (form_is_read token.kind at own rest form) in
    let front : IsFront at (b ∷ bs) other = subst (IsFrontIfSome at (b ∷ bs)) read (token_is_front at b bs) in
    let far : at + length own ≤ other.end = reached.1 in
    let short : length front.own ≤ length own = longest other.kind front.own front.rest front.form (sym whole ∙ front.whole) in
    let end : other.end ≡ token.end = omega (arith, front.ends) in
    ap (or_fault at) read ∙ ap ok_token (same_token other token reached.0 (front.starts ∙ sym starts) end)

-- with no token there, the fault is read
stuck_is_read : (at b : ℕ) (bs : List ℕ) (fault : LexFault) (o : Option Token) → token_at at b bs ≡ o → BeginsNone (b ∷ bs) → fault.offset ≡ at → or_fault at (token_at at b bs) ≡ Err fault
stuck_is_read at b bs fault None read none here = ap (or_fault at) read ∙ ap err_fault (λ i. record { offset = sym here i })
stuck_is_read at b bs fault (Some token) read none here =
    let front : IsFront at (b ∷ bs) token = subst (IsFrontIfSome at (b ∷ bs)) read (token_is_front at b bs) in
    absurd (none token.kind front.own front.rest front.form front.whole)

-- what the format has is what is read
pub answer_is_next : (text : List ℕ) (from : ℕ) (answer : Result (Option Token) LexFault) → IsAnswer text from answer → next_of text from ≡ answer
answer_is_next text from (Ok None) h = next_behind_gap text from h.gap [] (h.whole ∙ sym (append-nil (gap_bytes h.gap))) h.passed tt
answer_is_next text from (Ok (Some token)) h =
    next_behind_gap text from h.gap (h.own ++ h.rest) h.whole h.passed (form_begins_no_gap token.kind h.own h.rest h.form) ∙
    read_is_longest (from + length (gap_bytes h.gap)) h.own h.rest (h.own ++ h.rest) token _ refl refl h.form h.longest h.starts h.ends
answer_is_next text from (Err fault) h =
    next_behind_gap text from h.gap (h.byte ∷ h.rest) h.whole h.passed h.no_gap ∙
    stuck_is_read (from + length (gap_bytes h.gap)) h.byte h.rest fault (token_at (from + length (gap_bytes h.gap)) h.byte h.rest) refl h.no_token h.offset

-- the answer after the last token
abbrev pub last_answer : Option LexFault → Result (Option Token) LexFault
last_answer None = Ok None
last_answer (Some fault) = Err fault

-- the same of what comes last
last_is_next : (text : List ℕ) (from : ℕ) (last : Option LexFault) → IsLast text from last → next_of text from ≡ last_answer last
last_is_next text from None h = answer_is_next text from (Ok None) h
last_is_next text from (Some fault) h = answer_is_next text from (Err fault) h

-- what comes last is told by its answer
same_last : (text : List ℕ) (from : ℕ) (x y : Option LexFault) → last_answer x ≡ last_answer y → x ≡ y
same_last text from None None e = refl
same_last text from None (Some g) e = cc
same_last text from (Some f) None e = cc
same_last text from (Some f) (Some g) e = cc

-- a token is not what comes last
not_last : (token : Token) (last : Option LexFault) → last_answer last ≡ Ok (Some token) → ⊥
not_last token None e = cc
not_last token (Some fault) e = cc

-- a text has one list of tokens at most
pub one_list : (text : List ℕ) (from : ℕ) (xs ys : List Token) (x y : Option LexFault) → HasTokens text from xs x → HasTokens text from ys y → (xs ≡ ys) × (x ≡ y)
one_list text from [] [] x y h k = (refl, same_last text from x y (sym (last_is_next text from x h) ∙ last_is_next text from y k))
one_list text from [] (t ∷ ys) x y h k = absurd (not_last t x (sym (last_is_next text from x h) ∙ answer_is_next text from (Ok (Some t)) k.0))
one_list text from (t ∷ xs) [] x y h k = absurd (not_last t y (sym (last_is_next text from y k) ∙ answer_is_next text from (Ok (Some t)) h.0))
one_list text from (t ∷ xs) (u ∷ ys) x y h k =
    let both = sym (answer_is_next text from (Ok (Some t)) h.0) ∙ answer_is_next text from (Ok (Some u)) k.0 in
    let same : t ≡ u = cc in
    let more : HasTokens text u.end xs x = subst (λ (v : Token). HasTokens text v.end xs x) same h.1 in
    let rest = one_list text u.end xs ys x y more k.1 in
    (cc, rest.1)

-- one token has one kind
same_kind : (o : Option Token) (one other : TokenKind) (m n : ℕ) → Reaches one m o → Reaches other n o → one ≡ other
same_kind None one other m n h k = absurd h
same_kind (Some token) one other m n h k = sym h.0 ∙ k.0

-- a token is not empty
pub form_has_bytes : (kind : TokenKind) (own : List ℕ) → HasForm kind own → 1 ≤ length own
form_has_bytes Open own form = omega (arith, ap length form)
form_has_bytes Close own form = omega (arith, ap length form)
form_has_bytes Equals own form = omega (arith, ap length form)
form_has_bytes FullIri own form = omega (arith, ap length form.2)
form_has_bytes Quoted own form = omega (arith, ap length form.2)
form_has_bytes Lang own form = omega (arith, ap length form.3)
form_has_bytes Carets own form = omega (arith, ap length form)
form_has_bytes Run own form = form.0

-- a token ends past the offset and within the text
pub next_ends : (text : List ℕ) (from : ℕ) (token : Token) → IsNext text from token → (from < token.end) × (token.end ≤ length text)
next_ends text from token h =
    let some : 1 ≤ length h.own = form_has_bytes token.kind h.own h.form in
    let size : length (gap_bytes h.gap) + (length h.own + length h.rest) ≡ length text - from = simp (length-append, length-drop) at (sym (ap length h.whole)) in
    (omega (arith, h.starts, h.ends), omega (arith, h.starts, h.ends))

-- one token more, or the last answer
reading_step : (text : List ℕ) (from : ℕ) (answer : Result (Option Token) LexFault) → IsAnswer text from answer → ((token : Token) → from < token.end → token.end ≤ length text → HasReading text token.end) → HasReading text from
reading_step text from (Ok None) h more = record { tokens = []; last = None; has = h }
reading_step text from (Err fault) h more = record { tokens = []; last = Some fault; has = h }
reading_step text from (Ok (Some token)) h more =
    let ends = next_ends text from token h in
    let rest = more token ends.0 ends.1 in
    record { tokens = token ∷ rest.tokens; last = rest.last; has = (h, rest.has) }

-- so many bytes have a list of tokens
reading_within : (most : ℕ) (text : List ℕ) (from : ℕ) → length text ≤ from + most → HasReading text from
reading_within zero text from h = reading_step text from (next_of text from) (next_is_answer text from) (λ token past within. absurd (omega arith))
reading_within (suc most) text from h = reading_step text from (next_of text from) (next_is_answer text from) (λ token past within. reading_within most text token.end (omega arith))

-- each text has a list of tokens
pub each_has_reading : (text : List ℕ) (from : ℕ) → HasReading text from
each_has_reading text from = reading_within (length text) text from (omega arith)

-- the first bytes of a token tell its kind
pub kind_of_first : (one other : TokenKind) (front rest front' rest' : List ℕ) → HasForm one front → HasForm other front' → front ++ rest ≡ front' ++ rest' → one ≡ other
kind_of_first one other front rest front' rest' form form' whole =
    same_kind (first_token 0 (front ++ rest)) one other (0 + length front) (0 + length front') (form_is_read one 0 front rest form)
    (subst (Reaches other (0 + length front')) (ap (first_token 0) (sym whole)) (form_is_read other 0 front' rest' form'))

-- what is read in steps: the gap, and then the token
pub answer_in_steps : (text rest tail : List ℕ) (from at : ℕ) (answer : Result (Option Token) LexFault) → rest ≡ drop from text → at ≡ gap_end from rest → tail ≡ drop at text → answer ≡ first_of at tail → IsAnswer text from answer
answer_in_steps text rest tail from at answer e f g h =
    let past : at ≡ past_gap text from = f ∙ ap (gap_end from) e in
    let same : answer ≡ next_of text from = h ∙ ap (first_of at) g ∙ ap (λ (n : ℕ). first_of n (drop n text)) past in
    subst (IsAnswer text from) (sym same) (next_is_answer text from)

-- A text has items or one first fault.
use Rattle.std.proofs.Common.{◌≡◌, ℕ, ◌+◌, ◌-◌, Bool, true, false, cond, ◌&&◌, List, [], ◌∷◌, map, subst, ap, sym, ◌∙◌, refl, arith, zero, suc}
use Rattle.std.specs.Prelude.{Option, Some, None, ◌==◌, nat_lt}
use Rattle.std.proofs.lemmas.Bool.{or_parts}
use Rattle.std.proofs.lemmas.Bool.Decides.{nat_tests}
use Rattle.ofn_lex.specs.declared.token.Token.{Token}
use Rattle.ofn_lex.specs.declared.token.LexFault.{LexFault}
use Rattle.ofn_lex.specs.declared.token.TokenKind.{TokenKind}
use Rattle.ofn_lex.specs.declared.token.TokenKind.TheVariants.{Open, Close, Equals, FullIri, Quoted, Lang, Carets, Run}
use Rattle.ofn_lex.specs.Texts.{HasTokens, HasReading}
use Rattle.ofn_term.specs.declared.fault.TermFault.{TermFault}
use Rattle.ofn_term.specs.declared.fault.TermFault.TheVariants as fault
use Rattle.ofn_term.specs.declared.item.Item.{Item}
use Rattle.ofn_term.specs.Words.{is_open_kind, is_close_kind, is_open, is_close, is_word, begins_open}
use Rattle.ofn_term.specs.Brackets.{opens, closes}
use Rattle.ofn_term.specs.Texts.{HasItems, HasFault, IsFirstFault, HasAnswer, reads, fails}
use Rattle.ofn_term.specs.Writing.{Piece, opening, closing, head, atom, token_of, pieces, tokens_of, begins_group, AreInPlace, StandFor}
use Rattle.ofn_term.specs.Inside.PieceReading.{piece_of, pieces_of, bracket_fault, first_open, IsFaultUnlessMemory}
use Rattle.ofn_term.proofs.Faults.{IsFaultOf, fault_said}
use Rattle.ofn_term.proofs.FaultLaws.{no_one, unopened_found, too_deep_found, unclosed_found, none_found}
use Rattle.ofn_term.proofs.OneList.{one_list, ArePaired, AreBeforeGroups, some_list, openings, closings, even}
use Rattle.ofn_term.proofs.Standing.{are_short, tokens_read, read_in_place, written_then_read, word_is_run}

-- what the first fault says
pub said : (most : ℕ) (tokens : List Token) (found : Option TermFault) → bracket_fault most 0 0 tokens ≡ found → IsFaultOf most tokens found
said most tokens found e = subst (IsFaultOf most tokens) e (fault_said most tokens)

-- a fault of brackets is the first fault of the text
pub fault_of_brackets : (text : List ℕ) (most : ℕ) (tokens : List Token) (f : TermFault) → HasTokens text 0 tokens None → IsFaultUnlessMemory (bracket_fault most 0 0 tokens) f → IsFirstFault text most f
fault_of_brackets text most tokens fault.OutOfMemory has is = tt
fault_of_brackets text most tokens (fault.Lex offset) has is = absurd (said most tokens (Some (fault.Lex offset)) is)
fault_of_brackets text most tokens (fault.Unopened offset) has is = (tokens, has, said most tokens (Some (fault.Unopened offset)) is)
fault_of_brackets text most tokens (fault.Unclosed offset) has is = (tokens, has, said most tokens (Some (fault.Unclosed offset)) is)
fault_of_brackets text most tokens (fault.TooDeep offset) has is = (tokens, has, said most tokens (Some (fault.TooDeep offset)) is)

-- items that were read are written as their tokens
pub written : (text : List ℕ) (tokens : List Token) (items : List Item) → HasTokens text 0 tokens None → pieces_of text tokens ≡ pieces items → tokens_of items ≡ tokens
written text tokens items has e = ap (map token_of) (sym e) ∙ tokens_read text tokens (are_short text 0 tokens None has)

-- items that were read stand for their tokens
pub items_of_tokens : (text : List ℕ) (most : ℕ) (tokens : List Token) (items : List Item) → HasTokens text 0 tokens None →
    pieces_of text tokens ≡ pieces items → bracket_fault most 0 0 tokens ≡ None → HasItems text most items
items_of_tokens text most tokens items has e none = record {
  tokens = tokens;
  read = has;
  within = (said most tokens None none).0;
  stand = record { written = written text tokens items has e; in_place = subst (AreInPlace text) e (read_in_place text tokens) };
}

-- tokens without a fault of brackets are those of some items
abbrev PairedBehind : ℕ → List ℕ → List Token → Type 0
PairedBehind most text tokens = (depth first : ℕ) → bracket_fault most depth first tokens ≡ None → ArePaired depth (pieces_of text tokens)

-- a head or an atom keeps the pairs
either_paired : (b : Bool) (depth : ℕ) (token : Token) (ps : List Piece) → ArePaired depth ps → ArePaired depth (cond b (head token) (atom token) ∷ ps)
either_paired true depth token ps paired = paired
either_paired false depth token ps paired = paired

-- pairs past an opening bracket
paired_at_open : (b : Bool) (most depth first offset : ℕ) (text : List ℕ) (tokens : List Token) → PairedBehind most text tokens →
    cond b (bracket_fault most (depth + 1) first tokens) (Some (fault.TooDeep offset)) ≡ None → ArePaired (suc depth) (pieces_of text tokens)
paired_at_open true most depth first offset text tokens behind e = let one_more : depth + 1 ≡ suc depth = omega arith in subst (λ (n : ℕ). ArePaired n (pieces_of text tokens)) one_more (behind (depth + 1) first e)
paired_at_open false most depth first offset text tokens behind e = cc

-- pairs past a closing bracket
paired_at_close : (most depth first start end : ℕ) (text : List ℕ) (tokens : List Token) → PairedBehind most text tokens →
    bracket_fault most depth first (record { kind = Close; start = start; end = end } ∷ tokens) ≡ None → ArePaired depth (closing end ∷ pieces_of text tokens)
paired_at_close most zero first start end text tokens behind e = let other : Some (fault.Unopened start) ≡ None = e in cc
paired_at_close most (suc depth) first start end text tokens behind e =
    let close : Token = record { kind = Close; start = start; end = end } in
    let some_open : (suc depth == 0) ≡ false = grind (arith, nat_tests) in
    let one_less : suc depth - 1 ≡ depth = omega arith in
    behind depth first (sym (rw (some_open, one_less) refl) ∙ e)

-- pairs past a token
paired_at : (most depth first : ℕ) (text : List ℕ) (kind : TokenKind) (start end : ℕ) (tokens : List Token) → PairedBehind most text tokens →
    bracket_fault most depth first (record { kind = kind; start = start; end = end } ∷ tokens) ≡ None →
    ArePaired depth (piece_of text (record { kind = kind; start = start; end = end }) tokens ∷ pieces_of text tokens)
paired_at most depth first text Open start end tokens behind e = paired_at_open (nat_lt depth most) most depth (first_open depth first start) start text tokens behind e
paired_at most depth first text Close start end tokens behind e = paired_at_close most depth first start end text tokens behind e
paired_at most depth first text Equals start end tokens behind e = behind depth first e
paired_at most depth first text FullIri start end tokens behind e = behind depth first e
paired_at most depth first text Quoted start end tokens behind e = behind depth first e
paired_at most depth first text Lang start end tokens behind e = behind depth first e
paired_at most depth first text Carets start end tokens behind e = behind depth first e
paired_at most depth first text Run start end tokens behind e =
    let token : Token = record { kind = Run; start = start; end = end } in
    either_paired (is_word text token && begins_open tokens) depth token (pieces_of text tokens) (behind depth first e)

-- tokens without a fault are in pairs
paired : (most : ℕ) (text : List ℕ) (tokens : List Token) → PairedBehind most text tokens
paired most text [] zero first e = refl
paired most text [] (suc depth) first e =
    let some_open : (suc depth == 0) ≡ false = grind (arith, nat_tests) in
    let other : Some (fault.Unclosed first) ≡ None = sym (rw some_open refl) ∙ e in cc
paired most text (token ∷ tokens) depth first e = paired_at most depth first text token.kind token.start token.end tokens (paired most text tokens) e

-- the second test passes
second : (v w : Bool) → (v && w) ≡ true → w ≡ true
second true w e = e
second false w e = cc

-- heads stand before groups
heads_in_place : (text : List ℕ) (ps : List Piece) → AreInPlace text ps → AreBeforeGroups ps
heads_in_place text [] placed = tt
heads_in_place text (opening start ∷ ps) placed = heads_in_place text ps placed
heads_in_place text (closing end ∷ ps) placed = heads_in_place text ps placed
heads_in_place text (head token ∷ ps) placed = (second (is_word text token) (begins_group ps) placed.0, heads_in_place text ps placed.1)
heads_in_place text (atom token ∷ ps) placed = heads_in_place text ps placed.2

-- tokens without a fault are of some items
some_items : (text : List ℕ) (most : ℕ) (tokens : List Token) → HasTokens text 0 tokens None → bracket_fault most 0 0 tokens ≡ None → HasAnswer text most
some_items text most tokens has none =
    let list = some_list (pieces_of text tokens) (paired most text tokens 0 0 none) (heads_in_place text (pieces_of text tokens) (read_in_place text tokens)) in
    reads list.items (items_of_tokens text most tokens list.items has (sym list.same) none)

-- items or a fault, by the brackets
by_brackets : (text : List ℕ) (most : ℕ) (tokens : List Token) (found : Option TermFault) → HasTokens text 0 tokens None → bracket_fault most 0 0 tokens ≡ found → HasAnswer text most
by_brackets text most tokens None has e = some_items text most tokens has e
by_brackets text most tokens (Some (fault.Unopened offset)) has e = fails (fault.Unopened offset) (tokens, has, said most tokens (Some (fault.Unopened offset)) e)
by_brackets text most tokens (Some (fault.Unclosed offset)) has e = fails (fault.Unclosed offset) (tokens, has, said most tokens (Some (fault.Unclosed offset)) e)
by_brackets text most tokens (Some (fault.TooDeep offset)) has e = fails (fault.TooDeep offset) (tokens, has, said most tokens (Some (fault.TooDeep offset)) e)
by_brackets text most tokens (Some (fault.Lex offset)) has e = absurd (said most tokens (Some (fault.Lex offset)) e)
by_brackets text most tokens (Some fault.OutOfMemory) has e = absurd (said most tokens (Some fault.OutOfMemory) e)

-- items or a fault, by the tokens
answer_of_tokens : (text : List ℕ) (most : ℕ) (tokens : List Token) (last : Option LexFault) → HasTokens text 0 tokens last → HasAnswer text most
answer_of_tokens text most tokens None has = by_brackets text most tokens (bracket_fault most 0 0 tokens) has refl
answer_of_tokens text most tokens (Some f) has = fails (fault.Lex f.offset) (tokens, has)

-- each text has items or a fault
pub each_has_answer : (text : List ℕ) (most : ℕ) → HasReading text 0 → HasAnswer text most
each_has_answer text most reading = answer_of_tokens text most reading.tokens reading.last reading.has

-- what tokens, with what is after them, tell of the first fault
abbrev first_fault : ℕ → List Token → Option LexFault → Option TermFault
first_fault most tokens None = bracket_fault most 0 0 tokens
first_fault most tokens (Some f) = Some (fault.Lex f.offset)

-- the text tells this first fault, or none
record Tells (text : List ℕ) (most : ℕ) (found : Option TermFault) : Type 0 where
  tokens : List Token
  last : Option LexFault
  has : HasTokens text 0 tokens last
  same : first_fault most tokens last ≡ found

-- a text has one list of tokens at most, with one end
abbrev pub OneListOfTokens : List ℕ → Type 0
OneListOfTokens text = (tokens others : List Token) (last other : Option LexFault) → HasTokens text 0 tokens last → HasTokens text 0 others other → (tokens ≡ others) × (last ≡ other)

-- a text tells one
one_found : (text : List ℕ) (most : ℕ) (found other : Option TermFault) → OneListOfTokens text → Tells text most found → Tells text most other → found ≡ other
one_found text most found other one a b =
    let same = one a.tokens b.tokens a.last b.last a.has b.has in
    sym a.same ∙ ap (λ (ts : List Token). first_fault most ts a.last) same.0 ∙ ap (first_fault most b.tokens) same.1 ∙ b.same

-- a first fault is told
tells_fault : (text : List ℕ) (most : ℕ) (f : TermFault) → HasFault text most f → Tells text most (Some f)
tells_fault text most (fault.Lex offset) has = record { tokens = has.0; last = Some (record { offset = offset }); has = has.1; same = refl }
tells_fault text most (fault.Unopened offset) has = record { tokens = has.0; last = None; has = has.1; same = unopened_found most has.0 offset has.2 }
tells_fault text most (fault.Unclosed offset) has = record { tokens = has.0; last = None; has = has.1; same = unclosed_found most has.0 offset has.2 }
tells_fault text most (fault.TooDeep offset) has = record { tokens = has.0; last = None; has = has.1; same = too_deep_found most has.0 offset has.2 }
tells_fault text most fault.OutOfMemory has = absurd has

-- a text has one first fault
pub one_fault : (text : List ℕ) (most : ℕ) (f g : TermFault) → OneListOfTokens text → HasFault text most f → HasFault text most g → f ≡ g
one_fault text most f g one a b =
    let same = one_found text most (Some f) (Some g) one (tells_fault text most f a) (tells_fault text most g b) in cc

-- groups have both their brackets
no_open_kind : (kind : TokenKind) → kind ≡ Run → let n : ℕ = cond (is_open_kind kind) 1 0 in n ≡ 0
no_open_kind kind e = ap (λ (k : TokenKind). let n : ℕ = cond (is_open_kind k) 1 0 in n) e

-- a run does not close
no_close_kind : (kind : TokenKind) → kind ≡ Run → let n : ℕ = cond (is_close_kind kind) 1 0 in n ≡ 0
no_close_kind kind e = ap (λ (k : TokenKind). let n : ℕ = cond (is_close_kind k) 1 0 in n) e

-- written tokens open as often as their pieces
opens_written : (text : List ℕ) (ps : List Piece) → AreInPlace text ps → opens (map token_of ps) ≡ openings ps
opens_written text [] placed = refl
opens_written text (opening start ∷ ps) placed = let h : opens (map token_of ps) ≡ openings ps = opens_written text ps placed in omega arith
opens_written text (closing end ∷ ps) placed = let h : opens (map token_of ps) ≡ openings ps = opens_written text ps placed in omega arith
opens_written text (head token ∷ ps) placed =
    let h : opens (map token_of ps) ≡ openings ps = opens_written text ps placed.1 in
    omega (arith, no_open_kind token.kind (word_is_run token.kind _ _ placed.0))
opens_written text (atom token ∷ ps) placed =
    let h : opens (map token_of ps) ≡ openings ps = opens_written text ps placed.2 in
    omega (arith, no_one (is_open token) (or_parts (is_open token) (is_close token) placed.0).0)

-- written tokens close as often as their pieces
closes_written : (text : List ℕ) (ps : List Piece) → AreInPlace text ps → closes (map token_of ps) ≡ closings ps
closes_written text [] placed = refl
closes_written text (opening start ∷ ps) placed = let h : closes (map token_of ps) ≡ closings ps = closes_written text ps placed in omega arith
closes_written text (closing end ∷ ps) placed = let h : closes (map token_of ps) ≡ closings ps = closes_written text ps placed in omega arith
closes_written text (head token ∷ ps) placed =
    let h : closes (map token_of ps) ≡ closings ps = closes_written text ps placed.1 in
    omega (arith, no_close_kind token.kind (word_is_run token.kind _ _ placed.0))
closes_written text (atom token ∷ ps) placed =
    let h : closes (map token_of ps) ≡ closings ps = closes_written text ps placed.2 in
    omega (arith, no_one (is_close token) (or_parts (is_open token) (is_close token) placed.0).1)

-- the tokens of items open as often as they close
stand_even : (text : List ℕ) (items : List Item) (tokens : List Token) → StandFor text items tokens → opens tokens ≡ closes tokens
stand_even text items tokens stand =
    ap opens (sym stand.written) ∙ opens_written text (pieces items) stand.in_place ∙ even items
    ∙ sym (closes_written text (pieces items) stand.in_place) ∙ ap closes stand.written

-- a text with items tells no fault
tells_items : (text : List ℕ) (most : ℕ) (items : List Item) → HasItems text most items → Tells text most None
tells_items text most items has = record {
  tokens = has.tokens;
  last = None;
  has = has.read;
  same = none_found most has.tokens has.within (stand_even text items has.tokens has.stand);
}

-- a text has not both
pub never_both : (text : List ℕ) (most : ℕ) (items : List Item) (f : TermFault) → OneListOfTokens text → HasItems text most items → HasFault text most f → ⊥
never_both text most items f one has fails_too =
    let same = one_found text most None (Some f) one (tells_items text most items has) (tells_fault text most f fails_too) in cc

-- tokens are of one list of items
pub one_list_stands : (text : List ℕ) (items others : List Item) (tokens : List Token) → StandFor text items tokens → StandFor text others tokens → items ≡ others
one_list_stands text items others tokens one other =
    one_list items others
    (sym (written_then_read text (pieces items) one.in_place) ∙ ap (pieces_of text) (one.written ∙ sym other.written) ∙ written_then_read text (pieces others) other.in_place)

-- a text has one list of items
pub one_list_of_items : (text : List ℕ) (most : ℕ) (items others : List Item) → OneListOfTokens text → HasItems text most items → HasItems text most others → items ≡ others
one_list_of_items text most items others one a b =
    let same = one a.tokens b.tokens None None a.read b.read in
    one_list_stands text items others b.tokens (subst (StandFor text items) same.0 a.stand) b.stand

use Rattle.std.proofs.Common.{◌≡◌, ◌≤◌, ℕ, Bool, length, List, [], ◌∷◌, ◌++◌, All, IsCharBoundary, IfOk, IfErr, OnOk, MatchResult, subst, sym}
use Rattle.std.specs.Prelude.{Some, None, Result, Ok, Err}
use Rattle.std.proofs.lemmas.List.Elements.{All-head, All-tail}
use Rattle.ofn_lex.specs.declared.token.Token.{Token}
use Rattle.ofn_lex.specs.Texts.{HasTokens}
use Rattle.ofn_term.specs.declared.fault.TermFault.{TermFault}
use Rattle.ofn_term.specs.declared.fault.TermFault.TheVariants as fault
use Rattle.ofn_term.specs.declared.item.Item.{Item}
use Rattle.ofn_term.specs.Brackets.{IsBracketAt}
use Rattle.ofn_term.specs.Texts.{HasItems, IsFirstFault, IsOfCharacters, IsAtCharacter}
use Rattle.ofn_term.specs.Writing.{pieces, tokens_of}
use Rattle.ofn_term.specs.Inside.PieceReading.{pieces_of, bracket_fault, IsFaultUnlessMemory}
use Rattle.ofn_term.proofs.TextLaws.{said, fault_of_brackets, written, items_of_tokens}
use Rattle.ofn_term.proofs.read.read_items.Goals as goal

-- what holds of all holds of one of them
inside : (P : Token → Type 0) (front : List Token) (token : Token) (rest : List Token) → All P (front ++ token ∷ rest) → P token
inside P [] token rest all = All-head P token rest all
inside P (x ∷ front) token rest all = inside P front token rest (All-tail P x (front ++ token ∷ rest) all)

-- a bracket stands where characters do
bracket_of_characters : (text : List ℕ) (most level offset : ℕ) (tokens : List Token) (passes : Token → Bool) → All (IsOfCharacters text) tokens → IsBracketAt most tokens passes level offset → IsCharBoundary text offset
bracket_of_characters text most level offset tokens passes all at =
    subst (IsCharBoundary text) at.place (inside (IsOfCharacters text) at.front at.bracket at.rest (subst (All (IsOfCharacters text)) at.whole all)).0

-- so does a fault of brackets
fault_at_character : (text : List ℕ) (most : ℕ) (tokens : List Token) (f : TermFault) → All (IsOfCharacters text) tokens → IsFaultUnlessMemory (bracket_fault most 0 0 tokens) f → IsAtCharacter text f
fault_at_character text most tokens fault.OutOfMemory all is = tt
fault_at_character text most tokens (fault.Lex offset) all is = absurd (said most tokens (Some (fault.Lex offset)) is)
fault_at_character text most tokens (fault.Unopened offset) all is = bracket_of_characters text most _ offset tokens _ all (said most tokens (Some (fault.Unopened offset)) is)
fault_at_character text most tokens (fault.Unclosed offset) all is = bracket_of_characters text most _ offset tokens _ all (said most tokens (Some (fault.Unclosed offset)) is).bracket_at
fault_at_character text most tokens (fault.TooDeep offset) all is = bracket_of_characters text most _ offset tokens _ all (said most tokens (Some (fault.TooDeep offset)) is)

-- what the inner call gives is the items of the text
items_answer : (text : List ℕ) (most : ℕ) (tokens : List Token) (result : Result (List Item) TermFault) → HasTokens text 0 tokens None →
    IfOk result (λ items. pieces_of text tokens ≡ pieces items) → OnOk result (bracket_fault most 0 0 tokens ≡ None) → IfOk result (HasItems text most)
items_answer text most tokens (Ok items) has e none = items_of_tokens text most tokens items has e none
items_answer text most tokens (Err f) has e none = tt

-- its fault is the first of the text
fault_answer : (text : List ℕ) (most : ℕ) (tokens : List Token) (result : Result (List Item) TermFault) → HasTokens text 0 tokens None →
    IfErr result (IsFaultUnlessMemory (bracket_fault most 0 0 tokens)) → IfErr result (IsFirstFault text most)
fault_answer text most tokens (Ok items) has is = tt
fault_answer text most tokens (Err f) has is = fault_of_brackets text most tokens f has is

-- tokens and faults stand where characters do
characters_answer : (text : List ℕ) (most : ℕ) (tokens : List Token) (result : Result (List Item) TermFault) → HasTokens text 0 tokens None → All (IsOfCharacters text) tokens →
    IfOk result (λ items. pieces_of text tokens ≡ pieces items) → IfErr result (IsFaultUnlessMemory (bracket_fault most 0 0 tokens)) →
    MatchResult result (λ items. All (IsOfCharacters text) (tokens_of items)) (IsAtCharacter text)
characters_answer text most tokens (Ok items) has all e is = subst (All (IsOfCharacters text)) (sym (written text tokens items has e)) all
characters_answer text most tokens (Err f) has all e is = fault_at_character text most tokens f all is

-- items have no more tokens than the text has bytes
few_answer : (text : List ℕ) (tokens : List Token) (result : Result (List Item) TermFault) → HasTokens text 0 tokens None → length tokens ≤ length text →
    IfOk result (λ items. pieces_of text tokens ≡ pieces items) → IfOk result (λ items. length (tokens_of items) ≤ length text)
few_answer text tokens (Ok items) has few e = subst (λ (ts : List Token). length ts ≤ length text) (sym (written text tokens items has e)) few
few_answer text tokens (Err f) has few e = tt

pub returns-clause-few : goal.returns-clause-few
returns-clause-few c =
    let all = c.in-Ok.ensures.ok in
    few_answer c.args.text.now all.tokens c.items_of.result all.has all.few (c.items_of.ensures.pieces all.tokens all.has)

pub returns-clause-items : goal.returns-clause-items
returns-clause-items c =
    let all = c.in-Ok.ensures.ok in
    items_answer c.args.text.now c.args.depth all.tokens c.items_of.result all.has (c.items_of.ensures.pieces all.tokens all.has) (c.items_of.ensures.no_fault all.tokens all.has)

pub returns-clause-fault : goal.returns-clause-fault
returns-clause-fault c =
    let all = c.in-Ok.ensures.ok in
    fault_answer c.args.text.now c.args.depth all.tokens c.items_of.result all.has (c.items_of.ensures.fault all.tokens all.has)

pub returns-clause-characters : goal.returns-clause-characters
returns-clause-characters c = λ utf8.
    let all = c.in-Ok.ensures.ok in
    characters_answer c.args.text.now c.args.depth all.tokens c.items_of.result all.has (all.of_characters utf8) (c.items_of.ensures.pieces all.tokens all.has) (c.items_of.ensures.fault all.tokens all.has)

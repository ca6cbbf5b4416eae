-- The bytes of tokens, and their order.
use Rattle.std.proofs.Common.{◌≡◌, ◌≤◌, ◌<◌, ℕ, ◌-◌, true, List, [], ◌∷◌, ◌++◌, length, take, drop, refl, ap, sym, subst, ◌∙◌, arith, All}
use Rattle.std.specs.Prelude.{nat_le, slice_range, Option}
use Rattle.std.specs.List.{AllByRecursion}
use Rattle.std.proofs.Math.Seq.{take-append_seam}
use Rattle.std.proofs.lemmas.Bool.Decides.{nat_tests}
use Rattle.std.proofs.lemmas.List.Elements.{All-nil, All-cons}
use Rattle.ofn_lex.specs.declared.token.Token.{Token}
use Rattle.ofn_lex.specs.declared.token.LexFault.{LexFault}
use Rattle.ofn_lex.specs.Forms.{gap_bytes, HasForm}
use Rattle.ofn_lex.specs.Texts.{IsNext, HasTokens, bytes_of, IsTokenOf, StandInOrder}
use Rattle.ofn_lex.proofs.AnswerLaws.{drop_behind, next_ends, form_has_bytes}

-- the bytes of a token within the text
bytes_within : (text : List ℕ) (token : Token) → token.start ≤ token.end → token.end ≤ length text → bytes_of text token ≡ slice_range text token.start token.end
bytes_within text token low high =
    let one : nat_le token.start token.end ≡ true = grind (arith, nat_tests) in
    let two : nat_le token.end (length text) ≡ true = grind (arith, nat_tests) in
    rw (one, two) refl

-- a token that stands next takes up the bytes that have its form
pub next_is_token : (text : List ℕ) (from : ℕ) (token : Token) → IsNext text from token → IsTokenOf text token
next_is_token text from token h =
    let ends = next_ends text from token h in
    let size : 1 ≤ length h.own = form_has_bytes token.kind h.own h.form in
    let some : token.start < token.end = omega (arith, h.ends) in
    let tail : drop token.start text ≡ h.own ++ h.rest =
    ap (λ (n : ℕ). drop n text) h.starts ∙ drop_behind text from (gap_bytes h.gap) (h.own ++ h.rest) h.whole in
    let count : token.end - token.start ≡ length h.own = omega (arith, h.ends) in
    let own : bytes_of text token ≡ h.own =
    bytes_within text token (omega arith) ends.1 ∙ ap (λ (l : List ℕ). take (token.end - token.start) l) tail
    ∙ ap (λ (n : ℕ). take n (h.own ++ h.rest)) count ∙ take-append_seam h.own h.rest in
    record { some = some; within = ends.1; form = subst (HasForm token.kind) (sym own) h.form }

-- it starts at the offset or after it
pub next_starts : (text : List ℕ) (from : ℕ) (token : Token) → IsNext text from token → from ≤ token.start
next_starts text from token h = omega (arith, h.starts)

-- each token is one of the text
pub each_is_token : (text : List ℕ) (from : ℕ) (tokens : List Token) (last : Option LexFault) → HasTokens text from tokens last → All (IsTokenOf text) tokens
each_is_token text from [] last has = All-nil (IsTokenOf text)
each_is_token text from (token ∷ tokens) last has =
    All-cons (IsTokenOf text) token tokens (next_is_token text from token has.0) (each_is_token text token.end tokens last has.1)

-- tokens from an offset on start there or later
start_after : (least : ℕ) (text : List ℕ) (from : ℕ) (tokens : List Token) (last : Option LexFault) → least ≤ from → HasTokens text from tokens last → AllByRecursion (λ later. least ≤ later.start) tokens
start_after least text from [] last low has = tt
start_after least text from (token ∷ tokens) last low has =
    let ends = next_ends text from token has.0 in
    (omega (arith, next_starts text from token has.0), start_after least text token.end tokens last (omega (arith, ends.0)) has.1)

-- tokens stand in order
pub in_order : (text : List ℕ) (from : ℕ) (tokens : List Token) (last : Option LexFault) → HasTokens text from tokens last → StandInOrder tokens
in_order text from [] last has = tt
in_order text from (token ∷ tokens) last has =
    (start_after token.end text token.end tokens last (omega arith) has.1, in_order text token.end tokens last has.1)

-- Items that are read from the tokens of a text, one at a time.
use Rattle.std.proofs.Common.{◌≡◌, ℕ, ◌+◌, ◌-◌, ◌<◌, ◌≤◌, true, false, List, [], ◌∷◌, ◌++◌, length, IfSome, refl, ap, sym, subst, ◌∙◌, arith}
use Rattle.std.specs.Prelude.{Option, Some, None, nat_lt, ◌==◌}
use Rattle.std.proofs.lemmas.Bool.Decides.{nat_tests}
use Rattle.ofn_lex.specs.declared.token.Token.{Token}
use Rattle.ofn_lex.specs.Texts.{HasTokens}
use Rattle.ofn_term.specs.declared.fault.TermFault.{TermFault}
use Rattle.ofn_term.specs.declared.fault.TermFault.TheVariants as fault
use Rattle.ofn_term.specs.declared.item.Item.{Item}
use Rattle.ofn_term.specs.Words.{is_open, is_close}
use Rattle.ofn_term.specs.Writing.{Piece, closing, atom, pieces, opening_pieces}
use Rattle.ofn_term.specs.Inside.TokenReading.{Begins}
use Rattle.ofn_term.specs.Inside.PieceReading.{pieces_of, first_open, bracket_fault, IsFaultUnlessMemory, IsOpening, IsReadTo, IsGroupRead}
use Rattle.ofn_term.proofs.Closing.{closing_is_not_open, fault_at_open, fault_behind_group}
use Rattle.ofn_term.proofs.Pushing.{none_yet}

-- how many bytes are left from a token on, and none if there is no token
abbrev pub left : List ℕ → Option Token → ℕ
left text None = 0
left text (Some token) = length text - token.end + 1

-- fewer are left after a token
pub left_after : (text : List ℕ) (token : Token) (next : Option Token) (n : ℕ) → token.end ≤ length text → token.end ≤ n →
    IfSome next (λ t. n < t.end) → IfSome next (λ t. t.end ≤ length text) → left text next < left text (Some token)
left_after text token None n within before past inside = omega arith
left_after text token (Some t) n within before past inside = omega arith

-- a bound that is passed
pub passed_on : (n m : ℕ) (next : Option Token) → n < m → IfSome next (λ t. m < t.end) → IfSome next (λ t. n < t.end)
passed_on n m None l past = tt
passed_on n m (Some t) l past = omega arith

-- nothing is read yet
pub none_read : (text : List ℕ) (most depth first : ℕ) (begin : Option Token) (items : List Item) → items ≡ [] →
    (tokens : List Token) → Begins text begin tokens → IsReadTo text most depth first tokens items begin
none_read text most depth first begin items e tokens begins = record {
  rest = tokens;
  begins = begins;
  spelled = none_yet items (pieces_of text tokens) e;
  faults = refl;
}

-- past a token that is no bracket, the first fault is the same
pub fault_past : (most depth first : ℕ) (token : Token) (behind : List Token) → is_open token ≡ false → is_close token ≡ false →
    bracket_fault most depth first (token ∷ behind) ≡ bracket_fault most depth first behind
fault_past most depth first token behind o c = rw (o, c) refl

-- an atom is read
pub atom_read : (text : List ℕ) (most depth first : ℕ) (tokens : List Token) (before after : List Item) (token : Token) (next : Option Token) →
    is_open token ≡ false → is_close token ≡ false →
    ((behind : List Token) → HasTokens text token.end behind None → is_close token ≡ false → pieces_of text (token ∷ behind) ≡ atom token ∷ pieces_of text behind) →
    ((rest : List Piece) → pieces after ++ rest ≡ pieces before ++ atom token ∷ rest) →
    ((behind : List Token) → HasTokens text token.end behind None → Begins text next behind) →
    IsReadTo text most depth first tokens before (Some token) → IsReadTo text most depth first tokens after next
atom_read text most depth first tokens before after token next o c spells pushed begins read =
    let at = read.begins in
    record {
      rest = at.behind;
      begins = begins at.behind at.has;
      spelled =
          read.spelled
          ∙ ap (λ (ts : List Token). pieces before ++ pieces_of text ts) at.whole
          ∙ ap (λ (l : List Piece). pieces before ++ l) (spells at.behind at.has c)
          ∙ sym (pushed (pieces_of text at.behind));
      faults = read.faults ∙ ap (bracket_fault most depth first) at.whole ∙ fault_past most depth first token at.behind o c;
    }

-- a group is read
pub group_read : (text : List ℕ) (most depth first : ℕ) (tokens : List Token) (before after inner : List Item) (token bracket : Token) (word next : Option Token) (end : ℕ) →
    ((behind : List Token) → HasTokens text token.end behind None → IsOpening text token behind word bracket) →
    ((behind : List Token) → HasTokens text bracket.end behind None → IsGroupRead text most depth first bracket behind inner end next) →
    ((rest : List Piece) → pieces after ++ rest ≡ pieces before ++ (opening_pieces word bracket.start ++ (pieces inner ++ closing end ∷ rest))) →
    IsReadTo text most depth first tokens before (Some token) → IsReadTo text most depth first tokens after next
group_read text most depth first tokens before after inner token bracket word next end opens inside pushed read =
    let at = read.begins in
    let opening = opens at.behind at.has in
    let group = inside opening.inside opening.has in
    record {
      rest = group.rest;
      begins = group.begins;
      spelled =
          read.spelled
          ∙ ap (λ (ts : List Token). pieces before ++ pieces_of text ts) at.whole
          ∙ ap (λ (l : List Piece). pieces before ++ l) opening.spelled
          ∙ ap (λ (l : List Piece). pieces before ++ (opening_pieces word bracket.start ++ l)) group.spelled
          ∙ sym (pushed (pieces_of text group.rest));
      faults = read.faults ∙ ap (bracket_fault most depth first) at.whole ∙ opening.faults most depth first ∙ group.faults;
    }

-- a fault of a group is that of the tokens
pub fault_of_group : (text : List ℕ) (most depth first : ℕ) (tokens : List Token) (before : List Item) (token bracket : Token) (word : Option Token) (f : TermFault) →
    ((behind : List Token) → HasTokens text token.end behind None → IsOpening text token behind word bracket) →
    ((behind : List Token) → HasTokens text bracket.end behind None → IsFaultUnlessMemory (bracket_fault most depth first (bracket ∷ behind)) f) →
    IsReadTo text most depth first tokens before (Some token) → IsFaultUnlessMemory (bracket_fault most depth first tokens) f
fault_of_group text most depth first tokens before token bracket word f opens fails read =
    let at = read.begins in
    let opening = opens at.behind at.has in
    let same = read.faults ∙ ap (bracket_fault most depth first) at.whole ∙ opening.faults most depth first in
    subst (λ (o : Option TermFault). IsFaultUnlessMemory o f) (sym same) (fails opening.inside opening.has)

-- the piece of a closing bracket
piece_of_close : (text : List ℕ) (close : Token) (behind : List Token) → is_close close ≡ true → pieces_of text (close ∷ behind) ≡ closing close.end ∷ pieces_of text behind
piece_of_close text close behind c =
    let o = closing_is_not_open close.kind c in
    rw (o, c) refl

-- a group is read up to its closing bracket
pub group_closed : (text : List ℕ) (most depth first inside : ℕ) (bracket close : Token) (inner : List Item) (next : Option Token) (behind : List Token) →
    inside ≡ first_open depth first bracket.start → is_open bracket ≡ true → depth < most → is_close close ≡ true →
    ((rest : List Token) → HasTokens text close.end rest None → Begins text next rest) →
    IsReadTo text most (depth + 1) inside behind inner (Some close) → IsGroupRead text most depth first bracket behind inner close.end next
group_closed text most depth first inside bracket close inner next behind same o l c begins read =
    let at = read.begins in
    record {
      rest = at.behind;
      begins = begins at.behind at.has;
      spelled =
          read.spelled
          ∙ ap (λ (ts : List Token). pieces inner ++ pieces_of text ts) at.whole
          ∙ ap (λ (l : List Piece). pieces inner ++ l) (piece_of_close text close at.behind c);
      faults = fault_behind_group most depth first inside bracket close behind read.rest at.behind same o l at.whole c read.faults;
    }

-- a bracket too deep
pub too_deep_here : (most depth first : ℕ) (bracket : Token) (behind : List Token) → is_open bracket ≡ true → most ≤ depth →
    bracket_fault most depth first (bracket ∷ behind) ≡ Some (fault.TooDeep bracket.start)
too_deep_here most depth first bracket behind o l =
    let deep : nat_lt depth most ≡ false = grind (arith, nat_tests) in
    rw (o, deep) refl

-- a fault inside of a group
pub fault_inside : (most depth first inside : ℕ) (bracket : Token) (behind : List Token) (f : TermFault) →
    inside ≡ first_open depth first bracket.start → is_open bracket ≡ true → depth < most →
    IsFaultUnlessMemory (bracket_fault most (depth + 1) inside behind) f → IsFaultUnlessMemory (bracket_fault most depth first (bracket ∷ behind)) f
fault_inside most depth first inside bracket behind f same o l fails =
    let opened = fault_at_open most depth first bracket behind o l ∙ ap (λ (n : ℕ). bracket_fault most (depth + 1) n behind) (sym same) in
    subst (λ (o : Option TermFault). IsFaultUnlessMemory o f) (sym opened) fails

-- no token is left before the partner
pub unclosed_here : (text : List ℕ) (most depth first inside : ℕ) (bracket : Token) (behind : List Token) (inner : List Item) →
    inside ≡ first_open depth first bracket.start → is_open bracket ≡ true → depth < most →
    IsReadTo text most (depth + 1) inside behind inner None → bracket_fault most depth first (bracket ∷ behind) ≡ Some (fault.Unclosed inside)
unclosed_here text most depth first inside bracket behind inner same o l read =
    let some_open : ((depth + 1) == 0) ≡ false = grind (arith, nat_tests) in
    let ended : bracket_fault most (depth + 1) inside [] ≡ Some (fault.Unclosed inside) = rw some_open refl in
    fault_at_open most depth first bracket behind o l
    ∙ ap (λ (n : ℕ). bracket_fault most (depth + 1) n behind) (sym same)
    ∙ read.faults
    ∙ ap (bracket_fault most (depth + 1) inside) read.begins
    ∙ ended

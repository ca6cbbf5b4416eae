use Rattle.std.proofs.Common.{◌≡◌, ℕ, true, false, List, [], ◌∷◌, map, codes, refl, ap, sym, subst, ◌∙◌, append-nil}
use Rattle.std.specs.Prelude.{Option, Some, None}
use Rattle.ofn_lex.specs.declared.token.Token.{Token}
use Rattle.ofn_lex.specs.declared.token.TokenKind.TheVariants.{Open, Close, Run}
use Rattle.ofn_term.specs.declared.item.Item.{Item}
use Rattle.ofn_term.specs.declared.item.Item.TheVariants.{Atom, Group}
use Rattle.ofn_term.specs.Writing.{Piece, opening, closing, head, atom, bracket, token_of, item_pieces, pieces, group_pieces, AreInPlace, StandFor}
use Rattle.ofn_term.proofs.Pushing.{pieces-group, pieces-first_atom}
use Rattle.ofn_term.proofs.laws.heads_are_told_from_atoms.Goals as goal

lone_group : (word : Option Token) (start end : ℕ) → pieces (Group word [] start end ∷ []) ≡ group_pieces word [] start end
unfolding pieces
lone_group word start end = append-nil (item_pieces (Group word [] start end)) ∙ pieces-group word [] start end

stand : (text : List ℕ) (items : List Item) (ps : List Piece) (tokens : List Token) → pieces items ≡ ps → map token_of ps ≡ tokens → AreInPlace text ps → StandFor text items tokens
stand text items ps tokens e written placed = record { written = ap (map token_of) e ∙ written; in_place = subst (AreInPlace text) (sym e) placed }

placed : (text : List ℕ) (items : List Item) (ps : List Piece) (tokens : List Token) → pieces items ≡ ps → StandFor text items tokens → AreInPlace text ps
placed text items ps tokens e is = subst (AreInPlace text) e is.in_place

abbrev first : Token
first = record { kind = Run; start = 0; end = 1 }

headed : pieces (Group (Some first) [] 1 3 ∷ []) ≡ head first ∷ opening 1 ∷ closing 3 ∷ []
headed = lone_group (Some first) 1 3

loose : pieces (Atom first ∷ Group None [] 1 3 ∷ []) ≡ atom first ∷ opening 1 ∷ closing 3 ∷ []
loose = pieces-first_atom first (Group None [] 1 3 ∷ []) ∙ ap (λ (l : List Piece). atom first ∷ l) (lone_group None 1 3)

not_both : true ≡ false → ⊥
not_both e = cc

pub returns-clause-word : goal.returns-clause-word
returns-clause-word c = (stand (codes "a()") _ _ _ headed refl (refl, tt), λ is. not_both (placed (codes "a()") _ _ _ loose is).1)

pub returns-clause-iri : goal.returns-clause-iri
returns-clause-iri c = (stand (codes ":()") _ _ _ loose refl (refl, refl, tt), λ is. not_both (sym (placed (codes ":()") _ _ _ headed is).0))

pub returns-clause-no_bracket : goal.returns-clause-no_bracket
returns-clause-no_bracket c = λ text tokens is. not_both (placed text _ _ tokens (pieces-first_atom (bracket Open 0) (Atom (bracket Close 1) ∷ [])) is).0

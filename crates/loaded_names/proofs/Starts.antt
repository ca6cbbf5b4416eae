-- Where the tokens of items start, and where an item is outside the fragment: at a token of its own.
use Rattle.std.proofs.Common.{◌≡◌, ◌≤◌, ◌⊎◌, inl, inr, ℕ, ◌+◌, List, [], ◌∷◌, ◌++◌, map, refl, sym, ap, subst, ◌∙◌, arith, IsUtf8, IsCharBoundary}
use Rattle.std.specs.Prelude.{Some, None, Ok}
use Rattle.std.proofs.lemmas.List.{map-append, append-nil, append_assoc}
use Rattle.ofn_lex.specs.declared.token.Token.{Token}
use Rattle.ofn_lex.specs.Texts.{IsNext, IsTokenOf, HasTokens, CutsAtCharacters}
use Rattle.ofn_lex.proofs.CharacterLaws.{answer_keeps_characters}
use Rattle.ofn_term.specs.declared.item.Item.{Item}
use Rattle.ofn_term.specs.declared.item.Item.TheVariants as item
use Rattle.ofn_term.specs.Writing.{Piece, opening, closing, token_of, group_pieces, item_pieces, pieces, tokens_of}
use Rattle.ofn_heads.specs.declared.head.Head.{Head}
use Rattle.ofn_heads.specs.declared.outside.HeadId.{HeadId}
use Rattle.text_names.specs.Prefixes.{Prefixes}
use Rattle.ofn_axiom.specs.Outside.{IsHeadOutside, outside_head, IsPropertyOutside, top_outside, bottom_outside, head_for_property, IsAmongProperties, property_here, property_later, IsClassOutside, head_for_class, in_intersection, in_property, in_filler, IsAmongClasses, class_here, class_later, IsChainOutside, single_outside, in_chain, IsInOperands, in_sub_class, in_equivalent, in_disjoint, in_lower_property, in_upper_property, in_equivalent_properties, in_transitive, in_reflexive, in_domain_property, in_domain_class, IsOutside, direct_outside, entity_outside, operand_outside}
use Rattle.loaded_names.proofs.Written.{Written}

-- ---- tokens that stand in a text, one further on than the other

-- the tokens start at the offset or after it, each where a character does and after the one before
abbrev pub StandFrom : List ℕ → ℕ → List Token → Type 0
StandFrom text from [] = Unit {0}
StandFrom text from (token ∷ tokens) = (from ≤ token.start) × IsCharBoundary text token.start × StandFrom text (token.start + 1) tokens

pub from_earlier : (text : List ℕ) (from earlier : ℕ) (tokens : List Token) → earlier ≤ from → StandFrom text from tokens → StandFrom text earlier tokens
from_earlier text from earlier [] less stand = tt
from_earlier text from earlier (token ∷ tokens) less stand = let first : earlier ≤ token.start = omega (arith, stand.0) in (first, stand.1, stand.2)

pub front_stands : (text : List ℕ) (from : ℕ) (tokens more : List Token) → StandFrom text from (tokens ++ more) → StandFrom text from tokens
front_stands text from [] more stand = tt
front_stands text from (token ∷ tokens) more stand = (stand.0, stand.1, front_stands text (token.start + 1) tokens more stand.2)

pub more_stands : (text : List ℕ) (from : ℕ) (tokens more : List Token) → StandFrom text from (tokens ++ more) → StandFrom text from more
more_stands text from [] more stand = stand
more_stands text from (token ∷ tokens) more stand =
    from_earlier text (token.start + 1) from more (omega (arith, stand.0)) (more_stands text (token.start + 1) tokens more stand.2)

-- the tokens of a text stand so
pub tokens_stand : ((text : List ℕ) (from : ℕ) (token : Token) → IsNext text from token → (from ≤ token.start) × IsTokenOf text token)
    → (text : List ℕ) → IsUtf8 text → (from : ℕ) (tokens : List Token) → IsCharBoundary text from → HasTokens text from tokens None → StandFrom text from tokens
tokens_stand next text utf8 from [] at has = tt
tokens_stand next text utf8 from (token ∷ tokens) at has =
    let cut : CutsAtCharacters text (Ok (Some token)) = answer_keeps_characters text from (Ok (Some token)) utf8 at has.0 in
    let is = next text from token has.0 in
    let rest = tokens_stand next text utf8 token.end tokens cut.1 has.1 in
    (is.0, cut.0, from_earlier text token.end (token.start + 1) tokens (omega (arith, is.1.some)) rest)

-- ---- an offset at which one of the tokens starts

abbrev pub IsStart : ℕ → List Token → Type 0
IsStart at [] = ⊥
IsStart at (token ∷ tokens) = (at ≡ token.start) ⊎ IsStart at tokens

start_in_front : (at : ℕ) (tokens more : List Token) → IsStart at tokens → IsStart at (tokens ++ more)
start_in_front at [] more h = absurd h
start_in_front at (token ∷ tokens) more (inl e) = inl e
start_in_front at (token ∷ tokens) more (inr h) = inr (start_in_front at tokens more h)

start_in_more : (at : ℕ) (tokens more : List Token) → IsStart at more → IsStart at (tokens ++ more)
start_in_more at [] more h = h
start_in_more at (token ∷ tokens) more h = inr (start_in_more at tokens more h)

-- what is known of such an offset, and of the tokens after
pub record GoesOn (text : List ℕ) (from at : ℕ) (more : List Token) : Type 0 where
  pub after : from ≤ at
  pub character : IsCharBoundary text at
  pub rest : StandFrom text (at + 1) more

pub goes_on : (text : List ℕ) (from at : ℕ) (tokens more : List Token) → IsStart at tokens → StandFrom text from (tokens ++ more) → GoesOn text from at more
goes_on text from at [] more h stand = absurd h
goes_on text from at (token ∷ tokens) more (inl e) stand = record {
  after = omega (arith, stand.0, e);
  character = subst (IsCharBoundary text) (sym e) stand.1;
  rest = subst (λ (n : ℕ). StandFrom text (n + 1) more) (sym e) (more_stands text (token.start + 1) tokens more stand.2);
}
goes_on text from at (token ∷ tokens) more (inr h) stand =
    let on = goes_on text (token.start + 1) at tokens more h stand.2 in
    record { after = omega (arith, stand.0, on.after); character = on.character; rest = on.rest }

-- ---- the tokens of items

-- those of the first item, and of the rest
pub first_and_rest : (i : Item) (items : List Item) → tokens_of (i ∷ items) ≡ tokens_of (i ∷ []) ++ tokens_of items
unfolding pieces
first_and_rest i items =
    map-append token_of (item_pieces i) (pieces items)
    ∙ ap (λ (l : List Piece). map token_of l ++ tokens_of items) (sym (append-nil (item_pieces i)))

-- those of the first ones, and of the others
pub front_and_more : (items more : List Item) → tokens_of (items ++ more) ≡ tokens_of items ++ tokens_of more
unfolding pieces
front_and_more [] more = refl
front_and_more (i ∷ items) more =
    first_and_rest i (items ++ more)
    ∙ ap (λ (l : List Token). tokens_of (i ∷ []) ++ l) (front_and_more items more)
    ∙ sym (append_assoc (tokens_of (i ∷ [])) (tokens_of items) (tokens_of more))
    ∙ ap (λ (l : List Token). l ++ tokens_of more) (sym (first_and_rest i items))

module _ (written : Written) where
  atom_tokens : (token : Token) → tokens_of (item.Atom token ∷ []) ≡ token ∷ []
  atom_tokens token = ap (map token_of) (written.atom token [] ∙ ap (λ (l : List Piece). Piece.atom token ∷ l) written.none)

  pub group_tokens : (word : Token) (inner : List Item) (start end : ℕ)
      → tokens_of (item.Group (Some word) inner start end ∷ []) ≡ word ∷ token_of (opening start) ∷ (tokens_of inner ++ token_of (closing end) ∷ [])
  group_tokens word inner start end =
      ap (map token_of) (written.group (Some word) inner start end [] ∙ ap (λ (l : List Piece). group_pieces (Some word) (pieces inner) start end ++ l) written.none
      ∙ append-nil (group_pieces (Some word) (pieces inner) start end))
      ∙ ap (λ (l : List Token). word ∷ token_of (opening start) ∷ l) (map-append token_of (pieces inner) (closing end ∷ []))

  -- ---- where an item is outside

  abbrev pub StartsIn : ℕ → List Item → Type 0
  StartsIn at items = IsStart at (tokens_of items)

  starts_first : (at : ℕ) (i : Item) (items : List Item) → StartsIn at (i ∷ []) → StartsIn at (i ∷ items)
  starts_first at i items h = subst (IsStart at) (sym (first_and_rest i items)) (start_in_front at (tokens_of (i ∷ [])) (tokens_of items) h)

  starts_later : (at : ℕ) (i : Item) (items : List Item) → StartsIn at items → StartsIn at (i ∷ items)
  starts_later at i items h = subst (IsStart at) (sym (first_and_rest i items)) (start_in_more at (tokens_of (i ∷ [])) (tokens_of items) h)

  starts_last : (at : ℕ) (items more : List Item) → StartsIn at more → StartsIn at (items ++ more)
  starts_last at items more h = subst (IsStart at) (sym (front_and_more items more)) (start_in_more at (tokens_of items) (tokens_of more) h)

  starts_atom : (token : Token) → StartsIn token.start (item.Atom token ∷ [])
  starts_atom token = subst (IsStart token.start) (sym (atom_tokens token)) (inl refl)

  starts_word : (word : Token) (inner : List Item) (start end : ℕ) → StartsIn word.start (item.Group (Some word) inner start end ∷ [])
  starts_word word inner start end = subst (IsStart word.start) (sym (group_tokens word inner start end)) (inl refl)

  starts_inside : (at : ℕ) (word : Token) (inner : List Item) (start end : ℕ) → StartsIn at inner → StartsIn at (item.Group (Some word) inner start end ∷ [])
  starts_inside at word inner start end h =
      subst (IsStart at) (sym (group_tokens word inner start end)) (inr (inr (start_in_front at (tokens_of inner) (token_of (closing end) ∷ []) h)))

  module _ (text : List ℕ) (prefixes : Prefixes) where
    head_starts : (i : Item) (at : ℕ) (outside : HeadId) → IsHeadOutside text i at outside → StartsIn at (i ∷ [])
    head_starts _ _ _ (outside_head word items start end outside is) = starts_word word items start end

    property_starts : (i : Item) (at : ℕ) (outside : HeadId) → IsPropertyOutside text prefixes i at outside → StartsIn at (i ∷ [])
    property_starts _ _ _ (top_outside token is) = starts_atom token
    property_starts _ _ _ (bottom_outside token is) = starts_atom token
    property_starts _ _ _ (head_for_property i at outside is) = head_starts i at outside is

    properties_start : (is : List Item) (at : ℕ) (outside : HeadId) → IsAmongProperties text prefixes is at outside → StartsIn at is
    properties_start _ _ _ (property_here i is at outside here) = starts_first at i is (property_starts i at outside here)
    properties_start _ _ _ (property_later i is iri at outside before later) = starts_later at i is (properties_start is at outside later)

    mutual
      class_starts : (i : Item) (at : ℕ) (outside : HeadId) → IsClassOutside text prefixes i at outside → StartsIn at (i ∷ [])
      class_starts _ _ _ (head_for_class i at outside is) = head_starts i at outside is
      class_starts _ _ _ (in_intersection word items start end at outside is fit among) =
          starts_inside at word items start end (classes_start items at outside among)
      class_starts _ _ _ (in_property word p c start end at outside is fit of) =
          starts_inside at word (p ∷ c ∷ []) start end (starts_first at p (c ∷ []) (property_starts p at outside of))
      class_starts _ _ _ (in_filler word p c iri start end at outside is fit before of) =
          starts_inside at word (p ∷ c ∷ []) start end (starts_later at p (c ∷ []) (class_starts c at outside of))

      classes_start : (is : List Item) (at : ℕ) (outside : HeadId) → IsAmongClasses text prefixes is at outside → StartsIn at is
      classes_start _ _ _ (class_here i is at outside here) = starts_first at i is (class_starts i at outside here)
      classes_start _ _ _ (class_later i is class at outside before later) = starts_later at i is (classes_start is at outside later)

    chain_starts : (i : Item) (at : ℕ) (outside : HeadId) → IsChainOutside text prefixes i at outside → StartsIn at (i ∷ [])
    chain_starts _ _ _ (single_outside i at outside is) = property_starts i at outside is
    chain_starts _ _ _ (in_chain word i j is start end at outside head fit among) =
        starts_inside at word (i ∷ j ∷ is) start end (properties_start (i ∷ j ∷ is) at outside among)

    operands_start : (h : Head) (is : List Item) (at : ℕ) (outside : HeadId) → IsInOperands text prefixes h is at outside → StartsIn at is
    operands_start _ _ _ _ (in_sub_class i j at outside fit among) = classes_start (i ∷ j ∷ []) at outside among
    operands_start _ _ _ _ (in_equivalent is at outside fit among) = classes_start is at outside among
    operands_start _ _ _ _ (in_disjoint is at outside fit among) = classes_start is at outside among
    operands_start _ _ _ _ (in_lower_property i j at outside fit of) = starts_first at i (j ∷ []) (chain_starts i at outside of)
    operands_start _ _ _ _ (in_upper_property i j chain at outside before of) = starts_later at i (j ∷ []) (property_starts j at outside of)
    operands_start _ _ _ _ (in_equivalent_properties is at outside fit among) = properties_start is at outside among
    operands_start _ _ _ _ (in_transitive i at outside of) = property_starts i at outside of
    operands_start _ _ _ _ (in_reflexive i at outside of) = property_starts i at outside of
    operands_start _ _ _ _ (in_domain_property i j at outside fit of) = starts_first at i (j ∷ []) (property_starts i at outside of)
    operands_start _ _ _ _ (in_domain_class i j iri at outside fit before of) = starts_later at i (j ∷ []) (class_starts j at outside of)

    -- what is outside in an item starts at one of its tokens
    pub outside_starts : (i : Item) (at : ℕ) (outside : HeadId) → IsOutside text prefixes i at outside → StartsIn at (i ∷ [])
    outside_starts _ _ _ (direct_outside i at outside is) = head_starts i at outside is
    outside_starts _ _ _ (entity_outside word annotations e start end at outside is notes of) =
        starts_inside at word (annotations ++ e ∷ []) start end (starts_last at annotations (e ∷ []) (head_starts e at outside of))
    outside_starts _ _ _ (operand_outside word h annotations operands start end at outside is notes of) =
        starts_inside at word (annotations ++ operands) start end (starts_last at annotations operands (operands_start h operands at outside of))

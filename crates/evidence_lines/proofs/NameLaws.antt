-- A line of a node or of a role is read as what it spells, and as nothing else.
use Rattle.std.proofs.Common.{◌≡◌, inl, inr, ℕ, ◌-◌, ◌^◌, ◌<◌, ◌&&◌, Bool, true, false, cond, List, [], ◌∷◌, ◌++◌, length, take, drop, refl, ap, sym, subst, ◌∙◌, arith, Some, None}
use Rattle.std.specs.Prelude.{decimal, bytes_eq, codes, ⊤, IsUtf8}
use Rattle.std.specs.Str.{is_utf8}
use Rattle.std.specs.Cmp.Lexicographic.{bytes_decides}
use Rattle.std.proofs.lemmas.Str.{IsUtf8-from_is_utf8, is_utf8-from_IsUtf8}
use Rattle.std.proofs.lemmas.List.{take_at, drop_at, take-append-drop, length-append}
use Rattle.std.proofs.lemmas.Bool.{and_parts}
use Rattle.std.proofs.lemmas.Option.{cond_some}
use Rattle.el_logic.specs.declared.types.Side.{Side}
use Rattle.el_logic.specs.declared.types.Side.TheVariants as side
use Rattle.byte_words.specs.Fronts.{without_front}
use Rattle.line_fields.specs.Lines.{Fields}
use Rattle.line_fields.specs.Reading.{◌>>=◌, short_in, is_end}
use Rattle.evidence_lines.specs.declared.types.NodeLine.{NodeLine}
use Rattle.evidence_lines.specs.declared.types.NodeLine.TheVariants.{Top, Bottom, Class, And, Exists}
use Rattle.evidence_lines.specs.declared.types.RoleLine.{RoleLine}
use Rattle.evidence_lines.specs.declared.types.RoleLine.TheVariants.{Property, Part}
use Rattle.evidence_lines.specs.Names.{iri_field, is_iri, side_word, node_fields, role_fields, HasNodeLine, HasRoleLine, without_back, if_iri, iri_of, iri_in, if_end, one_iri, two_numbers, class_of, and_of, some_of, plain_by, node_of, side_named, side_in, property_of, part_of, role_of, IsNodeValue, IsRoleValue}
use Rattle.evidence_lines.proofs.Found.{NumberLaw, bound, some_is, none_is, word_case, end_is, Takes, Makes, makes, rest_is, short_takes}

-- ---- IRIs

-- what follows a front is what the text has after it
pub record FrontLaw : Type 0 where
  pub found : (front rest : List ℕ) → without_front front (front ++ rest) ≡ Some rest
  pub whole : (front text rest : List ℕ) → without_front front text ≡ Some rest → text ≡ front ++ rest

without_back_is : (back text front : List ℕ) → without_back back text ≡ Some front → text ≡ front ++ back
without_back_is back text front e =
    let n = length text - length back in
    let h = cond_some (bytes_eq (drop n text) back) (take n text) front e in
    sym (take-append-drop n text) ∙ ap (λ t. take n text ++ t) ((bytes_decides (drop n text) back).0 h.0) ∙ ap (λ t. t ++ back) h.1

without_back-append : (back front : List ℕ) → without_back back (front ++ back) ≡ Some front
without_back-append back front =
    let there : length (front ++ back) - length back ≡ length front = omega (arith, length-append front back) in
    let same : bytes_eq back back ≡ true = (bytes_decides back back).1 refl in
    rw (there, drop_at front back (length front) refl, same, take_at front back (length front) refl) refl

-- the IRI, and what is so of it
pub record IsIriField (field iri : List ℕ) : Type 0 where
  pub whole : field ≡ iri_field iri
  pub bytes : is_iri iri ≡ true
  pub text : IsUtf8 iri

iri_is : FrontLaw → (field iri : List ℕ) → iri_of field ≡ Some iri → IsIriField field iri
iri_is law field iri e =
    let r = bound (without_front (60 ∷ []) field) (λ rest. without_back (62 ∷ []) rest >>= if_iri) iri e in
    let b = bound (without_back (62 ∷ []) r.found) if_iri iri r.later in
    let t = cond_some (is_iri b.found && is_utf8 b.found) b.found iri b.later in
    let tests = and_parts (is_iri b.found) (is_utf8 b.found) t.0 in
    record {
      whole = law.whole (60 ∷ []) field r.found r.is ∙ ap (λ rest. 60 ∷ rest) (without_back_is (62 ∷ []) r.found b.found b.is ∙ ap (λ i. i ++ 62 ∷ []) t.1);
      bytes = subst (λ i. is_iri i ≡ true) t.1 tests.0;
      text = subst (λ i. IsUtf8 i) t.1 (IsUtf8-from_is_utf8 b.found tests.1);
    }

iri_again : FrontLaw → (iri : List ℕ) → is_iri iri ≡ true → IsUtf8 iri → iri_of (iri_field iri) ≡ Some iri
iri_again law iri bytes text =
    let passes : if_iri iri ≡ Some iri = rw (bytes, is_utf8-from_IsUtf8 iri text) refl in
    ap (λ o. o >>= λ rest. without_back (62 ∷ []) rest >>= if_iri) (law.found (60 ∷ []) (iri ++ 62 ∷ []))
    ∙ ap (λ o. o >>= if_iri) (without_back-append (62 ∷ []) iri) ∙ passes

-- ---- the fields after a word

pub if_end_is : {X : Type 0} → (fields : Fields) (found x : X) → if_end fields found ≡ Some x → (fields ≡ []) × (found ≡ x)
if_end_is fields found x e = let t = cond_some (is_end fields) found x e in (end_is fields t.0, t.1)

pub record IsOneIri (fields : Fields) (iri : List ℕ) : Type 0 where
  pub whole : fields ≡ iri_field iri ∷ []
  pub bytes : is_iri iri ≡ true
  pub text : IsUtf8 iri

iri_in_is : FrontLaw → (fields : Fields) (found : List ℕ × Fields) → iri_in fields ≡ Some found → found.1 ≡ [] → IsOneIri fields found.0
iri_in_is law [] found e last = none_is found e
iri_in_is law (field ∷ rest) found e last =
    let is = rest_is rest (iri_of field) found e in
    let iri = iri_is law field found.0 is.0 in
    record { whole = ap (λ f. f ∷ rest) iri.whole ∙ ap (λ r. iri_field found.0 ∷ r) (is.1 ∙ last); bytes = iri.bytes; text = iri.text }

one_iri_is : FrontLaw → (fields : Fields) (iri : List ℕ) → one_iri fields ≡ Some iri → IsOneIri fields iri
one_iri_is law fields iri e =
    let i = bound (iri_in fields) (λ i. if_end i.1 i.0) iri e in
    let last = if_end_is i.found.1 i.found.0 iri i.later in
    subst (λ x. IsOneIri fields x) last.1 (iri_in_is law fields i.found i.is last.0)

pub record AreTwo (fields : Fields) (numbers : ℕ × ℕ) : Type 0 where
  pub whole : fields ≡ decimal numbers.0 ∷ decimal numbers.1 ∷ []
  pub below : (numbers.0 < 2 ^ 32) × (numbers.1 < 2 ^ 32)

two_are : NumberLaw → (fields : Fields) (numbers : ℕ × ℕ) → two_numbers fields ≡ Some numbers → AreTwo fields numbers
two_are law fields numbers e =
    let a = bound (short_in fields) (λ a. short_in a.1 >>= λ b. if_end b.1 (a.0, b.0)) numbers e in
    let b = bound (short_in a.found.1) (λ b. if_end b.1 (a.found.0, b.0)) numbers a.later in
    let last = if_end_is b.found.1 (a.found.0, b.found.0) numbers b.later in
    let first = short_takes law fields a.found a.is in
    let second = short_takes law a.found.1 b.found b.is in
    subst (λ x. AreTwo fields x) last.1 (record {
      whole = first.whole ∙ ap (λ r. decimal a.found.0 ∷ r) (second.whole ∙ ap (λ r. decimal b.found.0 ∷ r) last.0);
      below = (first.fits, second.fits);
    })

two_again : NumberLaw → (a b : ℕ) → (a < 2 ^ 32) × (b < 2 ^ 32) → two_numbers (decimal a ∷ decimal b ∷ []) ≡ Some (a, b)
two_again law a b below = rw (law.short_again a below.0, law.short_again b below.1) refl

-- ---- nodes

pub record FitsNode (node : NodeLine) : Type 0 where
  pub line : HasNodeLine node
  pub value : IsNodeValue node

abbrev MakesNode : Fields → NodeLine → Type 0
MakesNode fields node = Makes node_fields FitsNode fields node

class_is : FrontLaw → (rest : Fields) (node : NodeLine) → class_of rest ≡ Some node → MakesNode (codes "class" ∷ rest) node
class_is law rest node e =
    let i = bound (one_iri rest) (λ i. Some (Class i)) node e in
    let iri = one_iri_is law rest i.found i.is in
    makes node_fields FitsNode (codes "class" ∷ rest) (Class i.found) node i.later (ap (λ r. codes "class" ∷ r) iri.whole) (record { line = iri.bytes; value = iri.text })

and_is : NumberLaw → (rest : Fields) (node : NodeLine) → and_of rest ≡ Some node → MakesNode (codes "and" ∷ rest) node
and_is law rest node e =
    let i = bound (two_numbers rest) (λ p. Some (And p.0 p.1)) node e in
    let two = two_are law rest i.found i.is in
    makes node_fields FitsNode (codes "and" ∷ rest) (And i.found.0 i.found.1) node i.later (ap (λ r. codes "and" ∷ r) two.whole) (record { line = tt; value = two.below })

some_node_is : NumberLaw → (rest : Fields) (node : NodeLine) → some_of rest ≡ Some node → MakesNode (codes "some" ∷ rest) node
some_node_is law rest node e =
    let i = bound (two_numbers rest) (λ p. Some (Exists p.0 p.1)) node e in
    let two = two_are law rest i.found i.is in
    makes node_fields FitsNode (codes "some" ∷ rest) (Exists i.found.0 i.found.1) node i.later (ap (λ r. codes "some" ∷ r) two.whole) (record { line = tt; value = two.below })

top_is : (rest : Fields) (node : NodeLine) → if_end rest Top ≡ Some node → MakesNode (codes "top" ∷ rest) node
top_is rest node e =
    let last = if_end_is rest Top node e in
    makes node_fields FitsNode (codes "top" ∷ rest) Top node (ap (λ x. Some x) last.1) (ap (λ r. codes "top" ∷ r) last.0) (record { line = tt; value = tt })

bottom_is : (rest : Fields) (node : NodeLine) → if_end rest Bottom ≡ Some node → MakesNode (codes "bottom" ∷ rest) node
bottom_is rest node e =
    let last = if_end_is rest Bottom node e in
    makes node_fields FitsNode (codes "bottom" ∷ rest) Bottom node (ap (λ x. Some x) last.1) (ap (λ r. codes "bottom" ∷ r) last.0) (record { line = tt; value = tt })

plain_is : NumberLaw → (word : List ℕ) (rest : Fields) (node : NodeLine) → plain_by word rest ≡ Some node → MakesNode (word ∷ rest) node
plain_is law word rest node e =
    let last = cond (bytes_eq word (codes "some")) (some_of rest) None in
    let third = cond (bytes_eq word (codes "and")) (and_of rest) last in
    let second = cond (bytes_eq word (codes "bottom")) (if_end rest Bottom) third in
    elim (word_case word (codes "top") (if_end rest Top) second node e) [
      | inl h ↦ subst (λ w. MakesNode (w ∷ rest) node) (sym h.0) (top_is rest node h.1)
      | inr h ↦ elim (word_case word (codes "bottom") (if_end rest Bottom) third node h) [
        | inl k ↦ subst (λ w. MakesNode (w ∷ rest) node) (sym k.0) (bottom_is rest node k.1)
        | inr k ↦ elim (word_case word (codes "and") (and_of rest) last node k) [
          | inl m ↦ subst (λ w. MakesNode (w ∷ rest) node) (sym m.0) (and_is law rest node m.1)
          | inr m ↦ elim (word_case word (codes "some") (some_of rest) None node m) [
            | inl n ↦ subst (λ w. MakesNode (w ∷ rest) node) (sym n.0) (some_node_is law rest node n.1)
            | inr n ↦ none_is node n
          ]
        ]
      ]
    ]

pub node_back : NumberLaw → FrontLaw → (fields : Fields) (node : NodeLine) → node_of fields ≡ Some node → MakesNode fields node
unfolding node_of
node_back law front [] node e = none_is node e
node_back law front (word ∷ rest) node e =
    elim (word_case word (codes "class") (class_of rest) (plain_by word rest) node e) [
      | inl h ↦ subst (λ w. MakesNode (w ∷ rest) node) (sym h.0) (class_is front rest node h.1)
      | inr h ↦ plain_is law word rest node h
    ]

pub node_again : NumberLaw → FrontLaw → (node : NodeLine) → FitsNode node → node_of (node_fields node) ≡ Some node
unfolding node_of
node_again law front Top fits = refl
node_again law front Bottom fits = refl
node_again law front (Class iri) fits = rw (iri_again front iri fits.line fits.value) refl
node_again law front (And i j) fits = rw (two_again law i j fits.value) refl
node_again law front (Exists role i) fits = rw (two_again law role i fits.value) refl

-- ---- roles

pub record FitsRole (role : RoleLine) : Type 0 where
  pub line : HasRoleLine role
  pub value : IsRoleValue role

abbrev MakesRole : Fields → RoleLine → Type 0
MakesRole fields role = Makes role_fields FitsRole fields role

abbrev one_side : Side → Fields
one_side side = side_word side ∷ []

side_is : (word : List ℕ) (s : Side) → side_named word ≡ Some s → word ≡ side_word s
side_is word s e =
    elim (word_case word (codes "left") (Some side.Left) (cond (bytes_eq word (codes "right")) (Some side.Right) None) s e) [
      | inl h ↦ h.0 ∙ ap side_word (some_is side.Left s h.1)
      | inr h ↦ elim (word_case word (codes "right") (Some side.Right) None s h) [
        | inl k ↦ k.0 ∙ ap side_word (some_is side.Right s k.1)
        | inr k ↦ none_is s k
      ]
    ]

pub side_takes : (fields : Fields) (found : Side × Fields) → side_in fields ≡ Some found → Takes one_side (λ s. ⊤) fields found
side_takes [] found e = none_is found e
side_takes (word ∷ rest) found e =
    let is = rest_is rest (side_named word) found e in
    record { whole = ap (λ w. w ∷ rest) (side_is word found.0 is.0) ∙ ap (λ r. side_word found.0 ∷ r) is.1; fits = tt }

pub side_again : (side : Side) (rest : Fields) → side_in (side_word side ∷ rest) ≡ Some (side, rest)
side_again side.Left rest = refl
side_again side.Right rest = refl

property_is : FrontLaw → (rest : Fields) (role : RoleLine) → property_of rest ≡ Some role → MakesRole (codes "property" ∷ rest) role
property_is law rest role e =
    let i = bound (one_iri rest) (λ i. Some (Property i)) role e in
    let iri = one_iri_is law rest i.found i.is in
    makes role_fields FitsRole (codes "property" ∷ rest) (Property i.found) role i.later (ap (λ r. codes "property" ∷ r) iri.whole) (record { line = iri.bytes; value = iri.text })

part_is : NumberLaw → (rest : Fields) (role : RoleLine) → part_of rest ≡ Some role → MakesRole (codes "part" ∷ rest) role
part_is law rest role e =
    let s = bound (side_in rest) (λ s. two_numbers s.1 >>= λ p. Some (Part s.0 p.0 p.1)) role e in
    let i = bound (two_numbers s.found.1) (λ p. Some (Part s.found.0 p.0 p.1)) role s.later in
    let side = side_takes rest s.found s.is in
    let two = two_are law s.found.1 i.found i.is in
    makes role_fields FitsRole (codes "part" ∷ rest) (Part s.found.0 i.found.0 i.found.1) role i.later
    (ap (λ r. codes "part" ∷ r) (side.whole ∙ ap (λ r. side_word s.found.0 ∷ r) two.whole)) (record { line = tt; value = two.below })

pub role_back : NumberLaw → FrontLaw → (fields : Fields) (role : RoleLine) → role_of fields ≡ Some role → MakesRole fields role
unfolding role_of
role_back law front [] role e = none_is role e
role_back law front (word ∷ rest) role e =
    elim (word_case word (codes "property") (property_of rest) (cond (bytes_eq word (codes "part")) (part_of rest) None) role e) [
      | inl h ↦ subst (λ w. MakesRole (w ∷ rest) role) (sym h.0) (property_is front rest role h.1)
      | inr h ↦ elim (word_case word (codes "part") (part_of rest) None role h) [
        | inl k ↦ subst (λ w. MakesRole (w ∷ rest) role) (sym k.0) (part_is law rest role k.1)
        | inr k ↦ none_is role k
      ]
    ]

pub role_again : NumberLaw → FrontLaw → (role : RoleLine) → FitsRole role → role_of (role_fields role) ≡ Some role
unfolding role_of
role_again law front (Property iri) fits = rw (iri_again front iri fits.line fits.value) refl
role_again law front (Part side number length) fits = rw (side_again side (decimal number ∷ decimal length ∷ []), two_again law number length fits.value) refl

-- Prefix groups: what declares a prefix is read so, and nothing else is.
use Rattle.std.proofs.Common.{◌≡◌, ℕ, Bool, true, false, cond, List, [], ◌∷◌, map, refl, ap, sym, subst, ◌∙◌}
use Rattle.std.specs.Prelude.{Option, Some, None, Ok, Err}
use Rattle.ofn_lex.specs.declared.token.Token.{Token}
use Rattle.ofn_lex.specs.declared.token.TokenKind.{TokenKind}
use Rattle.ofn_lex.specs.declared.token.TokenKind.TheVariants as kind
use Rattle.ofn_term.specs.declared.item.Item.{Item}
use Rattle.ofn_term.specs.declared.item.Item.TheVariants as item
use Rattle.ofn_term.specs.Words.{bytes_of}
use Rattle.ofn_heads.specs.declared.head.Head.{Head}
use Rattle.ofn_heads.specs.declared.head.Head.TheVariants as head
use Rattle.ofn_heads.specs.Heads.{head_of}
use Rattle.ofn_heads.specs.Names.{iri_between, spelling, before_last, prefix_by_kind, declared_prefix}
use Rattle.text_names.specs.Prefixes.{Prefixes, has_colon, prefix_of, rest_of}
use Rattle.ofn_axiom.specs.declared.fault.OffsetFault.TheVariants as fault
use Rattle.ofn_axiom.specs.Given.{Given, given, is_equals, full_by_kind, prefix_parts, prefix_group}
use Rattle.ofn_axiom.specs.Documents.{is_prefix}
use Rattle.ofn_axiom.specs.StandsFor.{IsHead}
use Rattle.ofn_axiom.specs.DocumentText.{IsPrefixName, IsPrefix, equated}
use Rattle.ofn_axiom.proofs.Forms.{by_form}
use Rattle.ofn_axiom.proofs.GivenLaws.{atom_gives, bare_gives, group_gives, group_has_no_parts}

-- a prefix is read of its token
prefix_name_read : (text : List ℕ) (token : Token) (prefix : List ℕ) → IsPrefixName text token prefix → declared_prefix text token ≡ Some prefix
prefix_name_read text token prefix is =
    ap (prefix_by_kind text token) is.run
    ∙ ap (before_last (spelling text token)) is.last
    ∙ ap (λ (b : Bool). cond b (Some (prefix_of (spelling text token))) None) is.colon
    ∙ ap (λ (l : List ℕ). Some l) (sym is.is)

-- and only of such a token
prefix_name_stands : (text : List ℕ) (token : Token) (prefix : List ℕ) → declared_prefix text token ≡ Some prefix → IsPrefixName text token prefix
prefix_name_stands text token prefix = by token.kind refl
  where
    colon : token.kind ≡ kind.Run → rest_of (spelling text token) ≡ [] → (b : Bool) → has_colon (spelling text token) ≡ b → cond b (Some (prefix_of (spelling text token))) None ≡ Some prefix → IsPrefixName text token prefix
    colon run last true has e = let same : prefix_of (spelling text token) ≡ prefix = cc in record { run = run; colon = has; last = last; is = sym same }
    colon run last false has e = cc

    rest : token.kind ≡ kind.Run → (l : List ℕ) → rest_of (spelling text token) ≡ l → before_last (spelling text token) l ≡ Some prefix → IsPrefixName text token prefix
    rest run [] last e = colon run last (has_colon (spelling text token)) refl e
    rest run (b ∷ bs) last e = cc

    by : (k : TokenKind) → token.kind ≡ k → prefix_by_kind text token k ≡ Some prefix → IsPrefixName text token prefix
    by kind.Run k e = rest k (rest_of (spelling text token)) refl e
    by kind.FullIri k e = cc
    by kind.Open k e = cc
    by kind.Close k e = cc
    by kind.Equals k e = cc
    by kind.Quoted k e = cc
    by kind.Lang k e = cc
    by kind.Carets k e = cc

-- a prefix group is read as its prefix and IRI
pub prefix_read : (text : List ℕ) (prefixes : Prefixes) (i : Item) (prefix iri : List ℕ) → IsPrefix text i prefix iri → ((given text prefixes i).prefix ≡ Ok (prefix, iri)) × ((given text prefixes i).head ≡ head.Prefix)
prefix_read text prefixes _ _ _ (equated word name equals full start end prefix iri is_head is_name is_equal is_full is_iri) =
    let gs = given text prefixes (item.Atom name) ∷ given text prefixes (item.Atom equals) ∷ given text prefixes (item.Atom full) ∷ [] in
    let first : (given text prefixes (item.Atom name)).prefix_name ≡ Some prefix = ap (λ (g : Given). g.prefix_name) (atom_gives text prefixes name) ∙ prefix_name_read text name prefix is_name in
    let second : (given text prefixes (item.Atom equals)).equals ≡ true = ap (λ (g : Given). g.equals) (atom_gives text prefixes equals) ∙ ap is_equals is_equal in
    let third : (given text prefixes (item.Atom full)).full ≡ Some iri = ap (λ (g : Given). g.full) (atom_gives text prefixes full) ∙ ap (full_by_kind text full) is_full ∙ ap (λ (l : List ℕ). Some l) (sym is_iri) in (
      ap (λ (g : Given). g.prefix) (group_gives text prefixes word (item.Atom name ∷ item.Atom equals ∷ item.Atom full ∷ []) start end)
          ∙ ap (λ (o : Option (List ℕ)). prefix_parts word.start o (given text prefixes (item.Atom equals)).equals (given text prefixes (item.Atom full)).full) first
          ∙ ap (λ (b : Bool). prefix_parts word.start (Some prefix) b (given text prefixes (item.Atom full)).full) second
          ∙ ap (prefix_parts word.start (Some prefix) true) third,
      ap (λ (g : Given). g.head) (group_gives text prefixes word (item.Atom name ∷ item.Atom equals ∷ item.Atom full ∷ []) start end) ∙ is_head,
    )

-- a token with a property
record TokenWith (i : Item) (P : Token → Type 0) : Type 0 where
  token : Token
  same : i ≡ item.Atom token
  is : P token

name_part : (text : List ℕ) (prefixes : Prefixes) (i : Item) (prefix : List ℕ) → (given text prefixes i).prefix_name ≡ Some prefix → TokenWith i (λ token. IsPrefixName text token prefix)
name_part text prefixes = by_form (λ i. (prefix : List ℕ) → (given text prefixes i).prefix_name ≡ Some prefix → TokenWith i (λ token. IsPrefixName text token prefix))
    (λ token. λ prefix e. record { token = token; same = refl; is = prefix_name_stands text token prefix (sym (ap (λ (g : Given). g.prefix_name) (atom_gives text prefixes token)) ∙ e) })
    (λ is start end. λ prefix e. let bad : None ≡ Some prefix = sym (group_has_no_parts text prefixes None is start end).0 ∙ e in cc)
    (λ word is start end. λ prefix e. let bad : None ≡ Some prefix = sym (group_has_no_parts text prefixes (Some word) is start end).0 ∙ e in cc)

equals_kind : (k : TokenKind) → is_equals k ≡ true → k ≡ kind.Equals
equals_kind kind.Equals e = refl
equals_kind kind.Run e = cc
equals_kind kind.FullIri e = cc
equals_kind kind.Open e = cc
equals_kind kind.Close e = cc
equals_kind kind.Quoted e = cc
equals_kind kind.Lang e = cc
equals_kind kind.Carets e = cc

equals_part : (text : List ℕ) (prefixes : Prefixes) (i : Item) → (given text prefixes i).equals ≡ true → TokenWith i (λ token. token.kind ≡ kind.Equals)
equals_part text prefixes = by_form (λ i. (given text prefixes i).equals ≡ true → TokenWith i (λ token. token.kind ≡ kind.Equals))
    (λ token. λ e. record { token = token; same = refl; is = equals_kind token.kind (sym (ap (λ (g : Given). g.equals) (atom_gives text prefixes token)) ∙ e) })
    (λ is start end. λ e. let bad : false ≡ true = sym (group_has_no_parts text prefixes None is start end).1 ∙ e in cc)
    (λ word is start end. λ e. let bad : false ≡ true = sym (group_has_no_parts text prefixes (Some word) is start end).1 ∙ e in cc)

full_kind : (text : List ℕ) (token : Token) (iri : List ℕ) (k : TokenKind) → full_by_kind text token k ≡ Some iri → (k ≡ kind.FullIri) × (iri ≡ iri_between text token)
full_kind text token iri kind.FullIri e = let same : iri_between text token ≡ iri = cc in (refl, sym same)
full_kind text token iri kind.Run e = cc
full_kind text token iri kind.Equals e = cc
full_kind text token iri kind.Open e = cc
full_kind text token iri kind.Close e = cc
full_kind text token iri kind.Quoted e = cc
full_kind text token iri kind.Lang e = cc
full_kind text token iri kind.Carets e = cc

full_part : (text : List ℕ) (prefixes : Prefixes) (i : Item) (iri : List ℕ) → (given text prefixes i).full ≡ Some iri → TokenWith i (λ token. (token.kind ≡ kind.FullIri) × (iri ≡ iri_between text token))
full_part text prefixes = by_form (λ i. (iri : List ℕ) → (given text prefixes i).full ≡ Some iri → TokenWith i (λ token. (token.kind ≡ kind.FullIri) × (iri ≡ iri_between text token)))
    (λ token. λ iri e. record { token = token; same = refl; is = full_kind text token iri token.kind (sym (ap (λ (g : Given). g.full) (atom_gives text prefixes token)) ∙ e) })
    (λ is start end. λ iri e. let bad : None ≡ Some iri = sym (group_has_no_parts text prefixes None is start end).2 ∙ e in cc)
    (λ word is start end. λ iri e. let bad : None ≡ Some iri = sym (group_has_no_parts text prefixes (Some word) is start end).2 ∙ e in cc)

-- the three parts that are read
parts_gave : {P : Type 0} (at : ℕ) (name : Option (List ℕ)) (equals : Bool) (full : Option (List ℕ)) (prefix iri : List ℕ) → prefix_parts at name equals full ≡ Ok (prefix, iri) → (name ≡ Some prefix → equals ≡ true → full ≡ Some iri → P) → P
parts_gave at (Some name) true (Some iri) prefix other e then =
    let pair : (name, iri) ≡ (prefix, other) = cc in
    then (ap (λ (b : List ℕ × List ℕ). Some b.0) pair) refl (ap (λ (b : List ℕ × List ℕ). Some b.1) pair)
parts_gave at (Some name) true None prefix iri e then = cc
parts_gave at (Some name) false full prefix iri e then = cc
parts_gave at None equals full prefix iri e then = cc

prefix_head : (k : Head) → is_prefix k ≡ true → k ≡ head.Prefix
prefix_head head.Prefix e = refl
prefix_head _ e = cc

same_three : (a b c x y z : Item) → a ≡ x → b ≡ y → c ≡ z → x ∷ y ∷ z ∷ [] ≡ a ∷ b ∷ c ∷ []
same_three a b c x y z e f g = rw (e, f, g) refl

prefix_group_stands : (text : List ℕ) (prefixes : Prefixes) (word : Token) (is : List Item) (start end : ℕ) (prefix iri : List ℕ) → IsHead text word head.Prefix → prefix_group word.start (map (given text prefixes) is) ≡ Ok (prefix, iri) → IsPrefix text (item.Group (Some word) is start end) prefix iri
prefix_group_stands text prefixes word [] start end prefix iri h e = cc
prefix_group_stands text prefixes word (n ∷ []) start end prefix iri h e = cc
prefix_group_stands text prefixes word (n ∷ q ∷ []) start end prefix iri h e = cc
prefix_group_stands text prefixes word (n ∷ q ∷ f ∷ []) start end prefix iri h e =
    parts_gave word.start (given text prefixes n).prefix_name (given text prefixes q).equals (given text prefixes f).full prefix iri e (λ first second third.
    let one = name_part text prefixes n prefix first in
    let two = equals_part text prefixes q second in
    let three = full_part text prefixes f iri third in
    subst (λ (is : List Item). IsPrefix text (item.Group (Some word) is start end) prefix iri) (same_three n q f _ _ _ one.same two.same three.same)
    (equated word one.token two.token three.token start end prefix iri h one.is two.is three.is.0 three.is.1))
prefix_group_stands text prefixes word (n ∷ q ∷ f ∷ i ∷ is) start end prefix iri h e = cc

-- an item that is read as a prefix declares it
pub prefix_stands : (text : List ℕ) (prefixes : Prefixes) (i : Item) (prefix iri : List ℕ) → (given text prefixes i).prefix ≡ Ok (prefix, iri) → is_prefix (given text prefixes i).head ≡ true → IsPrefix text i prefix iri
prefix_stands text prefixes = by_form (λ i. (prefix iri : List ℕ) → (given text prefixes i).prefix ≡ Ok (prefix, iri) → is_prefix (given text prefixes i).head ≡ true → IsPrefix text i prefix iri)
    (λ token. λ prefix iri e h. let bad : Err (fault.Head token.start) ≡ Ok (prefix, iri) = sym (ap (λ (g : Given). g.prefix) (atom_gives text prefixes token)) ∙ e in cc)
    (λ is start end. λ prefix iri e h. let bad : Err (fault.Head start) ≡ Ok (prefix, iri) = sym (ap (λ (g : Given). g.prefix) (bare_gives text prefixes is start end)) ∙ e in cc)
    (λ word is start end. λ prefix iri e h.
    let gives = group_gives text prefixes word is start end in
    prefix_group_stands text prefixes word is start end prefix iri
    (prefix_head (head_of (bytes_of text word)) (sym (ap (λ (g : Given). is_prefix g.head) gives) ∙ h))
    (sym (ap (λ (g : Given). g.prefix) gives) ∙ e))

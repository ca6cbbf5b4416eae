-- What a document says, by cases as the syntax has them.
use Rattle.std.specs.Prelude.{◌≡◌, ◌≢◌, ◌≤◌, ℕ, true, false, List, [], ◌∷◌, ◌++◌, length, Some, None, IsUtf8, ⊤}
use Rattle.ofn_lex.specs.declared.token.Token.{Token}
use Rattle.ofn_lex.specs.declared.token.TokenKind.TheVariants as kind
use Rattle.ofn_term.specs.declared.item.Item.{Item}
use Rattle.ofn_term.specs.declared.item.Item.TheVariants as item
use Rattle.ofn_term.specs.Texts.{HasItems}
use Rattle.ofn_heads.specs.declared.head.Head.TheVariants as head
use Rattle.ofn_heads.specs.declared.outside.HeadId.{HeadId}
use Rattle.ofn_heads.specs.Names.{iri_between, spelling, known}
use Rattle.text_names.specs.Names.{is_held}
use Rattle.text_names.specs.Prefixes.{Prefixes, iri_of, has_colon, prefix_of, rest_of}
use Rattle.ofn_axiom.specs.declared.types.Direct.{Direct}
use Rattle.ofn_axiom.specs.declared.types.Document.{Document}
use Rattle.ofn_axiom.specs.declared.types.Mention.{Mention}
use Rattle.ofn_axiom.specs.declared.types.Mention.TheVariants as mention
use Rattle.ofn_axiom.specs.declared.types.Names.{Names}
use Rattle.ofn_axiom.specs.declared.types.Mode.{Mode}
use Rattle.ofn_axiom.specs.declared.types.Mode.TheVariants.{ElPart}
use Rattle.ofn_axiom.specs.Numbers.{direct_mentions}
use Rattle.ofn_axiom.specs.Taking.{State, place_at, with_direct, with_omitted}
use Rattle.ofn_axiom.specs.Documents.{empty}
use Rattle.ofn_axiom.specs.StandsFor.{IsHead, IsIri}
use Rattle.ofn_axiom.specs.DirectItems.{IsDirect}
use Rattle.ofn_axiom.specs.Outside.{IsOutside}

-- the token is an abbreviated IRI whose only colon is its last character
pub record IsPrefixName (text : List ℕ) (token : Token) (prefix : List ℕ) : Type 0 where
  pub run : token.kind ≡ kind.Run
  pub colon : has_colon (spelling text token) ≡ true
  pub last : rest_of (spelling text token) ≡ []
  pub is : prefix ≡ prefix_of (spelling text token)

-- a prefix group has a prefix, an equals sign and a full IRI
pub data IsPrefix (text : List ℕ) : Item → List ℕ → List ℕ → Type 0 where
  equated : (word name equals full : Token) (start end : ℕ) (prefix iri : List ℕ) →
      IsHead text word head.Prefix → IsPrefixName text name prefix →
      equals.kind ≡ kind.Equals → full.kind ≡ kind.FullIri → iri ≡ iri_between text full →
      IsPrefix text (item.Group (Some word)
      (item.Atom name ∷ item.Atom equals ∷ item.Atom full ∷ []) start end) prefix iri

-- prefix groups in order: each prefix is new, or declared with the IRI that it has
pub data ArePrefixes (text : List ℕ) : Prefixes → List Item → Prefixes → Type 0 where
  none : (prefixes : Prefixes) → ArePrefixes text prefixes [] prefixes
  new : (prefixes more : Prefixes) (i : Item) (is : List Item) (prefix iri : List ℕ) →
      IsPrefix text i prefix iri → iri_of prefixes prefix ≡ None →
      ArePrefixes text (prefixes ++ (prefix, iri) ∷ []) is more →
      ArePrefixes text prefixes (i ∷ is) more
  again : (prefixes more : Prefixes) (i : Item) (is : List Item) (prefix iri : List ℕ) →
      IsPrefix text i prefix iri → iri_of prefixes prefix ≡ Some iri →
      ArePrefixes text prefixes is more → ArePrefixes text prefixes (i ∷ is) more

-- names are held in order of first occurrence, while there is room
pub data AreHeld : List Mention → Names → Names → Type 0 where
  no_more : (names : Names) → AreHeld [] names names
  held_class : (name : List ℕ) (ms : List Mention) (names more : Names) →
      is_held names.classes.names name ≡ true → AreHeld ms names more →
      AreHeld (mention.Class name ∷ ms) names more
  new_class : (name : List ℕ) (ms : List Mention) (names more : Names) →
      is_held names.classes.names name ≡ false →
      length names.classes.names ≢ names.classes.most →
      AreHeld ms (record {
        classes = record { names = names.classes.names ++ name ∷ []; most = names.classes.most };
        roles = names.roles;
      }) more → AreHeld (mention.Class name ∷ ms) names more
  held_property : (name : List ℕ) (ms : List Mention) (names more : Names) →
      is_held names.roles.names name ≡ true → AreHeld ms names more →
      AreHeld (mention.Property name ∷ ms) names more
  new_property : (name : List ℕ) (ms : List Mention) (names more : Names) →
      is_held names.roles.names name ≡ false → length names.roles.names ≢ names.roles.most →
      AreHeld ms (record {
        classes = names.classes;
        roles = record { names = names.roles.names ++ name ∷ []; most = names.roles.most };
      }) more → AreHeld (mention.Property name ∷ ms) names more

-- a direct item is taken in, or it is left out: if only the part in the profile is asked for, and
-- something in it is outside
pub data IsTaken (text : List ℕ) (prefixes : Prefixes) (mode : Mode) :
    Item → State → State → Type 0 where
  said : (i : Item) (d : Direct) (state : State) (more : Names) → IsDirect text prefixes i d →
      AreHeld (direct_mentions d) state.1 more →
      IsTaken text prefixes mode i state (with_direct more d state.0, more)
  omitted : (i : Item) (at : ℕ) (outside : HeadId) (state : State) → mode ≡ ElPart →
      IsOutside text prefixes i at outside →
      IsTaken text prefixes mode i state
      (with_omitted (record { place = place_at text at; head = outside }) state.0, state.1)

-- direct items, each in its turn
pub data AreTaken (text : List ℕ) (prefixes : Prefixes) (mode : Mode) :
    List Item → State → State → Type 0 where
  all_taken : (state : State) → AreTaken text prefixes mode [] state state
  one_taken : (i : Item) (is : List Item) (state next last : State) →
      IsTaken text prefixes mode i state next → AreTaken text prefixes mode is next last →
      AreTaken text prefixes mode (i ∷ is) state last

-- the item is an IRI
pub record IsIriItem (text : List ℕ) (prefixes : Prefixes) (i : Item) : Type 0 where
  pub token : Token
  pub iri : List ℕ
  pub same : i ≡ item.Atom token
  pub is : IsIri text prefixes token iri

abbrev pub AreIris : List ℕ → Prefixes → List Item → Type 0
AreIris text prefixes [] = ⊤
AreIris text prefixes (i ∷ is) = IsIriItem text prefixes i × AreIris text prefixes is

-- an ontology has up to two IRIs, then direct items
pub data IsOntology (text : List ℕ) (prefixes : Prefixes) (mode : Mode) :
    Item → State → State → Type 0 where
  ontology : (word : Token) (iris directs : List Item) (start end : ℕ) (state last : State) →
      IsHead text word head.Ontology → AreIris text prefixes iris → length iris ≤ 2 →
      AreTaken text prefixes mode directs state last →
      IsOntology text prefixes mode (item.Group (Some word) (iris ++ directs) start end) state last

-- a document has prefixes, then one ontology, and nothing after it
pub data IsDocument (text : List ℕ) (mode : Mode) : List Item → State → State → Type 0 where
  document : (before : List Item) (o : Item) (prefixes : Prefixes) (state last : State) →
      ArePrefixes text known before prefixes → IsOntology text prefixes mode o state last →
      IsDocument text mode (before ++ o ∷ []) state last

-- the text is one of this document, with its names after those that are held, within the limits
pub record IsDocumentText (text : List ℕ) (mode : Mode) (depth : ℕ) (old new : Names)
    (d : Document) : Type 0 where
  pub utf8 : IsUtf8 text
  pub items : List Item
  pub has : HasItems text depth items
  pub says : IsDocument text mode items (empty, old) (d, new)

-- What a document has: a reading, or a first fault.
use Rattle.std.specs.Prelude.{◌≡◌, ℕ, Bool, true, false, if◌then◌else◌, List, [], ◌∷◌, length, take, bytes_eq, Option, Some, None, Result, Ok, Err, IsUtf8}
use Rattle.std.specs.Str.{IsValidUpTo}
use Rattle.byte_words.specs.Faults.{OrOutOfMemory}
use Rattle.byte_words.specs.Fronts.{without_mark}
use Rattle.ofn_term.specs.declared.item.Item.{Item}
use Rattle.ofn_term.specs.declared.fault.TermFault.TheVariants as term
use Rattle.ofn_term.specs.Texts.{HasItems, HasFault}
use Rattle.ofn_heads.specs.declared.head.Head.{Head}
use Rattle.ofn_heads.specs.declared.head.Head.TheVariants as head
use Rattle.ofn_heads.specs.Names.{known}
use Rattle.text_names.specs.Place.{place_after}
use Rattle.text_names.specs.Prefixes.{Prefixes, iri_of, with_prefix}
use Rattle.text_names.specs.declared.place.Place.{Place}
use Rattle.ofn_axiom.specs.declared.fault.OffsetFault.{OffsetFault}
use Rattle.ofn_axiom.specs.declared.fault.OffsetFault.TheVariants as fault
use Rattle.ofn_axiom.specs.declared.fault.DocFault.{DocFault}
use Rattle.ofn_axiom.specs.declared.fault.DocFault.TheVariants as doc
use Rattle.ofn_axiom.specs.declared.fault.DocKind.{DocKind}
use Rattle.ofn_axiom.specs.declared.fault.DocKind.TheVariants as kind
use Rattle.ofn_axiom.specs.declared.types.Document.{Document}
use Rattle.ofn_axiom.specs.declared.types.Names.{Names}
use Rattle.ofn_axiom.specs.declared.types.Mode.{Mode}
use Rattle.ofn_axiom.specs.Steps.{◌>>=◌}
use Rattle.ofn_axiom.specs.Given.{Given, given, prefix_group}
use Rattle.ofn_axiom.specs.Taking.{State, place_at}

-- the prefixes with one more, which may be held already: the same again changes nothing, and
-- another IRI clashes
abbrev pub declared_over : ℕ → Prefixes → List ℕ × List ℕ → Option (List ℕ) →
    Result Prefixes OffsetFault
declared_over at prefixes both None = Ok (with_prefix prefixes both.0 both.1)
declared_over at prefixes both (Some held) =
    if bytes_eq held both.1 then Ok (with_prefix prefixes both.0 both.1) else
    Err (fault.PrefixClash at)

abbrev pub declared : ℕ → Prefixes → List ℕ × List ℕ → Result Prefixes OffsetFault
declared at prefixes both = declared_over at prefixes both (iri_of prefixes both.0)

-- the prefixes with that of the items of a prefix group
abbrev pub declared_by : ℕ → Prefixes → List Given → Result Prefixes OffsetFault
declared_by at prefixes gs = prefix_group at gs >>= declared at prefixes

-- the prefixes with that of an item
abbrev pub declared_with : Prefixes → Given → Result Prefixes OffsetFault
declared_with prefixes g = g.prefix >>= declared g.at prefixes

abbrev pub is_prefix : Head → Bool
is_prefix head.Prefix = true
is_prefix _ = false

abbrev pub is_ontology : Head → Bool
is_ontology head.Ontology = true
is_ontology _ = false

-- the ontology of a document, the prefixes that are declared before it, and what follows it
pub record Found : Type 0 where
  pub prefixes : Prefixes
  pub ontology : Item
  pub rest : List Item

-- prefixes, then an ontology
abbrev pub to_ontology : List ℕ → Prefixes → List Item → Result Found OffsetFault
to_ontology text prefixes [] = Err (fault.NoOntology (length text))
to_ontology text prefixes (item ∷ items) =
    if is_prefix (given text prefixes item).head then
    (declared_with prefixes (given text prefixes item) >>= λ more. to_ontology text more items) else
    if is_ontology (given text prefixes item).head then
    Ok (record { prefixes = prefixes; ontology = item; rest = items }) else
    Err (fault.Head (given text prefixes item).at)

-- nothing follows the ontology
abbrev pub ended : List ℕ → Prefixes → List Item → State → Result State OffsetFault
ended text prefixes [] state = Ok state
ended text prefixes (item ∷ items) state = Err (fault.Head (given text prefixes item).at)

-- what the items of a document add
abbrev pub document_of : List ℕ → Mode → List Item → State → Result State OffsetFault
document_of text mode items state =
    to_ontology text known items >>= λ found.
    (given text found.prefixes found.ontology).ontology mode state >>= λ next.
    ended text found.prefixes found.rest next

-- nothing is read yet
abbrev pub empty : Document
empty = record { axioms = []; omitted = [] }

abbrev pub fault_at : List ℕ → DocKind → ℕ → DocFault
fault_at text kind at = doc.Syntax (place_at text at) kind

-- a fault, with its place by line and column
abbrev pub placed : List ℕ → OffsetFault → DocFault
placed text (fault.Head at) = fault_at text kind.Head at
placed text (fault.Shape at) = fault_at text kind.Shape at
placed text (fault.PrefixUnknown at) = fault_at text kind.PrefixUnknown at
placed text (fault.PrefixClash at) = fault_at text kind.PrefixClash at
placed text (fault.NoOntology at) = fault_at text kind.NoOntology at
placed text (fault.Profile at head) = doc.Profile (place_at text at) head
placed text fault.TooManyClasses = doc.TooManyClasses
placed text fault.TooManyProperties = doc.TooManyProperties

-- the text has items of which the document is a reading: with its names after those that are held,
-- within the limits
pub record IsReading (text : List ℕ) (mode : Mode) (depth : ℕ) (old new : Names)
    (document : Document) : Type 0 where
  pub utf8 : IsUtf8 text
  pub items : List Item
  pub has : HasItems text depth items
  pub read : document_of text mode items (empty, old) ≡ Ok (document, new)

-- the bytes are no text after this place
pub record IsNoText (text : List ℕ) (place : Place) : Type 0 where
  pub offset : ℕ
  pub valid : IsValidUpTo text offset
  pub there : place ≡ place_after (take offset text)

-- the text has items, and of what they say this is the first fault
pub record IsTermFault (text : List ℕ) (mode : Mode) (depth : ℕ) (old : Names)
    (found : DocFault) : Type 0 where
  pub utf8 : IsUtf8 text
  pub items : List Item
  pub has : HasItems text depth items
  pub first : OffsetFault
  pub read : document_of text mode items (empty, old) ≡ Err first
  pub there : placed text first ≡ found

-- a fault of tokens or brackets at a place
abbrev pub FailsAt : List ℕ → (ℕ → Type 0) → Place → Type 0
FailsAt text IsFaultAt place =
    IsUtf8 text × (offset : ℕ) × IsFaultAt offset × (place ≡ place_at text offset)

-- the first fault of the text: of its bytes, its tokens, its brackets, or what its items say
pub data IsDocFault (text : List ℕ) (mode : Mode) (depth : ℕ) (old : Names) :
    DocFault → Type 0 where
  no_text : (place : Place) → IsNoText text place →
      IsDocFault text mode depth old (doc.Syntax place kind.NotUtf8)
  no_token : (place : Place) → FailsAt text (λ at. HasFault text depth (term.Lex at)) place →
      IsDocFault text mode depth old (doc.Syntax place kind.NoToken)
  unopened : (place : Place) → FailsAt text (λ at. HasFault text depth (term.Unopened at)) place →
      IsDocFault text mode depth old (doc.Syntax place kind.Unopened)
  unclosed : (place : Place) → FailsAt text (λ at. HasFault text depth (term.Unclosed at)) place →
      IsDocFault text mode depth old (doc.Syntax place kind.Unclosed)
  too_deep : (place : Place) → FailsAt text (λ at. HasFault text depth (term.TooDeep at)) place →
      IsDocFault text mode depth old doc.TooDeep
  terms : (found : DocFault) → IsTermFault text mode depth old found →
      IsDocFault text mode depth old found

abbrev pub doc_ran_out : DocFault → Bool
doc_ran_out doc.OutOfMemory = true
doc_ran_out _ = false

-- the reading of the bytes, or their first fault, unless memory ran out
abbrev pub IsDocAnswer : List ℕ → Mode → ℕ → Names → Names → Result Document DocFault → Type 0
IsDocAnswer bytes mode depth old new (Ok document) =
    IsReading (without_mark bytes) mode depth old new document
IsDocAnswer bytes mode depth old new (Err found) =
    OrOutOfMemory doc_ran_out (IsDocFault (without_mark bytes) mode depth old) found

abbrev pub is_profile : DocFault → Bool
is_profile (doc.Profile place head) = true
is_profile _ = false

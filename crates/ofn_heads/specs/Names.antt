-- Pieces of a text, IRIs and prefixes.
use Rattle.std.specs.Prelude.{ℕ, ◌+◌, ◌-◌, Bool, true, false, ◌&&◌, nat_le, nat_lt, if◌then◌else◌, List, [], ◌∷◌, ◌++◌, length, slice_range, codes, Option, Some, None}
use Rattle.std.specs.Str.{is_utf8}
use Rattle.ofn_lex.specs.declared.token.Token.{Token}
use Rattle.ofn_lex.specs.declared.token.TokenKind.{TokenKind}
use Rattle.ofn_lex.specs.declared.token.TokenKind.TheVariants as kind
use Rattle.text_names.specs.Prefixes.{Prefixes, iri_of, has_colon, prefix_of, rest_of}
use Rattle.ofn_heads.specs.declared.iri.Named.{Named}
use Rattle.ofn_heads.specs.declared.iri.Named.TheVariants as named

-- bytes that are UTF-8; of other bytes nothing is taken
unfoldable pub text_of : List ℕ → List ℕ
text_of bytes = if is_utf8 bytes then bytes else []

-- the text between two offsets, or none where they are not within the text or cut a character
abbrev pub piece : List ℕ → ℕ → ℕ → List ℕ
piece text start end =
    if nat_le start end && nat_le end (length text) then text_of (slice_range text start end) else []

-- what a full IRI has between < and >
abbrev pub iri_between : List ℕ → Token → List ℕ
iri_between text token =
    if nat_lt token.start token.end then piece text (token.start + 1) (token.end - 1) else []

-- what a run spells
abbrev pub spelling : List ℕ → Token → List ℕ
spelling text token = piece text token.start token.end

-- the IRI of a prefix, followed by the rest
abbrev pub followed : Option (List ℕ) → List ℕ → Named
followed (Some iri) rest = named.Iri (iri ++ rest)
followed None rest = named.Unknown

-- what a run stands for: it is split at its first colon, and without one it is no IRI
abbrev pub expanded : Prefixes → List ℕ → Named
expanded prefixes short =
    if has_colon short then followed (iri_of prefixes (prefix_of short)) (rest_of short) else named.NoIri

abbrev pub name_by_kind : List ℕ → Prefixes → Token → TokenKind → Named
name_by_kind text prefixes token kind.FullIri = named.Iri (iri_between text token)
name_by_kind text prefixes token kind.Run = expanded prefixes (spelling text token)
name_by_kind text prefixes token _ = named.NoIri

-- the IRI that a token stands for
abbrev pub name_of_token : List ℕ → Prefixes → Token → Named
name_of_token text prefixes token = name_by_kind text prefixes token token.kind

abbrev pub is_iri_by_kind : List ℕ → Token → TokenKind → Bool
is_iri_by_kind text token kind.FullIri = true
is_iri_by_kind text token kind.Run = has_colon (spelling text token)
is_iri_by_kind text token _ = false

-- the token is a full IRI or an abbreviated one
abbrev pub is_iri : List ℕ → Token → Bool
is_iri text token = is_iri_by_kind text token token.kind

-- what stands before a colon that is the last character and the only colon
abbrev pub before_last : List ℕ → List ℕ → Option (List ℕ)
before_last short [] = if has_colon short then Some (prefix_of short) else None
before_last short (b ∷ bs) = None

abbrev pub prefix_by_kind : List ℕ → Token → TokenKind → Option (List ℕ)
prefix_by_kind text token kind.Run = before_last (spelling text token) (rest_of (spelling text token))
prefix_by_kind text token _ = None

-- the prefix that a token declares: an abbreviated IRI whose only colon is its last character
abbrev pub declared_prefix : List ℕ → Token → Option (List ℕ)
declared_prefix text token = prefix_by_kind text token token.kind

-- the prefixes that are known from the start
abbrev pub known : Prefixes
known =
    (codes "rdf", codes "http://www.w3.org/1999/02/22-rdf-syntax-ns#")
    ∷ (codes "rdfs", codes "http://www.w3.org/2000/01/rdf-schema#")
    ∷ (codes "xsd", codes "http://www.w3.org/2001/XMLSchema#")
    ∷ (codes "owl", codes "http://www.w3.org/2002/07/owl#") ∷ []

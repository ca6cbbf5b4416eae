-- What an item gives, in each place where it may stand.
use Rattle.std.specs.Prelude.{ℕ, Bool, true, false, ◌&&◌, nat_eq, ◌-◌, if◌then◌else◌, List, [], ◌∷◌, ◌++◌, codes, bytes_eq, Option, Some, None, Result, Ok, Err}
use Rattle.ofn_lex.specs.declared.token.Token.{Token}
use Rattle.ofn_lex.specs.declared.token.TokenKind.{TokenKind}
use Rattle.ofn_lex.specs.declared.token.TokenKind.TheVariants as kind
use Rattle.ofn_term.specs.declared.item.Item.{Item, fold-Item}
use Rattle.ofn_term.specs.declared.item.Item.TheOpen.{Item-F}
use Rattle.ofn_term.specs.Words.{bytes_of}
use Rattle.ofn_heads.specs.declared.head.Head.{Head}
use Rattle.ofn_heads.specs.declared.head.Head.TheVariants as head
use Rattle.ofn_heads.specs.declared.outside.HeadId.TheVariants as id
use Rattle.ofn_heads.specs.declared.iri.Named.{Named}
use Rattle.ofn_heads.specs.declared.iri.Named.TheVariants as named
use Rattle.ofn_heads.specs.Heads.{head_of}
use Rattle.ofn_heads.specs.Names.{name_of_token, is_iri, iri_between, declared_prefix}
use Rattle.text_names.specs.Prefixes.{Prefixes}
use Rattle.ofn_axiom.specs.declared.fault.OffsetFault.{OffsetFault}
use Rattle.ofn_axiom.specs.declared.fault.OffsetFault.TheVariants as fault
use Rattle.ofn_axiom.specs.declared.types.IriExpr.{IriExpr}
use Rattle.ofn_axiom.specs.declared.types.IriExpr.TheVariants as expr
use Rattle.ofn_axiom.specs.declared.types.IriAxiom.{IriAxiom}
use Rattle.ofn_axiom.specs.declared.types.IriAxiom.TheVariants as ax
use Rattle.ofn_axiom.specs.declared.types.Direct.{Direct}
use Rattle.ofn_axiom.specs.declared.types.Direct.TheVariants as direct
use Rattle.ofn_axiom.specs.declared.types.Mode.{Mode}
use Rattle.ofn_axiom.specs.Steps.{◌>>=◌}
use Rattle.ofn_axiom.specs.Taking.{State, taken}

-- what an item gives in each place where it may stand
pub record Given : Type 0 where
  -- its place: the head, or its first byte
  pub at : ℕ
  -- it is an IRI or a group with a head
  pub fits : Bool
  -- it is a group with a head, and its head
  pub headed : Bool
  pub head : Head
  -- the IRI that it stands for
  pub name : Named
  pub class : Result IriExpr OffsetFault
  pub property : Result (List ℕ) OffsetFault
  -- as the first item of SubObjectPropertyOf
  pub chain : Result (List (List ℕ)) OffsetFault
  -- as the item of a declaration, and directly in Ontology
  pub entity : Result Direct OffsetFault
  pub direct : Result Direct OffsetFault
  -- as the three items of a prefix
  pub prefix_name : Option (List ℕ)
  pub equals : Bool
  pub full : Option (List ℕ)
  -- as the items of a prefix group, and as an ontology
  pub prefix : Result (List ℕ × List ℕ) OffsetFault
  pub ontology : Mode → State → Result State OffsetFault

-- an IRI as a class expression
abbrev pub class_of_iri : List ℕ → IriExpr
class_of_iri iri =
    if bytes_eq iri (codes "http://www.w3.org/2002/07/owl#Thing") then expr.Top else
    if bytes_eq iri (codes "http://www.w3.org/2002/07/owl#Nothing") then expr.Bottom else
    expr.Class iri

-- an IRI as a property
abbrev pub property_of_iri : ℕ → List ℕ → Result (List ℕ) OffsetFault
property_of_iri at iri =
    if bytes_eq iri (codes "http://www.w3.org/2002/07/owl#topObjectProperty") then
    Err (fault.Profile at id.TopObjectProperty) else
    if bytes_eq iri (codes "http://www.w3.org/2002/07/owl#bottomObjectProperty") then
    Err (fault.Profile at id.BottomObjectProperty) else
    Ok iri

abbrev pub class_named : ℕ → Named → Result IriExpr OffsetFault
class_named at (named.Iri iri) = Ok (class_of_iri iri)
class_named at named.Unknown = Err (fault.PrefixUnknown at)
class_named at named.NoIri = Err (fault.Head at)

abbrev pub property_named : ℕ → Named → Result (List ℕ) OffsetFault
property_named at (named.Iri iri) = property_of_iri at iri
property_named at named.Unknown = Err (fault.PrefixUnknown at)
property_named at named.NoIri = Err (fault.Head at)

abbrev pub alone : List ℕ → Result (List (List ℕ)) OffsetFault
alone property = Ok (property ∷ [])

abbrev pub is_equals : TokenKind → Bool
is_equals kind.Equals = true
is_equals _ = false

abbrev pub full_by_kind : List ℕ → Token → TokenKind → Option (List ℕ)
full_by_kind text token kind.FullIri = Some (iri_between text token)
full_by_kind text token _ = None

-- a token that is no bracket
abbrev pub given_atom : List ℕ → Prefixes → Token → Given
given_atom text prefixes token = record {
  at = token.start;
  fits = is_iri text token;
  headed = false;
  head = head.Other;
  name = name_of_token text prefixes token;
  class = class_named token.start (name_of_token text prefixes token);
  property = property_named token.start (name_of_token text prefixes token);
  chain = property_named token.start (name_of_token text prefixes token) >>= alone;
  entity = Err (fault.Head token.start);
  direct = Err (fault.Head token.start);
  prefix_name = declared_prefix text token;
  equals = is_equals token.kind;
  full = full_by_kind text token token.kind;
  prefix = Err (fault.Head token.start);
  ontology = λ mode state. Err (fault.Head token.start);
}

-- a group without a head
abbrev pub given_bare : ℕ → Given
given_bare start = record {
  at = start;
  fits = false;
  headed = false;
  head = head.Other;
  name = named.NoIri;
  class = Err (fault.Head start);
  property = Err (fault.Head start);
  chain = Err (fault.Head start);
  entity = Err (fault.Head start);
  direct = Err (fault.Head start);
  prefix_name = None;
  equals = false;
  full = None;
  prefix = Err (fault.Head start);
  ontology = λ mode state. Err (fault.Head start);
}

abbrev pub all_fit : List Given → Bool
all_fit [] = true
all_fit (g ∷ gs) = g.fits && all_fit gs

-- a head where it may not stand
abbrev pub misplaced : ℕ → Head → OffsetFault
misplaced at (head.Outside outside) = fault.Profile at outside
misplaced at _ = fault.Head at

-- class expressions, after those that are read
abbrev pub classes_onto : List IriExpr → List Given → Result (List IriExpr) OffsetFault
classes_onto done [] = Ok done
classes_onto done (g ∷ gs) = g.class >>= λ class. classes_onto (done ++ class ∷ []) gs

abbrev pub properties_onto : List (List ℕ) → List Given → Result (List (List ℕ)) OffsetFault
properties_onto done [] = Ok done
properties_onto done (g ∷ gs) =
    g.property >>= λ property. properties_onto (done ++ property ∷ []) gs

-- one class expression or more
abbrev pub some_classes : ℕ → List Given → Result (List IriExpr) OffsetFault
some_classes at [] = Err (fault.Shape at)
some_classes at (g ∷ gs) =
    if all_fit (g ∷ gs) then classes_onto [] (g ∷ gs) else Err (fault.Shape at)

-- one property or more
abbrev pub some_properties : ℕ → List Given → Result (List (List ℕ)) OffsetFault
some_properties at [] = Err (fault.Shape at)
some_properties at (g ∷ gs) =
    if all_fit (g ∷ gs) then properties_onto [] (g ∷ gs) else Err (fault.Shape at)

-- two properties or more
abbrev pub chain_properties : ℕ → List Given → Result (List (List ℕ)) OffsetFault
chain_properties at [] = Err (fault.Shape at)
chain_properties at (g ∷ []) = Err (fault.Shape at)
chain_properties at (g ∷ h ∷ gs) = some_properties at (g ∷ h ∷ gs)

-- one property
abbrev pub one_property : ℕ → List Given → Result (List ℕ) OffsetFault
one_property at [] = Err (fault.Shape at)
one_property at (g ∷ []) = if g.fits then g.property else Err (fault.Shape at)
one_property at (g ∷ h ∷ gs) = Err (fault.Shape at)

abbrev pub with_class : List ℕ → IriExpr → Result (List ℕ × IriExpr) OffsetFault
with_class property class = Ok (property, class)

abbrev pub class_after : Given → List ℕ → Result (List ℕ × IriExpr) OffsetFault
class_after class property = class.class >>= with_class property

-- a property, then a class expression
abbrev pub property_and_class : ℕ → List Given → Result (List ℕ × IriExpr) OffsetFault
property_and_class at [] = Err (fault.Shape at)
property_and_class at (p ∷ []) = Err (fault.Shape at)
property_and_class at (p ∷ c ∷ []) =
    if p.fits && c.fits then p.property >>= class_after c else Err (fault.Shape at)
property_and_class at (p ∷ c ∷ g ∷ gs) = Err (fault.Shape at)

abbrev pub as_intersection : List IriExpr → Result IriExpr OffsetFault
as_intersection classes = Ok (expr.And classes)

abbrev pub as_restriction : List ℕ × IriExpr → Result IriExpr OffsetFault
as_restriction both = Ok (expr.Exists both.0 both.1)

-- a group as a class expression
abbrev pub class_group : ℕ → Head → List Given → Result IriExpr OffsetFault
class_group at head.ObjectIntersectionOf gs = some_classes at gs >>= as_intersection
class_group at head.ObjectSomeValuesFrom gs = property_and_class at gs >>= as_restriction
class_group at h gs = Err (misplaced at h)

-- a group as the first item of SubObjectPropertyOf
abbrev pub chain_group : ℕ → Head → List Given → Result (List (List ℕ)) OffsetFault
chain_group at head.ObjectPropertyChain gs = chain_properties at gs
chain_group at h gs = Err (misplaced at h)

abbrev pub as_sub_class : IriExpr → IriExpr → Result IriAxiom OffsetFault
as_sub_class c d = Ok (ax.SubClass c d)

abbrev pub above : Given → IriExpr → Result IriAxiom OffsetFault
above d c = d.class >>= as_sub_class c

-- two class expressions
abbrev pub sub_class : ℕ → List Given → Result IriAxiom OffsetFault
sub_class at [] = Err (fault.Shape at)
sub_class at (c ∷ []) = Err (fault.Shape at)
sub_class at (c ∷ d ∷ []) = if c.fits && d.fits then c.class >>= above d else Err (fault.Shape at)
sub_class at (c ∷ d ∷ g ∷ gs) = Err (fault.Shape at)

abbrev pub as_sub_role : List (List ℕ) → List ℕ → Result IriAxiom OffsetFault
as_sub_role chain s = Ok (ax.SubRole chain s)

abbrev pub role_above : Given → List (List ℕ) → Result IriAxiom OffsetFault
role_above s chain = s.property >>= as_sub_role chain

-- a property or a chain, then a property
abbrev pub sub_property : ℕ → List Given → Result IriAxiom OffsetFault
sub_property at [] = Err (fault.Shape at)
sub_property at (r ∷ []) = Err (fault.Shape at)
sub_property at (r ∷ s ∷ []) =
    if r.fits && s.fits then r.chain >>= role_above s else Err (fault.Shape at)
sub_property at (r ∷ s ∷ g ∷ gs) = Err (fault.Shape at)

abbrev pub as_equivalent : List IriExpr → Result IriAxiom OffsetFault
as_equivalent classes = Ok (ax.Equivalent classes)

abbrev pub as_disjoint : List IriExpr → Result IriAxiom OffsetFault
as_disjoint classes = Ok (ax.Disjoint classes)

abbrev pub as_equivalent_roles : List (List ℕ) → Result IriAxiom OffsetFault
as_equivalent_roles properties = Ok (ax.EquivalentRoles properties)

abbrev pub as_transitive : List ℕ → Result IriAxiom OffsetFault
as_transitive property = Ok (ax.Transitive property)

abbrev pub as_reflexive : List ℕ → Result IriAxiom OffsetFault
as_reflexive property = Ok (ax.Reflexive property)

abbrev pub as_domain : List ℕ × IriExpr → Result IriAxiom OffsetFault
as_domain both = Ok (ax.Domain both.0 both.1)

-- a group as an axiom, without the annotations at its beginning
abbrev pub axiom_group : ℕ → Head → List Given → Result IriAxiom OffsetFault
axiom_group at head.SubClassOf gs = sub_class at gs
axiom_group at head.EquivalentClasses gs = some_classes at gs >>= as_equivalent
axiom_group at head.DisjointClasses gs = some_classes at gs >>= as_disjoint
axiom_group at head.SubObjectPropertyOf gs = sub_property at gs
axiom_group at head.EquivalentObjectProperties gs = some_properties at gs >>= as_equivalent_roles
axiom_group at head.TransitiveObjectProperty gs = one_property at gs >>= as_transitive
axiom_group at head.ReflexiveObjectProperty gs = one_property at gs >>= as_reflexive
axiom_group at head.ObjectPropertyDomain gs = property_and_class at gs >>= as_domain
axiom_group at h gs = Err (misplaced at h)

abbrev pub iri_named : ℕ → ℕ → Named → Result (List ℕ) OffsetFault
iri_named head at (named.Iri iri) = Ok iri
iri_named head at named.Unknown = Err (fault.PrefixUnknown at)
iri_named head at named.NoIri = Err (fault.Shape head)

-- one IRI
abbrev pub one_iri : ℕ → List Given → Result (List ℕ) OffsetFault
one_iri at [] = Err (fault.Shape at)
one_iri at (g ∷ []) = iri_named at g.at g.name
one_iri at (g ∷ h ∷ gs) = Err (fault.Shape at)

-- what the declaration of a class adds
abbrev pub as_class : List ℕ → Result Direct OffsetFault
as_class iri =
    if bytes_eq iri (codes "http://www.w3.org/2002/07/owl#Thing") then Ok direct.Nothing else
    if bytes_eq iri (codes "http://www.w3.org/2002/07/owl#Nothing") then Ok direct.Nothing else
    Ok (direct.Class iri)

-- what the declaration of a property adds
abbrev pub as_property : List ℕ → Result Direct OffsetFault
as_property iri =
    if bytes_eq iri (codes "http://www.w3.org/2002/07/owl#topObjectProperty") then
    Ok direct.Nothing else
    if bytes_eq iri (codes "http://www.w3.org/2002/07/owl#bottomObjectProperty") then
    Ok direct.Nothing else
    Ok (direct.Property iri)

abbrev pub as_nothing : List ℕ → Result Direct OffsetFault
as_nothing iri = Ok direct.Nothing

-- a group as what is declared
abbrev pub entity_group : ℕ → Head → List Given → Result Direct OffsetFault
entity_group at head.Class gs = one_iri at gs >>= as_class
entity_group at head.ObjectProperty gs = one_iri at gs >>= as_property
entity_group at head.DataProperty gs = one_iri at gs >>= as_nothing
entity_group at head.AnnotationProperty gs = one_iri at gs >>= as_nothing
entity_group at head.Datatype gs = one_iri at gs >>= as_nothing
entity_group at head.NamedIndividual gs = one_iri at gs >>= as_nothing
entity_group at h gs = Err (misplaced at h)

-- one group with a head
abbrev pub declaration : ℕ → List Given → Result Direct OffsetFault
declaration at [] = Err (fault.Shape at)
declaration at (g ∷ []) = if g.headed then g.entity else Err (fault.Shape at)
declaration at (g ∷ h ∷ gs) = Err (fault.Shape at)

abbrev pub is_annotation : Head → Bool
is_annotation head.Annotation = true
is_annotation _ = false

-- annotations at the beginning are skipped
abbrev pub after_annotations : List Given → List Given
after_annotations [] = []
after_annotations (g ∷ gs) = if is_annotation g.head then after_annotations gs else g ∷ gs

abbrev pub as_axiom : IriAxiom → Result Direct OffsetFault
as_axiom a = Ok (direct.Axiom a)

-- a group directly in Ontology
abbrev pub direct_group : ℕ → Head → List Given → Result Direct OffsetFault
direct_group at head.Annotation gs = Ok direct.Nothing
direct_group at head.AnnotationAssertion gs = Ok direct.Nothing
direct_group at head.SubAnnotationPropertyOf gs = Ok direct.Nothing
direct_group at head.AnnotationPropertyDomain gs = Ok direct.Nothing
direct_group at head.AnnotationPropertyRange gs = Ok direct.Nothing
direct_group at head.Declaration gs = declaration at (after_annotations gs)
direct_group at h gs = axiom_group at h (after_annotations gs) >>= as_axiom

-- an abbreviated IRI that is a prefix, an equals sign, a full IRI
abbrev pub prefix_parts : ℕ → Option (List ℕ) → Bool → Option (List ℕ) →
    Result (List ℕ × List ℕ) OffsetFault
prefix_parts at (Some name) true (Some iri) = Ok (name, iri)
prefix_parts at (Some name) true None = Err (fault.Shape at)
prefix_parts at (Some name) false full = Err (fault.Shape at)
prefix_parts at None equals full = Err (fault.Shape at)

abbrev pub prefix_group : ℕ → List Given → Result (List ℕ × List ℕ) OffsetFault
prefix_group at [] = Err (fault.Shape at)
prefix_group at (n ∷ []) = Err (fault.Shape at)
prefix_group at (n ∷ e ∷ []) = Err (fault.Shape at)
prefix_group at (n ∷ e ∷ f ∷ []) = prefix_parts at n.prefix_name e.equals f.full
prefix_group at (n ∷ e ∷ f ∷ g ∷ gs) = Err (fault.Shape at)

-- direct items, each taken in its turn
abbrev pub directs : List ℕ → Mode → List Given → State → Result State OffsetFault
directs text mode [] state = Ok state
directs text mode (g ∷ gs) state =
    taken text mode g.direct state >>= λ next. directs text mode gs next

abbrev pub after_iri : ℕ → Named → List Given → Result (List Given) OffsetFault →
    Result (List Given) OffsetFault
after_iri at (named.Iri iri) here later = later
after_iri at named.Unknown here later = Err (fault.PrefixUnknown at)
after_iri at named.NoIri here later = Ok here

-- what follows up to n IRIs
abbrev pub after_iris : ℕ → List Given → Result (List Given) OffsetFault
after_iris n [] = Ok []
after_iris n (g ∷ gs) =
    if nat_eq n 0 then Ok (g ∷ gs) else after_iri g.at g.name (g ∷ gs) (after_iris (n - 1) gs)

-- up to two IRIs, then direct items
abbrev pub ontology_group : List ℕ → List Given → Mode → State → Result State OffsetFault
ontology_group text gs mode state = after_iris 2 gs >>= λ rest. directs text mode rest state

-- a group with a head, where each item inside is known in each place
abbrev pub given_group : List ℕ → ℕ → Head → List Given → Given
given_group text at h gs = record {
  at = at;
  fits = true;
  headed = true;
  head = h;
  name = named.NoIri;
  class = class_group at h gs;
  property = Err (misplaced at h);
  chain = chain_group at h gs;
  entity = entity_group at h gs;
  direct = direct_group at h gs;
  prefix_name = None;
  equals = false;
  full = None;
  prefix = prefix_group at gs;
  ontology = ontology_group text gs;
}

abbrev pub given_step : List ℕ → Prefixes → Item-F Given → Given
given_step text prefixes (Item-F.Atom token) = given_atom text prefixes token
given_step text prefixes (Item-F.Group None gs start end) = given_bare start
given_step text prefixes (Item-F.Group (Some word) gs start end) =
    given_group text word.start (head_of (bytes_of text word)) gs

-- what an item gives under these prefixes
unfoldable pub given : List ℕ → Prefixes → Item → Given
given text prefixes = fold-Item Given (given_step text prefixes)

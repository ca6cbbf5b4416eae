-- Declarations and direct items: what says something is read as it, and nothing else is.
use Rattle.std.proofs.Common.{◌≡◌, ℕ, Bool, true, false, cond, List, [], ◌∷◌, ◌++◌, map, refl, ap, sym, subst, ◌∙◌}
use Rattle.std.specs.Prelude.{bytes_eq, Some, None, Result, Ok, Err}
use Rattle.std.specs.Cmp.Lexicographic.{bytes_decides}
use Rattle.ofn_lex.specs.declared.token.Token.{Token}
use Rattle.ofn_term.specs.declared.item.Item.{Item}
use Rattle.ofn_term.specs.declared.item.Item.TheVariants as item
use Rattle.ofn_term.specs.Words.{bytes_of}
use Rattle.ofn_heads.specs.declared.head.Head.{Head}
use Rattle.ofn_heads.specs.declared.head.Head.TheVariants as head
use Rattle.ofn_heads.specs.declared.iri.Named.{Named}
use Rattle.ofn_heads.specs.declared.iri.Named.TheVariants as named
use Rattle.ofn_heads.specs.Heads.{head_of}
use Rattle.text_names.specs.Prefixes.{Prefixes}
use Rattle.ofn_axiom.specs.declared.fault.OffsetFault.{OffsetFault}
use Rattle.ofn_axiom.specs.declared.fault.OffsetFault.TheVariants as fault
use Rattle.ofn_axiom.specs.declared.types.Direct.{Direct}
use Rattle.ofn_axiom.specs.declared.types.Direct.TheVariants as direct
use Rattle.ofn_axiom.specs.Steps.{◌>>=◌}
use Rattle.ofn_axiom.specs.Given.{Given, given, iri_named, one_iri, as_class, as_property, as_nothing, entity_group, declaration, direct_group, is_annotation, after_annotations, axiom_group, as_axiom}
use Rattle.ofn_axiom.specs.StandsFor.{thing, nothing, top_property, bottom_property, IsHead, IsIri}
use Rattle.ofn_axiom.specs.DirectItems.{IsDeclaredAs, IsEntity, entity, IsDeclaration, IsNoteHead, annotation, assertion, sub_property, domain, range, IsDirect, note, declares, states}
use Rattle.ofn_axiom.specs.DirectItems as items
use Rattle.ofn_axiom.proofs.Forms.{by_form}
use Rattle.ofn_axiom.proofs.Gave.{step_gave, test_passed}
use Rattle.ofn_axiom.proofs.GivenLaws.{atom_gives, bare_gives, group_gives, group_has_no_name}
use Rattle.ofn_axiom.proofs.StandsLaws.{iri_name, name_iri, other_bytes, no_bytes}
use Rattle.ofn_axiom.proofs.AxiomLaws.{axiom_read, skipped}
use Rattle.ofn_axiom.proofs.AxiomBack.{Parted, parted, axiom_stands}

-- what is declared of an IRI is read
declared_read : (at : ℕ) (h : Head) (gs : List Given) (iri : List ℕ) (d : Direct) → IsDeclaredAs h iri d → one_iri at gs ≡ Ok iri → entity_group at h gs ≡ Ok d
declared_read at _ gs _ _ (items.class iri name) e = ap (λ (r : Result (List ℕ) OffsetFault). r >>= as_class) e ∙ (rw (other_bytes iri thing name.not_thing, other_bytes iri nothing name.not_nothing) refl)
declared_read at _ gs _ _ items.top_class e = ap (λ (r : Result (List ℕ) OffsetFault). r >>= as_class) e
declared_read at _ gs _ _ items.bottom_class e = ap (λ (r : Result (List ℕ) OffsetFault). r >>= as_class) e
declared_read at _ gs _ _ (items.property iri name) e = ap (λ (r : Result (List ℕ) OffsetFault). r >>= as_property) e ∙ (rw (other_bytes iri top_property name.not_top, other_bytes iri bottom_property name.not_bottom) refl)
declared_read at _ gs _ _ items.top e = ap (λ (r : Result (List ℕ) OffsetFault). r >>= as_property) e
declared_read at _ gs _ _ items.bottom e = ap (λ (r : Result (List ℕ) OffsetFault). r >>= as_property) e
declared_read at _ gs _ _ (items.data_property iri) e = ap (λ (r : Result (List ℕ) OffsetFault). r >>= as_nothing) e
declared_read at _ gs _ _ (items.annotation_property iri) e = ap (λ (r : Result (List ℕ) OffsetFault). r >>= as_nothing) e
declared_read at _ gs _ _ (items.datatype iri) e = ap (λ (r : Result (List ℕ) OffsetFault). r >>= as_nothing) e
declared_read at _ gs _ _ (items.individual iri) e = ap (λ (r : Result (List ℕ) OffsetFault). r >>= as_nothing) e

-- a head that is that of an entity is that of no annotation
entity_goes_on : (h : Head) (iri : List ℕ) (d : Direct) → IsDeclaredAs h iri d → is_annotation h ≡ false
entity_goes_on _ _ _ (items.class iri name) = refl
entity_goes_on _ _ _ items.top_class = refl
entity_goes_on _ _ _ items.bottom_class = refl
entity_goes_on _ _ _ (items.property iri name) = refl
entity_goes_on _ _ _ items.top = refl
entity_goes_on _ _ _ items.bottom = refl
entity_goes_on _ _ _ (items.data_property iri) = refl
entity_goes_on _ _ _ (items.annotation_property iri) = refl
entity_goes_on _ _ _ (items.datatype iri) = refl
entity_goes_on _ _ _ (items.individual iri) = refl

-- the one IRI of a group
one_iri_read : (text : List ℕ) (prefixes : Prefixes) (at : ℕ) (token : Token) (iri : List ℕ) → IsIri text prefixes token iri → one_iri at (given text prefixes (item.Atom token) ∷ []) ≡ Ok iri
one_iri_read text prefixes at token iri is =
    ap (λ (g : Given). iri_named at g.at g.name) (atom_gives text prefixes token) ∙ ap (iri_named at token.start) (iri_name text prefixes token iri is)

-- a declaration of an entity is read
declaration_read : (text : List ℕ) (prefixes : Prefixes) (at : ℕ) (e : Item) (d : Direct) → IsEntity text prefixes e d → (declaration at (given text prefixes e ∷ []) ≡ Ok d) × (after_annotations (given text prefixes e ∷ []) ≡ given text prefixes e ∷ [])
declaration_read text prefixes at _ _ (entity word token start end h iri d is_head is declared) = (
  ap (λ (g : Given). cond g.headed g.entity (Err (fault.Shape at))) (group_gives text prefixes word (item.Atom token ∷ []) start end)
      ∙ ap (λ (k : Head). entity_group word.start k (given text prefixes (item.Atom token) ∷ [])) is_head
      ∙ declared_read word.start h (given text prefixes (item.Atom token) ∷ []) iri d declared (one_iri_read text prefixes word.start token iri is),
  ap (λ (b : Bool). cond b [] (given text prefixes (item.Group (Some word) (item.Atom token ∷ []) start end) ∷ []))
      (ap (λ (g : Given). is_annotation g.head) (group_gives text prefixes word (item.Atom token ∷ []) start end) ∙ ap is_annotation is_head ∙ entity_goes_on h iri d declared),
)

-- a note is read as nothing
note_read : (at : ℕ) (h : Head) (gs : List Given) → IsNoteHead h → direct_group at h gs ≡ Ok direct.Nothing
note_read at _ gs annotation = refl
note_read at _ gs assertion = refl
note_read at _ gs sub_property = refl
note_read at _ gs domain = refl
note_read at _ gs range = refl

-- a direct item is read as what it says
pub direct_read : (text : List ℕ) (prefixes : Prefixes) (i : Item) (d : Direct) → IsDirect text prefixes i d → (given text prefixes i).direct ≡ Ok d
direct_read text prefixes _ _ (note word is start end h is_head is_note) =
    ap (λ (g : Given). g.direct) (group_gives text prefixes word is start end)
    ∙ ap (λ (k : Head). direct_group word.start k (map (given text prefixes) is)) is_head
    ∙ note_read word.start h (map (given text prefixes) is) is_note
direct_read text prefixes _ _ (declares _ _ (items.declaration word annotations e start end d is_head are is)) =
    let read = declaration_read text prefixes word.start e d is in
    ap (λ (g : Given). g.direct) (group_gives text prefixes word (annotations ++ e ∷ []) start end)
    ∙ ap (λ (k : Head). direct_group word.start k (map (given text prefixes) (annotations ++ e ∷ []))) is_head
    ∙ ap (declaration word.start) (skipped text prefixes annotations (e ∷ []) are read.1)
    ∙ read.0
direct_read text prefixes _ _ (states i a is) = axiom_read text prefixes i a is

-- a class or what is none, by its IRI
class_declared : (iri : List ℕ) (d : Direct) → as_class iri ≡ Ok d → IsDeclaredAs head.Class iri d
class_declared iri d = first (bytes_eq iri thing) refl
  where
    second : bytes_eq iri thing ≡ false → (b : Bool) → bytes_eq iri nothing ≡ b → cond {A = Result Direct OffsetFault} b (Ok direct.Nothing) (Ok (direct.Class iri)) ≡ Ok d → IsDeclaredAs head.Class iri d
    second not_thing true f e = let same : direct.Nothing ≡ d = cc in subst (λ (l : List ℕ). IsDeclaredAs head.Class l d) (sym ((bytes_decides iri nothing).0 f)) (subst (IsDeclaredAs head.Class nothing) same items.bottom_class)
    second not_thing false f e = let same : direct.Class iri ≡ d = cc in subst (IsDeclaredAs head.Class iri) same (items.class iri (record { not_thing = no_bytes iri thing not_thing; not_nothing = no_bytes iri nothing f }))

    first : (b : Bool) → bytes_eq iri thing ≡ b → cond {A = Result Direct OffsetFault} b (Ok direct.Nothing) (cond (bytes_eq iri nothing) (Ok direct.Nothing) (Ok (direct.Class iri))) ≡ Ok d → IsDeclaredAs head.Class iri d
    first true f e = let same : direct.Nothing ≡ d = cc in subst (λ (l : List ℕ). IsDeclaredAs head.Class l d) (sym ((bytes_decides iri thing).0 f)) (subst (IsDeclaredAs head.Class thing) same items.top_class)
    first false f e = second f (bytes_eq iri nothing) refl e

-- the same of a property
property_declared : (iri : List ℕ) (d : Direct) → as_property iri ≡ Ok d → IsDeclaredAs head.ObjectProperty iri d
property_declared iri d = first (bytes_eq iri top_property) refl
  where
    second : bytes_eq iri top_property ≡ false → (b : Bool) → bytes_eq iri bottom_property ≡ b → cond {A = Result Direct OffsetFault} b (Ok direct.Nothing) (Ok (direct.Property iri)) ≡ Ok d → IsDeclaredAs head.ObjectProperty iri d
    second not_top true f e = let same : direct.Nothing ≡ d = cc in subst (λ (l : List ℕ). IsDeclaredAs head.ObjectProperty l d) (sym ((bytes_decides iri bottom_property).0 f)) (subst (IsDeclaredAs head.ObjectProperty bottom_property) same items.bottom)
    second not_top false f e = let same : direct.Property iri ≡ d = cc in subst (IsDeclaredAs head.ObjectProperty iri) same (items.property iri (record { not_top = no_bytes iri top_property not_top; not_bottom = no_bytes iri bottom_property f }))

    first : (b : Bool) → bytes_eq iri top_property ≡ b → cond {A = Result Direct OffsetFault} b (Ok direct.Nothing) (cond (bytes_eq iri bottom_property) (Ok direct.Nothing) (Ok (direct.Property iri))) ≡ Ok d → IsDeclaredAs head.ObjectProperty iri d
    first true f e = let same : direct.Nothing ≡ d = cc in subst (λ (l : List ℕ). IsDeclaredAs head.ObjectProperty l d) (sym ((bytes_decides iri top_property).0 f)) (subst (IsDeclaredAs head.ObjectProperty top_property) same items.top)
    first false f e = second f (bytes_eq iri bottom_property) refl e

-- an item that is a token which stands for an IRI
pub record IriToken (text : List ℕ) (prefixes : Prefixes) (i : Item) (iri : List ℕ) : Type 0 where
  pub token : Token
  pub same : i ≡ item.Atom token
  pub is : IsIri text prefixes token iri

one_named : (at start : ℕ) (n : Named) (iri : List ℕ) → iri_named at start n ≡ Ok iri → n ≡ named.Iri iri
one_named at start (named.Iri found) iri e = let same : found ≡ iri = cc in ap (λ (l : List ℕ). named.Iri l) same
one_named at start named.Unknown iri e = cc
one_named at start named.NoIri iri e = cc

-- an item that has the name of an IRI
pub named_item : (text : List ℕ) (prefixes : Prefixes) (i : Item) (iri : List ℕ) → (given text prefixes i).name ≡ named.Iri iri → IriToken text prefixes i iri
named_item text prefixes = by_form (λ i. (iri : List ℕ) → (given text prefixes i).name ≡ named.Iri iri → IriToken text prefixes i iri)
    (λ token. λ iri e. record { token = token; same = refl; is = name_iri text prefixes token iri (sym (ap (λ (g : Given). g.name) (atom_gives text prefixes token)) ∙ e) })
    (λ is start end. λ iri e. let bad : named.NoIri ≡ named.Iri iri = sym (group_has_no_name text prefixes None is start end) ∙ e in cc)
    (λ word is start end. λ iri e. let bad : named.NoIri ≡ named.Iri iri = sym (group_has_no_name text prefixes (Some word) is start end) ∙ e in cc)

one_token : {P : Type 0} (text : List ℕ) (prefixes : Prefixes) (at : ℕ) (is : List Item) (iri : List ℕ) → one_iri at (map (given text prefixes) is) ≡ Ok iri → ((token : Token) → is ≡ item.Atom token ∷ [] → IsIri text prefixes token iri → P) → P
one_token text prefixes at [] iri e then = cc
one_token text prefixes at (i ∷ []) iri e then =
    let found = named_item text prefixes i iri (one_named at (given text prefixes i).at (given text prefixes i).name iri e) in
    then found.token (ap (λ (j : Item). j ∷ []) found.same) found.is
one_token text prefixes at (i ∷ j ∷ is) iri e then = cc

-- a group that is read as an entity is one
entity_group_stands : (text : List ℕ) (prefixes : Prefixes) (word : Token) (is : List Item) (start end : ℕ) (d : Direct) → entity_group word.start (head_of (bytes_of text word)) (map (given text prefixes) is) ≡ Ok d → IsEntity text prefixes (item.Group (Some word) is start end) d
entity_group_stands text prefixes word is start end d = by (head_of (bytes_of text word)) refl
  where
    one : (h : Head) (f : List ℕ → Result Direct OffsetFault) → IsHead text word h → (one_iri word.start (map (given text prefixes) is) >>= f) ≡ Ok d → ((iri : List ℕ) → f iri ≡ Ok d → IsDeclaredAs h iri d) → IsEntity text prefixes (item.Group (Some word) is start end) d
    one h f is_head e declared =
        step_gave (one_iri word.start (map (given text prefixes) is)) f d e (λ iri r g.
        one_token text prefixes word.start is iri r (λ token same is_iri.
        subst (λ (js : List Item). IsEntity text prefixes (item.Group (Some word) js start end) d) (sym same)
        (entity word token start end h iri d is_head is_iri (declared iri g))))

    adds : (h : Head) (iri : List ℕ) → IsDeclaredAs h iri direct.Nothing → as_nothing iri ≡ Ok d → IsDeclaredAs h iri d
    adds h iri is e = let same : direct.Nothing ≡ d = cc in subst (IsDeclaredAs h iri) same is

    by : (k : Head) → head_of (bytes_of text word) ≡ k → entity_group word.start k (map (given text prefixes) is) ≡ Ok d → IsEntity text prefixes (item.Group (Some word) is start end) d
    by head.Class h e = one head.Class as_class h e (λ iri f. class_declared iri d f)
    by head.ObjectProperty h e = one head.ObjectProperty as_property h e (λ iri f. property_declared iri d f)
    by head.DataProperty h e = one head.DataProperty as_nothing h e (λ iri f. adds head.DataProperty iri (items.data_property iri) f)
    by head.AnnotationProperty h e = one head.AnnotationProperty as_nothing h e (λ iri f. adds head.AnnotationProperty iri (items.annotation_property iri) f)
    by head.Datatype h e = one head.Datatype as_nothing h e (λ iri f. adds head.Datatype iri (items.datatype iri) f)
    by head.NamedIndividual h e = one head.NamedIndividual as_nothing h e (λ iri f. adds head.NamedIndividual iri (items.individual iri) f)
    by _ h e = cc

-- an item that is read as an entity is one
entity_stands : (text : List ℕ) (prefixes : Prefixes) (i : Item) (d : Direct) → (given text prefixes i).entity ≡ Ok d → IsEntity text prefixes i d
entity_stands text prefixes = by_form (λ i. (d : Direct) → (given text prefixes i).entity ≡ Ok d → IsEntity text prefixes i d)
    (λ token. λ d e. let bad : Err (fault.Head token.start) ≡ Ok d = sym (ap (λ (g : Given). g.entity) (atom_gives text prefixes token)) ∙ e in cc)
    (λ is start end. λ d e. let bad : Err (fault.Head start) ≡ Ok d = sym (ap (λ (g : Given). g.entity) (bare_gives text prefixes is start end)) ∙ e in cc)
    (λ word is start end. λ d e. entity_group_stands text prefixes word is start end d (sym (ap (λ (g : Given). g.entity) (group_gives text prefixes word is start end)) ∙ e))

-- a group that is read as a declaration is one
declaration_stands : (text : List ℕ) (prefixes : Prefixes) (word : Token) (is : List Item) (start end : ℕ) (d : Direct) → IsHead text word head.Declaration → declaration word.start (after_annotations (map (given text prefixes) is)) ≡ Ok d → IsDeclaration text prefixes (item.Group (Some word) is start end) d
declaration_stands text prefixes word is start end d is_head e = let p = parted text prefixes is in by p p.operands refl
  where
    of_one : (p : Parted text prefixes is) (operands : List Item) → p.operands ≡ operands → declaration word.start (map (given text prefixes) operands) ≡ Ok d → IsDeclaration text prefixes (item.Group (Some word) is start end) d
    of_one p [] same read = cc
    of_one p (i ∷ []) same read =
        test_passed (given text prefixes i).headed (given text prefixes i).entity (fault.Shape word.start) d read (λ headed found.
        subst (λ (js : List Item). IsDeclaration text prefixes (item.Group (Some word) js start end) d) (sym (p.whole ∙ ap (λ (l : List Item). p.annotations ++ l) same))
        (items.declaration word p.annotations i start end d is_head p.are (entity_stands text prefixes i d found)))
    of_one p (i ∷ j ∷ js) same read = cc

    by : (p : Parted text prefixes is) (operands : List Item) → p.operands ≡ operands → IsDeclaration text prefixes (item.Group (Some word) is start end) d
    by p operands same = of_one p operands same (ap (λ (l : List Item). declaration word.start (map (given text prefixes) l)) (sym same) ∙ ap (declaration word.start) (sym p.left) ∙ e)

abbrev read_as : Direct → Result Direct OffsetFault
read_as d = Ok d

-- a group that is read as a direct item says so
direct_group_says : (text : List ℕ) (prefixes : Prefixes) (word : Token) (is : List Item) (start end : ℕ) (d : Direct) → (given text prefixes (item.Group (Some word) is start end)).direct ≡ Ok d → direct_group word.start (head_of (bytes_of text word)) (map (given text prefixes) is) ≡ Ok d → IsDirect text prefixes (item.Group (Some word) is start end) d
direct_group_says text prefixes word is start end d whole = by (head_of (bytes_of text word)) refl
  where
    skips : (h : Head) → IsHead text word h → IsNoteHead h → read_as direct.Nothing ≡ Ok d → IsDirect text prefixes (item.Group (Some word) is start end) d
    skips h is_head is_note e = let same : direct.Nothing ≡ d = cc in subst (IsDirect text prefixes (item.Group (Some word) is start end)) same (note word is start end h is_head is_note)

    by : (k : Head) → head_of (bytes_of text word) ≡ k → direct_group word.start k (map (given text prefixes) is) ≡ Ok d → IsDirect text prefixes (item.Group (Some word) is start end) d
    by head.Annotation h e = skips head.Annotation h annotation e
    by head.AnnotationAssertion h e = skips head.AnnotationAssertion h assertion e
    by head.SubAnnotationPropertyOf h e = skips head.SubAnnotationPropertyOf h sub_property e
    by head.AnnotationPropertyDomain h e = skips head.AnnotationPropertyDomain h domain e
    by head.AnnotationPropertyRange h e = skips head.AnnotationPropertyRange h range e
    by head.Declaration h e = declares (item.Group (Some word) is start end) d (declaration_stands text prefixes word is start end d h e)
    by k h e =
        step_gave (axiom_group word.start k (after_annotations (map (given text prefixes) is))) as_axiom d e (λ a r f.
        let same : direct.Axiom a ≡ d = cc in
        subst (IsDirect text prefixes (item.Group (Some word) is start end)) same
        (states (item.Group (Some word) is start end) a (axiom_stands text prefixes (item.Group (Some word) is start end) a (whole ∙ ap (λ (x : Direct). Ok x) (sym same)))))

-- an item that is read as a direct item says so
pub direct_says : (text : List ℕ) (prefixes : Prefixes) (i : Item) (d : Direct) → (given text prefixes i).direct ≡ Ok d → IsDirect text prefixes i d
direct_says text prefixes = by_form (λ i. (d : Direct) → (given text prefixes i).direct ≡ Ok d → IsDirect text prefixes i d)
    (λ token. λ d e. let bad : Err (fault.Head token.start) ≡ Ok d = sym (ap (λ (g : Given). g.direct) (atom_gives text prefixes token)) ∙ e in cc)
    (λ is start end. λ d e. let bad : Err (fault.Head start) ≡ Ok d = sym (ap (λ (g : Given). g.direct) (bare_gives text prefixes is start end)) ∙ e in cc)
    (λ word is start end. λ d e. direct_group_says text prefixes word is start end d e (sym (ap (λ (g : Given). g.direct) (group_gives text prefixes word is start end)) ∙ e))

-- If only the part in the profile is asked for, no fault is that something is outside of it.
use Rattle.std.proofs.Common.{◌≡◌, ℕ, ◌-◌, Bool, true, false, cond, List, [], ◌∷◌, map, refl, sym, subst}
use Rattle.std.specs.Prelude.{nat_eq, bytes_eq, Option, Some, None, Result, Ok, Err, IfErr, ⊤}
use Rattle.ofn_term.specs.declared.item.Item.{Item, roll-Item}
use Rattle.ofn_term.specs.declared.item.Item.TheOpen.{Item-F}
use Rattle.ofn_term.specs.declared.item.Item.TheFolds.{ind-Item}
use Rattle.ofn_term.specs.declared.item.Item.TheVariants.{rolls-Atom, rolls-Group}
use Rattle.ofn_heads.specs.declared.iri.Named.{Named}
use Rattle.ofn_heads.specs.declared.iri.Named.TheVariants as named
use Rattle.ofn_heads.specs.Names.{known}
use Rattle.text_names.specs.Prefixes.{Prefixes, iri_of}
use Rattle.ofn_axiom.specs.declared.fault.OffsetFault.{OffsetFault}
use Rattle.ofn_axiom.specs.declared.fault.OffsetFault.TheVariants as fault
use Rattle.ofn_axiom.specs.declared.fault.DocFault.{DocFault}
use Rattle.ofn_axiom.specs.declared.fault.DocFault.TheVariants as doc
use Rattle.ofn_axiom.specs.declared.types.Document.{Document}
use Rattle.ofn_axiom.specs.declared.types.Mode.{Mode}
use Rattle.byte_words.specs.Faults.{OrOutOfMemory}
use Rattle.ofn_axiom.specs.declared.types.Direct.{Direct}
use Rattle.ofn_axiom.specs.declared.types.Mention.{Mention}
use Rattle.ofn_axiom.specs.declared.types.Mention.TheVariants as mention
use Rattle.ofn_axiom.specs.declared.types.Names.{Names}
use Rattle.ofn_axiom.specs.declared.types.Mode.TheVariants.{ElPart}
use Rattle.ofn_axiom.specs.Steps.{◌>>=◌}
use Rattle.ofn_axiom.specs.Numbers.{with_mention, with_mentions, direct_mentions, is_full_for}
use Rattle.ofn_axiom.specs.Taking.{State, taken, added}
use Rattle.ofn_axiom.specs.Given.{Given, given, prefix_parts, prefix_group, after_iri, after_iris, directs}
use Rattle.ofn_axiom.specs.Documents.{declared_over, declared, declared_with, is_prefix, is_ontology, to_ontology, ended, document_of, empty, placed, IsDocFault, no_text, no_token, unopened, unclosed, too_deep, terms, doc_ran_out, is_profile}
use Rattle.ofn_axiom.proofs.GivenLaws.{atom_gives, bare_gives, group_gives, ontology_gives}

-- the fault is not that something is outside the profile
abbrev pub IsPlainFault : OffsetFault → Type 0
IsPlainFault (fault.Profile at head) = ⊥
IsPlainFault _ = ⊤

abbrev pub IsPlain : {A : Type 0} → Result A OffsetFault → Type 0
IsPlain (Ok x) = ⊤
IsPlain (Err f) = IsPlainFault f

-- two steps
plain_then : {A B : Type 0} (r : Result A OffsetFault) (f : A → Result B OffsetFault) → IsPlain r → ((a : A) → IsPlain (f a)) → IsPlain (r >>= f)
plain_then (Ok a) f first second = second a
plain_then (Err x) f first second = first

-- a test
plain_test : {A : Type 0} (b : Bool) (r s : Result A OffsetFault) → IsPlain r → IsPlain s → IsPlain (cond b r s)
plain_test true r s one other = one
plain_test false r s one other = other

-- the three parts of a prefix
parts_plain : (at : ℕ) (name : Option (List ℕ)) (equals : Bool) (full : Option (List ℕ)) → IsPlain (prefix_parts at name equals full)
parts_plain at (Some name) true (Some iri) = tt
parts_plain at (Some name) true None = tt
parts_plain at (Some name) false full = tt
parts_plain at None equals full = tt

-- a prefix group
prefix_group_plain : (at : ℕ) (gs : List Given) → IsPlain (prefix_group at gs)
prefix_group_plain at [] = tt
prefix_group_plain at (n ∷ []) = tt
prefix_group_plain at (n ∷ e ∷ []) = tt
prefix_group_plain at (n ∷ e ∷ f ∷ []) = parts_plain at n.prefix_name e.equals f.full
prefix_group_plain at (n ∷ e ∷ f ∷ g ∷ gs) = tt

abbrev PrefixIsPlain : List ℕ → Prefixes → Item → Type 0
PrefixIsPlain text prefixes i = IsPlain (given text prefixes i).prefix

prefix_step : (text : List ℕ) (prefixes : Prefixes) (x : Item-F Item) → PrefixIsPlain text prefixes (roll-Item x)
prefix_step text prefixes (Item-F.Atom token) = subst (PrefixIsPlain text prefixes) (sym (rolls-Atom token)) (subst (λ (g : Given). IsPlain g.prefix) (sym (atom_gives text prefixes token)) tt)
prefix_step text prefixes (Item-F.Group None is start end) = subst (PrefixIsPlain text prefixes) (sym (rolls-Group None is start end)) (subst (λ (g : Given). IsPlain g.prefix) (sym (bare_gives text prefixes is start end)) tt)
prefix_step text prefixes (Item-F.Group (Some word) is start end) = subst (PrefixIsPlain text prefixes) (sym (rolls-Group (Some word) is start end)) (subst (λ (g : Given). IsPlain g.prefix) (sym (group_gives text prefixes word is start end)) (prefix_group_plain word.start (map (given text prefixes) is)))

-- an item as a prefix
prefix_plain : (text : List ℕ) (prefixes : Prefixes) (i : Item) → PrefixIsPlain text prefixes i
prefix_plain text prefixes = ind-Item (PrefixIsPlain text prefixes) (λ x y is. prefix_step text prefixes x)

-- the IRIs of an ontology
iri_plain : (at : ℕ) (name : Named) (here : List Given) (later : Result (List Given) OffsetFault) → IsPlain later → IsPlain (after_iri at name here later)
iri_plain at (named.Iri iri) here later plain = plain
iri_plain at named.Unknown here later plain = tt
iri_plain at named.NoIri here later plain = tt

iris_plain : (n : ℕ) (gs : List Given) → IsPlain (after_iris n gs)
iris_plain n [] = tt
iris_plain n (g ∷ gs) = plain_test (nat_eq n 0) (Ok (g ∷ gs)) (after_iri g.at g.name (g ∷ gs) (after_iris (n - 1) gs)) tt (iri_plain g.at g.name (g ∷ gs) (after_iris (n - 1) gs) (iris_plain (n - 1) gs))

-- names and their limits
mention_plain : (m : Mention) (names : Names) → IsPlain (with_mention m names)
mention_plain (mention.Class name) names = plain_test (is_full_for names.classes name) _ _ tt tt
mention_plain (mention.Property name) names = plain_test (is_full_for names.roles name) _ _ tt tt

mentions_plain : (ms : List Mention) (names : Names) → IsPlain (with_mentions ms names)
mentions_plain [] names = tt
mentions_plain (m ∷ ms) names = plain_then (with_mention m names) (λ more. with_mentions ms more) (mention_plain m names) (λ more. mentions_plain ms more)

-- a direct item
taken_plain : (text : List ℕ) (r : Result Direct OffsetFault) (state : State) → IsPlain (taken text ElPart r state)
taken_plain text (Ok d) state = plain_then (with_mentions (direct_mentions d) state.1) (added d state.0) (mentions_plain (direct_mentions d) state.1) (λ names. tt)
taken_plain text (Err (fault.Profile at head)) state = tt
taken_plain text (Err (fault.Head at)) state = tt
taken_plain text (Err (fault.Shape at)) state = tt
taken_plain text (Err (fault.PrefixUnknown at)) state = tt
taken_plain text (Err (fault.PrefixClash at)) state = tt
taken_plain text (Err (fault.NoOntology at)) state = tt
taken_plain text (Err fault.TooManyClasses) state = tt
taken_plain text (Err fault.TooManyProperties) state = tt

directs_plain : (text : List ℕ) (gs : List Given) (state : State) → IsPlain (directs text ElPart gs state)
directs_plain text [] state = tt
directs_plain text (g ∷ gs) state = plain_then (taken text ElPart g.direct state) (λ next. directs text ElPart gs next) (taken_plain text g.direct state) (λ next. directs_plain text gs next)

abbrev OntologyIsPlain : List ℕ → Prefixes → State → Item → Type 0
OntologyIsPlain text prefixes state i = IsPlain ((given text prefixes i).ontology ElPart state)

ontology_step : (text : List ℕ) (prefixes : Prefixes) (state : State) (x : Item-F Item) → OntologyIsPlain text prefixes state (roll-Item x)
ontology_step text prefixes state (Item-F.Atom token) = subst (OntologyIsPlain text prefixes state) (sym (rolls-Atom token)) (subst (λ (g : Given). IsPlain (g.ontology ElPart state)) (sym (atom_gives text prefixes token)) tt)
ontology_step text prefixes state (Item-F.Group None is start end) = subst (OntologyIsPlain text prefixes state) (sym (rolls-Group None is start end)) (subst (λ (g : Given). IsPlain (g.ontology ElPart state)) (sym (bare_gives text prefixes is start end)) tt)
ontology_step text prefixes state (Item-F.Group (Some word) is start end) =
    subst (OntologyIsPlain text prefixes state) (sym (rolls-Group (Some word) is start end))
    (subst (λ (r : Result State OffsetFault). IsPlain r) (sym (ontology_gives text prefixes word is start end ElPart state))
    (plain_then (after_iris 2 (map (given text prefixes) is)) (λ rest. directs text ElPart rest state) (iris_plain 2 (map (given text prefixes) is)) (λ rest. directs_plain text rest state)))

-- an item as an ontology
ontology_plain : (text : List ℕ) (prefixes : Prefixes) (state : State) (i : Item) → OntologyIsPlain text prefixes state i
ontology_plain text prefixes state = ind-Item (OntologyIsPlain text prefixes state) (λ x y is. ontology_step text prefixes state x)

-- a prefix that may be held already
declared_over_plain : (at : ℕ) (prefixes : Prefixes) (both : List ℕ × List ℕ) (held : Option (List ℕ)) → IsPlain (declared_over at prefixes both held)
declared_over_plain at prefixes both None = tt
declared_over_plain at prefixes both (Some held) = plain_test (bytes_eq held both.1) _ _ tt tt

-- a declaration of a prefix
declared_plain : (text : List ℕ) (prefixes : Prefixes) (i : Item) → IsPlain (declared_with prefixes (given text prefixes i))
declared_plain text prefixes i = plain_then (given text prefixes i).prefix (declared (given text prefixes i).at prefixes) (prefix_plain text prefixes i) (λ both. declared_over_plain (given text prefixes i).at prefixes both (iri_of prefixes both.0))

-- what stands before the ontology
to_ontology_plain : (text : List ℕ) (prefixes : Prefixes) (items : List Item) → IsPlain (to_ontology text prefixes items)
to_ontology_plain text prefixes [] = tt
to_ontology_plain text prefixes (i ∷ is) =
    plain_test (is_prefix (given text prefixes i).head) _ _
    (plain_then (declared_with prefixes (given text prefixes i)) (λ more. to_ontology text more is) (declared_plain text prefixes i) (λ more. to_ontology_plain text more is))
    (plain_test (is_ontology (given text prefixes i).head) _ _ tt tt)

-- what follows it
ended_plain : (text : List ℕ) (prefixes : Prefixes) (items : List Item) (state : State) → IsPlain (ended text prefixes items state)
ended_plain text prefixes [] state = tt
ended_plain text prefixes (i ∷ is) state = tt

-- a document
pub document_plain : (text : List ℕ) (items : List Item) (state : State) → IsPlain (document_of text ElPart items state)
document_plain text items state =
    plain_then (to_ontology text known items) _ (to_ontology_plain text known items) (λ found.
    plain_then ((given text found.prefixes found.ontology).ontology ElPart state) _ (ontology_plain text found.prefixes state found.ontology) (λ next.
    ended_plain text found.prefixes found.rest next))

-- a plain fault with its place
placed_plain : (text : List ℕ) (f : OffsetFault) → IsPlainFault f → is_profile (placed text f) ≡ false
placed_plain text (fault.Profile at head) plain = absurd plain
placed_plain text (fault.Head at) plain = refl
placed_plain text (fault.Shape at) plain = refl
placed_plain text (fault.PrefixUnknown at) plain = refl
placed_plain text (fault.PrefixClash at) plain = refl
placed_plain text (fault.NoOntology at) plain = refl
placed_plain text fault.TooManyClasses plain = refl
placed_plain text fault.TooManyProperties plain = refl

-- no first fault is outside the profile
pub never_outside : (text : List ℕ) (depth : ℕ) (old : Names) (found : DocFault) → IsDocFault text ElPart depth old found → is_profile found ≡ false
never_outside text depth old _ (no_text place is) = refl
never_outside text depth old _ (no_token place is) = refl
never_outside text depth old _ (unopened place is) = refl
never_outside text depth old _ (unclosed place is) = refl
never_outside text depth old _ (too_deep place is) = refl
never_outside text depth old found (terms _ is) =
    subst (λ (f : DocFault). is_profile f ≡ false) is.there
    (placed_plain text is.first (subst (λ (r : Result State OffsetFault). IsPlain r) is.read (document_plain text is.items (empty, old))))

-- the same of an answer, unless memory ran out
pub answer_plain : (text : List ℕ) (mode : Mode) (depth : ℕ) (old : Names) (r : Result Document DocFault) → mode ≡ ElPart → IfErr r (OrOutOfMemory doc_ran_out (IsDocFault text mode depth old)) → IfErr r (λ f. is_profile f ≡ false)
answer_plain text mode depth old (Ok d) same is = tt
answer_plain text mode depth old (Err f) same is = by f (subst (λ (m : Mode). OrOutOfMemory doc_ran_out (IsDocFault text m depth old) f) same is)
  where
    by : (g : DocFault) → OrOutOfMemory doc_ran_out (IsDocFault text ElPart depth old) g → is_profile g ≡ false
    by (doc.Syntax place kind) h = refl
    by (doc.Profile place head) h = never_outside text depth old (doc.Profile place head) h
    by doc.TooDeep h = refl
    by doc.TooManyClasses h = refl
    by doc.TooManyProperties h = refl
    by doc.OutOfMemory h = refl

-- What is read as an expression stands for it.
use Rattle.std.proofs.Common.{◌≡◌, ℕ, Bool, true, false, cond, ◌&&◌, List, [], ◌∷◌, ◌++◌, map, refl, ap, sym, subst, ◌∙◌, append-nil, append_assoc}
use Rattle.std.specs.Prelude.{bytes_eq, Some, None, Ok, Err}
use Rattle.std.specs.Cmp.Lexicographic.{bytes_decides}
use Rattle.ofn_lex.specs.declared.token.Token.{Token}
use Rattle.ofn_term.specs.declared.item.Item.{Item, roll-Item, map-Item}
use Rattle.ofn_term.specs.declared.item.Item.TheOpen.{Item-F}
use Rattle.ofn_term.specs.declared.item.Item.TheFolds.{ind-Item}
use Rattle.ofn_term.specs.declared.item.Item.TheVariants as item
use Rattle.ofn_term.specs.declared.item.Item.TheVariants.{rolls-Atom, rolls-Group}
use Rattle.ofn_term.specs.Words.{bytes_of}
use Rattle.ofn_heads.specs.declared.head.Head.{Head}
use Rattle.ofn_heads.specs.declared.head.Head.TheVariants as head
use Rattle.ofn_heads.specs.declared.outside.HeadId.TheVariants as id
use Rattle.ofn_heads.specs.declared.iri.Named.{Named}
use Rattle.ofn_heads.specs.declared.iri.Named.TheVariants as named
use Rattle.ofn_heads.specs.Heads.{head_of}
use Rattle.ofn_heads.specs.Names.{name_of_token}
use Rattle.text_names.specs.Prefixes.{Prefixes}
use Rattle.ofn_axiom.specs.declared.fault.OffsetFault.TheVariants as fault
use Rattle.ofn_axiom.specs.declared.types.IriExpr.{IriExpr}
use Rattle.ofn_axiom.specs.declared.types.IriExpr.TheVariants as expr
use Rattle.ofn_axiom.specs.Steps.{◌>>=◌}
use Rattle.ofn_axiom.specs.Given.{Given, given, class_of_iri, property_of_iri, class_named, property_named, all_fit, classes_onto, some_classes, property_and_class, class_after, with_class, as_intersection, as_restriction, class_group, misplaced}
use Rattle.ofn_axiom.specs.StandsFor.{thing, nothing, top_property, bottom_property, IsIri, IsHead, IsProperty, property, IsClass, top, bottom, class, intersection, restriction, AreClasses, none, one_more}
use Rattle.ofn_axiom.proofs.GivenLaws.{atom_gives, bare_gives, group_gives}
use Rattle.ofn_axiom.proofs.StandsLaws.{name_iri, no_bytes}
use Rattle.ofn_axiom.proofs.Gave.{step_gave, test_passed, test_failed}

-- both of two tests passed
pub both_passed : {P : Type 0} (a b : Bool) → (a && b) ≡ true → (a ≡ true → b ≡ true → P) → P
both_passed true true e then = then refl refl
both_passed true false e then = cc
both_passed false b e then = cc

-- an IRI that is read as a property
pub property_iri : (text : List ℕ) (prefixes : Prefixes) (token : Token) (iri found : List ℕ) → IsIri text prefixes token iri → property_of_iri token.start iri ≡ Ok found → IsProperty text prefixes (item.Atom token) found
property_iri text prefixes token iri found is e =
    test_failed (bytes_eq iri top_property) _ (fault.Profile token.start id.TopObjectProperty) found e (λ not_top f.
    test_failed (bytes_eq iri bottom_property) (Ok iri) (fault.Profile token.start id.BottomObjectProperty) found f (λ not_bottom g.
    let same : iri ≡ found = cc in
    subst (λ (l : List ℕ). IsProperty text prefixes (item.Atom token) l) same
    (property token iri is (record { not_top = no_bytes iri top_property not_top; not_bottom = no_bytes iri bottom_property not_bottom }))))

-- a token that is read as a property
pub property_token : (text : List ℕ) (prefixes : Prefixes) (token : Token) (found : List ℕ) → property_named token.start (name_of_token text prefixes token) ≡ Ok found → IsProperty text prefixes (item.Atom token) found
property_token text prefixes token found = by (name_of_token text prefixes token) refl
  where
    by : (n : Named) → name_of_token text prefixes token ≡ n → property_named token.start n ≡ Ok found → IsProperty text prefixes (item.Atom token) found
    by (named.Iri iri) n e = property_iri text prefixes token iri found (name_iri text prefixes token iri n) e
    by named.Unknown n e = cc
    by named.NoIri n e = cc

-- an IRI that is read as a class expression
class_iri : (text : List ℕ) (prefixes : Prefixes) (token : Token) (iri : List ℕ) (c : IriExpr) → IsIri text prefixes token iri → class_of_iri iri ≡ c → IsClass text prefixes (item.Atom token) c
class_iri text prefixes token iri c is e = subst (λ (k : IriExpr). IsClass text prefixes (item.Atom token) k) e (first (bytes_eq iri thing) refl)
  where
    second : bytes_eq iri thing ≡ false → (b : Bool) → bytes_eq iri nothing ≡ b → IsClass text prefixes (item.Atom token) (cond b expr.Bottom (expr.Class iri))
    second not_thing true f = bottom token (subst (IsIri text prefixes token) ((bytes_decides iri nothing).0 f) is)
    second not_thing false f = class token iri is (record { not_thing = no_bytes iri thing not_thing; not_nothing = no_bytes iri nothing f })

    first : (b : Bool) → bytes_eq iri thing ≡ b → IsClass text prefixes (item.Atom token) (cond b expr.Top (cond (bytes_eq iri nothing) expr.Bottom (expr.Class iri)))
    first true f = top token (subst (IsIri text prefixes token) ((bytes_decides iri thing).0 f) is)
    first false f = second f (bytes_eq iri nothing) refl

-- a token that is read as a class expression
class_token : (text : List ℕ) (prefixes : Prefixes) (token : Token) (c : IriExpr) → class_named token.start (name_of_token text prefixes token) ≡ Ok c → IsClass text prefixes (item.Atom token) c
class_token text prefixes token c = by (name_of_token text prefixes token) refl
  where
    by : (n : Named) → name_of_token text prefixes token ≡ n → class_named token.start n ≡ Ok c → IsClass text prefixes (item.Atom token) c
    by (named.Iri iri) n e = let same : class_of_iri iri ≡ c = cc in class_iri text prefixes token iri c (name_iri text prefixes token iri n) same
    by named.Unknown n e = cc
    by named.NoIri n e = cc

-- an item that is read as a property stands for it
abbrev StandsForProperty : List ℕ → Prefixes → Item → Type 0
StandsForProperty text prefixes i = (found : List ℕ) → (given text prefixes i).property ≡ Ok found → IsProperty text prefixes i found

property_step : (text : List ℕ) (prefixes : Prefixes) (x : Item-F Item) → StandsForProperty text prefixes (roll-Item x)
property_step text prefixes (Item-F.Atom token) =
    subst (StandsForProperty text prefixes) (sym (rolls-Atom token)) (λ found e. property_token text prefixes token found (sym (ap (λ (g : Given). g.property) (atom_gives text prefixes token)) ∙ e))
property_step text prefixes (Item-F.Group None is start end) =
    subst (StandsForProperty text prefixes) (sym (rolls-Group None is start end)) (λ found e.
    let bad : Err (fault.Head start) ≡ Ok found = sym (ap (λ (g : Given). g.property) (bare_gives text prefixes is start end)) ∙ e in cc)
property_step text prefixes (Item-F.Group (Some word) is start end) =
    subst (StandsForProperty text prefixes) (sym (rolls-Group (Some word) is start end)) (λ found e.
    let bad : Err (misplaced word.start (head_of (bytes_of text word))) ≡ Ok found = sym (ap (λ (g : Given). g.property) (group_gives text prefixes word is start end)) ∙ e in cc)

pub property_stands : (text : List ℕ) (prefixes : Prefixes) (i : Item) (found : List ℕ) → (given text prefixes i).property ≡ Ok found → IsProperty text prefixes i found
property_stands text prefixes = ind-Item (StandsForProperty text prefixes) (λ x y is. property_step text prefixes x)

-- an item that is read as a class expression stands for it
abbrev pub StandsForClass : List ℕ → Prefixes → Item → Type 0
StandsForClass text prefixes i = (c : IriExpr) → (given text prefixes i).class ≡ Ok c → IsClass text prefixes i c

-- what several items are read as, after those that are read
pub record ReadRest (text : List ℕ) (prefixes : Prefixes) (is : List Item) (done cs : List IriExpr) : Type 0 where
  pub rest : List IriExpr
  pub whole : cs ≡ done ++ rest
  pub each : AreClasses text prefixes is rest

abbrev pub WithProof : List ℕ → Prefixes → Type 0
WithProof text prefixes = (i : Item) × StandsForClass text prefixes i

abbrev items_of : (text : List ℕ) (prefixes : Prefixes) → List (WithProof text prefixes) → List Item
items_of text prefixes es = map (λ e. e.0) es

pub classes_stand : (text : List ℕ) (prefixes : Prefixes) (es : List (WithProof text prefixes)) (done cs : List IriExpr) → classes_onto done (map (given text prefixes) (items_of text prefixes es)) ≡ Ok cs → ReadRest text prefixes (items_of text prefixes es) done cs
classes_stand text prefixes [] done cs e = let same : done ≡ cs = cc in record { rest = []; whole = sym same ∙ sym (append-nil done); each = none }
classes_stand text prefixes (p ∷ es) done cs e =
    step_gave (given text prefixes p.0).class (λ k. classes_onto (done ++ k ∷ []) (map (given text prefixes) (items_of text prefixes es))) cs e (λ c r f.
    let later = classes_stand text prefixes es (done ++ c ∷ []) cs f in
    record { rest = c ∷ later.rest; whole = later.whole ∙ append_assoc done (c ∷ []) later.rest; each = one_more p.0 (items_of text prefixes es) c later.rest (p.1 c r) later.each })

-- a group that is read as an intersection
intersection_stands : (text : List ℕ) (prefixes : Prefixes) (word : Token) (es : List (WithProof text prefixes)) (start end : ℕ) (c : IriExpr) → IsHead text word head.ObjectIntersectionOf → (some_classes word.start (map (given text prefixes) (items_of text prefixes es)) >>= as_intersection) ≡ Ok c → IsClass text prefixes (item.Group (Some word) (items_of text prefixes es) start end) c
intersection_stands text prefixes word [] start end c h e = cc
intersection_stands text prefixes word (p ∷ es) start end c h e =
    let gs = map (given text prefixes) (items_of text prefixes (p ∷ es)) in
    step_gave (some_classes word.start gs) as_intersection c e (λ cs r f.
    test_passed (all_fit gs) (classes_onto [] gs) (fault.Shape word.start) cs r (λ fit read.
    let found = classes_stand text prefixes (p ∷ es) [] cs read in
    let same : expr.And cs ≡ c = cc in
    subst (λ (k : IriExpr). IsClass text prefixes (item.Group (Some word) (items_of text prefixes (p ∷ es)) start end) k)
    (ap (λ (l : List IriExpr). expr.And l) (sym found.whole) ∙ same)
    (intersection word p.0 (items_of text prefixes es) start end found.rest h found.each)))

-- a group that is read as a restriction
restriction_stands : (text : List ℕ) (prefixes : Prefixes) (word : Token) (es : List (WithProof text prefixes)) (start end : ℕ) (c : IriExpr) → IsHead text word head.ObjectSomeValuesFrom → (property_and_class word.start (map (given text prefixes) (items_of text prefixes es)) >>= as_restriction) ≡ Ok c → IsClass text prefixes (item.Group (Some word) (items_of text prefixes es) start end) c
restriction_stands text prefixes word [] start end c h e = cc
restriction_stands text prefixes word (p ∷ []) start end c h e = cc
restriction_stands text prefixes word (p ∷ q ∷ []) start end c h e =
    let g = given text prefixes p.0 in
    let k = given text prefixes q.0 in
    step_gave (property_and_class word.start (g ∷ k ∷ [])) as_restriction c e (λ both r f.
    test_passed (g.fits && k.fits) (g.property >>= class_after k) (fault.Shape word.start) both r (λ fit read.
    step_gave g.property (class_after k) both read (λ iri found after.
    step_gave k.class (with_class iri) both after (λ filler class last.
    let pair : (iri, filler) ≡ both = cc in
    let same : expr.Exists both.0 both.1 ≡ c = cc in
    subst (λ (x : IriExpr). IsClass text prefixes (item.Group (Some word) (p.0 ∷ q.0 ∷ []) start end) x)
    (ap (λ (b : List ℕ × IriExpr). expr.Exists b.0 b.1) pair ∙ same)
    (restriction word p.0 q.0 start end iri filler h (property_stands text prefixes p.0 iri found) (q.1 filler class))))))
restriction_stands text prefixes word (p ∷ q ∷ o ∷ es) start end c h e = cc

-- a group that is read as a class expression
group_stands : (text : List ℕ) (prefixes : Prefixes) (word : Token) (es : List (WithProof text prefixes)) (start end : ℕ) (c : IriExpr) → class_group word.start (head_of (bytes_of text word)) (map (given text prefixes) (items_of text prefixes es)) ≡ Ok c → IsClass text prefixes (item.Group (Some word) (items_of text prefixes es) start end) c
group_stands text prefixes word es start end c = by (head_of (bytes_of text word)) refl
  where
    by : (k : Head) → head_of (bytes_of text word) ≡ k → class_group word.start k (map (given text prefixes) (items_of text prefixes es)) ≡ Ok c → IsClass text prefixes (item.Group (Some word) (items_of text prefixes es) start end) c
    by head.ObjectIntersectionOf h e = intersection_stands text prefixes word es start end c h e
    by head.ObjectSomeValuesFrom h e = restriction_stands text prefixes word es start end c h e
    by _ h e = cc

-- one layer of an item, where what is read inside stands for what it is read as
class_step : (text : List ℕ) (prefixes : Prefixes) (y : Item-F (WithProof text prefixes)) → StandsForClass text prefixes (roll-Item (map-Item (WithProof text prefixes) Item (λ e. e.0) y))
class_step text prefixes (Item-F.Atom token) =
    subst (StandsForClass text prefixes) (sym (rolls-Atom token)) (λ c e. class_token text prefixes token c (sym (ap (λ (g : Given). g.class) (atom_gives text prefixes token)) ∙ e))
class_step text prefixes (Item-F.Group None es start end) =
    subst (StandsForClass text prefixes) (sym (rolls-Group None (items_of text prefixes es) start end)) (λ c e.
    let bad : Err (fault.Head start) ≡ Ok c = sym (ap (λ (g : Given). g.class) (bare_gives text prefixes (items_of text prefixes es) start end)) ∙ e in cc)
class_step text prefixes (Item-F.Group (Some word) es start end) =
    subst (StandsForClass text prefixes) (sym (rolls-Group (Some word) (items_of text prefixes es) start end)) (λ c e.
    group_stands text prefixes word es start end c (sym (ap (λ (g : Given). g.class) (group_gives text prefixes word (items_of text prefixes es) start end)) ∙ e))

-- an item that is read as a class expression stands for it
pub class_stands : (text : List ℕ) (prefixes : Prefixes) (i : Item) (c : IriExpr) → (given text prefixes i).class ≡ Ok c → IsClass text prefixes i c
class_stands text prefixes = ind-Item (StandsForClass text prefixes) (λ x y is. subst (λ (z : Item-F Item). StandsForClass text prefixes (roll-Item z)) is (class_step text prefixes y))

-- What is read as the fault that something is outside the fragment has it there.
use Rattle.std.proofs.Common.{◌≡◌, ℕ, Bool, true, false, cond, ◌&&◌, List, [], ◌∷◌, ◌++◌, map, refl, ap, sym, subst, ◌∙◌}
use Rattle.std.specs.Prelude.{bytes_eq, Some, None, Result, Ok, Err}
use Rattle.std.specs.Cmp.Lexicographic.{bytes_decides}
use Rattle.ofn_lex.specs.declared.token.Token.{Token}
use Rattle.ofn_term.specs.declared.item.Item.{Item, roll-Item, map-Item}
use Rattle.ofn_term.specs.declared.item.Item.TheOpen.{Item-F}
use Rattle.ofn_term.specs.declared.item.Item.TheFolds.{ind-Item}
use Rattle.ofn_term.specs.declared.item.Item.TheVariants as item
use Rattle.ofn_term.specs.declared.item.Item.TheVariants.{rolls-Atom, rolls-Group}
use Rattle.ofn_term.specs.Words.{bytes_of}
use Rattle.ofn_heads.specs.declared.head.Head.{Head}
use Rattle.ofn_heads.specs.declared.head.Head.TheVariants as head
use Rattle.ofn_heads.specs.declared.outside.HeadId.{HeadId}
use Rattle.ofn_heads.specs.declared.outside.HeadId.TheVariants as id
use Rattle.ofn_heads.specs.declared.iri.Named.{Named}
use Rattle.ofn_heads.specs.declared.iri.Named.TheVariants as named
use Rattle.ofn_heads.specs.Heads.{head_of}
use Rattle.ofn_heads.specs.Names.{name_of_token}
use Rattle.text_names.specs.Prefixes.{Prefixes}
use Rattle.ofn_axiom.specs.declared.fault.OffsetFault.{OffsetFault}
use Rattle.ofn_axiom.specs.declared.fault.OffsetFault.TheVariants as fault
use Rattle.ofn_axiom.specs.declared.types.IriExpr.{IriExpr}
use Rattle.ofn_axiom.specs.Steps.{◌>>=◌}
use Rattle.ofn_axiom.specs.Given.{Given, given, misplaced, property_of_iri, property_named, class_named, all_fit, alone, classes_onto, properties_onto, some_classes, property_and_class, as_intersection, as_restriction, class_after, with_class, class_group, chain_group}
use Rattle.ofn_axiom.specs.StandsFor.{top_property, bottom_property, IsHead, IsIri}
use Rattle.ofn_axiom.specs.Outside.{Fits, iri_fits, group_fits, AllFit, IsHeadOutside, outside_head, IsPropertyOutside, top_outside, bottom_outside, head_for_property, IsAmongProperties, property_here, property_later, IsClassOutside, head_for_class, in_intersection, in_property, in_filler, IsAmongClasses, class_here, class_later, IsChainOutside, single_outside, in_chain}
use Rattle.ofn_axiom.proofs.Forms.{by_form}
use Rattle.ofn_axiom.proofs.GivenLaws.{atom_gives, bare_gives, group_gives}
use Rattle.ofn_axiom.proofs.StandsLaws.{name_iri}
use Rattle.ofn_axiom.proofs.StandsBack.{property_stands, class_stands, both_passed}
use Rattle.ofn_axiom.proofs.OutsideLaws.{outside_at}

-- a step of which the first or the second has a fault
pub step_failed : {A B P : Type 0} (r : Result A OffsetFault) (f : A → Result B OffsetFault) (x : OffsetFault) → (r >>= f) ≡ Err x → (r ≡ Err x → P) → ((a : A) → r ≡ Ok a → f a ≡ Err x → P) → P
step_failed (Ok a) f x e first second = second a refl e
step_failed (Err y) f x e first second = let same : y ≡ x = cc in first (ap (λ (z : OffsetFault). Err z) same)

-- a test that passed, or items of a wrong form
pub test_outside : {A P : Type 0} (t : Bool) (r : Result A OffsetFault) (place at : ℕ) (outside : HeadId) → cond t r (Err (fault.Shape place)) ≡ outside_at at outside → (t ≡ true → r ≡ outside_at at outside → P) → P
test_outside true r place at outside e then = then refl e
test_outside false r place at outside e then = cc

-- a head that is misplaced and outside
misplaced_outside : {P : Type 0} (k : Head) (place at : ℕ) (outside : HeadId) → misplaced place k ≡ fault.Profile at outside → (k ≡ head.Outside outside → place ≡ at → P) → P
misplaced_outside (head.Outside found) place at outside e then =
    let same : found ≡ outside = cc in
    let there : place ≡ at = cc in
    then (ap (λ (o : HeadId). head.Outside o) same) there
misplaced_outside _ place at outside e then = cc

-- a group whose head is misplaced and outside
pub head_back : (text : List ℕ) (word : Token) (is : List Item) (start end at : ℕ) (outside : HeadId) (k : Head) → head_of (bytes_of text word) ≡ k → misplaced word.start k ≡ fault.Profile at outside → IsHeadOutside text (item.Group (Some word) is start end) at outside
head_back text word is start end at outside k h e =
    misplaced_outside k word.start at outside e (λ same there.
    subst (λ (n : ℕ). IsHeadOutside text (item.Group (Some word) is start end) n outside) there (outside_head word is start end outside (h ∙ same)))

-- an item that fits is one of the two forms
pub fits_back : (text : List ℕ) (prefixes : Prefixes) (i : Item) → (given text prefixes i).fits ≡ true → Fits text i
fits_back text prefixes = by_form (λ i. (given text prefixes i).fits ≡ true → Fits text i)
    (λ token. λ e. iri_fits token (sym (ap (λ (g : Given). g.fits) (atom_gives text prefixes token)) ∙ e))
    (λ is start end. λ e. let bad : false ≡ true = sym (ap (λ (g : Given). g.fits) (bare_gives text prefixes is start end)) ∙ e in cc)
    (λ word is start end. λ e. group_fits word is start end)

-- several items that fit
pub all_fit_back : (text : List ℕ) (prefixes : Prefixes) (is : List Item) → all_fit (map (given text prefixes) is) ≡ true → AllFit text is
all_fit_back text prefixes [] e = tt
all_fit_back text prefixes (i ∷ is) e = both_passed (given text prefixes i).fits (all_fit (map (given text prefixes) is)) e (λ first rest. (fits_back text prefixes i first, all_fit_back text prefixes is rest))

-- an IRI in the place of a property
iri_back : (text : List ℕ) (prefixes : Prefixes) (token : Token) (iri : List ℕ) (at : ℕ) (outside : HeadId) → IsIri text prefixes token iri → property_of_iri token.start iri ≡ outside_at at outside → IsPropertyOutside text prefixes (item.Atom token) at outside
iri_back text prefixes token iri at outside is = first (bytes_eq iri top_property) refl
  where
    at_place : (o : HeadId) → IsPropertyOutside text prefixes (item.Atom token) token.start o → fault.Profile token.start o ≡ fault.Profile at outside → IsPropertyOutside text prefixes (item.Atom token) at outside
    at_place o found e =
        let there : token.start ≡ at = cc in
        let same : o ≡ outside = cc in
        subst (λ (n : ℕ). IsPropertyOutside text prefixes (item.Atom token) n outside) there (subst (λ (p : HeadId). IsPropertyOutside text prefixes (item.Atom token) token.start p) same found)

    second : (b : Bool) → bytes_eq iri bottom_property ≡ b → cond {A = Result (List ℕ) OffsetFault} b (Err (fault.Profile token.start id.BottomObjectProperty)) (Ok iri) ≡ outside_at at outside → IsPropertyOutside text prefixes (item.Atom token) at outside
    second true f e = at_place id.BottomObjectProperty (bottom_outside token (subst (IsIri text prefixes token) ((bytes_decides iri bottom_property).0 f) is)) (cc)
    second false f e = cc

    first : (b : Bool) → bytes_eq iri top_property ≡ b → cond {A = Result (List ℕ) OffsetFault} b (Err (fault.Profile token.start id.TopObjectProperty)) (cond (bytes_eq iri bottom_property) (Err (fault.Profile token.start id.BottomObjectProperty)) (Ok iri)) ≡ outside_at at outside → IsPropertyOutside text prefixes (item.Atom token) at outside
    first true f e = at_place id.TopObjectProperty (top_outside token (subst (IsIri text prefixes token) ((bytes_decides iri top_property).0 f) is)) (cc)
    first false f e = second (bytes_eq iri bottom_property) refl e

-- a token in the place of a property
token_back : (text : List ℕ) (prefixes : Prefixes) (token : Token) (at : ℕ) (outside : HeadId) → property_named token.start (name_of_token text prefixes token) ≡ outside_at at outside → IsPropertyOutside text prefixes (item.Atom token) at outside
token_back text prefixes token at outside = by (name_of_token text prefixes token) refl
  where
    by : (n : Named) → name_of_token text prefixes token ≡ n → property_named token.start n ≡ outside_at at outside → IsPropertyOutside text prefixes (item.Atom token) at outside
    by (named.Iri iri) n e = iri_back text prefixes token iri at outside (name_iri text prefixes token iri n) e
    by named.Unknown n e = cc
    by named.NoIri n e = cc

-- an item in the place of a property
pub property_back : (text : List ℕ) (prefixes : Prefixes) (at : ℕ) (outside : HeadId) (i : Item) → (given text prefixes i).property ≡ outside_at at outside → IsPropertyOutside text prefixes i at outside
property_back text prefixes at outside = by_form (λ i. (given text prefixes i).property ≡ outside_at at outside → IsPropertyOutside text prefixes i at outside)
    (λ token. λ e. token_back text prefixes token at outside (sym (ap (λ (g : Given). g.property) (atom_gives text prefixes token)) ∙ e))
    (λ is start end. λ e. let bad : Err (fault.Head start) ≡ outside_at {A = List ℕ} at outside = sym (ap (λ (g : Given). g.property) (bare_gives text prefixes is start end)) ∙ e in cc)
    (λ word is start end. λ e.
    let read : Err (misplaced word.start (head_of (bytes_of text word))) ≡ outside_at {A = List ℕ} at outside = sym (ap (λ (g : Given). g.property) (group_gives text prefixes word is start end)) ∙ e in
    let same : misplaced word.start (head_of (bytes_of text word)) ≡ fault.Profile at outside = cc in
    head_for_property (item.Group (Some word) is start end) at outside (head_back text word is start end at outside (head_of (bytes_of text word)) refl same))

-- properties, then one that is outside
pub properties_back : (text : List ℕ) (prefixes : Prefixes) (is : List Item) (at : ℕ) (outside : HeadId) (done : List (List ℕ)) → properties_onto done (map (given text prefixes) is) ≡ outside_at at outside → IsAmongProperties text prefixes is at outside
properties_back text prefixes [] at outside done e = cc
properties_back text prefixes (i ∷ is) at outside done e =
    step_failed (given text prefixes i).property (λ k. properties_onto (done ++ k ∷ []) (map (given text prefixes) is)) (fault.Profile at outside) e
    (λ here. property_here i is at outside (property_back text prefixes at outside i here))
    (λ iri r later. property_later i is iri at outside (property_stands text prefixes i iri r) (properties_back text prefixes is at outside (done ++ iri ∷ []) later))

-- an item in the place of a class expression, in which something is outside
abbrev ClassBack : List ℕ → Prefixes → ℕ → HeadId → Item → Type 0
ClassBack text prefixes at outside i = (given text prefixes i).class ≡ outside_at at outside → IsClassOutside text prefixes i at outside

-- an item, with the proof of that
abbrev WithBack : List ℕ → Prefixes → ℕ → HeadId → Type 0
WithBack text prefixes at outside = (i : Item) × ClassBack text prefixes at outside i

-- the items alone
abbrev items_of : (text : List ℕ) (prefixes : Prefixes) (at : ℕ) (outside : HeadId) → List (WithBack text prefixes at outside) → List Item
items_of text prefixes at outside es = map (λ e. e.0) es

-- class expressions, then one in which something is outside
classes_back : (text : List ℕ) (prefixes : Prefixes) (at : ℕ) (outside : HeadId) (es : List (WithBack text prefixes at outside)) (done : List IriExpr) → classes_onto done (map (given text prefixes) (items_of text prefixes at outside es)) ≡ outside_at at outside → IsAmongClasses text prefixes (items_of text prefixes at outside es) at outside
classes_back text prefixes at outside [] done e = cc
classes_back text prefixes at outside (p ∷ es) done e =
    let is = items_of text prefixes at outside es in
    step_failed (given text prefixes p.0).class (λ k. classes_onto (done ++ k ∷ []) (map (given text prefixes) is)) (fault.Profile at outside) e
    (λ here. class_here p.0 is at outside (p.1 here))
    (λ c r later. class_later p.0 is c at outside (class_stands text prefixes p.0 c r) (classes_back text prefixes at outside es (done ++ c ∷ []) later))

-- an intersection in which something is outside
intersection_back : (text : List ℕ) (prefixes : Prefixes) (at : ℕ) (outside : HeadId) (word : Token) (es : List (WithBack text prefixes at outside)) (start end : ℕ) → IsHead text word head.ObjectIntersectionOf → (some_classes word.start (map (given text prefixes) (items_of text prefixes at outside es)) >>= as_intersection) ≡ outside_at at outside → IsClassOutside text prefixes (item.Group (Some word) (items_of text prefixes at outside es) start end) at outside
intersection_back text prefixes at outside word [] start end h e = cc
intersection_back text prefixes at outside word (p ∷ es) start end h e =
    let is = items_of text prefixes at outside (p ∷ es) in
    let gs = map (given text prefixes) is in
    step_failed (some_classes word.start gs) as_intersection (fault.Profile at outside) e
    (λ read. test_outside (all_fit gs) (classes_onto [] gs) word.start at outside read (λ fit found.
    in_intersection word is start end at outside h (all_fit_back text prefixes is fit) (classes_back text prefixes at outside (p ∷ es) [] found)))
    (λ cs r f. cc)

-- a restriction in which something is outside
restriction_back : (text : List ℕ) (prefixes : Prefixes) (at : ℕ) (outside : HeadId) (word : Token) (es : List (WithBack text prefixes at outside)) (start end : ℕ) → IsHead text word head.ObjectSomeValuesFrom → (property_and_class word.start (map (given text prefixes) (items_of text prefixes at outside es)) >>= as_restriction) ≡ outside_at at outside → IsClassOutside text prefixes (item.Group (Some word) (items_of text prefixes at outside es) start end) at outside
restriction_back text prefixes at outside word [] start end h e = cc
restriction_back text prefixes at outside word (p ∷ []) start end h e = cc
restriction_back text prefixes at outside word (p ∷ q ∷ []) start end h e =
    let g = given text prefixes p.0 in
    let k = given text prefixes q.0 in
    step_failed (property_and_class word.start (g ∷ k ∷ [])) as_restriction (fault.Profile at outside) e
    (λ read. test_outside (g.fits && k.fits) (g.property >>= class_after k) word.start at outside read (λ fit found.
    both_passed g.fits k.fits fit (λ one two.
    step_failed g.property (class_after k) (fault.Profile at outside) found
    (λ here. in_property word p.0 q.0 start end at outside h (fits_back text prefixes q.0 two) (property_back text prefixes at outside p.0 here))
    (λ iri r after. step_failed k.class (with_class iri) (fault.Profile at outside) after
    (λ there. in_filler word p.0 q.0 iri start end at outside h (fits_back text prefixes q.0 two) (property_stands text prefixes p.0 iri r) (q.1 there))
    (λ c s last. cc)))))
    (λ both r f. cc)
restriction_back text prefixes at outside word (p ∷ q ∷ o ∷ es) start end h e = cc

-- a fault of a class expression
abbrev outside_as : OffsetFault → Result IriExpr OffsetFault
outside_as f = Err f

-- a fault of a chain
abbrev chain_as : OffsetFault → Result (List (List ℕ)) OffsetFault
chain_as f = Err f

-- no token is outside in the place of a class expression
no_class_token : (n : Named) (place at : ℕ) (outside : HeadId) → class_named place n ≡ outside_at at outside → ⊥
no_class_token (named.Iri iri) place at outside e = cc
no_class_token named.Unknown place at outside e = cc
no_class_token named.NoIri place at outside e = cc

-- a group in the place of a class expression
class_group_back : (text : List ℕ) (prefixes : Prefixes) (at : ℕ) (outside : HeadId) (word : Token) (es : List (WithBack text prefixes at outside)) (start end : ℕ) → class_group word.start (head_of (bytes_of text word)) (map (given text prefixes) (items_of text prefixes at outside es)) ≡ outside_at at outside → IsClassOutside text prefixes (item.Group (Some word) (items_of text prefixes at outside es) start end) at outside
class_group_back text prefixes at outside word es start end = by (head_of (bytes_of text word)) refl
  where
    other : (k : Head) → head_of (bytes_of text word) ≡ k → outside_as (misplaced word.start k) ≡ outside_at at outside → IsClassOutside text prefixes (item.Group (Some word) (items_of text prefixes at outside es) start end) at outside
    other k h e = let same : misplaced word.start k ≡ fault.Profile at outside = cc in head_for_class (item.Group (Some word) (items_of text prefixes at outside es) start end) at outside (head_back text word (items_of text prefixes at outside es) start end at outside k h same)

    by : (k : Head) → head_of (bytes_of text word) ≡ k → class_group word.start k (map (given text prefixes) (items_of text prefixes at outside es)) ≡ outside_at at outside → IsClassOutside text prefixes (item.Group (Some word) (items_of text prefixes at outside es) start end) at outside
    by head.ObjectIntersectionOf h e = intersection_back text prefixes at outside word es start end h e
    by head.ObjectSomeValuesFrom h e = restriction_back text prefixes at outside word es start end h e
    by k h e = other k h e

-- one layer of an item, where the items inside are proved
class_step : (text : List ℕ) (prefixes : Prefixes) (at : ℕ) (outside : HeadId) (y : Item-F (WithBack text prefixes at outside)) → ClassBack text prefixes at outside (roll-Item (map-Item (WithBack text prefixes at outside) Item (λ e. e.0) y))
class_step text prefixes at outside (Item-F.Atom token) =
    subst (ClassBack text prefixes at outside) (sym (rolls-Atom token)) (λ e.
    absurd (no_class_token (name_of_token text prefixes token) token.start at outside (sym (ap (λ (g : Given). g.class) (atom_gives text prefixes token)) ∙ e)))
class_step text prefixes at outside (Item-F.Group None es start end) =
    subst (ClassBack text prefixes at outside) (sym (rolls-Group None (items_of text prefixes at outside es) start end)) (λ e.
    let bad : Err (fault.Head start) ≡ outside_at {A = IriExpr} at outside = sym (ap (λ (g : Given). g.class) (bare_gives text prefixes (items_of text prefixes at outside es) start end)) ∙ e in cc)
class_step text prefixes at outside (Item-F.Group (Some word) es start end) =
    subst (ClassBack text prefixes at outside) (sym (rolls-Group (Some word) (items_of text prefixes at outside es) start end)) (λ e.
    class_group_back text prefixes at outside word es start end (sym (ap (λ (g : Given). g.class) (group_gives text prefixes word (items_of text prefixes at outside es) start end)) ∙ e))

-- an item in the place of a class expression
pub class_back : (text : List ℕ) (prefixes : Prefixes) (at : ℕ) (outside : HeadId) (i : Item) → (given text prefixes i).class ≡ outside_at at outside → IsClassOutside text prefixes i at outside
class_back text prefixes at outside = ind-Item (ClassBack text prefixes at outside) (λ x y is. subst (λ (z : Item-F Item). ClassBack text prefixes at outside (roll-Item z)) is (class_step text prefixes at outside y))

-- a group in the place of a chain
chain_group_back : (text : List ℕ) (prefixes : Prefixes) (word : Token) (is : List Item) (start end at : ℕ) (outside : HeadId) → chain_group word.start (head_of (bytes_of text word)) (map (given text prefixes) is) ≡ outside_at at outside → IsChainOutside text prefixes (item.Group (Some word) is start end) at outside
chain_group_back text prefixes word is start end at outside = by (head_of (bytes_of text word)) refl
  where
    items : (js : List Item) → IsHead text word head.ObjectPropertyChain → chain_group word.start head.ObjectPropertyChain (map (given text prefixes) js) ≡ outside_at at outside → IsChainOutside text prefixes (item.Group (Some word) js start end) at outside
    items [] h e = cc
    items (i ∷ []) h e = cc
    items (i ∷ j ∷ js) h e =
        let gs = map (given text prefixes) (i ∷ j ∷ js) in
        test_outside (all_fit gs) (properties_onto [] gs) word.start at outside e (λ fit found.
        in_chain word i j js start end at outside h (all_fit_back text prefixes (i ∷ j ∷ js) fit) (properties_back text prefixes (i ∷ j ∷ js) at outside [] found))

    other : (k : Head) → head_of (bytes_of text word) ≡ k → chain_as (misplaced word.start k) ≡ outside_at at outside → IsChainOutside text prefixes (item.Group (Some word) is start end) at outside
    other k h e =
        let same : misplaced word.start k ≡ fault.Profile at outside = cc in
        single_outside (item.Group (Some word) is start end) at outside (head_for_property (item.Group (Some word) is start end) at outside (head_back text word is start end at outside k h same))

    by : (k : Head) → head_of (bytes_of text word) ≡ k → chain_group word.start k (map (given text prefixes) is) ≡ outside_at at outside → IsChainOutside text prefixes (item.Group (Some word) is start end) at outside
    by head.ObjectPropertyChain h e = items is h e
    by k h e = other k h e

-- an item in the place of a chain
pub chain_back : (text : List ℕ) (prefixes : Prefixes) (at : ℕ) (outside : HeadId) (i : Item) → (given text prefixes i).chain ≡ outside_at at outside → IsChainOutside text prefixes i at outside
chain_back text prefixes at outside = by_form (λ i. (given text prefixes i).chain ≡ outside_at at outside → IsChainOutside text prefixes i at outside)
    (λ token. λ e.
    step_failed (property_named token.start (name_of_token text prefixes token)) alone (fault.Profile at outside) (sym (ap (λ (g : Given). g.chain) (atom_gives text prefixes token)) ∙ e)
    (λ here. single_outside (item.Atom token) at outside (token_back text prefixes token at outside here))
    (λ iri r f. cc))
    (λ is start end. λ e. let bad : Err (fault.Head start) ≡ outside_at {A = List (List ℕ)} at outside = sym (ap (λ (g : Given). g.chain) (bare_gives text prefixes is start end)) ∙ e in cc)
    (λ word is start end. λ e. chain_group_back text prefixes word is start end at outside (sym (ap (λ (g : Given). g.chain) (group_gives text prefixes word is start end)) ∙ e))

-- Documents: what a text is one of is its reading, and nothing else is.
use Rattle.std.proofs.Common.{◌≡◌, ℕ, Bool, true, false, cond, List, [], ◌∷◌, ◌++◌, map, refl, ap, sym, subst, ◌∙◌}
use Rattle.std.specs.Prelude.{bytes_eq, is_some, Option, Some, None, Result, Ok, Err}
use Rattle.std.specs.Cmp.Lexicographic.{bytes_decides}
use Rattle.ofn_lex.specs.declared.token.Token.{Token}
use Rattle.ofn_term.specs.declared.item.Item.{Item}
use Rattle.ofn_term.specs.declared.item.Item.TheVariants as item
use Rattle.ofn_term.specs.Words.{bytes_of}
use Rattle.ofn_heads.specs.declared.head.Head.{Head}
use Rattle.ofn_heads.specs.declared.head.Head.TheVariants as head
use Rattle.ofn_heads.specs.Heads.{head_of}
use Rattle.ofn_heads.specs.Names.{known}
use Rattle.text_names.specs.Prefixes.{Prefixes, iri_of, with_prefix}
use Rattle.ofn_axiom.specs.declared.fault.OffsetFault.{OffsetFault}
use Rattle.ofn_axiom.specs.declared.fault.OffsetFault.TheVariants as fault
use Rattle.ofn_axiom.specs.declared.types.Document.{Document}
use Rattle.ofn_axiom.specs.declared.types.Names.{Names}
use Rattle.ofn_axiom.specs.declared.types.Mode.{Mode}
use Rattle.ofn_axiom.specs.Steps.{◌>>=◌}
use Rattle.ofn_axiom.specs.Taking.{State}
use Rattle.ofn_axiom.specs.Given.{Given, given, directs, after_iris, ontology_group}
use Rattle.ofn_axiom.specs.Documents.{declared_over, declared, declared_with, is_prefix, is_ontology, Found, to_ontology, ended, document_of, empty, IsReading}
use Rattle.ofn_axiom.specs.StandsFor.{IsHead}
use Rattle.ofn_axiom.specs.DocumentText.{IsPrefix, ArePrefixes, none, new, again, IsOntology, ontology, IsDocument, document, IsDocumentText}
use Rattle.ofn_axiom.proofs.Forms.{by_form}
use Rattle.ofn_axiom.proofs.Gave.{step_gave, test_passed}
use Rattle.ofn_axiom.proofs.GivenLaws.{atom_gives, bare_gives, group_gives, ontology_gives}
use Rattle.ofn_axiom.proofs.TakenLaws.{directs_read, directs_stand, iris_read, iris_stand}
use Rattle.ofn_axiom.proofs.PrefixLaws.{prefix_read, prefix_stands}

-- a prefix that is new
new_over : (at : ℕ) (prefixes : Prefixes) (prefix iri : List ℕ) → iri_of prefixes prefix ≡ None → declared at prefixes (prefix, iri) ≡ Ok (prefixes ++ (prefix, iri) ∷ [])
new_over at prefixes prefix iri e =
    ap (declared_over at prefixes (prefix, iri)) e
    ∙ ap (λ (o : Option (List ℕ)). Ok (cond (is_some o) prefixes (prefixes ++ (prefix, iri) ∷ []))) e

-- a prefix that has this IRI
again_over : (at : ℕ) (prefixes : Prefixes) (prefix iri : List ℕ) → iri_of prefixes prefix ≡ Some iri → declared at prefixes (prefix, iri) ≡ Ok prefixes
again_over at prefixes prefix iri e =
    let test : bytes_eq iri iri ≡ true = (bytes_decides iri iri).1 refl in
    ap (declared_over at prefixes (prefix, iri)) e
    ∙ ap (λ (b : Bool). cond b (Ok (with_prefix prefixes prefix iri)) (Err (fault.PrefixClash at))) test
    ∙ ap (λ (o : Option (List ℕ)). Ok (cond (is_some o) prefixes (prefixes ++ (prefix, iri) ∷ []))) e

-- an item with the head Prefix is declared before the ontology
prefix_first : (text : List ℕ) (prefixes next : Prefixes) (i : Item) (is : List Item) (prefix iri : List ℕ) → IsPrefix text i prefix iri → declared (given text prefixes i).at prefixes (prefix, iri) ≡ Ok next → to_ontology text prefixes (i ∷ is) ≡ to_ontology text next is
prefix_first text prefixes next i is prefix iri is_prefix_item e =
    let read = prefix_read text prefixes i prefix iri is_prefix_item in
    let g = given text prefixes i in
    ap (λ (k : Head). cond (is_prefix k) (declared_with prefixes g >>= λ more. to_ontology text more is) (cond (is_ontology k) (Ok (record { prefixes = prefixes; ontology = i; rest = is })) (Err (fault.Head g.at)))) read.1
    ∙ ap (λ (r : Result (List ℕ × List ℕ) OffsetFault). (r >>= declared g.at prefixes) >>= λ more. to_ontology text more is) read.0
    ∙ ap (λ (r : Result Prefixes OffsetFault). r >>= λ more. to_ontology text more is) e

-- what is found of a document
abbrev found_at : Prefixes → Item → List Item → Found
found_at prefixes o rest = record { prefixes = prefixes; ontology = o; rest = rest }

prefixes_read : (text : List ℕ) (prefixes more : Prefixes) (before : List Item) (o : Item) → ArePrefixes text prefixes before more → (given text more o).head ≡ head.Ontology → to_ontology text prefixes (before ++ o ∷ []) ≡ Ok (record { prefixes = more; ontology = o; rest = [] })
prefixes_read text _ _ _ o (none prefixes) h =
    let g = given text prefixes o in
    ap (λ (k : Head). cond (is_prefix k) (declared_with prefixes g >>= λ more. to_ontology text more []) (cond (is_ontology k) (Ok (record { prefixes = prefixes; ontology = o; rest = [] })) (Err (fault.Head g.at)))) h
prefixes_read text _ _ _ o (new prefixes more i is prefix iri one is_new rest) h =
    prefix_first text prefixes (prefixes ++ (prefix, iri) ∷ []) i (is ++ o ∷ []) prefix iri one (new_over (given text prefixes i).at prefixes prefix iri is_new)
    ∙ prefixes_read text (prefixes ++ (prefix, iri) ∷ []) more is o rest h
prefixes_read text _ _ _ o (again prefixes more i is prefix iri one same rest) h =
    prefix_first text prefixes prefixes i (is ++ o ∷ []) prefix iri one (again_over (given text prefixes i).at prefixes prefix iri same)
    ∙ prefixes_read text prefixes more is o rest h

-- what comes before the ontology that is found
record Before (text : List ℕ) (prefixes : Prefixes) (items : List Item) (found : Found) : Type 0 where
  before : List Item
  whole : items ≡ before ++ found.ontology ∷ found.rest
  are : ArePrefixes text prefixes before found.prefixes
  headed : is_ontology (given text found.prefixes found.ontology).head ≡ true

abbrev declared_as : Prefixes → Result Prefixes OffsetFault
declared_as prefixes = Ok prefixes

-- a prefix that was declared is new or has this IRI
declared_gave : {P : Type 0} (at : ℕ) (prefixes next : Prefixes) (prefix iri : List ℕ) → declared at prefixes (prefix, iri) ≡ Ok next → (iri_of prefixes prefix ≡ None → next ≡ prefixes ++ (prefix, iri) ∷ [] → P) → (iri_of prefixes prefix ≡ Some iri → next ≡ prefixes → P) → P
declared_gave {P} at prefixes next prefix iri e fresh held = by (iri_of prefixes prefix) refl e
  where
    by : (o : Option (List ℕ)) → iri_of prefixes prefix ≡ o → declared_over at prefixes (prefix, iri) o ≡ Ok next → P
    by None is f =
        let both : declared_as next ≡ Ok (prefixes ++ (prefix, iri) ∷ []) = sym e ∙ new_over at prefixes prefix iri is in
        let same : next ≡ prefixes ++ (prefix, iri) ∷ [] = cc in fresh is same
    by (Some h) is f =
        test_passed (bytes_eq h iri) (Ok (with_prefix prefixes prefix iri)) (fault.PrefixClash at) next f (λ test g.
        let with_it : iri_of prefixes prefix ≡ Some iri = is ∙ ap (λ (l : List ℕ). Some l) ((bytes_decides h iri).0 test) in
        let both = sym e ∙ again_over at prefixes prefix iri with_it in
        let same : next ≡ prefixes = cc in held with_it same)

prefixes_stand : (text : List ℕ) (prefixes : Prefixes) (items : List Item) (found : Found) → to_ontology text prefixes items ≡ Ok found → Before text prefixes items found
prefixes_stand text prefixes [] found e = cc
prefixes_stand text prefixes (i ∷ is) found e = by (is_prefix (given text prefixes i).head) refl e (λ next f. prefixes_stand text next is found f)
  where
    other : (b : Bool) → is_ontology (given text prefixes i).head ≡ b → cond {A = Result Found OffsetFault} b (Ok (record { prefixes = prefixes; ontology = i; rest = is })) (Err (fault.Head (given text prefixes i).at)) ≡ Ok found → Before text prefixes (i ∷ is) found
    other true h f = let same : found_at prefixes i is ≡ found = cc in subst (Before text prefixes (i ∷ is)) same (record { before = []; whole = refl; are = none prefixes; headed = h })
    other false h f = cc

    by : (b : Bool) → is_prefix (given text prefixes i).head ≡ b → cond {A = Result Found OffsetFault} b (declared_with prefixes (given text prefixes i) >>= λ more. to_ontology text more is) (cond (is_ontology (given text prefixes i).head) (Ok (record { prefixes = prefixes; ontology = i; rest = is })) (Err (fault.Head (given text prefixes i).at))) ≡ Ok found → ((next : Prefixes) → to_ontology text next is ≡ Ok found → Before text next is found) → Before text prefixes (i ∷ is) found
    by true h f later =
        step_gave (declared_with prefixes (given text prefixes i)) (λ more. to_ontology text more is) found f (λ next r g.
        step_gave (given text prefixes i).prefix (declared (given text prefixes i).at prefixes) next r (λ both read d.
        let one = prefix_stands text prefixes i both.0 both.1 read h in
        let rest = later next g in
        declared_gave (given text prefixes i).at prefixes next both.0 both.1 d
        (λ fresh same. record { before = i ∷ rest.before; whole = ap (λ (l : List Item). i ∷ l) rest.whole; are = new prefixes found.prefixes i rest.before both.0 both.1 one fresh (subst (λ (p : Prefixes). ArePrefixes text p rest.before found.prefixes) same rest.are); headed = rest.headed })
        (λ held same. record { before = i ∷ rest.before; whole = ap (λ (l : List Item). i ∷ l) rest.whole; are = again prefixes found.prefixes i rest.before both.0 both.1 one held (subst (λ (p : Prefixes). ArePrefixes text p rest.before found.prefixes) same rest.are); headed = rest.headed })))
    by false h f later = other (is_ontology (given text prefixes i).head) refl f

-- an ontology is read so
ontology_read : (text : List ℕ) (prefixes : Prefixes) (mode : Mode) (o : Item) (s t : State) → IsOntology text prefixes mode o s t → ((given text prefixes o).ontology mode s ≡ Ok t) × ((given text prefixes o).head ≡ head.Ontology)
ontology_read text prefixes mode _ _ _ (ontology word iris is start end s t is_head are few taken) = (
  ontology_gives text prefixes word (iris ++ is) start end mode s
      ∙ ap (λ (r : Result (List Given) OffsetFault). r >>= λ rest. directs text mode rest s) (iris_read text prefixes mode 2 iris is s t are few taken)
      ∙ directs_read text prefixes mode is s t taken,
  ap (λ (g : Given). g.head) (group_gives text prefixes word (iris ++ is) start end) ∙ is_head,
)

ontology_head : (k : Head) → is_ontology k ≡ true → k ≡ head.Ontology
ontology_head head.Ontology e = refl
ontology_head _ e = cc

ontology_group_stands : (text : List ℕ) (prefixes : Prefixes) (mode : Mode) (word : Token) (is : List Item) (start end : ℕ) (s t : State) → IsHead text word head.Ontology → ontology_group text (map (given text prefixes) is) mode s ≡ Ok t → IsOntology text prefixes mode (item.Group (Some word) is start end) s t
ontology_group_stands text prefixes mode word is start end s t h e =
    step_gave (after_iris 2 (map (given text prefixes) is)) (λ rest. directs text mode rest s) t e (λ rest r f.
    let found = iris_stand text prefixes 2 is rest r in
    subst (λ (l : List Item). IsOntology text prefixes mode (item.Group (Some word) l start end) s t) (sym found.whole)
    (ontology word found.iris found.left start end s t h found.are found.few (directs_stand text prefixes mode found.left s t (ap (λ (gs : List Given). directs text mode gs s) (sym found.same) ∙ f))))

-- what is read as an ontology is one
ontology_stands : (text : List ℕ) (prefixes : Prefixes) (mode : Mode) (s t : State) (o : Item) → (given text prefixes o).ontology mode s ≡ Ok t → is_ontology (given text prefixes o).head ≡ true → IsOntology text prefixes mode o s t
ontology_stands text prefixes mode s t = by_form (λ o. (given text prefixes o).ontology mode s ≡ Ok t → is_ontology (given text prefixes o).head ≡ true → IsOntology text prefixes mode o s t)
    (λ token. λ e h. let bad : Err (fault.Head token.start) ≡ Ok t = sym (ap (λ (g : Given). g.ontology mode s) (atom_gives text prefixes token)) ∙ e in cc)
    (λ is start end. λ e h. let bad : Err (fault.Head start) ≡ Ok t = sym (ap (λ (g : Given). g.ontology mode s) (bare_gives text prefixes is start end)) ∙ e in cc)
    (λ word is start end. λ e h.
    ontology_group_stands text prefixes mode word is start end s t
    (ontology_head (head_of (bytes_of text word)) (sym (ap (λ (g : Given). is_ontology g.head) (group_gives text prefixes word is start end)) ∙ h))
    (sym (ontology_gives text prefixes word is start end mode s) ∙ e))

-- a document is read so
items_read : (text : List ℕ) (mode : Mode) (items : List Item) (s t : State) → IsDocument text mode items s t → document_of text mode items s ≡ Ok t
items_read text mode _ _ _ (document before o prefixes s t are is) =
    let read = ontology_read text prefixes mode o s t is in
    ap (λ (r : Result Found OffsetFault). r >>= λ found. (given text found.prefixes found.ontology).ontology mode s >>= λ next. ended text found.prefixes found.rest next) (prefixes_read text known prefixes before o are read.1)
    ∙ ap (λ (r : Result State OffsetFault). r >>= λ next. ended text prefixes [] next) read.0

ended_gave : {P : Type 0} (text : List ℕ) (prefixes : Prefixes) (rest : List Item) (next last : State) → ended text prefixes rest next ≡ Ok last → (rest ≡ [] → next ≡ last → P) → P
ended_gave text prefixes [] next last e then = let same : next ≡ last = cc in then refl same
ended_gave text prefixes (i ∷ is) next last e then = cc

-- what is read as a document is one
items_stand : (text : List ℕ) (mode : Mode) (items : List Item) (s t : State) → document_of text mode items s ≡ Ok t → IsDocument text mode items s t
items_stand text mode items s t e =
    step_gave (to_ontology text known items) _ t e (λ found r f.
    step_gave ((given text found.prefixes found.ontology).ontology mode s) _ t f (λ next o g.
    ended_gave text found.prefixes found.rest next t g (λ no_more same.
    let first = prefixes_stand text known items found r in
    let whole : items ≡ first.before ++ found.ontology ∷ [] = first.whole ∙ ap (λ (l : List Item). first.before ++ found.ontology ∷ l) no_more in
    subst (λ (l : List Item). IsDocument text mode l s t) (sym whole)
    (document first.before found.ontology found.prefixes s t first.are (ontology_stands text found.prefixes mode s t found.ontology (o ∙ ap (λ (x : State). Ok x) same) first.headed)))))

-- a text of a document is read as it
pub text_read : (text : List ℕ) (mode : Mode) (depth : ℕ) (old later : Names) (d : Document) → IsDocumentText text mode depth old later d → IsReading text mode depth old later d
text_read text mode depth old later d is = record { utf8 = is.utf8; items = is.items; has = is.has; read = items_read text mode is.items (empty, old) (d, later) is.says }

-- and what is read is a text of it
pub text_says : (text : List ℕ) (mode : Mode) (depth : ℕ) (old later : Names) (d : Document) → IsReading text mode depth old later d → IsDocumentText text mode depth old later d
text_says text mode depth old later d is = record { utf8 = is.utf8; items = is.items; has = is.has; says = items_stand text mode is.items (empty, old) (d, later) is.read }

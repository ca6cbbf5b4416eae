-- A document has no more axioms and omitted items than its text has tokens.
use Rattle.std.proofs.Common.{◌≡◌, ℕ, suc, ◌+◌, ◌-◌, ◌≤◌, List, [], ◌∷◌, ◌++◌, length, map, refl, ap, sym, subst, ◌∙◌, arith}
use Rattle.std.specs.Prelude.{nat_eq, Option, Some, None, Result, Ok, Err}
use Rattle.std.proofs.lemmas.List.{length-map, length-append}
use Rattle.ofn_lex.specs.declared.token.Token.{Token}
use Rattle.ofn_term.specs.declared.item.Item.{Item, roll-Item}
use Rattle.ofn_term.specs.declared.item.Item.TheOpen.{Item-F}
use Rattle.ofn_term.specs.declared.item.Item.TheFolds.{ind-Item}
use Rattle.ofn_term.specs.declared.item.Item.TheVariants as item
use Rattle.ofn_term.specs.declared.item.Item.TheVariants.{rolls-Atom, rolls-Group}
use Rattle.ofn_term.specs.Writing.{token_of, item_pieces, pieces, group_pieces, closing, tokens_of}
use Rattle.ofn_heads.specs.declared.iri.Named.{Named}
use Rattle.ofn_heads.specs.declared.iri.Named.TheVariants as named
use Rattle.ofn_heads.specs.Names.{known}
use Rattle.text_names.specs.Prefixes.{Prefixes}
use Rattle.ofn_axiom.specs.declared.fault.OffsetFault.{OffsetFault}
use Rattle.ofn_axiom.specs.declared.fault.OffsetFault.TheVariants as fault
use Rattle.ofn_axiom.specs.declared.types.Direct.{Direct}
use Rattle.ofn_axiom.specs.declared.types.Direct.TheVariants as direct
use Rattle.ofn_axiom.specs.declared.types.Document.{Document}
use Rattle.ofn_axiom.specs.declared.types.Names.{Names}
use Rattle.ofn_axiom.specs.declared.types.Mode.{Mode}
use Rattle.ofn_axiom.specs.declared.types.Mode.TheVariants.{Strict, ElPart}
use Rattle.ofn_axiom.specs.Steps.{◌>>=◌}
use Rattle.ofn_axiom.specs.declared.types.Omitted.{Omitted}
use Rattle.ofn_axiom.specs.Numbers.{with_mentions, direct_mentions, axiom_over}
use Rattle.ofn_axiom.specs.Taking.{State, place_at, taken, added, with_direct, passed_over}
use Rattle.ofn_axiom.specs.Given.{Given, given, after_iri, after_iris, directs, ontology_group}
use Rattle.ofn_axiom.specs.Documents.{declared_with, is_prefix, is_ontology, Found, to_ontology, ended, document_of, empty}
use Rattle.ofn_axiom.proofs.GivenLaws.{atom_gives, bare_gives, ontology_gives}
use Rattle.ofn_axiom.proofs.Gave.{step_gave, test_gave}

-- axioms and omitted items
abbrev pub size : Document → ℕ
size d = length d.axioms + length d.omitted

-- a direct item adds one at most
direct_size : (names : Names) (d : Direct) (document : Document) → size (with_direct names d document) ≤ suc (size document)
direct_size names (direct.Axiom a) document = omega (arith, length-append document.axioms (axiom_over names a ∷ []))
direct_size names direct.Nothing document = omega arith
direct_size names (direct.Class iri) document = omega arith
direct_size names (direct.Property iri) document = omega arith

passed_size : (text : List ℕ) (mode : Mode) (f : OffsetFault) (s next : State) → passed_over text mode f s ≡ Ok next → size next.0 ≤ suc (size s.0)
passed_size text Strict f s next e = cc
passed_size text ElPart (fault.Profile at head) s next e =
    let entry : Omitted = record { place = place_at text at; head = head } in
    let same : size next.0 ≡ length s.0.axioms + length (s.0.omitted ++ entry ∷ []) = ap (λ (r : Result State OffsetFault). size_of r) (sym e) in
    omega (arith, same, length-append s.0.omitted (entry ∷ []))
  where
    size_of : Result State OffsetFault → ℕ
    size_of (Ok n) = size n.0
    size_of (Err x) = 0
passed_size text ElPart (fault.Head at) s next e = cc
passed_size text ElPart (fault.Shape at) s next e = cc
passed_size text ElPart (fault.PrefixUnknown at) s next e = cc
passed_size text ElPart (fault.PrefixClash at) s next e = cc
passed_size text ElPart (fault.NoOntology at) s next e = cc
passed_size text ElPart fault.TooManyClasses s next e = cc
passed_size text ElPart fault.TooManyProperties s next e = cc

taken_size : (text : List ℕ) (mode : Mode) (r : Result Direct OffsetFault) (s next : State) → taken text mode r s ≡ Ok next → size next.0 ≤ suc (size s.0)
taken_size text mode (Ok d) s next e =
    step_gave (with_mentions (direct_mentions d) s.1) (added d s.0) next e (λ names r f.
    let same : with_direct names d s.0 ≡ next.0 = cc in
    subst (λ (k : Document). size k ≤ suc (size s.0)) same (direct_size names d s.0))
taken_size text mode (Err f) s next e = passed_size text mode f s next e

directs_size : (text : List ℕ) (mode : Mode) (gs : List Given) (s next : State) → directs text mode gs s ≡ Ok next → size next.0 ≤ size s.0 + length gs
directs_size text mode [] s next e = let same : s ≡ next = cc in subst (λ (k : State). size k.0 ≤ size s.0 + 0) same (omega arith)
directs_size text mode (g ∷ gs) s next e =
    step_gave (taken text mode g.direct s) (λ more. directs text mode gs more) next e (λ more r f.
    omega (arith, taken_size text mode g.direct s more r, directs_size text mode gs more next f))

-- what follows the IRIs of an ontology is not longer
iri_length : (at : ℕ) (name : Named) (here : List Given) (later : Result (List Given) OffsetFault) (rest : List Given) (n : ℕ) → length here ≤ n → (later ≡ Ok rest → length rest ≤ n) → after_iri at name here later ≡ Ok rest → length rest ≤ n
iri_length at (named.Iri iri) here later rest n first second e = second e
iri_length at named.Unknown here later rest n first second e = cc
iri_length at named.NoIri here later rest n first second e = let same : here ≡ rest = cc in subst (λ (l : List Given). length l ≤ n) same first

iris_length : (n : ℕ) (gs rest : List Given) → after_iris n gs ≡ Ok rest → length rest ≤ length gs
iris_length n [] rest e = let same : [] ≡ rest = cc in subst (λ (l : List Given). length l ≤ 0) same (omega arith)
iris_length n (g ∷ gs) rest e =
    test_gave (nat_eq n 0) (Ok (g ∷ gs)) (after_iri g.at g.name (g ∷ gs) (after_iris (n - 1) gs)) rest e
    (λ f. let same : (g ∷ gs) ≡ rest = cc in subst (λ (l : List Given). length l ≤ suc (length gs)) same (omega arith))
    (λ f. iri_length g.at g.name (g ∷ gs) (after_iris (n - 1) gs) rest (suc (length gs)) (omega arith) (λ later. omega (arith, iris_length (n - 1) gs rest later)) f)

-- tokens of one more item
tokens_more : (i : Item) (is : List Item) → length (tokens_of (i ∷ is)) ≡ length (item_pieces i) + length (tokens_of is)
unfolding pieces
tokens_more i is = length-map (item_pieces i ++ pieces is) token_of ∙ length-append (item_pieces i) (pieces is) ∙ ap (λ (n : ℕ). length (item_pieces i) + n) (sym (length-map (pieces is) token_of))

-- no items have no tokens
tokens_none : length (tokens_of []) ≡ 0
unfolding pieces
tokens_none = refl

-- with what is known of how items are written out
module _ (group : (word : Option Token) (inner : List Item) (start end : ℕ) (items : List Item) → pieces (item.Group word inner start end ∷ items) ≡ group_pieces word (pieces inner) start end ++ pieces items)
    (few : (items : List Item) → length items ≤ length (tokens_of items)) where
  -- a group has the tokens of its items
  inner_tokens : (word : Token) (inner : List Item) (start end : ℕ) → length inner ≤ length (tokens_of (item.Group (Some word) inner start end ∷ []))
  inner_tokens word inner start end =
      let whole = group (Some word) inner start end [] in
      let count : length (tokens_of (item.Group (Some word) inner start end ∷ [])) ≡ length (group_pieces (Some word) (pieces inner) start end ++ pieces []) = length-map (pieces (item.Group (Some word) inner start end ∷ [])) token_of ∙ ap length whole in
      let outer = length-append (group_pieces (Some word) (pieces inner) start end) (pieces []) in
      let first = length-append (pieces inner) (closing end ∷ []) in
      let own = length-map (pieces inner) token_of in
      omega (arith, count, outer, first, own, few inner)

  abbrev OntologyIsSmall : List ℕ → Prefixes → Mode → State → State → Item → Type 0
  OntologyIsSmall text prefixes mode s next i = (given text prefixes i).ontology mode s ≡ Ok next → size next.0 ≤ size s.0 + length (tokens_of (i ∷ []))

  ontology_step : (text : List ℕ) (prefixes : Prefixes) (mode : Mode) (s next : State) (x : Item-F Item) → OntologyIsSmall text prefixes mode s next (roll-Item x)
  ontology_step text prefixes mode s next (Item-F.Atom token) = subst (OntologyIsSmall text prefixes mode s next) (sym (rolls-Atom token)) (λ e.
      let bad : Err (fault.Head token.start) ≡ Ok next = sym (ap (λ (g : Given). g.ontology mode s) (atom_gives text prefixes token)) ∙ e in cc)
  ontology_step text prefixes mode s next (Item-F.Group None is start end) = subst (OntologyIsSmall text prefixes mode s next) (sym (rolls-Group None is start end)) (λ e.
      let bad : Err (fault.Head start) ≡ Ok next = sym (ap (λ (g : Given). g.ontology mode s) (bare_gives text prefixes is start end)) ∙ e in cc)
  ontology_step text prefixes mode s next (Item-F.Group (Some word) is start end) = subst (OntologyIsSmall text prefixes mode s next) (sym (rolls-Group (Some word) is start end)) (λ e.
      let read : ontology_group text (map (given text prefixes) is) mode s ≡ Ok next = sym (ontology_gives text prefixes word is start end mode s) ∙ e in
      step_gave (after_iris 2 (map (given text prefixes) is)) (λ rest. directs text mode rest s) next read (λ rest r f.
      omega (arith, iris_length 2 (map (given text prefixes) is) rest r, directs_size text mode rest s next f, length-map is (given text prefixes), inner_tokens word is start end)))

  -- an ontology
  ontology_size : (text : List ℕ) (prefixes : Prefixes) (mode : Mode) (s next : State) (i : Item) → OntologyIsSmall text prefixes mode s next i
  ontology_size text prefixes mode s next = ind-Item (OntologyIsSmall text prefixes mode s next) (λ x y is. ontology_step text prefixes mode s next x)

  -- the ontology that is found is one of the items
  found_tokens : (text : List ℕ) (prefixes : Prefixes) (items : List Item) (found : Found) → to_ontology text prefixes items ≡ Ok found → length (tokens_of (found.ontology ∷ [])) ≤ length (tokens_of items)
  found_tokens text prefixes [] found e = cc
  found_tokens text prefixes (i ∷ is) found e =
      test_gave (is_prefix (given text prefixes i).head) (declared_with prefixes (given text prefixes i) >>= λ more. to_ontology text more is) _ found e
      (λ f. step_gave (declared_with prefixes (given text prefixes i)) (λ more. to_ontology text more is) found f (λ more r g.
      omega (arith, found_tokens text more is found g, tokens_more i is)))
      (λ f. test_gave (is_ontology (given text prefixes i).head) (Ok (record { prefixes = prefixes; ontology = i; rest = is })) (Err (fault.Head (given text prefixes i).at)) found f
      (λ g. let same : i ≡ found.ontology = cc in
      subst (λ (k : Item). length (tokens_of (k ∷ [])) ≤ length (tokens_of (i ∷ is))) same (omega (arith, tokens_more i is, tokens_more i [], tokens_none)))
      (λ g. cc))

  -- a document
  pub document_size : (text : List ℕ) (mode : Mode) (items : List Item) (old new : Names) (d : Document) → document_of text mode items (empty, old) ≡ Ok (d, new) → size d ≤ length (tokens_of items)
  document_size text mode items old new d e =
      step_gave (to_ontology text known items) _ (d, new) e (λ found r f.
      step_gave ((given text found.prefixes found.ontology).ontology mode (empty, old)) _ (d, new) f (λ next s g.
      ended_case text found.prefixes found.rest next (d, new) g (λ same.
      let small : size next.0 ≤ 0 + length (tokens_of (found.ontology ∷ [])) = ontology_size text found.prefixes mode (empty, old) next found.ontology s in
      subst (λ (k : State). size k.0 ≤ length (tokens_of items)) same (omega (arith, small, found_tokens text known items found r)))))
    where
      ended_case : {P : Type 0} (text : List ℕ) (prefixes : Prefixes) (rest : List Item) (next last : State) → ended text prefixes rest next ≡ Ok last → (next ≡ last → P) → P
      ended_case text prefixes [] next last e then = then (cc)
      ended_case text prefixes (i ∷ is) next last e then = cc

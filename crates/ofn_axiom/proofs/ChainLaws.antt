-- Properties and chains: what stands for them is read as them, and nothing else is.
use Rattle.std.proofs.Common.{◌≡◌, ℕ, Bool, true, cond, List, [], ◌∷◌, ◌++◌, map, refl, ap, sym, subst, ◌∙◌, append-nil, append_assoc}
use Rattle.std.specs.Prelude.{Some, None, Result, Ok, Err}
use Rattle.ofn_lex.specs.declared.token.Token.{Token}
use Rattle.ofn_term.specs.declared.item.Item.{Item, roll-Item}
use Rattle.ofn_term.specs.declared.item.Item.TheOpen.{Item-F}
use Rattle.ofn_term.specs.declared.item.Item.TheFolds.{ind-Item}
use Rattle.ofn_term.specs.declared.item.Item.TheVariants as item
use Rattle.ofn_term.specs.declared.item.Item.TheVariants.{rolls-Atom, rolls-Group}
use Rattle.ofn_term.specs.Words.{bytes_of}
use Rattle.ofn_heads.specs.declared.head.Head.{Head}
use Rattle.ofn_heads.specs.declared.head.Head.TheVariants as head
use Rattle.ofn_heads.specs.Heads.{head_of}
use Rattle.ofn_heads.specs.Names.{name_of_token}
use Rattle.text_names.specs.Prefixes.{Prefixes}
use Rattle.ofn_axiom.specs.declared.fault.OffsetFault.{OffsetFault}
use Rattle.ofn_axiom.specs.declared.fault.OffsetFault.TheVariants as fault
use Rattle.ofn_axiom.specs.Steps.{◌>>=◌}
use Rattle.ofn_axiom.specs.Given.{Given, given, property_named, all_fit, alone, properties_onto, chain_group}
use Rattle.ofn_axiom.specs.StandsFor.{IsHead, property, AreProperties, IsChain, single, chained}
use Rattle.ofn_axiom.proofs.GivenLaws.{atom_gives, bare_gives, group_gives}
use Rattle.ofn_axiom.proofs.Gave.{step_gave, test_passed}
use Rattle.ofn_axiom.proofs.StandsLaws.{iri_name, iri_fits, property_name_read, property_read}
use Rattle.ofn_axiom.proofs.StandsBack.{property_stands, property_token}

-- properties are read, each as its own
pub properties_read : (text : List ℕ) (prefixes : Prefixes) (is : List Item) (iris : List (List ℕ)) → AreProperties text prefixes is iris → (done : List (List ℕ)) → properties_onto done (map (given text prefixes) is) ≡ Ok (done ++ iris)
properties_read text prefixes [] [] each done = ap (λ (l : List (List ℕ)). Ok l) (sym (append-nil done))
properties_read text prefixes [] (iri ∷ iris) each done = absurd each
properties_read text prefixes (i ∷ is) [] each done = absurd each
properties_read text prefixes (i ∷ is) (iri ∷ iris) each done =
    ap (λ (x : Result (List ℕ) OffsetFault). x >>= λ k. properties_onto (done ++ k ∷ []) (map (given text prefixes) is)) (property_read text prefixes i iri each.0).0
    ∙ properties_read text prefixes is iris each.1 (done ++ iri ∷ [])
    ∙ ap (λ (l : List (List ℕ)). Ok l) (append_assoc done (iri ∷ []) iris)

-- each of them fits
pub properties_fit : (text : List ℕ) (prefixes : Prefixes) (is : List Item) (iris : List (List ℕ)) → AreProperties text prefixes is iris → all_fit (map (given text prefixes) is) ≡ true
properties_fit text prefixes [] [] each = refl
properties_fit text prefixes [] (iri ∷ iris) each = absurd each
properties_fit text prefixes (i ∷ is) [] each = absurd each
properties_fit text prefixes (i ∷ is) (iri ∷ iris) each = rw ((property_read text prefixes i iri each.0).1, properties_fit text prefixes is iris each.1) refl

-- one or more
pub some_read : (text : List ℕ) (prefixes : Prefixes) (at : ℕ) (i : Item) (is : List Item) (iris : List (List ℕ)) → AreProperties text prefixes (i ∷ is) iris → cond (all_fit (map (given text prefixes) (i ∷ is))) (properties_onto [] (map (given text prefixes) (i ∷ is))) (Err (fault.Shape at)) ≡ Ok iris
some_read text prefixes at i is iris each =
    ap (λ (b : Bool). cond b (properties_onto [] (map (given text prefixes) (i ∷ is))) (Err (fault.Shape at))) (properties_fit text prefixes (i ∷ is) iris each)
    ∙ properties_read text prefixes (i ∷ is) iris each []

-- a chain is read as what it stands for
pub chain_read : (text : List ℕ) (prefixes : Prefixes) (i : Item) (iris : List (List ℕ)) → IsChain text prefixes i iris → ((given text prefixes i).chain ≡ Ok iris) × ((given text prefixes i).fits ≡ true)
chain_read text prefixes _ _ (single _ iri (property token _ is name)) = (
  ap (λ (g : Given). g.chain) (atom_gives text prefixes token)
      ∙ ap (λ (r : Result (List ℕ) OffsetFault). r >>= alone) (ap (property_named token.start) (iri_name text prefixes token iri is) ∙ property_name_read token.start iri name),
  ap (λ (g : Given). g.fits) (atom_gives text prefixes token) ∙ iri_fits text prefixes token iri is,
)
chain_read text prefixes _ _ (chained word i j is start end iris h each) = (
  ap (λ (g : Given). g.chain) (group_gives text prefixes word (i ∷ j ∷ is) start end)
      ∙ ap (λ (k : Head). chain_group word.start k (map (given text prefixes) (i ∷ j ∷ is))) h
      ∙ some_read text prefixes word.start i (j ∷ is) iris each,
  ap (λ (g : Given). g.fits) (group_gives text prefixes word (i ∷ j ∷ is) start end),
)

-- what several items are read as, after those that are read
pub record PropertiesRest (text : List ℕ) (prefixes : Prefixes) (is : List Item) (done iris : List (List ℕ)) : Type 0 where
  pub rest : List (List ℕ)
  pub whole : iris ≡ done ++ rest
  pub each : AreProperties text prefixes is rest

pub properties_stand : (text : List ℕ) (prefixes : Prefixes) (is : List Item) (done iris : List (List ℕ)) → properties_onto done (map (given text prefixes) is) ≡ Ok iris → PropertiesRest text prefixes is done iris
properties_stand text prefixes [] done iris e = let same : done ≡ iris = cc in record { rest = []; whole = sym same ∙ sym (append-nil done); each = tt }
properties_stand text prefixes (i ∷ is) done iris e =
    step_gave (given text prefixes i).property (λ k. properties_onto (done ++ k ∷ []) (map (given text prefixes) is)) iris e (λ iri r f.
    let later = properties_stand text prefixes is (done ++ iri ∷ []) iris f in
    record { rest = iri ∷ later.rest; whole = later.whole ∙ append_assoc done (iri ∷ []) later.rest; each = (property_stands text prefixes i iri r, later.each) })

-- one or more that are read stand for properties
pub some_stand : (text : List ℕ) (prefixes : Prefixes) (at : ℕ) (i : Item) (is : List Item) (iris : List (List ℕ)) → cond (all_fit (map (given text prefixes) (i ∷ is))) (properties_onto [] (map (given text prefixes) (i ∷ is))) (Err (fault.Shape at)) ≡ Ok iris → AreProperties text prefixes (i ∷ is) iris
some_stand text prefixes at i is iris e =
    test_passed (all_fit (map (given text prefixes) (i ∷ is))) (properties_onto [] (map (given text prefixes) (i ∷ is))) (fault.Shape at) iris e (λ fit read.
    let found = properties_stand text prefixes (i ∷ is) [] iris read in
    subst (λ (l : List (List ℕ)). AreProperties text prefixes (i ∷ is) l) (sym found.whole) found.each)

abbrev StandsForChain : List ℕ → Prefixes → Item → Type 0
StandsForChain text prefixes i = (iris : List (List ℕ)) → (given text prefixes i).chain ≡ Ok iris → IsChain text prefixes i iris

-- a group that is read as a chain
chain_group_stands : (text : List ℕ) (prefixes : Prefixes) (word : Token) (is : List Item) (start end : ℕ) (iris : List (List ℕ)) → chain_group word.start (head_of (bytes_of text word)) (map (given text prefixes) is) ≡ Ok iris → IsChain text prefixes (item.Group (Some word) is start end) iris
chain_group_stands text prefixes word is start end iris = by (head_of (bytes_of text word)) refl
  where
    items : (js : List Item) → IsHead text word head.ObjectPropertyChain → chain_group word.start head.ObjectPropertyChain (map (given text prefixes) js) ≡ Ok iris → IsChain text prefixes (item.Group (Some word) js start end) iris
    items [] h e = cc
    items (i ∷ []) h e = cc
    items (i ∷ j ∷ js) h e = chained word i j js start end iris h (some_stand text prefixes word.start i (j ∷ js) iris e)

    by : (k : Head) → head_of (bytes_of text word) ≡ k → chain_group word.start k (map (given text prefixes) is) ≡ Ok iris → IsChain text prefixes (item.Group (Some word) is start end) iris
    by head.ObjectPropertyChain h e = items is h e
    by _ h e = cc

chain_step : (text : List ℕ) (prefixes : Prefixes) (x : Item-F Item) → StandsForChain text prefixes (roll-Item x)
chain_step text prefixes (Item-F.Atom token) =
    subst (StandsForChain text prefixes) (sym (rolls-Atom token)) (λ iris e.
    let read : (property_named token.start (name_of_token text prefixes token) >>= alone) ≡ Ok iris = sym (ap (λ (g : Given). g.chain) (atom_gives text prefixes token)) ∙ e in
    step_gave (property_named token.start (name_of_token text prefixes token)) alone iris read (λ iri r f.
    let same : iri ∷ [] ≡ iris = cc in
    subst (λ (l : List (List ℕ)). IsChain text prefixes (item.Atom token) l) same (single (item.Atom token) iri (property_token text prefixes token iri r))))
chain_step text prefixes (Item-F.Group None is start end) =
    subst (StandsForChain text prefixes) (sym (rolls-Group None is start end)) (λ iris e.
    let bad : Err (fault.Head start) ≡ Ok iris = sym (ap (λ (g : Given). g.chain) (bare_gives text prefixes is start end)) ∙ e in cc)
chain_step text prefixes (Item-F.Group (Some word) is start end) =
    subst (StandsForChain text prefixes) (sym (rolls-Group (Some word) is start end)) (λ iris e.
    chain_group_stands text prefixes word is start end iris (sym (ap (λ (g : Given). g.chain) (group_gives text prefixes word is start end)) ∙ e))

-- an item that is read as a chain stands for it
pub chain_stands : (text : List ℕ) (prefixes : Prefixes) (i : Item) (iris : List (List ℕ)) → (given text prefixes i).chain ≡ Ok iris → IsChain text prefixes i iris
chain_stands text prefixes = ind-Item (StandsForChain text prefixes) (λ x y is. chain_step text prefixes x)

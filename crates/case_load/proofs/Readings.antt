-- A document that is read is over its names.
use Rattle.std.proofs.Common.{◌≡◌, ◌≤◌, ◌<◌, ℕ, ◌+◌, ◌-◌, ◌^◌, Bool, true, false, cond, List, [], ◌∷◌, length, map, All, sym, ap, subst, ◌∙◌, arith, length-append}
use Rattle.std.specs.Prelude.{Some, None, Result, Ok, Err, nat_eq, ⊤}
use Rattle.std.proofs.lemmas.List.{length-map}
use Rattle.std.proofs.lemmas.List.Elements.{All-nil, All-cons, All-append, All-weaker}
use Rattle.el_logic.specs.declared.types.Axiom.{Axiom}
use Rattle.concept_store.specs.Roles.{IsOver, AreOver, HasChain}
use Rattle.ofn_term.specs.declared.item.Item.{Item, roll-Item}
use Rattle.ofn_term.specs.declared.item.Item.TheOpen.{Item-F}
use Rattle.ofn_term.specs.declared.item.Item.TheFolds.{ind-Item}
use Rattle.ofn_term.specs.declared.item.Item.TheVariants.{rolls-Atom, rolls-Group}
use Rattle.ofn_heads.specs.declared.iri.Named.{Named}
use Rattle.ofn_heads.specs.declared.iri.Named.TheVariants as named
use Rattle.ofn_heads.specs.Names.{known}
use Rattle.text_names.specs.Prefixes.{Prefixes}
use Rattle.ofn_axiom.specs.declared.fault.OffsetFault.{OffsetFault}
use Rattle.ofn_axiom.specs.declared.fault.OffsetFault.TheVariants as fault
use Rattle.ofn_axiom.specs.declared.types.IriAxiom.{IriAxiom}
use Rattle.ofn_axiom.specs.declared.types.IriAxiom.TheVariants as ax
use Rattle.ofn_axiom.specs.declared.types.Direct.{Direct}
use Rattle.ofn_axiom.specs.declared.types.Direct.TheVariants as direct
use Rattle.ofn_axiom.specs.declared.types.Document.{Document}
use Rattle.ofn_axiom.specs.declared.types.Names.{Names}
use Rattle.ofn_axiom.specs.declared.types.Mode.{Mode}
use Rattle.ofn_axiom.specs.declared.types.Mode.TheVariants.{Strict, ElPart}
use Rattle.ofn_axiom.specs.Steps.{◌>>=◌}
use Rattle.ofn_axiom.specs.Numbers.{direct_mentions, with_mentions, axiom_over, number_in}
use Rattle.ofn_axiom.specs.Taking.{State, taken, added, with_direct}
use Rattle.ofn_axiom.specs.Given.{Given, given, after_iri, after_iris, directs, ontology_group}
use Rattle.ofn_axiom.specs.Documents.{declared_with, is_prefix, is_ontology, Found, to_ontology, ended, document_of, empty, IsReading}
use Rattle.case_load.proofs.Cited.{Cited}
use Rattle.case_load.proofs.Steps.{same_value, no_value, both_steps}
use Rattle.case_load.proofs.HeldNames.{AllHeld, IsLater, taken_all}
use Rattle.case_load.proofs.OverNames.{axiom_is_over, axiom_over_more}
use Rattle.case_load.proofs.Widths.{width, width_of, few_tokens, few_items, inner_width, width_parts}
use Rattle.case_load.proofs.Chains.{Fits, DirectFits, IfRead, atom_given, bare_given, group_given, item_is_direct}

-- the axioms so far are over the names so far, and at most so many
record IsSound (count : ℕ) (state : State) : Type 0 where
  few : length state.0.axioms ≤ count
  over : All (IsOver (length state.1.classes.names) (length state.1.roles.names)) state.0.axioms

-- what 32 bits count
abbrev short : ℕ
short = 2 ^ 31

-- a chain over numbers
chain_over : (most : ℕ) (names : Names) (a : IriAxiom) → most < short → Fits most a → HasChain (axiom_over names a)
chain_over most names (ax.SubRole rs s) small fits = let same = length-map rs (number_in names.roles) in (omega (arith, same, fits.0), omega (arith, same, fits.1, small))
chain_over most names (ax.SubClass c d) small fits = tt
chain_over most names (ax.Equivalent cs) small fits = tt
chain_over most names (ax.Disjoint cs) small fits = tt
chain_over most names (ax.EquivalentRoles rs) small fits = tt
chain_over most names (ax.Transitive r) small fits = tt
chain_over most names (ax.Reflexive r) small fits = tt
chain_over most names (ax.Domain r c) small fits = tt

-- the axioms so far, over later names
over_later : (old new : Names) (axioms : List Axiom) → IsLater old new → All (IsOver (length old.classes.names) (length old.roles.names)) axioms → All (IsOver (length new.classes.names) (length new.roles.names)) axioms
over_later old new axioms later =
    All-weaker (IsOver (length old.classes.names) (length old.roles.names)) (IsOver (length new.classes.names) (length new.roles.names))
    (axiom_over_more (length old.classes.names) (length old.roles.names) (length new.classes.names) (length new.roles.names) later.classes later.roles) axioms

-- with what a direct item says
with_direct_sound : (most count : ℕ) (d : Direct) (document : Document) (old new : Names) → most < short → DirectFits most d → IsLater old new → AllHeld new (direct_mentions d) →
    IsSound count (document, old) → IsSound (count + 1) (with_direct new d document, new)
with_direct_sound most count direct.Nothing document old new small fits later held sound =
    record { few = omega (arith, sound.few); over = over_later old new document.axioms later sound.over }
with_direct_sound most count (direct.Class iri) document old new small fits later held sound =
    record { few = omega (arith, sound.few); over = over_later old new document.axioms later sound.over }
with_direct_sound most count (direct.Property iri) document old new small fits later held sound =
    record { few = omega (arith, sound.few); over = over_later old new document.axioms later sound.over }
with_direct_sound most count (direct.Axiom a) document old new small fits later held sound =
    let Over = IsOver (length new.classes.names) (length new.roles.names) in
    record {
      few = omega (arith, sound.few, length-append document.axioms (axiom_over new a ∷ []));
      over = All-append Over document.axioms (axiom_over new a ∷ []) (over_later old new document.axioms later sound.over)
          (All-cons Over (axiom_over new a) [] (axiom_is_over new a held (chain_over most new a small fits)) (All-nil Over));
    }

-- an item that is passed over changes no axiom
passed_sound : (count : ℕ) (state next : State) → next.0.axioms ≡ state.0.axioms → next.1 ≡ state.1 → IsSound count state → IsSound (count + 1) next
passed_sound count state next axioms names sound = record {
  few = omega (arith, ap length axioms, sound.few);
  over = subst (λ (l : List Axiom). All (IsOver (length next.1.classes.names) (length next.1.roles.names)) l) (sym axioms)
      (subst (λ (n : Names). All (IsOver (length n.classes.names) (length n.roles.names)) state.0.axioms) (sym names) sound.over);
}

-- of several, each after the ones before
abbrev AreDirect : ℕ → List Given → Type 0
AreDirect most [] = ⊤
AreDirect most (g ∷ gs) = IfRead (DirectFits most) g.direct × AreDirect most gs

module _ (cited : Cited) (text : List ℕ) where
  taken_sound : (most count : ℕ) (mode : Mode) (r : Result Direct OffsetFault) (state next : State) → most < short → IfRead (DirectFits most) r → taken text mode r state ≡ Ok next → IsSound count state → IsSound (count + 1) next
  taken_sound most count mode (Ok d) state next small fits e sound =
      let steps = both_steps (with_mentions (direct_mentions d) state.1) (added d state.0) next e in
      let all = taken_all cited (direct_mentions d) state.1 steps.0 steps.1 in
      subst (IsSound (count + 1)) (same_value (with_direct steps.0 d state.0, steps.0) next steps.2)
      (with_direct_sound most count d state.0 state.1 steps.0 small fits all.0 all.1 sound)
  taken_sound most count ElPart (Err (fault.Profile at head)) state next small fits e sound =
      let same = same_value _ next e in
      passed_sound count state next (sym (ap (λ (s : State). s.0.axioms) same)) (sym (ap (λ (s : State). s.1) same)) sound
  taken_sound most count Strict (Err f) state next small fits e sound = absurd (no_value f next e)
  taken_sound most count ElPart (Err (fault.Head at)) state next small fits e sound = absurd (no_value (fault.Head at) next e)
  taken_sound most count ElPart (Err (fault.Shape at)) state next small fits e sound = absurd (no_value (fault.Shape at) next e)
  taken_sound most count ElPart (Err (fault.PrefixUnknown at)) state next small fits e sound = absurd (no_value (fault.PrefixUnknown at) next e)
  taken_sound most count ElPart (Err (fault.PrefixClash at)) state next small fits e sound = absurd (no_value (fault.PrefixClash at) next e)
  taken_sound most count ElPart (Err (fault.NoOntology at)) state next small fits e sound = absurd (no_value (fault.NoOntology at) next e)
  taken_sound most count ElPart (Err fault.TooManyClasses) state next small fits e sound = absurd (no_value fault.TooManyClasses next e)
  taken_sound most count ElPart (Err fault.TooManyProperties) state next small fits e sound = absurd (no_value fault.TooManyProperties next e)

  -- direct items, one after another
  directs_sound : (most count : ℕ) (mode : Mode) (gs : List Given) (state next : State) → most < short → AreDirect most gs → directs text mode gs state ≡ Ok next → IsSound count state → IsSound (count + length gs) next
  directs_sound most count mode [] state next small fits e sound =
      let same : count + 0 ≡ count = omega arith in
      subst (λ n. IsSound n next) (sym same) (subst (IsSound count) (same_value state next e) sound)
  directs_sound most count mode (g ∷ gs) state next small fits e sound =
      let steps = both_steps (taken text mode g.direct state) (λ s. directs text mode gs s) next e in
      let one = taken_sound most count mode g.direct state steps.0 small fits.0 steps.1 sound in
      let same : (count + 1) + length gs ≡ count + length (g ∷ gs) = omega arith in
      subst (λ n. IsSound n next) same (directs_sound most (count + 1) mode gs steps.0 next small fits.1 steps.2 one)

  -- what follows IRIs is some of the items
  record IsSome (most : ℕ) (gs rest : List Given) : Type 0 where
    few : length rest ≤ length gs
    fits : AreDirect most rest

  -- an IRI, or the first item that is none
  after_one : (most at : ℕ) (name : Named) (g : Given) (gs rest : List Given) (later : Result (List Given) OffsetFault) → AreDirect most (g ∷ gs) → (later ≡ Ok rest → IsSome most gs rest) →
      after_iri at name (g ∷ gs) later ≡ Ok rest → IsSome most (g ∷ gs) rest
  after_one most at (named.Iri iri) g gs rest later fits more e = let some = more e in record { few = omega (arith, some.few); fits = some.fits }
  after_one most at named.Unknown g gs rest later fits more e = absurd (no_value (fault.PrefixUnknown at) rest e)
  after_one most at named.NoIri g gs rest later fits more e =
      let same = same_value (g ∷ gs) rest e in
      record { few = let l = ap length same in omega (arith, l); fits = subst (AreDirect most) same fits }

  -- several IRIs
  after_some : (most n : ℕ) (gs rest : List Given) → AreDirect most gs → after_iris n gs ≡ Ok rest → IsSome most gs rest
  after_some most n [] rest fits e = let same = same_value [] rest e in record { few = let l = ap length same in omega (arith, l); fits = subst (AreDirect most) same fits }
  after_some most n (g ∷ gs) rest fits e = by (after_some most (n - 1) gs rest fits.1) (nat_eq n 0) e
    where
      by : (after_iris (n - 1) gs ≡ Ok rest → IsSome most gs rest) → (b : Bool) → cond b (Ok (g ∷ gs)) (after_iri g.at g.name (g ∷ gs) (after_iris (n - 1) gs)) ≡ Ok rest → IsSome most (g ∷ gs) rest
      by more true h = let same = same_value (g ∷ gs) rest h in record { few = let l = ap length same in omega (arith, l); fits = subst (AreDirect most) same fits }
      by more false h = after_one most g.at g.name g gs rest (after_iris (n - 1) gs) fits more h

  -- an ontology, from an empty document
  ontology_sound : (most : ℕ) (mode : Mode) (gs : List Given) (state next : State) → most < short → length gs ≤ most → AreDirect most gs → IsSound 0 state → ontology_group text gs mode state ≡ Ok next → IsSound most next
  ontology_sound most mode gs state next small few fits sound e =
      let steps = both_steps (after_iris 2 gs) (λ rest. directs text mode rest state) next e in
      let some = after_some most 2 gs steps.0 fits steps.1 in
      let all = directs_sound most 0 mode steps.0 state next small some.fits steps.2 sound in
      record { few = omega (arith, all.few, some.few, few); over = all.over }

  module _ (prefixes : Prefixes) where
    all_direct : (most : ℕ) (is : List Item) → width_of is ≤ most → AreDirect most (map (given text prefixes) is)
    all_direct most [] wide = tt
    all_direct most (i ∷ is) wide =
        let parts = width_parts i is in
        (item_is_direct cited text prefixes i most (omega (arith, parts, wide)), all_direct most is (omega (arith, parts, wide)))

    -- what an item says as an ontology is sound
    abbrev IsOntology : Item → Type 0
    IsOntology i = (most : ℕ) (mode : Mode) (state next : State) → most < short → width i ≤ most → IsSound 0 state → (given text prefixes i).ontology mode state ≡ Ok next → IsSound most next

    -- one layer of an item
    ontology_step : (x : Item-F Item) → IsOntology (roll-Item x)
    ontology_step (Item-F.Atom token) = subst IsOntology (sym (rolls-Atom token)) (λ most mode state next small wide sound e.
        absurd (no_value (fault.Head token.start) next (sym (ap (λ (g : Given). g.ontology mode state) (atom_given cited text prefixes token)) ∙ e)))
    ontology_step (Item-F.Group None is start end) = subst IsOntology (sym (rolls-Group None is start end)) (λ most mode state next small wide sound e.
        absurd (no_value (fault.Head start) next (sym (ap (λ (g : Given). g.ontology mode state) (bare_given cited text prefixes is start end)) ∙ e)))
    ontology_step (Item-F.Group (Some word) is start end) = subst IsOntology (sym (rolls-Group (Some word) is start end)) (λ most mode state next small wide sound e.
        let gs = map (given text prefixes) is in
        let inner : width_of is ≤ most = omega (arith, inner_width cited (Some word) is start end, wide) in
        let few : length gs ≤ most = omega (arith, length-map is (given text prefixes), few_items cited is, inner) in
        ontology_sound most mode gs state next small few (all_direct most is inner) sound
        (sym (ap (λ (g : Given). g.ontology mode state) (group_given cited text prefixes word is start end)) ∙ e))

    -- each item
    ontology_is : (i : Item) → IsOntology i
    ontology_is = ind-Item IsOntology (λ x y is. ontology_step x)

  -- the ontology is one of the items
  found_width : (prefixes : Prefixes) (items : List Item) (found : Found) → to_ontology text prefixes items ≡ Ok found → width found.ontology ≤ width_of items
  found_width prefixes [] found e = absurd (no_value (fault.NoOntology (length text)) found e)
  found_width prefixes (i ∷ is) found e = by (λ more. found_width more is found) (width_parts i is) (is_prefix (given text prefixes i).head) e
    where
      here : width_of (i ∷ is) ≡ width i + width_of is → (b : Bool) → cond b (Ok (record { prefixes = prefixes; ontology = i; rest = is })) (Err (fault.Head (given text prefixes i).at)) ≡ Ok found → width found.ontology ≤ width_of (i ∷ is)
      here parts true h = let same = ap (λ (f : Found). width f.ontology) (same_value _ found h) in omega (arith, same, parts)
      here parts false h = absurd (no_value (fault.Head (given text prefixes i).at) found h)

      by : ((more : Prefixes) → to_ontology text more is ≡ Ok found → width found.ontology ≤ width_of is) → width_of (i ∷ is) ≡ width i + width_of is → (b : Bool) → cond b (declared_with prefixes (given text prefixes i) >>= λ more. to_ontology text more is)
          (cond (is_ontology (given text prefixes i).head) (Ok (record { prefixes = prefixes; ontology = i; rest = is })) (Err (fault.Head (given text prefixes i).at))) ≡ Ok found → width found.ontology ≤ width_of (i ∷ is)
      by deeper parts true h =
          let steps = both_steps (declared_with prefixes (given text prefixes i)) (λ more. to_ontology text more is) found h in
          let later = deeper steps.0 steps.2 in
          omega (arith, later, parts)
      by deeper parts false h = here parts (is_ontology (given text prefixes i).head) h

  -- what follows the ontology adds nothing
  ended_same : (prefixes : Prefixes) (items : List Item) (state next : State) → ended text prefixes items state ≡ Ok next → state ≡ next
  ended_same prefixes [] state next e = same_value state next e
  ended_same prefixes (i ∷ is) state next e = absurd (no_value (fault.Head (given text prefixes i).at) next e)

  -- a whole document
  document_sound : (most : ℕ) (mode : Mode) (items : List Item) (names : Names) (next : State) → most < short → width_of items ≤ most → document_of text mode items (empty, names) ≡ Ok next → IsSound most next
  document_sound most mode items names next small wide e =
      let start : IsSound 0 (empty, names) = record { few = omega arith; over = All-nil (IsOver (length names.classes.names) (length names.roles.names)) } in
      let found = both_steps (to_ontology text known items) (λ found. (given text found.prefixes found.ontology).ontology mode (empty, names) >>= λ next. ended text found.prefixes found.rest next) next e in
      let read = both_steps ((given text found.0.prefixes found.0.ontology).ontology mode (empty, names)) (λ next. ended text found.0.prefixes found.0.rest next) next found.2 in
      let within : width found.0.ontology ≤ most = omega (arith, found_width known items found.0 found.1, wide) in
      subst (IsSound most) (ended_same found.0.prefixes found.0.rest read.0 next read.2)
      (ontology_is found.0.prefixes found.0.ontology most mode (empty, names) read.0 small within start read.1)

-- the axioms of a reading are over the names that are then held
pub reading_is_over : Cited → (text : List ℕ) (mode : Mode) (depth : ℕ) (old new : Names) (document : Document) → length text < 2 ^ 31 → IsReading text mode depth old new document →
    AreOver (length new.classes.names) (length new.roles.names) document.axioms
reading_is_over cited text mode depth old new document small is =
    let sound = document_sound cited text (length text) mode is.items old (document, new) small (few_tokens cited text depth is.items is.has) is.read in
    record { few = omega (arith, sound.few, small); each = sound.over }

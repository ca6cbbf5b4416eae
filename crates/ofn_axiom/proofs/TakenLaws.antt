-- Names and direct items of an ontology: what is taken is read so, and nothing else is.
use Rattle.std.proofs.Common.{◌≡◌, ◌≢◌, ℕ, ◌-◌, ◌≤◌, Bool, true, false, cond, List, [], ◌∷◌, ◌++◌, length, map, refl, ap, sym, subst, ◌∙◌, arith}
use Rattle.std.specs.Prelude.{nat_eq, ◌==◌, Some, None, Result, Ok, Err}
use Rattle.std.proofs.lemmas.Bool.Decides.{nat_tests}
use Rattle.ofn_term.specs.declared.item.Item.{Item}
use Rattle.ofn_heads.specs.declared.iri.Named.{Named}
use Rattle.ofn_heads.specs.declared.iri.Named.TheVariants as named
use Rattle.text_names.specs.Names.{Numbering, is_held}
use Rattle.text_names.specs.Prefixes.{Prefixes}
use Rattle.ofn_axiom.specs.declared.fault.OffsetFault.{OffsetFault}
use Rattle.ofn_axiom.specs.declared.fault.OffsetFault.TheVariants as fault
use Rattle.ofn_axiom.specs.declared.types.Direct.{Direct}
use Rattle.ofn_axiom.specs.declared.types.Mention.{Mention}
use Rattle.ofn_axiom.specs.declared.types.Mention.TheVariants as mention
use Rattle.ofn_axiom.specs.declared.types.Names.{Names}
use Rattle.ofn_axiom.specs.declared.types.Mode.{Mode}
use Rattle.ofn_axiom.specs.declared.types.Mode.TheVariants.{Strict, ElPart}
use Rattle.ofn_axiom.specs.Steps.{◌>>=◌}
use Rattle.ofn_axiom.specs.Numbers.{is_full_for, held_in, with_mention, with_mentions, direct_mentions}
use Rattle.ofn_axiom.specs.Taking.{State, place_at, with_direct, with_omitted, added, passed_over, taken}
use Rattle.ofn_axiom.specs.Given.{Given, given, directs, after_iri, after_iris}
use Rattle.ofn_axiom.specs.DocumentText.{AreHeld, no_more, held_class, new_class, held_property, new_property, IsTaken, said, omitted, AreTaken, all_taken, one_taken, IsIriItem, AreIris}
use Rattle.ofn_axiom.proofs.Forms.{by_form}
use Rattle.ofn_axiom.proofs.Gave.{step_gave, test_failed}
use Rattle.ofn_axiom.proofs.GivenLaws.{atom_gives, group_has_no_name}
use Rattle.ofn_axiom.proofs.StandsLaws.{iri_name}
use Rattle.ofn_axiom.proofs.OutsideLaws.{outside_read}
use Rattle.ofn_axiom.proofs.OutsideAxioms.{outside_stands}
use Rattle.ofn_axiom.proofs.DirectLaws.{direct_read, direct_says, named_item}

-- a name that is held leaves a table as it is
old_name : (table : Numbering) (name : List ℕ) → is_held table.names name ≡ true → (is_full_for table name ≡ false) × (held_in table name ≡ table)
old_name table name held = (rw held refl, rw held refl)

-- a name that is new
new_name : (table : Numbering) (name : List ℕ) → is_held table.names name ≡ false → length table.names ≢ table.most → (is_full_for table name ≡ false) × (held_in table name ≡ record { names = table.names ++ name ∷ []; most = table.most })
new_name table name held room = (by (length table.names == table.most) refl, rw held refl)
  where
    by : (b : Bool) → (length table.names == table.most) ≡ b → is_full_for table name ≡ false
    by true e = let same : length table.names ≡ table.most = grind (arith, nat_tests) in absurd (room same)
    by false e = rw (held, e) refl

-- what a name does to a table that is not full for it
data IsNamed (table : Numbering) (name : List ℕ) : Type 0 where
  is_old : is_held table.names name ≡ true → held_in table name ≡ table → IsNamed table name
  is_new : is_held table.names name ≡ false → length table.names ≢ table.most → held_in table name ≡ record { names = table.names ++ name ∷ []; most = table.most } → IsNamed table name

named_in : (table : Numbering) (name : List ℕ) → is_full_for table name ≡ false → IsNamed table name
named_in table name free = by (is_held table.names name) refl
  where
    by : (b : Bool) → is_held table.names name ≡ b → IsNamed table name
    by true held = is_old held (rw held refl)
    by false held = is_new held (λ same. let full : (length table.names == table.most) ≡ true = grind (arith, nat_tests) in let yes : is_full_for table name ≡ true = rw (held, full) refl in let both : true ≡ false = sym yes ∙ free in cc) (rw held refl)

-- the names with one more table
abbrev with_classes : Numbering → Names → Names
with_classes table names = record { classes = table; roles = names.roles }

abbrev with_roles : Numbering → Names → Names
with_roles table names = record { classes = names.classes; roles = table }

class_mention : (name : List ℕ) (names : Names) (table : Numbering) → is_full_for names.classes name ≡ false → held_in names.classes name ≡ table → with_mention (mention.Class name) names ≡ Ok (with_classes table names)
class_mention name names table free same =
    ap (λ (b : Bool). cond b (Err fault.TooManyClasses) (Ok (with_classes (held_in names.classes name) names))) free ∙ ap (λ (t : Numbering). Ok (with_classes t names)) same

role_mention : (name : List ℕ) (names : Names) (table : Numbering) → is_full_for names.roles name ≡ false → held_in names.roles name ≡ table → with_mention (mention.Property name) names ≡ Ok (with_roles table names)
role_mention name names table free same =
    ap (λ (b : Bool). cond b (Err fault.TooManyProperties) (Ok (with_roles (held_in names.roles name) names))) free ∙ ap (λ (t : Numbering). Ok (with_roles t names)) same

-- names are read in order
held_read : (ms : List Mention) (names more : Names) → AreHeld ms names more → with_mentions ms names ≡ Ok more
held_read _ _ _ (no_more names) = refl
held_read _ _ _ (held_class name ms names more held rest) =
    let old = old_name names.classes name held in
    ap (λ (r : Result Names OffsetFault). r >>= λ n. with_mentions ms n) (class_mention name names names.classes old.0 old.1) ∙ held_read ms names more rest
held_read _ _ _ (new_class name ms names more held room rest) =
    let added = new_name names.classes name held room in
    ap (λ (r : Result Names OffsetFault). r >>= λ n. with_mentions ms n) (class_mention name names _ added.0 added.1) ∙ held_read ms _ more rest
held_read _ _ _ (held_property name ms names more held rest) =
    let old = old_name names.roles name held in
    ap (λ (r : Result Names OffsetFault). r >>= λ n. with_mentions ms n) (role_mention name names names.roles old.0 old.1) ∙ held_read ms names more rest
held_read _ _ _ (new_property name ms names more held room rest) =
    let added = new_name names.roles name held room in
    ap (λ (r : Result Names OffsetFault). r >>= λ n. with_mentions ms n) (role_mention name names _ added.0 added.1) ∙ held_read ms _ more rest

-- names that are read are held so
held_stands : (ms : List Mention) (names more : Names) → with_mentions ms names ≡ Ok more → AreHeld ms names more
held_stands [] names more e = let same : names ≡ more = cc in subst (AreHeld [] names) same (no_more names)
held_stands (mention.Class name ∷ ms) names more e =
    step_gave (with_mention (mention.Class name) names) (λ n. with_mentions ms n) more e (λ next r f.
    test_failed (is_full_for names.classes name) (Ok (with_classes (held_in names.classes name) names)) fault.TooManyClasses next r (λ free g.
    let same : with_classes (held_in names.classes name) names ≡ next = cc in
    class_case name ms names more (named_in names.classes name free) (λ table t. subst (λ (n : Names). AreHeld ms n more) (sym same ∙ ap (λ (x : Numbering). with_classes x names) t) (held_stands ms next more f))))
  where
    class_case : (name : List ℕ) (ms : List Mention) (names more : Names) → IsNamed names.classes name → ((table : Numbering) → held_in names.classes name ≡ table → AreHeld ms (with_classes table names) more) → AreHeld (mention.Class name ∷ ms) names more
    class_case name ms names more (is_old held same) later = held_class name ms names more held (later names.classes same)
    class_case name ms names more (is_new held room same) later = new_class name ms names more held room (later _ same)
held_stands (mention.Property name ∷ ms) names more e =
    step_gave (with_mention (mention.Property name) names) (λ n. with_mentions ms n) more e (λ next r f.
    test_failed (is_full_for names.roles name) (Ok (with_roles (held_in names.roles name) names)) fault.TooManyProperties next r (λ free g.
    let same : with_roles (held_in names.roles name) names ≡ next = cc in
    role_case name ms names more (named_in names.roles name free) (λ table t. subst (λ (n : Names). AreHeld ms n more) (sym same ∙ ap (λ (x : Numbering). with_roles x names) t) (held_stands ms next more f))))
  where
    role_case : (name : List ℕ) (ms : List Mention) (names more : Names) → IsNamed names.roles name → ((table : Numbering) → held_in names.roles name ≡ table → AreHeld ms (with_roles table names) more) → AreHeld (mention.Property name ∷ ms) names more
    role_case name ms names more (is_old held same) later = held_property name ms names more held (later names.roles same)
    role_case name ms names more (is_new held room same) later = new_property name ms names more held room (later _ same)

-- a direct item that is taken is read so
taken_read : (text : List ℕ) (prefixes : Prefixes) (mode : Mode) (i : Item) (s t : State) → IsTaken text prefixes mode i s t → taken text mode (given text prefixes i).direct s ≡ Ok t
taken_read text prefixes mode _ _ _ (said i d s more is held) =
    ap (λ (r : Result Direct OffsetFault). taken text mode r s) (direct_read text prefixes i d is)
    ∙ ap (λ (r : Result Names OffsetFault). r >>= added d s.0) (held_read (direct_mentions d) s.1 more held)
taken_read text prefixes mode _ _ _ (omitted i at outside s el is) =
    ap (λ (r : Result Direct OffsetFault). taken text mode r s) (outside_read text prefixes i at outside is)
    ∙ ap (λ (m : Mode). passed_over text m (fault.Profile at outside) s) el

-- a direct item that is read is taken so
taken_stands : (text : List ℕ) (prefixes : Prefixes) (mode : Mode) (i : Item) (s t : State) → taken text mode (given text prefixes i).direct s ≡ Ok t → IsTaken text prefixes mode i s t
taken_stands text prefixes mode i s t = by (given text prefixes i).direct refl
  where
    over : (m : Mode) (f : OffsetFault) → mode ≡ m → (given text prefixes i).direct ≡ Err f → passed_over text m f s ≡ Ok t → IsTaken text prefixes mode i s t
    over ElPart (fault.Profile at outside) el is e = let same : (with_omitted (record { place = place_at text at; head = outside }) s.0, s.1) ≡ t = cc in subst (IsTaken text prefixes mode i s) same (omitted i at outside s el (outside_stands text prefixes i at outside is))
    over ElPart (fault.Head at) el is e = cc
    over ElPart (fault.Shape at) el is e = cc
    over ElPart (fault.PrefixUnknown at) el is e = cc
    over ElPart (fault.PrefixClash at) el is e = cc
    over ElPart (fault.NoOntology at) el is e = cc
    over ElPart fault.TooManyClasses el is e = cc
    over ElPart fault.TooManyProperties el is e = cc
    over Strict f el is e = cc

    by : (r : Result Direct OffsetFault) → (given text prefixes i).direct ≡ r → taken text mode r s ≡ Ok t → IsTaken text prefixes mode i s t
    by (Ok d) is e =
        step_gave (with_mentions (direct_mentions d) s.1) (added d s.0) t e (λ more r f.
        let same : (with_direct more d s.0, more) ≡ t = cc in
        subst (IsTaken text prefixes mode i s) same (said i d s more (direct_says text prefixes i d is) (held_stands (direct_mentions d) s.1 more r)))
    by (Err f) is e = over mode f refl is e

-- direct items, each in its turn
pub directs_read : (text : List ℕ) (prefixes : Prefixes) (mode : Mode) (is : List Item) (s t : State) → AreTaken text prefixes mode is s t → directs text mode (map (given text prefixes) is) s ≡ Ok t
directs_read text prefixes mode _ _ _ (all_taken s) = refl
directs_read text prefixes mode _ _ _ (one_taken i is s next last first rest) =
    ap (λ (r : Result State OffsetFault). r >>= λ n. directs text mode (map (given text prefixes) is) n) (taken_read text prefixes mode i s next first)
    ∙ directs_read text prefixes mode is next last rest

pub directs_stand : (text : List ℕ) (prefixes : Prefixes) (mode : Mode) (is : List Item) (s t : State) → directs text mode (map (given text prefixes) is) s ≡ Ok t → AreTaken text prefixes mode is s t
directs_stand text prefixes mode [] s t e = let same : s ≡ t = cc in subst (AreTaken text prefixes mode [] s) same (all_taken s)
directs_stand text prefixes mode (i ∷ is) s t e =
    step_gave (taken text mode (given text prefixes i).direct s) (λ n. directs text mode (map (given text prefixes) is) n) t e (λ next r f.
    one_taken i is s next t (taken_stands text prefixes mode i s next r) (directs_stand text prefixes mode is next t f))

-- a direct item is no IRI
no_atom : (text : List ℕ) (mode : Mode) (at : ℕ) (s t : State) → taken text mode (Err (fault.Head at)) s ≡ Ok t → ⊥
no_atom text Strict at s t e = cc
no_atom text ElPart at s t e = cc

direct_has_no_name : (text : List ℕ) (prefixes : Prefixes) (mode : Mode) (s t : State) (i : Item) → taken text mode (given text prefixes i).direct s ≡ Ok t → (given text prefixes i).name ≡ named.NoIri
direct_has_no_name text prefixes mode s t = by_form (λ i. taken text mode (given text prefixes i).direct s ≡ Ok t → (given text prefixes i).name ≡ named.NoIri)
    (λ token. λ e. absurd (no_atom text mode token.start s t (sym (ap (λ (g : Given). taken text mode g.direct s) (atom_gives text prefixes token)) ∙ e)))
    (λ is start end. λ e. group_has_no_name text prefixes None is start end)
    (λ word is start end. λ e. group_has_no_name text prefixes (Some word) is start end)

-- so they begin after the IRIs
directs_begin : (text : List ℕ) (prefixes : Prefixes) (mode : Mode) (n : ℕ) (is : List Item) (s t : State) → AreTaken text prefixes mode is s t → after_iris n (map (given text prefixes) is) ≡ Ok (map (given text prefixes) is)
directs_begin text prefixes mode n _ _ _ (all_taken s) = refl
directs_begin text prefixes mode n _ _ _ (one_taken i is s next last first rest) = by (nat_eq n 0)
  where
    by : (b : Bool) → cond {A = Result (List Given) OffsetFault} b (Ok (given text prefixes i ∷ map (given text prefixes) is)) (after_iri (given text prefixes i).at (given text prefixes i).name (given text prefixes i ∷ map (given text prefixes) is) (after_iris (n - 1) (map (given text prefixes) is))) ≡ Ok (given text prefixes i ∷ map (given text prefixes) is)
    by true = refl
    by false = ap (λ (name : Named). after_iri (given text prefixes i).at name (given text prefixes i ∷ map (given text prefixes) is) (after_iris (n - 1) (map (given text prefixes) is))) (direct_has_no_name text prefixes mode s next i (taken_read text prefixes mode i s next first))

-- the name of an IRI
iri_item_name : (text : List ℕ) (prefixes : Prefixes) (i : Item) (is : IsIriItem text prefixes i) → (given text prefixes i).name ≡ named.Iri is.iri
iri_item_name text prefixes i is = ap (λ (j : Item). (given text prefixes j).name) is.same ∙ ap (λ (g : Given). g.name) (atom_gives text prefixes is.token) ∙ iri_name text prefixes is.token is.iri is.is

pub iris_read : (text : List ℕ) (prefixes : Prefixes) (mode : Mode) (n : ℕ) (iris is : List Item) (s t : State) → AreIris text prefixes iris → length iris ≤ n → AreTaken text prefixes mode is s t → after_iris n (map (given text prefixes) (iris ++ is)) ≡ Ok (map (given text prefixes) is)
iris_read text prefixes mode n [] is s t are few rest = directs_begin text prefixes mode n is s t rest
iris_read text prefixes mode n (i ∷ iris) is s t are few rest =
    let test : nat_eq n 0 ≡ false = grind (arith, nat_tests) in
    let fewer : length iris ≤ n - 1 = omega arith in
    let gs = map (given text prefixes) (iris ++ is) in
    ap (λ (b : Bool). cond b (Ok (given text prefixes i ∷ gs)) (after_iri (given text prefixes i).at (given text prefixes i).name (given text prefixes i ∷ gs) (after_iris (n - 1) gs))) test
    ∙ ap (λ (name : Named). after_iri (given text prefixes i).at name (given text prefixes i ∷ gs) (after_iris (n - 1) gs)) (iri_item_name text prefixes i are.0)
    ∙ iris_read text prefixes mode (n - 1) iris is s t are.1 fewer rest

-- what is before the direct items
pub record AfterIris (text : List ℕ) (prefixes : Prefixes) (n : ℕ) (is : List Item) (rest : List Given) : Type 0 where
  pub iris : List Item
  pub left : List Item
  pub whole : is ≡ iris ++ left
  pub are : AreIris text prefixes iris
  pub few : length iris ≤ n
  pub same : rest ≡ map (given text prefixes) left

pub iris_stand : (text : List ℕ) (prefixes : Prefixes) (n : ℕ) (is : List Item) (rest : List Given) → after_iris n (map (given text prefixes) is) ≡ Ok rest → AfterIris text prefixes n is rest
iris_stand text prefixes n [] rest e = let same : [] ≡ rest = cc in record { iris = []; left = []; whole = refl; are = tt; few = omega arith; same = sym same }
iris_stand text prefixes n (i ∷ is) rest e = by (nat_eq n 0) refl (given text prefixes i).name refl (iris_stand text prefixes (n - 1) is rest) e
  where
    by : (b : Bool) → nat_eq n 0 ≡ b → (name : Named) → (given text prefixes i).name ≡ name → (after_iris (n - 1) (map (given text prefixes) is) ≡ Ok rest → AfterIris text prefixes (n - 1) is rest) → cond {A = Result (List Given) OffsetFault} b (Ok (map (given text prefixes) (i ∷ is))) (after_iri (given text prefixes i).at name (map (given text prefixes) (i ∷ is)) (after_iris (n - 1) (map (given text prefixes) is))) ≡ Ok rest → AfterIris text prefixes n (i ∷ is) rest
    by true t name is_name later f = let same : map (given text prefixes) (i ∷ is) ≡ rest = cc in record { iris = []; left = i ∷ is; whole = refl; are = tt; few = omega arith; same = sym same }
    by false t (named.Iri iri) is_name later f =
        let found = named_item text prefixes i iri is_name in
        let after = later f in
        let one : 1 ≤ n = grind (arith, nat_tests) in
        let fewer = after.few in
        record {
          iris = i ∷ after.iris;
          left = after.left;
          whole = ap (λ (l : List Item). i ∷ l) after.whole;
          are = (record { token = found.token; iri = iri; same = found.same; is = found.is }, after.are);
          few = omega (arith, one, fewer);
          same = after.same;
        }
    by false t named.Unknown is_name later f = cc
    by false t named.NoIri is_name later f = let same : map (given text prefixes) (i ∷ is) ≡ rest = cc in record { iris = []; left = i ∷ is; whole = refl; are = tt; few = omega arith; same = sym same }

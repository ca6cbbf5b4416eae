-- What lists of pairs show of axioms over properties.
use Rattle.std.proofs.Common.{◌≡◌, ◌<◌, ◌≤◌, ℕ, List, [], ◌∷◌, ◌++◌, length, All, Contains, ⊎_elim, sym, subst, refl, arith}
use Rattle.std.specs.Prelude.{◌↔◌}
use Rattle.std.proofs.lemmas.Bool.{cases_lt}
use Rattle.std.proofs.lemmas.List.{get_or_past}
use Rattle.std.proofs.lemmas.List.Elements.{All-contains, All-weaker}
use Rattle.el_logic.specs.declared.types.Interp.{Interp}
use Rattle.el_logic.specs.declared.types.Axiom.TheVariants.{EquivalentRoles, Transitive}
use Rattle.el_logic.specs.Meaning.{IsInterp, AreRelated, AreChained, Holds, pairs_of}
use Rattle.closed_model.specs.Models.{HaveTheSame}
use Rattle.model_members.specs.Inside.Pairs.{HasPairs, Lead}

-- what is related are elements
pub pairs_below : (i : Interp) (r x y : ℕ) → IsInterp (length i.classes) (length i.roles) i → AreRelated i r x y → (x < i.size) × (y < i.size)
pairs_below i r x y fits related = ⊎_elim
    (λ (within : r < length i.roles). All-contains (λ (p : ℕ × ℕ). (p.0 < i.size) × (p.1 < i.size)) (pairs_of i r) (x, y) (fits.pairs_below r [] within) related)
    (λ (past : length i.roles ≤ r).
    let none : Contains [] (x, y) = subst (λ (ps : List (ℕ × ℕ)). Contains ps (x, y)) (get_or_past i.roles r [] past) related in
    absurd (omega (arith, none.1)))
    (cases_lt r (length i.roles))

-- a chain with one property more leads one step further
pub chained_more : (i : Interp) (chain : List ℕ) (r x y : ℕ) → AreChained i (chain ++ r ∷ []) x y ↔ ((z : ℕ) × AreChained i chain x z × AreRelated i r z y)
chained_more i [] r x y = (
  (λ (z, related, same). (x, refl, subst (AreRelated i r x) same related)),
  (λ (z, same, related). (y, subst (λ begin. AreRelated i r begin y) (sym same) related, refl)),
)
chained_more i (first ∷ chain) r x y = (
  (λ (w, related, led). let (z, chained, last) = (chained_more i chain r w y).0 led in (z, (w, related, chained), last)),
  (λ (z, led, last). (led.0, led.1, (chained_more i chain r led.0 y).1 (z, led.2, last))),
)

-- the pairs that a pair and then the properties of a chain lead to
abbrev pub LedBy : Interp → List (ℕ × ℕ) → List (ℕ × ℕ) → List ℕ → Type 0
LedBy i first all chain = (x y : ℕ) → Lead all x y ↔ ((z : ℕ) × Lead first x z × AreChained i chain z y)

-- without properties these are the pairs
pub led_start : (i : Interp) (first all : List (ℕ × ℕ)) → HaveTheSame all first → LedBy i first all []
led_start i first all same x y = (
  (λ there. (y, (same (x, y)).0 there, refl)),
  (λ (z, led, is). (same (x, y)).1 (subst (Lead first x) is led)),
)

-- one property more
pub led_more : (i : Interp) (first all steps more : List (ℕ × ℕ)) (done : List ℕ) (r : ℕ) → LedBy i first all done → HaveTheSame steps (pairs_of i r)
    → ((x y : ℕ) → Lead more x y ↔ ((z : ℕ) × Lead all x z × Lead steps z y)) → LedBy i first more (done ++ r ∷ [])
led_more i first all steps more done r so_far same joined x y = (
  (λ there.
      let (z, before, step) = (joined x y).0 there in
      let (w, led, chained) = (so_far x z).0 before in
      (w, led, (chained_more i done r w y).1 (z, chained, (same (z, y)).0 step))),
  (λ (w, led, chain).
      let (z, chained, last) = (chained_more i done r w y).0 chain in
      (joined x y).1 (z, (so_far x z).1 (w, led, chained), (same (z, y)).1 last)),
)

-- the last step of a chain need not be listed
pub led_within : (i : Interp) (first last : ℕ) (between : List ℕ) (all steps wanted : List (ℕ × ℕ)) → LedBy i (pairs_of i first) all between → HaveTheSame steps (pairs_of i last)
    → ((x z y : ℕ) → Lead all x z → Lead steps z y → Lead wanted x y) ↔ ((x y : ℕ) → AreChained i (first ∷ (between ++ last ∷ [])) x y → Lead wanted x y)
led_within i first last between all steps wanted led same = (
  (λ joins x y (w, begins, chain).
      let (z, chained, ends) = (chained_more i between last w y).0 chain in
      joins x z y ((led x z).1 (w, begins, chained)) ((same (z, y)).1 ends)),
  (λ chains x z y before step.
      let (w, begins, chained) = (led x z).0 before in
      chains x y (w, begins, (chained_more i between last w y).1 (z, chained, (same (z, y)).0 step))),
)

-- a chain of one property has the property's pairs
pub alone : (i : Interp) (first : ℕ) (wanted : List (ℕ × ℕ)) → ((x y : ℕ) → AreRelated i first x y → Lead wanted x y) ↔ ((x y : ℕ) → AreChained i (first ∷ []) x y → Lead wanted x y)
alone i first wanted = (
  (λ within x y (z, related, same). within x y (subst (AreRelated i first x) same related)),
  (λ within x y related. within x y (y, related, refl)),
)

-- properties with just the pairs of one list are equivalent
pub all_same_pairs : (i : Interp) (pairs : List (ℕ × ℕ)) (operands : List ℕ) → All (HasPairs i pairs) operands → Holds i (EquivalentRoles operands)
all_same_pairs i pairs operands same =
    All-weaker (HasPairs i pairs) (λ r. All (λ s. (x y : ℕ) → AreRelated i r x y → AreRelated i s x y) operands)
    (λ r of_r. All-weaker (HasPairs i pairs) (λ s. (x y : ℕ) → AreRelated i r x y → AreRelated i s x y) (λ s of_s x y related. (of_s x y).0 ((of_r x y).1 related)) operands same) operands same

-- a list has the same pairs as what it is
pub same_by : (pairs own : List (ℕ × ℕ)) → pairs ≡ own → HaveTheSame pairs own
same_by pairs own is = subst (λ (ps : List (ℕ × ℕ)). HaveTheSame ps own) (sym is) (λ p. ((λ there. there), (λ there. there)))

-- what one answer tells, it tells of what means the same
pub through : {P Q R : Type 0} → (P ↔ Q) → (Q ↔ R) → (P ↔ R)
through first second = ((λ p. second.0 (first.0 p)), (λ r. first.1 (second.1 r)))

-- joins of a property's pairs within them show that it is transitive
pub transitive_by : (i : Interp) (role : ℕ) (pairs steps wanted : List (ℕ × ℕ)) → HaveTheSame pairs (pairs_of i role) → HaveTheSame steps (pairs_of i role) → HaveTheSame wanted (pairs_of i role)
    → ((x z y : ℕ) → Lead pairs x z → Lead steps z y → Lead wanted x y) ↔ Holds i (Transitive role)
transitive_by i role pairs steps wanted own same_steps same_wanted = (
  (λ joins x y z one two. (same_wanted (x, z)).0 (joins x y z ((own (x, y)).1 one) ((same_steps (y, z)).1 two))),
  (λ holds x z y one two. (same_wanted (x, y)).1 (holds x z y ((own (x, z)).0 one) ((same_steps (z, y)).0 two))),
)

-- the wanted pairs are those of a property
pub wanted_of : (i : Interp) (upper : ℕ) (wanted : List (ℕ × ℕ)) (chain : List ℕ) → HaveTheSame wanted (pairs_of i upper)
    → ((x y : ℕ) → AreChained i chain x y → Lead wanted x y) ↔ ((x y : ℕ) → AreChained i chain x y → AreRelated i upper x y)
wanted_of i upper wanted chain same = (
  (λ within x y led. (same (x, y)).0 (within x y led)),
  (λ within x y led. (same (x, y)).1 (within x y led)),
)

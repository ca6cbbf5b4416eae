-- Each rule is sound.
use Rattle.std.proofs.Common.{◌≡◌, ◌≢◌, ◌+◌, ℕ, zero, suc, ◌<◌, ◌∙◌, List, [], ◌∷◌, ◌++◌, Some, slice_get, take, length, All, Contains, inl, inr, arith, subst, sym, refl, ap, rules}
use Rattle.std.proofs.Math.Seq.{take-append_seam}
use Rattle.std.proofs.lemmas.List.{length-append, append_assoc}
use Rattle.std.proofs.lemmas.List.Elements.{All-contains}
use Rattle.std.proofs.lemmas.Option.{slice_get_within, get_or_from_slice_get, none-some, same_Some}
use Rattle.concept_store.specs.Reading.{Reading, IsIn, AreLinked, IsWithin, IsRoleWithin, Reaches, AreApart, HoldsIn, ReadsParts}
use Rattle.concept_store.specs.declared.types.Node.{Node}
use Rattle.concept_store.specs.declared.types.NodeAxiom.{NodeAxiom}
use Rattle.concept_store.specs.declared.types.NodeAxiom.TheVariants.{SubClass, Equivalent, Disjoint, SubRole, EquivalentRoles, Transitive, Reflexive, Domain}
use Rattle.fact_table.specs.declared.types.Fact.{Fact}
use Rattle.fact_table.specs.declared.types.Fact.TheVariants.{Sub, Link}
use Rattle.fact_table.specs.declared.types.Rule.{Rule}
use Rattle.el_rules.specs.Saying.{Includes, Separates, IncludesRole, JoinsAlong, Joins, MakesReflexive, HasDomain}
use Rattle.el_rules.specs.Rules.{Gives}
use Rattle.el_rules.specs.Truth.{IsTrueIn, IsModelOf}

-- what is at a place of a list is in it
pub held_at : {X : Type 0} → (xs : List X) (i : ℕ) (x : X) → slice_get xs i ≡ Some x → Contains xs x
held_at xs i x at = (i, slice_get_within xs i x at, get_or_from_slice_get xs i x x at)

-- no element is in two operands at different places
apart_of : (m : Reading) (cs : List ℕ) (i j c d : ℕ) → i ≢ j → AreApart m cs → slice_get cs i ≡ Some c → slice_get cs j ≡ Some d → (x : ℕ) → IsIn m c x → IsIn m d x → ⊥
apart_of m [] i j c d differ apart at_i at_j x in_c in_d = none-some c at_i
apart_of m (b ∷ cs) zero zero c d differ apart at_i at_j x in_c in_d = differ refl
apart_of m (b ∷ cs) zero (suc j) c d differ apart at_i at_j x in_c in_d =
    All-contains (λ a. (y : ℕ) → IsIn m b y → ¬ (IsIn m a y)) cs d apart.0 (held_at cs j d at_j) x (subst (λ a. IsIn m a x) (sym (same_Some b c at_i)) in_c) in_d
apart_of m (b ∷ cs) (suc i) zero c d differ apart at_i at_j x in_c in_d =
    All-contains (λ a. (y : ℕ) → IsIn m b y → ¬ (IsIn m a y)) cs c apart.0 (held_at cs i c at_i) x (subst (λ a. IsIn m a x) (sym (same_Some b d at_j)) in_d) in_c
apart_of m (b ∷ cs) (suc i) (suc j) c d differ apart at_i at_j x in_c in_d = apart_of m cs i j c d (λ same. differ (ap suc same)) apart.1 at_i at_j x in_c in_d

separated_of : (m : Reading) (said : NodeAxiom) (c d : ℕ) → HoldsIn m said → Separates said c d → (x : ℕ) → IsIn m c x → IsIn m d x → ⊥
separated_of m (Disjoint cs) c d holds (i, j, differ, at_i, at_j) = apart_of m cs i j c d differ holds at_i at_j
separated_of m _ c d holds says = absurd says

reflexive_of : (m : Reading) (said : NodeAxiom) (r : ℕ) → HoldsIn m said → MakesReflexive said r → (x : ℕ) → x < m.size → AreLinked m r x x
reflexive_of m (Reflexive q) r holds says x within = subst (λ p. AreLinked m p x x) says (holds x within)
reflexive_of m _ r holds says x within = absurd says

domain_of : (m : Reading) (said : NodeAxiom) (r c : ℕ) → HoldsIn m said → HasDomain said r c → (x y : ℕ) → AreLinked m r x y → IsIn m c x
domain_of m (Domain q d) r c holds (role, node) x y linked = subst (λ n. IsIn m n x) node (holds x y (subst (λ p. AreLinked m p x y) (sym role) linked))
domain_of m _ r c holds says x y linked = absurd says

within_of : (m : Reading) (said : NodeAxiom) (c d : ℕ) → HoldsIn m said → Includes said c d → IsWithin m c d
within_of m (SubClass a b) c d holds (low, high) = λ x is_in. subst (λ n. IsIn m n x) high (holds x (subst (λ n. IsIn m n x) (sym low) is_in))
within_of m (Equivalent cs) c d holds (held_c, held_d) = All-contains (λ b. IsWithin m c b) cs d (All-contains (λ a. All (λ b. IsWithin m a b) cs) cs c holds held_c) held_d
within_of m _ c d holds says = absurd says

role_within_of : (m : Reading) (said : NodeAxiom) (r s : ℕ) → HoldsIn m said → IncludesRole said r s → IsRoleWithin m r s
role_within_of m (SubRole chain into first) r s holds (single, same) = λ x y linked.
    subst (λ q. AreLinked m q x y) same (holds x y (subst (λ roles. Reaches m roles x y) (sym single) (y, linked, refl)))
role_within_of m (EquivalentRoles rs) r s holds (held_r, held_s) = All-contains (λ b. IsRoleWithin m r b) rs s (All-contains (λ a. All (λ b. IsRoleWithin m a b) rs) rs r holds held_r) held_s
role_within_of m _ r s holds says = absurd says

-- a walk along a chain, and then by one role more
reached_more : (m : Reading) (chain : List ℕ) (next x y z : ℕ) → Reaches m chain x y → AreLinked m next y z → Reaches m (chain ++ next ∷ []) x z
reached_more m [] next x y z reached linked = (z, subst (λ w. AreLinked m next w z) (sym reached) linked, refl)
reached_more m (r ∷ chain) next x y z (w, first, rest) linked = (w, first, reached_more m chain next w y z rest linked)

-- the front of a chain that ends with the next role
front_of : (before rest chain : List ℕ) (next k : ℕ) → before ++ next ∷ rest ≡ chain → length before ≡ k + 1 → take (k + 2) chain ≡ before ++ next ∷ []
front_of before rest chain next k whole count =
    subst (λ roles. take (k + 2) roles ≡ before ++ next ∷ []) (append_assoc before (next ∷ []) rest ∙ whole)
    (subst (λ n. take n ((before ++ next ∷ []) ++ rest) ≡ before ++ next ∷ []) (length-append before (next ∷ []) ∙ grind (arith, count))
    (take-append_seam (before ++ next ∷ []) rest))

longer_than : (before rest chain : List ℕ) (next more k : ℕ) → before ++ next ∷ more ∷ rest ≡ chain → length before ≡ k + 1 → k + 2 < length chain
longer_than before rest chain next more k whole count =
    subst (λ n. k + 2 < n) (sym (length-append before (next ∷ more ∷ rest)) ∙ ap length whole) (grind (arith, count))

-- how far a chain was passed: its front is one role, which is the part with that number or the first role
record IsPassed (m : Reading) (before rest chain : List ℕ) (front part first k : ℕ) : Type 0 where
  pub whole : before ++ rest ≡ chain
  pub count : length before ≡ k + 1
  pub part_is : part ≡ first + k
  pub front_is : (x y : ℕ) → AreLinked m front x y → Reaches m before x y
  pub front_has : (x y : ℕ) → Reaches m before x y → AreLinked m front x y

joined_along : (m : Reading) (chain : List ℕ) (first into : ℕ) → HoldsIn m (SubRole chain into first) → ReadsParts m (SubRole chain into first)
    → (before rest : List ℕ) (front part k r s t : ℕ) → IsPassed m before rest chain front part first k → JoinsAlong front rest part into r s t
    → (x y z : ℕ) → AreLinked m r x y → AreLinked m s y z → AreLinked m t x z
joined_along m chain first into holds read before [] front part k r s t passed joins x y z one two = absurd joins
joined_along m chain first into holds read before (next ∷ []) front part k r s t passed (front_r, next_s, into_t) x y z one two =
    let reached : Reaches m (before ++ next ∷ []) x z =
    reached_more m before next x y z (passed.front_is x y (subst (λ q. AreLinked m q x y) (sym front_r) one)) (subst (λ q. AreLinked m q y z) (sym next_s) two) in
    subst (λ q. AreLinked m q x z) into_t (holds x z (subst (λ roles. Reaches m roles x z) passed.whole reached))
joined_along m chain first into holds read before (next ∷ more ∷ rest) front part k r s t passed (inl (front_r, next_s, part_t)) x y z one two =
    let reached : Reaches m (before ++ next ∷ []) x z =
    reached_more m before next x y z (passed.front_is x y (subst (λ q. AreLinked m q x y) (sym front_r) one)) (subst (λ q. AreLinked m q y z) (sym next_s) two) in
    let longer : k + 2 < length chain = longer_than before rest chain next more k passed.whole passed.count in
    subst (λ q. AreLinked m q x z) (sym passed.part_is ∙ part_t)
    ((read k x z longer).1 (subst (λ roles. Reaches m roles x z) (sym (front_of before (more ∷ rest) chain next k passed.whole passed.count)) reached))
joined_along m chain first into holds read before (next ∷ more ∷ rest) front part k r s t passed (inr joins) x y z one two =
    let longer : k + 2 < length chain = longer_than before rest chain next more k passed.whole passed.count in
    let same : take (k + 2) chain ≡ before ++ next ∷ [] = front_of before (more ∷ rest) chain next k passed.whole passed.count in
    joined_along m chain first into holds read (before ++ next ∷ []) (more ∷ rest) part (part + 1) (k + 1) r s t
    (record {
      whole = append_assoc before (next ∷ []) (more ∷ rest) ∙ passed.whole;
      count = length-append before (next ∷ []) ∙ grind (arith, passed.count);
      part_is = grind (arith, passed.part_is);
      front_is = λ a b linked. subst (λ roles. Reaches m roles a b) same ((read k a b longer).0 (subst (λ q. AreLinked m q a b) passed.part_is linked));
      front_has = λ a b reached. subst (λ q. AreLinked m q a b) (sym passed.part_is) ((read k a b longer).1 (subst (λ roles. Reaches m roles a b) (sym same) reached));
    }) joins x y z one two

joined_of : (m : Reading) (said : NodeAxiom) (r s t : ℕ) → HoldsIn m said → ReadsParts m said → Joins said r s t → (x y z : ℕ) → AreLinked m r x y → AreLinked m s y z → AreLinked m t x z
joined_of m (Transitive q) r s t holds read (same_r, same_s, same_t) x y z one two =
    subst (λ p. AreLinked m p x z) same_t (holds x y z (subst (λ p. AreLinked m p x y) (sym same_r) one) (subst (λ p. AreLinked m p y z) (sym same_s) two))
joined_of m (SubRole [] into first) r s t holds read joins x y z one two = absurd joins
joined_of m (SubRole (role ∷ rest) into first) r s t holds read joins x y z one two =
    joined_along m (role ∷ rest) first into holds read (role ∷ []) rest role first 0 r s t
    (record {
      whole = refl;
      count = search rules;
      part_is = grind arith;
      front_is = λ a b linked. (b, linked, refl);
      front_has = λ a b reached. subst (λ w. AreLinked m role a w) reached.2 reached.1;
    }) joins x y z one two
joined_of m _ r s t holds read joins x y z one two = absurd joins

module _ (nodes : List Node) (Named : NodeAxiom → Type 0) (m : Reading) (model : IsModelOf nodes Named m) where
  -- what a rule gives from true facts is true
  pub sound_rule : (One Two : Fact → Type 0) → ((one : Fact) → One one → IsTrueIn m one) → ((two : Fact) → Two two → IsTrueIn m two) → (rule : Rule) (fact : Fact)
      → Gives nodes Named One Two rule fact → IsTrueIn m fact
  sound_rule One Two one two Rule.Itself (Sub a b) (within, same) = λ x is_in. subst (λ n. IsIn m n x) same is_in
  sound_rule One Two one two Rule.Top (Sub a b) (within, top) = λ x is_in. subst (λ n. IsIn m n x) (sym top) (model.reading.top 0 x model.thing (model.reading.inside a x is_in))
  sound_rule One Two one two Rule.Incl (Sub a d) (c, said, is, says, p) = λ x is_in. within_of m said c d (model.holds said is) says x (one (Sub a c) p x is_in)
  sound_rule One Two one two Rule.Left (Sub a c) (n, d, node, p) = λ x is_in. ((model.reading.both n c d x node).0 (one (Sub a n) p x is_in)).0
  sound_rule One Two one two Rule.Right (Sub a d) (n, c, node, p) = λ x is_in. ((model.reading.both n c d x node).0 (one (Sub a n) p x is_in)).1
  sound_rule One Two one two Rule.Both (Sub a n) (c, d, node, p, q) = λ x is_in. (model.reading.both n c d x node).1 (one (Sub a c) p x is_in, two (Sub a d) q x is_in)
  sound_rule One Two one two Rule.Out (Link a r c) (n, node, p) = λ x is_in. (model.reading.some n r c x node).0 (one (Sub a n) p x is_in)
  sound_rule One Two one two Rule.Into (Sub a n) (r, b, c, node, p, q) = λ x is_in.
      let led = one (Link a r b) p x is_in in (model.reading.some n r c x node).1 (led.0, led.1, two (Sub b c) q led.0 led.2)
  sound_rule One Two one two Rule.Void (Sub a n) (r, b, is, p, q) = λ x is_in.
      let led = one (Link a r b) p x is_in in absurd (model.reading.bottom 1 led.0 model.nothing (two (Sub b 1) q led.0 led.2))
  sound_rule One Two one two Rule.Role (Link a s b) (r, said, is, says, p) = λ x is_in.
      let led = one (Link a r b) p x is_in in (led.0, role_within_of m said r s (model.holds said is) says x led.0 led.1, led.2)
  sound_rule One Two one two Rule.Chain (Link a t c) (r, s, b, said, is, says, p, q) = λ x is_in.
      let led = one (Link a r b) p x is_in in
      let then_led = two (Link b s c) q led.0 led.2 in
      (then_led.0, joined_of m said r s t (model.holds said is) (model.parts said is) says x led.0 then_led.0 led.1 then_led.1, then_led.2)
  sound_rule One Two one two Rule.Refl (Link a r b) (said, is, says, within, same) = λ x is_in.
      (x, reflexive_of m said r (model.holds said is) says x (model.reading.inside a x is_in), subst (λ n. IsIn m n x) same is_in)
  sound_rule One Two one two Rule.Dom (Sub a c) (r, b, said, is, says, p) = λ x is_in.
      let led = one (Link a r b) p x is_in in domain_of m said r c (model.holds said is) says x led.0 led.1
  sound_rule One Two one two Rule.Disj (Sub a n) (c, d, said, nothing, is, says, p, q) = λ x is_in.
      absurd (separated_of m said c d (model.holds said is) says x (one (Sub a c) p x is_in) (two (Sub a d) q x is_in))
  sound_rule One Two one two _ fact given = absurd given

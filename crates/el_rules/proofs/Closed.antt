-- The reading that closed facts say is a model.
use Rattle.std.proofs.Common.{◌≡◌, ◌+◌, ◌<◌, ◌∙◌, ◌&&◌, ℕ, zero, suc, false, nat_lt, List, [], ◌∷◌, Some, length, slice_get, slice_index_or, All, Contains, refl, sym, ap, subst, inl, inr, ⊎_elim, arith, rules}
use Rattle.std.proofs.lemmas.Bool.{and_parts, and_from, lt-ltb, ltb-true}
use Rattle.std.proofs.lemmas.Option.{slice_get_within, get_or_from_slice_get, slice_get-get_or}
use Rattle.concept_store.specs.Nodes.{IsNode}
use Rattle.concept_store.specs.Reading.{IsReading, IsIn, AreLinked, IsWithin, IsRoleWithin, Reaches, AreApart, HoldsIn}
use Rattle.concept_store.specs.declared.types.Node.{Node}
use Rattle.concept_store.specs.declared.types.Node.TheVariants.{Exists}
use Rattle.concept_store.specs.declared.types.NodeAxiom.{NodeAxiom}
use Rattle.concept_store.specs.declared.types.NodeAxiom.TheVariants.{SubClass, Equivalent, Disjoint, SubRole, EquivalentRoles, Transitive, Reflexive, Domain}
use Rattle.fact_table.specs.declared.types.Fact.{Fact}
use Rattle.fact_table.specs.declared.types.Fact.TheVariants.{Sub, Link}
use Rattle.fact_table.specs.declared.types.Rule.{Rule}
use Rattle.el_rules.specs.Saying.{JoinsAlong, Joins}
use Rattle.el_rules.specs.Rules.{Gives}
use Rattle.el_rules.specs.Following.{AreClosed}
use Rattle.el_rules.specs.Closing.{has_fact, live_nodes, said_at, said_by, AreNodes, HasRole}
use Rattle.el_rules.proofs.Sound.{held_at}
use Rattle.el_rules.proofs.Found.{found, finds, answer, not_found, IsLive, live_at, live_has}

-- what the element at each place of a list passes
pub all_at : {X : Type 0} → (P : X → Type 0) (xs : List X) → ((k : ℕ) (x : X) → slice_get xs k ≡ Some x → P x) → All P xs
all_at P xs each = λ k d within. each k (slice_index_or xs k d) (slice_get-get_or xs k d within)

-- numbers that are told apart
zero_suc : (n : ℕ) → zero ≡ suc n → ⊥
zero_suc n same = absurd (omega (arith, same))

suc_same : (m n : ℕ) → suc m ≡ suc n → m ≡ n
suc_same m n same = omega (arith, same)

module _ (facts : List Fact) (live : List ℕ) where
  -- an element is in a node if the facts put its own node within it
  pub in_is : (n x : ℕ) → IsIn (said_at facts live) n x → (x < length live) × Contains facts (Sub (slice_index_or live x 0) n)
  in_is n x is_in =
      let parts = and_parts (nat_lt x (length live)) (has_fact facts (Sub (slice_index_or live x 0) n)) is_in in
      (ltb-true x (length live) parts.0, found facts (Sub (slice_index_or live x 0) n) parts.1)

  pub is_in : (n x : ℕ) → x < length live → Contains facts (Sub (slice_index_or live x 0) n) → IsIn (said_at facts live) n x
  is_in n x within held =
      and_from (nat_lt x (length live)) (has_fact facts (Sub (slice_index_or live x 0) n)) (lt-ltb x (length live) within) (finds facts (Sub (slice_index_or live x 0) n) held)

  -- a role relates two elements if the facts link their nodes
  pub linked_is : (r x y : ℕ) → AreLinked (said_at facts live) r x y
      → (x < length live) × (y < length live) × Contains facts (Link (slice_index_or live x 0) r (slice_index_or live y 0))
  linked_is r x y linked =
      let link : Fact = Link (slice_index_or live x 0) r (slice_index_or live y 0) in
      let parts = and_parts (nat_lt x (length live) && nat_lt y (length live)) (has_fact facts link) linked in
      let both = and_parts (nat_lt x (length live)) (nat_lt y (length live)) parts.0 in
      (ltb-true x (length live) both.0, ltb-true y (length live) both.1, found facts link parts.1)

  pub is_linked : (r x y : ℕ) → x < length live → y < length live → Contains facts (Link (slice_index_or live x 0) r (slice_index_or live y 0))
      → AreLinked (said_at facts live) r x y
  is_linked r x y within_x within_y held =
      let link : Fact = Link (slice_index_or live x 0) r (slice_index_or live y 0) in
      and_from (nat_lt x (length live) && nat_lt y (length live)) (has_fact facts link)
      (and_from (nat_lt x (length live)) (nat_lt y (length live)) (lt-ltb x (length live) within_x) (lt-ltb y (length live) within_y))
      (finds facts link held)

module _ (nodes : List Node) (Named : NodeAxiom → Type 0) (facts : List Fact) (closed : AreClosed nodes Named facts) where
  -- what a rule gives is there
  give : (rule : Rule) (fact : Fact) → Gives nodes Named (Contains facts) (Contains facts) rule fact → Contains facts fact
  give rule fact given = closed rule fact given

  -- the node of an element is live
  alive : (x : ℕ) → x < length (live_nodes nodes facts) → IsLive facts 0 (length nodes) (slice_index_or (live_nodes nodes facts) x 0)
  alive x within = live_at facts 0 (length nodes) x (slice_index_or (live_nodes nodes facts) x 0) (slice_get-get_or (live_nodes nodes facts) x 0 within)

  -- so it is a node, and the facts don't put it within owl:Nothing
  is_node : (x : ℕ) → x < length (live_nodes nodes facts) → slice_index_or (live_nodes nodes facts) x 0 < length nodes
  is_node x within = let to = (alive x within).to in omega (arith, to)

  not_nothing : (x : ℕ) → x < length (live_nodes nodes facts) → Contains facts (Sub (slice_index_or (live_nodes nodes facts) x 0) 1) → ⊥
  not_nothing x within held = not_found facts (Sub (slice_index_or (live_nodes nodes facts) x 0) 1) (alive x within).live held

  -- a node that the facts don't put within owl:Nothing is the node of an element, which is in it
  pub element_of : (node : ℕ) → node < length nodes → has_fact facts (Sub node 1) ≡ false
      → (x : ℕ) × (slice_get (live_nodes nodes facts) x ≡ Some node) × IsIn (said_by nodes facts) node x
  element_of node within live =
      let place = live_has facts 0 (length nodes) node (record { from = omega arith; to = omega (arith, within); live = live }) in
      let same : slice_index_or (live_nodes nodes facts) place.0 0 ≡ node = get_or_from_slice_get (live_nodes nodes facts) place.0 node 0 place.1 in (
        place.0,
        place.1,
        is_in facts (live_nodes nodes facts) node place.0 (slice_get_within (live_nodes nodes facts) place.0 node place.1)
            (subst (λ n. Contains facts (Sub n node)) (sym same) (give Rule.Itself (Sub node node) (within, refl))),
      )

  module _ (are : AreNodes nodes) where
    some_of : (n r c x : ℕ) → IsNode nodes n (Exists r c) → IsIn (said_by nodes facts) n x
        → (y : ℕ) × AreLinked (said_by nodes facts) r x y × IsIn (said_by nodes facts) c y
    some_of n r c x node member =
        let live : List ℕ = live_nodes nodes facts in
        let held = in_is facts live n x member in
        let link : Contains facts (Link (slice_index_or live x 0) r c) = give Rule.Out (Link (slice_index_or live x 0) r c) (n, node, held.1) in
        ⊎_elim
        (λ dead. absurd (not_nothing x held.0 (give Rule.Void (Sub (slice_index_or live x 0) 1) (r, c, refl, link, found facts (Sub c 1) dead))))
        (λ lives. let there = element_of c (are.some n r c node) lives in
        let same : slice_index_or live there.0 0 ≡ c = get_or_from_slice_get live there.0 c 0 there.1 in (
          there.0,
          is_linked facts live r x there.0 held.0 (slice_get_within live there.0 c there.1)
              (subst (λ b. Contains facts (Link (slice_index_or live x 0) r b)) (sym same) link),
          there.2,
        ))
        (answer (has_fact facts (Sub c 1)))

    pub reading : IsReading nodes (said_by nodes facts)
    reading = let live : List ℕ = live_nodes nodes facts in record {
      inside = λ n x member. (in_is facts live n x member).0;
      linked_inside = λ r x y linked. let is = linked_is facts live r x y linked in (is.0, is.1);
      top = λ n x node within. is_in facts live n x within
          (subst (λ top. Contains facts (Sub (slice_index_or live x 0) top)) (sym (are.one_thing n node))
          (give Rule.Top (Sub (slice_index_or live x 0) 0) (is_node x within, refl)));
      bottom = λ n x node member. let held = in_is facts live n x member in
          not_nothing x held.0 (subst (λ bottom. Contains facts (Sub (slice_index_or live x 0) bottom)) (are.one_nothing n node) held.1);
      both = λ n c d x node. (
        (λ member. let held = in_is facts live n x member in (
          is_in facts live c x held.0 (give Rule.Left (Sub (slice_index_or live x 0) c) (n, d, node, held.1)),
          is_in facts live d x held.0 (give Rule.Right (Sub (slice_index_or live x 0) d) (n, c, node, held.1)),
        )),
        (λ members. let one = in_is facts live c x members.0 in let two = in_is facts live d x members.1 in
            is_in facts live n x one.0 (give Rule.Both (Sub (slice_index_or live x 0) n) (c, d, node, one.1, two.1))),
      );
      some = λ n r c x node. (
        some_of n r c x node,
        (λ led. let link = linked_is facts live r x led.0 led.1 in let member = in_is facts live c led.0 led.2 in
            is_in facts live n x link.0 (give Rule.Into (Sub (slice_index_or live x 0) n) (r, slice_index_or live led.0 0, c, node, link.2, member.1))),
      );
    }

  -- no element is in operands at two positions: those of what is left of a row stand at these positions of the whole
  apart_from : (whole left : List ℕ) (lift : ℕ → ℕ) → Named (Disjoint whole) → ((i j : ℕ) → lift i ≡ lift j → i ≡ j)
      → ((k c : ℕ) → slice_get left k ≡ Some c → slice_get whole (lift k) ≡ Some c) → AreApart (said_by nodes facts) left
  apart_from whole [] lift named one_each lifted = tt
  apart_from whole (c ∷ left) lift named one_each lifted = (
    all_at (λ d. (x : ℕ) → IsIn (said_by nodes facts) c x → ¬ (IsIn (said_by nodes facts) d x)) left
        (λ k d at x in_c in_d.
        let live : List ℕ = live_nodes nodes facts in
        let one = in_is facts live c x in_c in let two = in_is facts live d x in_d in
        not_nothing x one.0 (give Rule.Disj (Sub (slice_index_or live x 0) 1)
        (c, d, Disjoint whole, refl, named, (lift 0, lift (suc k), (λ same. zero_suc k (one_each 0 (suc k) same)), lifted 0 c refl, lifted (suc k) d at), one.1, two.1))),
    apart_from whole left (λ k. lift (suc k)) named (λ i j same. suc_same i j (one_each (suc i) (suc j) same)) (λ k d at. lifted (suc k) d at),
  )

  -- along what is left of a chain, the front of which links two elements as a role
  along : (axiom' : NodeAxiom) (into front part : ℕ) (rest : List ℕ) → Named axiom' → ((r s t : ℕ) → JoinsAlong front rest part into r s t → Joins axiom' r s t)
      → ¬ (rest ≡ []) → (x z y : ℕ) → AreLinked (said_by nodes facts) front x z → Reaches (said_by nodes facts) rest z y → AreLinked (said_by nodes facts) into x y
  along axiom' into front part [] named joins left x z y linked reached = absurd (left refl)
  along axiom' into front part (next ∷ []) named joins left x z y linked (w, step, same) =
      let live : List ℕ = live_nodes nodes facts in
      let one = linked_is facts live front x z linked in
      let two = linked_is facts live next z y (subst (λ v. AreLinked (said_by nodes facts) next z v) same step) in
      is_linked facts live into x y one.0 two.1
      (give Rule.Chain (Link (slice_index_or live x 0) into (slice_index_or live y 0))
      (front, next, slice_index_or live z 0, axiom', named, joins front next into (refl, refl, refl), one.2, two.2))
  along axiom' into front part (next ∷ more ∷ rest) named joins left x z y linked (w, step, reached) =
      let live : List ℕ = live_nodes nodes facts in
      let one = linked_is facts live front x z linked in
      let two = linked_is facts live next z w step in
      along axiom' into part (part + 1) (more ∷ rest) named (λ r s t later. joins r s t (inr later)) (λ none. absurd (search (rules, none))) x w y
      (is_linked facts live part x w one.0 two.1
      (give Rule.Chain (Link (slice_index_or live x 0) part (slice_index_or live w 0))
      (front, next, slice_index_or live z 0, axiom', named, joins front next part (inl (refl, refl, refl)), one.2, two.2))) reached

  -- each named axiom holds
  pub holds : (axiom' : NodeAxiom) → HasRole axiom' → Named axiom' → HoldsIn (said_by nodes facts) axiom'
  holds (SubClass c d) has named = λ x member.
      let live : List ℕ = live_nodes nodes facts in let held = in_is facts live c x member in
      is_in facts live d x held.0 (give Rule.Incl (Sub (slice_index_or live x 0) d) (c, SubClass c d, named, (refl, refl), held.1))
  holds (Equivalent cs) has named =
      all_at (λ c. All (λ d. IsWithin (said_by nodes facts) c d) cs) cs (λ i c at_c. all_at (λ d. IsWithin (said_by nodes facts) c d) cs (λ j d at_d x member.
      let live : List ℕ = live_nodes nodes facts in let held = in_is facts live c x member in
      is_in facts live d x held.0 (give Rule.Incl (Sub (slice_index_or live x 0) d) (c, Equivalent cs, named, (held_at cs i c at_c, held_at cs j d at_d), held.1))))
  holds (Disjoint cs) has named = apart_from cs cs (λ k. k) named (λ i j same. same) (λ k c at. at)
  holds (SubRole [] into first) has named = absurd has
  holds (SubRole (r ∷ []) into first) has named = λ x y reached.
      let live : List ℕ = live_nodes nodes facts in
      let link = linked_is facts live r x y (subst (λ v. AreLinked (said_by nodes facts) r x v) reached.2 reached.1) in
      is_linked facts live into x y link.0 link.1
      (give Rule.Role (Link (slice_index_or live x 0) into (slice_index_or live y 0)) (r, SubRole (r ∷ []) into first, named, (refl, refl), link.2))
  holds (SubRole (r ∷ next ∷ rest) into first) has named = λ x y reached.
      along (SubRole (r ∷ next ∷ rest) into first) into r first (next ∷ rest) named (λ p s t joins. joins) (λ none. absurd (search (rules, none))) x reached.0 y reached.1 reached.2
  holds (EquivalentRoles rs) has named =
      all_at (λ r. All (λ s. IsRoleWithin (said_by nodes facts) r s) rs) rs (λ i r at_r. all_at (λ s. IsRoleWithin (said_by nodes facts) r s) rs (λ j s at_s x y linked.
      let live : List ℕ = live_nodes nodes facts in let link = linked_is facts live r x y linked in
      is_linked facts live s x y link.0 link.1
      (give Rule.Role (Link (slice_index_or live x 0) s (slice_index_or live y 0)) (r, EquivalentRoles rs, named, (held_at rs i r at_r, held_at rs j s at_s), link.2))))
  holds (Transitive r) has named = λ x y z one two.
      let live : List ℕ = live_nodes nodes facts in
      let first = linked_is facts live r x y one in let second = linked_is facts live r y z two in
      is_linked facts live r x z first.0 second.1
      (give Rule.Chain (Link (slice_index_or live x 0) r (slice_index_or live z 0))
      (r, r, slice_index_or live y 0, Transitive r, named, (refl, refl, refl), first.2, second.2))
  holds (Reflexive r) has named = λ x within.
      let live : List ℕ = live_nodes nodes facts in
      is_linked facts live r x x within within
      (give Rule.Refl (Link (slice_index_or live x 0) r (slice_index_or live x 0)) (Reflexive r, named, refl, is_node x within, refl))
  holds (Domain r c) has named = λ x y linked.
      let live : List ℕ = live_nodes nodes facts in let link = linked_is facts live r x y linked in
      is_in facts live c x link.0 (give Rule.Dom (Sub (slice_index_or live x 0) c) (r, slice_index_or live y 0, Domain r c, named, (refl, refl), link.2))

-- Rules of two premises without an axiom.
use Rattle.std.proofs.Common.{◌≡◌, ℕ, ◌+◌, ◌<◌, ◌≤◌, ◌↔◌, Bool, true, false, List, length, Contains, refl, subst, sym, ◌∙◌, ap, arith}
use Rattle.std.proofs.lemmas.Option.{same_Some}
use Rattle.concept_store.specs.Nodes.{IsNode}
use Rattle.concept_store.specs.declared.types.Node.TheVariants.{And, Exists}
use Rattle.fact_table.specs.declared.types.Fact.{Fact}
use Rattle.fact_table.specs.declared.types.Fact.TheVariants.{Sub, Link}
use Rattle.fact_table.specs.declared.types.Rule.{Rule}
use Rattle.fact_table.specs.declared.types.Source.{Source}
use Rattle.fact_layers.specs.Tops.{Topped, whole}
use Rattle.el_rules.specs.Following.{IsPlacedBelow}
use Rattle.case_tables.specs.declared.types.Whole.{Whole}
use Rattle.case_tables.specs.declared.types.Restriction.{Restriction}
use Rattle.case_tables.specs.declared.types.Join.{Join}
use Rattle.case_tables.specs.Named.{intersection_of}
use Rattle.el_rules.specs.Saying.{Joins}
use Rattle.rule_steps.specs.Counted.{GroundsView, IsCounting, IsCounted, nodes_of}
use Rattle.rule_steps.specs.Growing.{facts_in}
use Rattle.rule_steps.specs.Answering.{IsAt, IsAnsweredFirst, IsAnsweredSecond}
use Rattle.rule_steps.specs.Inside.Entries.{AreEntriesOf, EachBelow}
use Rattle.rule_steps.specs.Inside.Steps.{IsDerivedFrom, whole_reason, CanJoin, JoinsBy}
use Rattle.rule_steps.specs.declared.walks.Joined.{Joined}
use Rattle.rule_steps.proofs.JoinLaws.{can_fill, can_void, can_chain}
use Rattle.rule_steps.proofs.GrowthLaws.{earlier_at}
use Rattle.rule_steps.proofs.LoopLaws.{each_all}

module _ (grounds : GroundsView) where
  -- an intersection, from its part at the place and its other part
  pub whole_follows : (layers : Topped) (place other a part : ℕ) (whole' : Whole) (is_left : Bool) → IsNode (nodes_of grounds) whole'.node (intersection_of part whole') → whole'.is_left ≡ is_left →
      IsAt place (facts_in layers) (Sub a part) → IsAt other (facts_in layers) (Sub a whole'.other) →
      IsDerivedFrom grounds (whole layers) (record { fact = Sub a whole'.node; reason = whole_reason is_left place other })
  whole_follows layers place other a part whole' true node side at at_other = record {
    follows = (part, whole'.other, ap_node node side, earlier_at (whole layers) place (Sub a part) at, earlier_at (whole layers) other (Sub a whole'.other) at_other);
    names = record { first_is = λ few. absurd (omega arith); second_is = λ few. absurd (omega arith); source_is = λ no. refl };
  }
    where
      ap_node : IsNode (nodes_of grounds) whole'.node (intersection_of part whole') → whole'.is_left ≡ true → IsNode (nodes_of grounds) whole'.node (And part whole'.other)
      ap_node is same = subst (λ s. IsNode (nodes_of grounds) whole'.node (intersection_of part (record { node = whole'.node; other = whole'.other; is_left = s }))) same is
  whole_follows layers place other a part whole' false node side at at_other = record {
    follows = (whole'.other, part, ap_node node side, earlier_at (whole layers) other (Sub a whole'.other) at_other, earlier_at (whole layers) place (Sub a part) at);
    names = record { first_is = λ few. absurd (omega arith); second_is = λ few. absurd (omega arith); source_is = λ no. refl };
  }
    where
      ap_node : IsNode (nodes_of grounds) whole'.node (intersection_of part whole') → whole'.is_left ≡ false → IsNode (nodes_of grounds) whole'.node (And whole'.other part)
      ap_node is same = subst (λ s. IsNode (nodes_of grounds) whole'.node (intersection_of part (record { node = whole'.node; other = whole'.other; is_left = s }))) same is

  -- a restriction, from a link and from what its end is within
  pub fill_follows : (layers : Topped) (place filler a r s b c node : ℕ) → IsNode (nodes_of grounds) node (Exists s c) → s ≡ r → IsAt place (facts_in layers) (Link a r b) → IsAt filler (facts_in layers) (Sub b c) →
      IsDerivedFrom grounds (whole layers) (record { fact = Sub a node; reason = record { first = place; second = filler; source = Source.Nothing; rule = Rule.Into } })
  fill_follows layers place filler a r s b c node is same at below = record {
    follows = (r, b, c, subst (λ x. IsNode (nodes_of grounds) node (Exists x c)) same is, earlier_at (whole layers) place (Link a r b) at, earlier_at (whole layers) filler (Sub b c) below);
    names = record { first_is = λ few. absurd (omega arith); second_is = λ few. absurd (omega arith); source_is = λ no. refl };
  }

  -- owl:Nothing, from a link into what is within it
  pub void_follows : (layers : Topped) (place empty a r b : ℕ) → IsAt place (facts_in layers) (Link a r b) → IsAt empty (facts_in layers) (Sub b 1) →
      IsDerivedFrom grounds (whole layers) (record { fact = Sub a 1; reason = record { first = place; second = empty; source = Source.Nothing; rule = Rule.Void } })
  void_follows layers place empty a r b at below = record {
    follows = (r, b, refl, earlier_at (whole layers) place (Link a r b) at, earlier_at (whole layers) empty (Sub b 1) below);
    names = record { first_is = λ few. absurd (omega arith); second_is = λ few. absurd (omega arith); source_is = λ no. refl };
  }

  -- a link by a chain, from a link and from one that goes on
  pub chain_follows : (layers : Topped) (place partner a r b s t c : ℕ) (source : Source) → JoinsBy grounds source r s t → IsAt place (facts_in layers) (Link a r b) → IsAt partner (facts_in layers) (Link b s c) →
      IsDerivedFrom grounds (whole layers) (record { fact = Link a t c; reason = record { first = place; second = partner; source = source; rule = Rule.Chain } })
  chain_follows layers place partner a r b s t c source (said, named, says) at below = record {
    follows = (r, s, b, said, named, says, earlier_at (whole layers) place (Link a r b) at, earlier_at (whole layers) partner (Link b s c) below);
    names = record { first_is = λ few. absurd (omega arith); second_is = λ few. absurd (omega arith); source_is = λ no. cc };
  }

  -- the fact at a place joins with the links into its node
  pub fill_joins : (facts : List Fact) (place low high : ℕ) (entry : Restriction) → IsAt place facts (Sub low high) → high ≡ entry.filler → IsNode (nodes_of grounds) entry.node (Exists entry.role entry.filler) →
      (here : Fact) → IsAt place facts here → CanJoin grounds entry.role low here (Joined.Filler entry.node)
  fill_joins facts place low high entry at same node here is =
      let one : Sub low high ≡ here = same_Some (Sub low high) here (sym at ∙ is) in
      subst (λ h. CanJoin grounds entry.role low h (Joined.Filler entry.node)) (ap (λ x. Sub low x) (sym same) ∙ one) (can_fill grounds entry.role low entry.filler entry.node node)

  pub void_joins : (facts : List Fact) (place low high role : ℕ) → IsAt place facts (Sub low high) → high ≡ 1 → (here : Fact) → IsAt place facts here → CanJoin grounds role low here Joined.Nothing
  void_joins facts place low high role at same here is =
      let one : Sub low high ≡ here = same_Some (Sub low high) here (sym at ∙ is) in
      subst (λ h. CanJoin grounds role low h Joined.Nothing) (ap (λ x. Sub low x) (sym same) ∙ one) (can_void grounds role low)

  pub chain_joins : (facts : List Fact) (place from r s t c : ℕ) (source : Source) → IsAt place facts (Link from s c) → JoinsBy grounds source r s t →
      (here : Fact) → IsAt place facts here → CanJoin grounds r from here (Joined.Onward t c source)
  chain_joins facts place from r s t c source at joins here is =
      subst (λ h. CanJoin grounds r from h (Joined.Onward t c source)) (same_Some (Link from s c) here (sym at ∙ is)) (can_chain grounds r s t from c source joins)

module _ (grounds : GroundsView) (place a part : ℕ) (facts : List Fact) (at : IsAt place facts (Sub a part)) where
  -- all wholes were tried
  pub met_first : (n : ℕ) (entries : List Whole) → ((entry : Whole) → Contains entries entry ↔ IsNode (nodes_of grounds) entry.node (intersection_of part entry)) → length entries ≤ n →
      EachBelow entries n (λ (e : Whole). IsPlacedBelow (place + 1) facts (Sub a e.other) → Contains facts (Sub a e.node)) → IsAnsweredFirst (nodes_of grounds) (IsCounted grounds) place facts Rule.Both
  met_first n entries are past each (Link x r y) some given = absurd given
  met_first n entries are past each (Sub x node) some (c, d, is, one, two) =
      let same : Sub a part ≡ Sub x c = same_Some (Sub a part) (Sub x c) (sym at ∙ one) in
      let low : x ≡ a = cc in
      let high : c ≡ part = cc in
      let entry : Whole = record { node = node; other = d; is_left = true } in
      let held : Contains entries entry = (are entry).1 (subst (λ p. IsNode (nodes_of grounds) node (And p d)) high is) in
      subst (λ y. Contains facts (Sub y node)) (sym low)
      (each_all entries n (λ (e : Whole). IsPlacedBelow (place + 1) facts (Sub a e.other) → Contains facts (Sub a e.node)) entry past each held (subst (λ y. IsPlacedBelow (place + 1) facts (Sub y d)) low two))

  pub met_second : (n : ℕ) (entries : List Whole) → ((entry : Whole) → Contains entries entry ↔ IsNode (nodes_of grounds) entry.node (intersection_of part entry)) → length entries ≤ n →
      EachBelow entries n (λ (e : Whole). IsPlacedBelow (place + 1) facts (Sub a e.other) → Contains facts (Sub a e.node)) → IsAnsweredSecond (nodes_of grounds) (IsCounted grounds) place facts Rule.Both
  met_second n entries are past each (Link x r y) some given = absurd given
  met_second n entries are past each (Sub x node) some (c, d, is, one, two) =
      let same : Sub a part ≡ Sub x d = same_Some (Sub a part) (Sub x d) (sym at ∙ two) in
      let low : x ≡ a = cc in
      let high : d ≡ part = cc in
      let entry : Whole = record { node = node; other = c; is_left = false } in
      let held : Contains entries entry = (are entry).1 (subst (λ p. IsNode (nodes_of grounds) node (And c p)) high is) in
      subst (λ y. Contains facts (Sub y node)) (sym low)
      (each_all entries n (λ (e : Whole). IsPlacedBelow (place + 1) facts (Sub a e.other) → Contains facts (Sub a e.node)) entry past each held (subst (λ y. IsPlacedBelow (place + 1) facts (Sub y c)) low one))

  -- all restrictions into the node were tried
  pub filled_second : (n : ℕ) (entries : List Restriction) → ((entry : Restriction) → Contains entries entry ↔ ((part ≡ entry.filler) × IsNode (nodes_of grounds) entry.node (Exists entry.role entry.filler))) → length entries ≤ n →
      EachBelow entries n (λ (e : Restriction). (x : ℕ) → IsPlacedBelow (place + 1) facts (Link x e.role a) → Contains facts (Sub x e.node)) → IsAnsweredSecond (nodes_of grounds) (IsCounted grounds) place facts Rule.Into
  filled_second n entries are past each (Link x r y) some given = absurd given
  filled_second n entries are past each (Sub x node) some (r, b, c, is, one, two) =
      let same : Sub a part ≡ Sub b c = same_Some (Sub a part) (Sub b c) (sym at ∙ two) in
      let low : b ≡ a = cc in
      let high : part ≡ c = cc in
      let entry : Restriction = record { node = node; role = r; filler = c } in
      let held : Contains entries entry = (are entry).1 (high, is) in
      each_all entries n (λ (e : Restriction). (y : ℕ) → IsPlacedBelow (place + 1) facts (Link y e.role a) → Contains facts (Sub y e.node)) entry past each held x
      (subst (λ y. IsPlacedBelow (place + 1) facts (Link x r y)) low one)

  -- all links into a node that is within owl:Nothing
  pub void_second : (roles : ℕ) → ((x r : ℕ) → IsPlacedBelow (place + 1) facts (Link x r a) → r < roles) → (part ≡ 1 → (role : ℕ) → role < roles → (x : ℕ) → IsPlacedBelow (place + 1) facts (Link x role a) → Contains facts (Sub x 1)) →
      IsAnsweredSecond (nodes_of grounds) (IsCounted grounds) place facts Rule.Void
  void_second roles links each (Link x r y) some given = absurd given
  void_second roles links each (Sub x node) some (r, b, is, one, two) =
      let same : Sub a part ≡ Sub b 1 = same_Some (Sub a part) (Sub b 1) (sym at ∙ two) in
      let low : b ≡ a = cc in
      let high : part ≡ 1 = cc in
      let moved : IsPlacedBelow (place + 1) facts (Link x r a) = subst (λ y. IsPlacedBelow (place + 1) facts (Link x r y)) low one in
      subst (λ y. Contains facts (Sub x y)) (sym is) (each high r (links x r moved) x moved)

module _ (grounds : GroundsView) (place a r b : ℕ) (facts : List Fact) (at : IsAt place facts (Link a r b)) where
  -- the link as the first premise of `Void`
  pub void_first : (IsPlacedBelow (place + 1) facts (Sub b 1) → Contains facts (Sub a 1)) → IsAnsweredFirst (nodes_of grounds) (IsCounted grounds) place facts Rule.Void
  void_first there (Link x s y) some given = absurd given
  void_first there (Sub x node) some (s, y, is, one, two) =
      let same : Link a r b ≡ Link x s y = same_Some (Link a r b) (Link x s y) (sym at ∙ one) in
      let low : a ≡ x = cc in
      let high : y ≡ b = cc in
      subst (λ z. Contains facts (Sub x z)) (sym is) (subst (λ z. Contains facts (Sub z 1)) low (there (subst (λ z. IsPlacedBelow (place + 1) facts (Sub z 1)) high two)))

  -- and of `Into`
  pub filled_first : ((node c : ℕ) → IsNode (nodes_of grounds) node (Exists r c) → IsPlacedBelow (place + 1) facts (Sub b c) → Contains facts (Sub a node)) → IsAnsweredFirst (nodes_of grounds) (IsCounted grounds) place facts Rule.Into
  filled_first there (Link x s y) some given = absurd given
  filled_first there (Sub x node) some (s, y, c, is, one, two) =
      let same : Link a r b ≡ Link x s y = same_Some (Link a r b) (Link x s y) (sym at ∙ one) in
      let low : a ≡ x = cc in
      let role : s ≡ r = cc in
      let high : y ≡ b = cc in
      subst (λ z. Contains facts (Sub z node)) low (there node c (subst (λ z. IsNode (nodes_of grounds) node (Exists z c)) role is) (subst (λ z. IsPlacedBelow (place + 1) facts (Sub z c)) high two))

  -- all joins of the role were tried
  pub chained_first : (n : ℕ) (entries : List Join) → AreEntriesOf grounds (λ e. e.source) (λ e said. (r ≡ e.first) × Joins said e.first e.second e.into) entries → length entries ≤ n →
      EachBelow entries n (λ (e : Join). IsCounting grounds e.source → (c : ℕ) → IsPlacedBelow (place + 1) facts (Link b e.second c) → Contains facts (Link a e.into c)) →
      IsAnsweredFirst (nodes_of grounds) (IsCounted grounds) place facts Rule.Chain
  chained_first n entries are past each (Sub x y) some given = absurd given
  chained_first n entries are past each (Link x t c) some (q, s, y, said, (source, (counts, named)), says, one, two) =
      let same : Link a r b ≡ Link x q y = same_Some (Link a r b) (Link x q y) (sym at ∙ one) in
      let low : a ≡ x = cc in
      let role : r ≡ q = cc in
      let high : y ≡ b = cc in
      let entry : Join = record { first = q; second = s; into = t; source = source } in
      let held : Contains entries entry = (are entry counts).1 (said, named, (role, says)) in
      subst (λ z. Contains facts (Link z t c)) low
      (each_all entries n (λ (e : Join). IsCounting grounds e.source → (z : ℕ) → IsPlacedBelow (place + 1) facts (Link b e.second z) → Contains facts (Link a e.into z)) entry past each held counts c
      (subst (λ z. IsPlacedBelow (place + 1) facts (Link z s c)) high two))

  pub chained_second : (n : ℕ) (entries : List Join) → AreEntriesOf grounds (λ e. e.source) (λ e said. (r ≡ e.second) × Joins said e.first e.second e.into) entries → length entries ≤ n →
      EachBelow entries n (λ (e : Join). IsCounting grounds e.source → (x : ℕ) → IsPlacedBelow (place + 1) facts (Link x e.first a) → Contains facts (Link x e.into b)) →
      IsAnsweredSecond (nodes_of grounds) (IsCounted grounds) place facts Rule.Chain
  chained_second n entries are past each (Sub x y) some given = absurd given
  chained_second n entries are past each (Link x t c) some (q, s, y, said, (source, (counts, named)), says, one, two) =
      let same : Link a r b ≡ Link y s c = same_Some (Link a r b) (Link y s c) (sym at ∙ two) in
      let low : y ≡ a = cc in
      let role : r ≡ s = cc in
      let high : b ≡ c = cc in
      let entry : Join = record { first = q; second = s; into = t; source = source } in
      let held : Contains entries entry = (are entry counts).1 (said, named, (role, says)) in
      subst (λ z. Contains facts (Link x t z)) high
      (each_all entries n (λ (e : Join). IsCounting grounds e.source → (z : ℕ) → IsPlacedBelow (place + 1) facts (Link z e.first a) → Contains facts (Link z e.into b)) entry past each held counts x
      (subst (λ z. IsPlacedBelow (place + 1) facts (Link x q z)) low one))

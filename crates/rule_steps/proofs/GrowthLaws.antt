-- Lists of facts that grow.
use Rattle.std.proofs.Common.{◌≡◌, ℕ, ◌+◌, ◌<◌, ◌≤◌, List, [], ◌∷◌, ◌++◌, length, Contains, Some, refl, ap, subst, sym, ◌∙◌, ⊎_elim, arith, append_assoc, zero, suc}
use Rattle.std.specs.Prelude.{slice_get}
use Rattle.std.proofs.lemmas.Bool.{cases_lt}
use Rattle.std.proofs.lemmas.List.{map-append, append-nil}
use Rattle.std.proofs.lemmas.List.Elements.{Contains-append_left}
use Rattle.std.proofs.lemmas.Option.{slice_get_within, none-some, same_Some}
use Rattle.concept_store.specs.declared.types.NodeAxiom.{NodeAxiom}
use Rattle.fact_table.specs.declared.types.Fact.{Fact}
use Rattle.fact_table.specs.declared.types.Fact.TheVariants.{Link}
use Rattle.fact_table.specs.declared.types.Rule.{Rule}
use Rattle.fact_table.specs.declared.types.Proved.{Proved}
use Rattle.fact_table.specs.Lists.{facts_of}
use Rattle.fact_layers.specs.Tops.{Topped, whole}
use Rattle.el_rules.specs.Theories.{IsNamedBy}
use Rattle.el_rules.specs.Following.{IsEarlier, IsPlacedBelow, FollowsByReason, NamesNoMore}
use Rattle.case_file.specs.Cases.{theory_of}
use Rattle.rule_steps.specs.Counted.{GroundsView, nodes_of}
use Rattle.rule_steps.specs.Growing.{facts_in, AreLinksWithin, AreDerived, HasGrown}
use Rattle.rule_steps.specs.Answering.{IsAt, AreClosedBelow, IsAnswered, IsAnsweredByInclusions, IsAnsweredFirst, IsAnsweredSecond, AreBegunBelow}
use Rattle.rule_steps.specs.Inside.Steps.{IsDerivedFrom, IsLinkWithin}
use Rattle.rule_steps.proofs.Giving.{gives_more}
use Rattle.rule_steps.proofs.PlaceLaws.{at_stays, was_at, only_end}
use Rattle.rule_steps.proofs.Closings.{first_stays, second_stays, closed_stays}

-- an earlier item stays one
earlier_stays : (items more : List Proved) (k place : ℕ) (fact : Fact) → IsEarlier items k place fact → IsEarlier (items ++ more) k place fact
earlier_stays items more k place fact (item, before, at, same) = (item, before, at_stays items more place item at, same)

-- what follows from a list follows from a longer one
follows_stays : (grounds : GroundsView) (items more : List Proved) (k : ℕ) (item : Proved) → FollowsByReason (nodes_of grounds) (theory_of grounds.case) grounds.part grounds.ranks items k item →
    FollowsByReason (nodes_of grounds) (theory_of grounds.case) grounds.part grounds.ranks (items ++ more) k item
follows_stays grounds items more k item follows =
    let Named : NodeAxiom → Type 0 = IsNamedBy (theory_of grounds.case) grounds.part grounds.ranks item.reason.source in
    gives_more (nodes_of grounds) Named Named
    (IsEarlier items k item.reason.first) (IsEarlier items k item.reason.second) (IsEarlier (items ++ more) k item.reason.first) (IsEarlier (items ++ more) k item.reason.second)
    (λ said is. is) (earlier_stays items more k item.reason.first) (earlier_stays items more k item.reason.second) item.reason.rule item.fact follows

-- an item that follows and one more
pub derived_push : (grounds : GroundsView) (items : List Proved) (item : Proved) → IsDerivedFrom grounds items item → IsLinkWithin (length grounds.case.store.roles) item.fact → AreDerived grounds items → AreDerived grounds (items ++ item ∷ [])
derived_push grounds items item from within old = record { follows = follows; links = links }
  where
    follows : (k : ℕ) (other : Proved) → slice_get (items ++ item ∷ []) k ≡ Some other → FollowsByReason (nodes_of grounds) (theory_of grounds.case) grounds.part grounds.ranks (items ++ item ∷ []) k other
    follows k other at = ⊎_elim
        (λ less. follows_stays grounds items (item ∷ []) k other (old.follows k other (was_at items (item ∷ []) k other less at)))
        (λ more. let end = only_end items item other k more at in
        subst (λ x. FollowsByReason (nodes_of grounds) (theory_of grounds.case) grounds.part grounds.ranks (items ++ item ∷ []) k x) end.1
        (subst (λ n. FollowsByReason (nodes_of grounds) (theory_of grounds.case) grounds.part grounds.ranks (items ++ item ∷ []) n item) (sym end.0)
        (follows_stays grounds items (item ∷ []) (length items) item from.follows)))
        (cases_lt k (length items))

    by_fact : (k a r b : ℕ) → slice_get (facts_of items ++ item.fact ∷ []) k ≡ Some (Link a r b) → r < length grounds.case.store.roles
    by_fact k a r b at = ⊎_elim
        (λ less. old.links k a r b (was_at (facts_of items) (item.fact ∷ []) k (Link a r b) less at))
        (λ more. subst (IsLinkWithin (length grounds.case.store.roles)) (only_end (facts_of items) item.fact (Link a r b) k more at).1 within)
        (cases_lt k (length (facts_of items)))

    links : AreLinksWithin (length grounds.case.store.roles) (facts_of (items ++ item ∷ []))
    links k a r b at = by_fact k a r b (subst (λ xs. slice_get xs k ≡ Some (Link a r b)) (map-append (λ (one : Proved). one.fact) items (item ∷ [])) at)

module _ (grounds : GroundsView) where
  -- nothing was added
  pub grown_none : (layers : Topped) → HasGrown grounds layers layers
  grown_none layers = record { base = refl; top = ([], sym (append-nil layers.top)); derived = λ old. old }

  -- one list after the other
  pub grown_more : (one two three : Topped) → HasGrown grounds one two → HasGrown grounds two three → HasGrown grounds one three
  grown_more one two three first second = record {
    base = second.base ∙ first.base;
    top = (first.top.0 ++ second.top.0, second.top.1 ∙ ap (λ xs. xs ++ second.top.0) first.top.1 ∙ append_assoc one.top first.top.0 second.top.0);
    derived = λ old. second.derived (first.derived old);
  }

  -- the whole list after it grew
  pub grown_whole : (old new : Topped) → HasGrown grounds old new → (more : List Proved) × (whole new ≡ whole old ++ more)
  grown_whole old new grown =
      (grown.top.0, ap (λ xs. xs ++ new.top) grown.base ∙ ap (λ xs. old.base ++ xs) grown.top.1 ∙ sym (append_assoc old.base old.top grown.top.0))

  pub grown_facts : (old new : Topped) → HasGrown grounds old new → (more : List Fact) × (facts_in new ≡ facts_in old ++ more)
  grown_facts old new grown =
      let longer = grown_whole old new grown in
      (facts_of longer.0, ap facts_of longer.1 ∙ map-append (λ (one : Proved). one.fact) (whole old) longer.0)

  -- one item was added
  pub grown_push : (old new : Topped) (item : Proved) → new.base ≡ old.base → new.top ≡ old.top ++ item ∷ [] → IsDerivedFrom grounds (whole old) item → IsLinkWithin (length grounds.case.store.roles) item.fact → HasGrown grounds old new
  grown_push old new item base top from within = record {
    base = base;
    top = (item ∷ [], top);
    derived = λ derived. subst (AreDerived grounds) (sym (ap (λ xs. xs ++ new.top) base ∙ ap (λ xs. old.base ++ xs) top ∙ sym (append_assoc old.base old.top (item ∷ []))))
        (derived_push grounds (whole old) item from within derived);
  }

  -- a fact that is there stays there
  pub has_stays : (old new : Topped) (fact : Fact) → HasGrown grounds old new → Contains (facts_in old) fact → Contains (facts_in new) fact
  has_stays old new fact grown held =
      let longer = grown_facts old new grown in subst (λ xs. Contains xs fact) (sym longer.1) (Contains-append_left (facts_in old) longer.0 fact held)

  -- and at its place
  pub at_grown : (old new : Topped) (k : ℕ) (fact : Fact) → HasGrown grounds old new → IsAt k (facts_in old) fact → IsAt k (facts_in new) fact
  at_grown old new k fact grown at =
      let longer = grown_facts old new grown in subst (λ xs. slice_get xs k ≡ Some fact) (sym longer.1) (at_stays (facts_in old) longer.0 k fact at)

  -- what is at an old place was there
  pub at_before : (old new : Topped) (k : ℕ) (fact : Fact) → HasGrown grounds old new → k < length (facts_in old) → IsAt k (facts_in new) fact → IsAt k (facts_in old) fact
  at_before old new k fact grown within at =
      let longer = grown_facts old new grown in was_at (facts_in old) longer.0 k fact within (subst (λ xs. slice_get xs k ≡ Some fact) longer.1 at)

  -- what was answered stays so
  pub first_grown : (Named : NodeAxiom → Type 0) (old new : Topped) (p : ℕ) (rule : Rule) (fact : Fact) → HasGrown grounds old new → IsAt p (facts_in old) fact →
      IsAnsweredFirst (nodes_of grounds) Named p (facts_in old) rule → IsAnsweredFirst (nodes_of grounds) Named p (facts_in new) rule
  first_grown Named old new p rule fact grown at answered =
      let longer = grown_facts old new grown in
      subst (λ xs. IsAnsweredFirst (nodes_of grounds) Named p xs rule) (sym longer.1)
      (first_stays (nodes_of grounds) Named p (facts_in old) longer.0 rule (slice_get_within (facts_in old) p fact at) answered)

  pub second_grown : (Named : NodeAxiom → Type 0) (old new : Topped) (p : ℕ) (rule : Rule) (fact : Fact) → HasGrown grounds old new → IsAt p (facts_in old) fact →
      IsAnsweredSecond (nodes_of grounds) Named p (facts_in old) rule → IsAnsweredSecond (nodes_of grounds) Named p (facts_in new) rule
  second_grown Named old new p rule fact grown at answered =
      let longer = grown_facts old new grown in
      subst (λ xs. IsAnsweredSecond (nodes_of grounds) Named p xs rule) (sym longer.1)
      (second_stays (nodes_of grounds) Named p (facts_in old) longer.0 rule (slice_get_within (facts_in old) p fact at) answered)

  pub answered_grown : (Named : NodeAxiom → Type 0) (old new : Topped) (p : ℕ) → HasGrown grounds old new → p < length (facts_in old) →
      IsAnswered (nodes_of grounds) Named p (facts_in old) → IsAnswered (nodes_of grounds) Named p (facts_in new)
  answered_grown Named old new p grown within answered =
      let longer = grown_facts old new grown in
      subst (IsAnswered (nodes_of grounds) Named p) (sym longer.1) (λ rule. (
        first_stays (nodes_of grounds) Named p (facts_in old) longer.0 rule within (answered rule).0,
        second_stays (nodes_of grounds) Named p (facts_in old) longer.0 rule within (answered rule).1,
      ))

  pub inclusions_grown : (Named : NodeAxiom → Type 0) (old new : Topped) (p : ℕ) → HasGrown grounds old new → p < length (facts_in old) →
      IsAnsweredByInclusions (nodes_of grounds) Named p (facts_in old) → IsAnsweredByInclusions (nodes_of grounds) Named p (facts_in new)
  inclusions_grown Named old new p grown within answered =
      let longer = grown_facts old new grown in
      subst (IsAnsweredByInclusions (nodes_of grounds) Named p) (sym longer.1) (
        first_stays (nodes_of grounds) Named p (facts_in old) longer.0 Rule.Incl within answered.0,
        first_stays (nodes_of grounds) Named p (facts_in old) longer.0 Rule.Role within answered.1,
      )

  -- what was closed and begun stays so
  pub closed_grown : (Named : NodeAxiom → Type 0) (old new : Topped) (p : ℕ) → HasGrown grounds old new → p ≤ length (facts_in old) →
      AreClosedBelow (nodes_of grounds) Named p (facts_in old) → AreClosedBelow (nodes_of grounds) Named p (facts_in new)
  closed_grown Named old new p grown within closed =
      let longer = grown_facts old new grown in
      subst (AreClosedBelow (nodes_of grounds) Named p) (sym longer.1) (closed_stays (nodes_of grounds) Named p (facts_in old) longer.0 within closed)

  pub begun_grown : (Named : NodeAxiom → Type 0) (old new : Topped) (n : ℕ) → HasGrown grounds old new →
      AreBegunBelow (nodes_of grounds) Named n (facts_in old) → AreBegunBelow (nodes_of grounds) Named n (facts_in new)
  begun_grown Named old new n grown begun node below rule fact of_node given = has_stays old new fact grown (begun node below rule fact of_node given)

  -- a fact below an old place was there
  pub placed_before : (old new : Topped) (k : ℕ) (fact : Fact) → HasGrown grounds old new → k ≤ length (facts_in old) → IsPlacedBelow k (facts_in new) fact → IsPlacedBelow k (facts_in old) fact
  placed_before old new k fact grown within (place, below, at) = (place, below, at_before old new place fact grown (omega arith) at)

  -- what is at places up to this one
  pub placed_up_to : (old new : Topped) (place : ℕ) (here fact : Fact) → HasGrown grounds old new → IsAt place (facts_in old) here → IsPlacedBelow (place + 1) (facts_in new) fact → IsPlacedBelow (place + 1) (facts_in old) fact
  placed_up_to old new place here fact grown at below =
      let within : place < length (facts_in old) = slice_get_within (facts_in old) place here at in placed_before old new (place + 1) fact grown (omega arith) below

  pub placed_stays : (old new : Topped) (k : ℕ) (fact : Fact) → HasGrown grounds old new → IsPlacedBelow k (facts_in old) fact → IsPlacedBelow k (facts_in new) fact
  placed_stays old new k fact grown (place, below, at) = (place, below, at_grown old new place fact grown at)

-- the item of a fact at a place
pub item_at : (items : List Proved) (k : ℕ) (fact : Fact) → slice_get (facts_of items) k ≡ Some fact → (item : Proved) × (slice_get items k ≡ Some item) × (item.fact ≡ fact)
item_at [] k fact at = absurd (none-some fact at)
item_at (item ∷ items) zero fact at = (item, refl, same_Some item.fact fact at)
item_at (item ∷ items) (suc k) fact at = item_at items k fact at

-- the fact at a place is an earlier one at the end of the list
pub earlier_at : (items : List Proved) (k : ℕ) (fact : Fact) → IsAt k (facts_of items) fact → IsEarlier items (length items) k fact
earlier_at items k fact at = let found = item_at items k fact at in (found.0, slice_get_within items k found.0 found.1, found.1, found.2)

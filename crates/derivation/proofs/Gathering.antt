-- Gathering the places from which a goal follows, the greatest first.
use Rattle.std.proofs.Common.{◌≡◌, ◌∙◌, ◌+◌, ◌<◌, ◌≤◌, ◌↔◌, ◌⊎◌, ℕ, List, [], ◌∷◌, ◌++◌, Some, IsTrue, All, Contains, length, slice_get, refl, sym, ap, subst, inl, inr, ⊎_elim, arith, length-append}
use Rattle.std.proofs.lemmas.Cmp.{nat_cmp_total}
use Rattle.std.proofs.lemmas.List.Elements.{All-contains, All-push, Contains-push, Contains-push_cases, Contains-append_left}
use Rattle.std.proofs.lemmas.List.Quantifiers.{all_pairs_push}
use Rattle.std.proofs.lemmas.Map.Lookups.{exact_unsigned}
use Rattle.std.proofs.lemmas.Map.Views.{btree_set_contains_iff}
use Rattle.std.proofs.lemmas.Option.{same_Some}
use Rattle.std.specs.BTreeMap.Range.{IsLtBy}
use Rattle.std.specs.BTreeSet.{BTreeSet, contains}
use Rattle.std.specs.List.{AllPairs}
use Rattle.std.specs.Ordering.{nat_cmp}
use Rattle.fact_table.specs.declared.types.Proved.{Proved}
use Rattle.derivation.specs.Traces.{IsPremiseOf, EachNamesEarlier}
use Rattle.derivation.specs.Inside.Needed.{AreNeeded}

-- a number is in a set
abbrev pub IsPending : BTreeSet ℕ → ℕ → Type 0
IsPending pending q = IsTrue (contains nat_cmp pending q)

-- what was gathered so far, and what is still to come: all below it, and with it all premises
pub record IsGathered (items : List Proved) (goal : ℕ) (places : List ℕ) (pending : BTreeSet ℕ) : Type 0 where
  pub first : (rest : List ℕ) × (places ≡ goal ∷ rest)
  pub descending : AllPairs (λ one other. other < one) places
  pub within : All (λ place. place ≤ goal) places
  pub under : (q : ℕ) → IsPending pending q → All (λ place. q < place) places
  pub few : (q : ℕ) → IsPending pending q → q + length places ≤ goal
  pub premises : (place : ℕ) (item : Proved) (premise : ℕ) → Contains places place → slice_get items place ≡ Some item
      → IsPremiseOf item.reason premise → Contains places premise ⊎ IsPending pending premise

-- what taking the greatest number out of a set leaves
pub record IsPopped (old new : BTreeSet ℕ) (k : ℕ) : Type 0 where
  pub taken : IsPending old k
  pub left : (q : ℕ) → IsPending new q → IsPending old q
  pub below : (q : ℕ) → IsPending new q → q < k
  pub others : (q : ℕ) → IsPending old q → IsPending new q ⊎ (k ≡ q)

-- a number that compares as less is less
less_is : (q k : ℕ) → IsLtBy nat_cmp q k → q < k
less_is q k less = grind (arith, less)

pub popped : (old new : BTreeSet ℕ) (k : ℕ) → old.keys ≡ new.keys ++ k ∷ [] → All (λ q. IsLtBy nat_cmp q k) new.keys → IsPopped old new k
popped old new k removal below =
    let held : (set : BTreeSet ℕ) (q : ℕ) → IsPending set q ↔ Contains set.keys q = λ set q. btree_set_contains_iff nat_cmp_total exact_unsigned set q in
    record {
      taken = (held old k).1 (subst (λ keys. Contains keys k) (sym removal) (Contains-push new.keys k));
      left = λ q in_new. (held old q).1 (subst (λ keys. Contains keys q) (sym removal) (Contains-append_left new.keys (k ∷ []) q ((held new q).0 in_new)));
      below = λ q in_new. less_is q k (All-contains (λ n. IsLtBy nat_cmp n k) new.keys q below ((held new q).0 in_new));
      others = λ q in_old. ⊎_elim (λ there. inl ((held new q).1 there)) (λ same. inr same)
          (Contains-push_cases new.keys k q (subst (λ keys. Contains keys q) removal ((held old q).0 in_old)));
    }

-- a set has an element if something is pending
pub some_pending : (set : BTreeSet ℕ) (q : ℕ) → IsPending set q → 0 < length set.keys
some_pending set q pending =
    let held = (btree_set_contains_iff nat_cmp_total exact_unsigned set q).0 pending in omega (arith, held.1)

-- so nothing is pending in an empty set
pub none_pending : (set : BTreeSet ℕ) (q : ℕ) → length set.keys ≡ 0 → IsPending set q → ⊥
none_pending set q none pending = let some = some_pending set q pending in absurd (omega (arith, none, some))

module _ (items : List Proved) (goal : ℕ) (earlier : EachNamesEarlier items) where
  -- what is pending once the premises of an item were added
  abbrev pub Adds : Proved → BTreeSet ℕ → BTreeSet ℕ → Type 0
  Adds item old new = (q : ℕ) → IsPending new q ↔ (IsPremiseOf item.reason q ⊎ IsPending old q)

  -- an item at a place is the one there
  same_item : (place other : ℕ) (item another : Proved) → place ≡ other → slice_get items place ≡ Some item → slice_get items other ≡ Some another → item ≡ another
  same_item place other item another same here there = same_Some item another (sym here ∙ subst (λ n. slice_get items n ≡ Some another) (sym same) there)

  -- the only element of a list of one
  only : (place : ℕ) → Contains ([] ++ goal ∷ []) place → goal ≡ place
  only place held = ⊎_elim (λ none. absurd (omega (arith, none.1))) (λ same. same) (Contains-push_cases [] goal place held)

  -- the goal alone, with its premises to come
  pub gathered_start : (item : Proved) (none with : BTreeSet ℕ) → slice_get items goal ≡ Some item → ((q : ℕ) → IsPending none q → ⊥) → Adds item none with
      → IsGathered items goal ([] ++ goal ∷ []) with
  gathered_start item none with at empty adds =
      let lower : (q : ℕ) → IsPending with q → q < goal =
      λ q pending. ⊎_elim (λ premise. earlier goal item at q premise) (λ there. absurd (empty q there)) ((adds q).0 pending) in
      record {
        first = ([], refl);
        descending = λ i j d below inside. absurd (omega (arith, below, inside));
        within = All-push (λ place. place ≤ goal) [] goal (λ k d inside. absurd (omega (arith, inside))) (omega arith);
        under = λ q pending. All-push (λ place. q < place) [] goal (λ k d inside. absurd (omega (arith, inside))) (lower q pending);
        few = λ q pending. let less = lower q pending in omega (arith, less);
        premises = λ place other premise held here names.
            let same : item ≡ other = same_item goal place item other (only place held) at here in
            inr ((adds premise).1 (inl (subst (λ i. IsPremiseOf i.reason premise) (sym same) names)));
      }

  -- one more place, the greatest that was pending
  pub gathered_next : (places : List ℕ) (old rest new : BTreeSet ℕ) (k : ℕ) (item : Proved) → IsGathered items goal places old → IsPopped old rest k
      → slice_get items k ≡ Some item → Adds item rest new → IsGathered items goal (places ++ k ∷ []) new
  gathered_next places old rest new k item gathered pop at adds =
      let lower : (q : ℕ) → IsPending new q → q < k =
      λ q pending. ⊎_elim (λ premise. earlier k item at q premise) (λ there. pop.below q there) ((adds q).0 pending) in
      let here = gathered.few k pop.taken in
      record {
        first = (gathered.first.0 ++ k ∷ [], ap (λ p. p ++ k ∷ []) gathered.first.1);
        descending = all_pairs_push (λ one other. other < one) places k gathered.descending (gathered.under k pop.taken);
        within = All-push (λ place. place ≤ goal) places k gathered.within (omega (arith, here));
        under = λ q pending. let less = lower q pending in
            All-push (λ place. q < place) places k (λ n d inside. let above = gathered.under k pop.taken n d inside in omega (arith, above, less)) less;
        few = λ q pending. let less = lower q pending in omega (arith, here, less, length-append places (k ∷ []));
        premises = λ place other premise held there names.
            ⊎_elim
            (λ before. ⊎_elim (λ gone. inl (Contains-append_left places (k ∷ []) premise gone))
            (λ was. ⊎_elim (λ still. inr ((adds premise).1 (inr still)))
            (λ same. inl (subst (Contains (places ++ k ∷ [])) same (Contains-push places k))) (pop.others premise was))
            (gathered.premises place other premise before there names))
            (λ same. let one : item ≡ other = same_item k place item other same at there in
            inr ((adds premise).1 (inl (subst (λ i. IsPremiseOf i.reason premise) (sym one) names))))
            (Contains-push_cases places k place held);
      }

  -- once nothing is pending, all is gathered
  pub all_gathered : (places : List ℕ) (pending : BTreeSet ℕ) → IsGathered items goal places pending → ((q : ℕ) → IsPending pending q → ⊥) → AreNeeded items goal places
  all_gathered places pending gathered none = record {
    first = gathered.first;
    descending = gathered.descending;
    within = gathered.within;
    premises = λ place item premise held at names.
        ⊎_elim (λ there. there) (λ still. absurd (none premise still)) (gathered.premises place item premise held at names);
  }

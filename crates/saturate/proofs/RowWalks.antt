-- Places at which the rows that are tested are entered.
use Rattle.std.proofs.Common.{◌≡◌, ◌∙◌, ℕ, ◌+◌, ◌<◌, ◌≤◌, ◌⊎◌, List, [], Contains, length, Some, None, refl, inl, inr, ap, sym, subst, ⊎_elim, arith}
use Rattle.std.specs.Prelude.{slice_get}
use Rattle.std.proofs.lemmas.Bool.{cases_lt, cases_eq}
use Rattle.std.proofs.lemmas.Option.{slice_get_within, same_Some}
use Rattle.concept_store.specs.declared.types.NodeAxiom.{NodeAxiom}
use Rattle.fact_table.specs.declared.types.Fact.{Fact}
use Rattle.fact_table.specs.declared.types.Fact.TheVariants.{Sub, Link}
use Rattle.fact_table.specs.declared.types.FactGroup.{FactGroup}
use Rattle.fact_table.specs.declared.types.FactSide.{FactSide}
use Rattle.fact_table.specs.Groups.{group_at}
use Rattle.fact_table.specs.Places.{IsLastBelow}
use Rattle.fact_layers.specs.Tops.{Topped}
use Rattle.rule_steps.specs.Counted.{GroundsView}
use Rattle.rule_steps.specs.Growing.{facts_in, HasGrown}
use Rattle.saturate.specs.Inside.Rows.{IsEntered, AreEntered, IsOfGroup, IsLinkBy}
use Rattle.saturate.proofs.Places.{was_at, place_of, grown_facts}

-- what is entered stays so in a list that has grown
abbrev pub EntriesStay : GroundsView → ℕ → Topped → Topped → Type 0
EntriesStay grounds first old new = (p : ℕ) → p < length (facts_in old) → IsEntered grounds first (facts_in old) p → IsEntered grounds first (facts_in new) p

module _ (grounds : GroundsView) (first : ℕ) (old new : Topped) (grown : HasGrown grounds old new) (stay : EntriesStay grounds first old new) where
  -- a fact at an old place was there
  at_before : (k : ℕ) (fact : Fact) → k < length (facts_in old) → slice_get (facts_in new) k ≡ Some fact → slice_get (facts_in old) k ≡ Some fact
  at_before k fact within at =
      let longer = grown_facts grounds old new grown in
      was_at (facts_in old) longer.0 k fact within (subst (λ (xs : List Fact). slice_get xs k ≡ Some fact) longer.1 at)

  -- so do several places
  pub entered_stays : (below : ℕ) (Such : Fact → Type 0) → below ≤ length (facts_in old) → AreEntered grounds first below Such (facts_in old) → AreEntered grounds first below Such (facts_in new)
  entered_stays below Such fits entered place fact under at such =
      stay place (omega arith) (entered place fact under (at_before place fact (omega arith) at) such)

  -- what is entered for some facts and for others
  pub entered_or : (below : ℕ) (One Other Such : Fact → Type 0) → below ≤ length (facts_in old) → ((fact : Fact) → Such fact → One fact ⊎ Other fact)
      → AreEntered grounds first below One (facts_in old) → AreEntered grounds first below Other (facts_in new) → AreEntered grounds first below Such (facts_in new)
  entered_or below One Other Such fits apart one other place fact under at such = ⊎_elim
      (λ is. entered_stays below One fits one place fact under at is)
      (λ is. other place fact under at is)
      (apart fact such)

  -- a walk down a group has entered one more place
  pub walk_more : (key : Fact → FactGroup) (group : FactGroup) (bound partner below : ℕ) → below ≤ length (facts_in old) → IsLastBelow key (facts_in old) group bound (Some partner)
      → ((k : ℕ) (fact : Fact) → bound ≤ k → k < below → slice_get (facts_in old) k ≡ Some fact → key fact ≡ group → IsEntered grounds first (facts_in old) k)
      → IsEntered grounds first (facts_in new) partner
      → (k : ℕ) (fact : Fact) → partner ≤ k → k < below → slice_get (facts_in new) k ≡ Some fact → key fact ≡ group → IsEntered grounds first (facts_in new) k
  walk_more key group bound partner below fits last before here k fact past under at grouped =
      let was = at_before k fact (omega arith) at in
      ⊎_elim
      (λ (less : k < bound). ⊎_elim
      (λ (same : k ≡ partner). subst (IsEntered grounds first (facts_in new)) (sym same) here)
      (λ differs. absurd (last.2 k (beyond differs) less (fact, was, grouped)))
      (cases_eq k partner))
      (λ more. stay k (omega arith) (before k fact more under was grouped))
      (cases_lt k bound)
    where
      beyond : (k ≡ partner → ⊥) → partner + 1 ≤ k
      beyond differs = ⊎_elim (λ less. absurd (differs (omega arith))) (λ more. more) (cases_lt k (partner + 1))

-- a walk that has ended has entered all
pub walk_all : (grounds : GroundsView) (first : ℕ) (facts : List Fact) (side : FactSide) (group : FactGroup) (bound below : ℕ) → IsLastBelow (group_at side) facts group bound None
    → ((k : ℕ) (fact : Fact) → bound ≤ k → k < below → slice_get facts k ≡ Some fact → group_at side fact ≡ group → IsEntered grounds first facts k) → AreEntered grounds first below (IsOfGroup side group) facts
walk_all grounds first facts side group bound below last before k fact under at grouped = ⊎_elim
    (λ less. absurd (last k (omega arith) less (fact, at, grouped)))
    (λ more. before k fact more under at grouped)
    (cases_lt k bound)

-- in another way
pub entered_as : (grounds : GroundsView) (first below : ℕ) (facts : List Fact) (One Such : Fact → Type 0) → ((fact : Fact) → Such fact → One fact) → AreEntered grounds first below One facts → AreEntered grounds first below Such facts
entered_as grounds first below facts One Such so one place fact under at such = one place fact under at (so fact such)

-- a link by the role, from one of the first nodes
abbrev pub IsLinkBelow : ℕ → ℕ → Fact → Type 0
IsLinkBelow role nodes (Sub a c) = ⊥
IsLinkBelow role nodes (Link a r b) = (a < nodes) × (r ≡ role)

-- one more node
pub link_or : (role node : ℕ) (fact : Fact) → IsLinkBelow role (node + 1) fact → IsLinkBelow role node fact ⊎ IsOfGroup FactSide.From (FactGroup.Links node role) fact
link_or role node (Sub a c) is = absurd is
link_or role node (Link a r b) (under, by) = ⊎_elim
    (λ less. inl (less, by))
    (λ more. inr (same_group (omega arith) by))
    (cases_lt a node)
  where
    same_group : a ≡ node → r ≡ role → FactGroup.Links a r ≡ FactGroup.Links node role
    same_group one other = cc

-- no link is from one of no nodes
pub links_none : (grounds : GroundsView) (first below role : ℕ) (facts : List Fact) → AreEntered grounds first below (IsLinkBelow role 0) facts
links_none grounds first below role facts place (Sub a c) under at such = absurd such
links_none grounds first below role facts place (Link a r b) under at such = absurd (omega (arith, such.0))

-- all links are from nodes
pub links_all : (grounds : GroundsView) (first below role nodes : ℕ) (facts : List Fact) → ((k a r b : ℕ) → slice_get facts k ≡ Some (Link a r b) → a < nodes)
    → AreEntered grounds first below (IsLinkBelow role nodes) facts → AreEntered grounds first below (IsLinkBy role) facts
links_all grounds first below role nodes facts from entered place (Sub a c) under at such = absurd such
links_all grounds first below role nodes facts from entered place (Link a r b) under at such = entered place (Link a r b) under at (from place a r b at, such)

-- one of the first elements of a list has it
abbrev pub FirstStart : {T : Type 0} → List T → ℕ → (T → Fact → Type 0) → Fact → Type 0
FirstStart xs n Starts fact = (k : ℕ) × (x : _) × (k < n) × (slice_get xs k ≡ Some x) × Starts x fact

module _ {T : Type 0} (xs : List T) (Starts : T → Fact → Type 0) where
  -- none of no elements
  pub start_none : (grounds : GroundsView) (first below : ℕ) (facts : List Fact) → AreEntered grounds first below (FirstStart xs 0 Starts) facts
  start_none grounds first below facts place fact under at (k, x, less, found, starts) = absurd (omega arith)

  -- one more
  pub start_or : (n : ℕ) (here : T) → slice_get xs n ≡ Some here → (fact : Fact) → FirstStart xs (n + 1) Starts fact → FirstStart xs n Starts fact ⊎ Starts here fact
  start_or n here is fact (k, x, less, found, starts) = ⊎_elim
      (λ before. inl (k, x, before, found, starts))
      (λ at. let same : k ≡ n = omega arith in
      inr (subst (λ y. Starts y fact) (same_Some x here (sym found ∙ ap (slice_get xs) same ∙ is)) starts))
      (cases_lt k n)

  -- all of them
  pub start_all : (n : ℕ) → length xs ≤ n → (fact : Fact) → (x : T) × Contains xs x × Starts x fact → FirstStart xs n Starts fact
  start_all n past fact (x, held, starts) =
      let at = place_of xs x held in
      let within : at.0 < length xs = slice_get_within xs at.0 x at.1 in
      (at.0, x, omega arith, at.1, starts)

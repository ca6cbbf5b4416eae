-- A live seat has seen every entry, whatever step is taken.
use Rattle.std.proofs.Common.{◌≡◌, ◌≢◌, ◌≤◌, ℕ, List, [], ◌∷◌, ◌++◌, set, sym, ap, ◌∙◌, subst}
use mathlib.Core.Logic.{dite}
use mathlib.Core.Option.{some, some-injective}
use native.Mathlib.Decide.{ℕ_discrete}
use lib.ListN.{get_elem?}
use Rattle.atomic_table.proofs.Lists.{set_else, at_longer}
use Rattle.commit_lock.specs.declared.lock.SeatView.{SeatView}
use Rattle.commit_lock.specs.Entries.{IsBeginning}
use Rattle.commit_lock.specs.Inside.LockRule.{SomeHasSeen}
use Rattle.commit_lock.proofs.EntryLemmas.{begins_both_ways}
use Rattle.commit_lock.proofs.Views.{set_there}

-- two views at one place are one view
pub at_one_place : {A : Type 0} (xs : List A) (i j : ℕ) (v w : A) → get_elem? xs i ≡ some v
    → get_elem? xs j ≡ some w → j ≡ i → w ≡ v
at_one_place xs i j v w at_i at_j same = some-injective w v (sym at_j ∙ (ap (get_elem? xs) same ∙ at_i))

module _ {C E : Type 0} where
  -- a seat changes, and has seen as much as before
  pub seen_changed : (log : List E) (views : List (SeatView C E)) (id : ℕ) (view after : SeatView C E)
      → get_elem? views id ≡ some view
      → (1 ≤ view.stands_for → view.seen ≡ log → (1 ≤ after.stands_for) × (after.seen ≡ log))
      → SomeHasSeen log views → SomeHasSeen log (set views id after)
  seen_changed log views id view after at keeps witness =
      let (place, it, at_place, live, all) = witness in
      dite (ℕ_discrete place id)
      (λ here.
      let same : it ≡ view = at_one_place views id place view it at at_place here in
      let its_live = subst (λ (v : SeatView C E). 1 ≤ v.stands_for) same live in
      let its_all = subst (λ (v : SeatView C E). v.seen ≡ log) same all in
      let kept = keeps its_live its_all in
      (id, after, set_there views id view after at, kept.0, kept.1))
      (λ apart. (place, it, set_else views id place after apart ∙ at_place, live, all))

  -- a view is added
  pub seen_added : (log : List E) (views : List (SeatView C E)) (more : SeatView C E)
      → SomeHasSeen log views → SomeHasSeen log (views ++ more ∷ [])
  seen_added log views more witness =
      let (place, it, at_place, live, all) = witness in
      (place, it, at_longer views (more ∷ []) place it at_place, live, all)

  -- a seat is joined into another, which has then seen what both had seen
  pub seen_joined : (log : List E) (views : List (SeatView C E)) (id other_id : ℕ) (view other both spent : SeatView C E)
      → get_elem? views id ≡ some view → get_elem? views other_id ≡ some other → other_id ≢ id
      → 1 ≤ both.stands_for
      → IsBeginning both.seen log → IsBeginning view.seen both.seen
      → IsBeginning other.seen both.seen
      → SomeHasSeen log views → SomeHasSeen log (set (set views id both) other_id spent)
  seen_joined log views id other_id view other both spent at at_other apart stands begins view_begins other_begins witness =
      let (place, it, at_place, live, all) = witness in
      let kept : List (SeatView C E) = set views id both in
      let there : get_elem? (set kept other_id spent) id ≡ some both =
      set_else kept other_id id spent (λ e. apart (sym e)) ∙ set_there views id view both at in
      let stays : IsBeginning it.seen both.seen → SomeHasSeen log (set kept other_id spent) = λ of_it.
      let back = subst (λ (l : List E). IsBeginning l both.seen) all of_it in
      (id, both, there, stands, begins_both_ways both.seen log begins back) in
      dite (ℕ_discrete place id)
      (λ here.
      let same = at_one_place views id place view it at at_place here in
      stays (subst (λ (v : SeatView C E). IsBeginning v.seen both.seen) (sym same) view_begins))
      (λ not_here. dite (ℕ_discrete place other_id)
      (λ beside.
      let same = at_one_place views other_id place other it at_other at_place beside in
      stays (subst (λ (v : SeatView C E). IsBeginning v.seen both.seen) (sym same) other_begins))
      (λ not_beside.
      let still = set_else kept other_id place spent not_beside ∙ set_else views id place both not_here in
      (place, it, still ∙ at_place, live, all)))

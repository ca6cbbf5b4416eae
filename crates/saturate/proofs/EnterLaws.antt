-- A closed table to which rows are added.
use Rattle.std.proofs.Common.{◌≡◌, ◌∙◌, ℕ, ◌+◌, ◌<◌, ◌≤◌, List, [], ◌++◌, length, Contains, Some, ap, sym, subst, arith}
use Rattle.std.specs.Prelude.{slice_get, slice_index_or}
use Rattle.std.proofs.lemmas.List.{append-nil}
use Rattle.concept_store.specs.declared.types.NodeAxiom.{NodeAxiom}
use Rattle.concept_store.specs.declared.types.NodeAxiom.TheVariants.{SubClass, SubRole}
use Rattle.fact_table.specs.declared.types.Fact.{Fact}
use Rattle.fact_table.specs.declared.types.Fact.TheVariants.{Sub, Link}
use Rattle.fact_table.specs.declared.types.Proved.{Proved}
use Rattle.fact_table.specs.declared.types.Rule.{Rule}
use Rattle.fact_table.specs.declared.types.Source.{Source}
use Rattle.fact_table.specs.Lists.{facts_of}
use Rattle.fact_layers.specs.Tops.{Topped, whole}
use Rattle.el_rules.specs.Saying.{Includes, IncludesRole}
use Rattle.el_rules.specs.Following.{AreClosed}
use Rattle.el_rules.specs.Theories.{IsNamed}
use Rattle.case_file.specs.Cases.{CaseView, theory_of}
use Rattle.closed_model.specs.ClosedTables.{TableView, IsClosedTable}
use Rattle.rule_steps.specs.Counted.{GroundsView, IsCounted, IsCountedSince, IsCounting, IsSince, nodes_of}
use Rattle.rule_steps.specs.Growing.{facts_in, AreDerived, AreLinksWithin, HasGrown}
use Rattle.rule_steps.specs.Answering.{AreClosedBelow, AreBegunBelow, IsAnswered, IsAnsweredFirst}
use Rattle.saturate.specs.Inside.Rows.{AreAnsweredByRows, AreEntered, IsEntered, RowsStartFrom, StartFrom, StartsFrom}
use Rattle.saturate.specs.Inside.Saturated.{AddsRanks, AreAnsweredWithin, IsCaughtUp, IsLive, grounds_of}
use Rattle.saturate.proofs.Places.{grown_facts, held_at}
use Rattle.saturate.proofs.ClashLaws.{facts_length}
use Rattle.saturate.proofs.LoopLaws.{grown_length}
use Rattle.saturate.proofs.ReadyLaws.{follows_more, table_live}
use Rattle.saturate.proofs.AnsweredLaws.{caught_none, closed_on}

-- facts with nothing over their base are those of the base
pub whole_of : (layers : Topped) (items : List Proved) → layers.base ≡ items → layers.top ≡ [] → whole layers ≡ items
whole_of layers items base none = ap (λ (xs : List Proved). layers.base ++ xs) none ∙ append-nil layers.base ∙ base

module _ (case : CaseView) (olds : List ℕ) (first : ℕ) (more ranks : List ℕ) (added : AddsRanks olds first more ranks) where
  -- an axiom of a row that is added is one of the added rows
  late_axiom : (source : Source) (said : NodeAxiom) → IsSince (Some first) source → IsCounting (grounds_of case ranks) source → IsNamed (theory_of case) source said
      → (rank : ℕ) × Contains more rank × Contains (slice_index_or case.over rank []) said
  late_axiom (Source.Left number) said since counts named = absurd since
  late_axiom (Source.Right number) said since counts named = absurd since
  late_axiom (Source.Row rank number) said since counts (k, same, at) = (rank, added.late rank counts since, held_at (slice_index_or case.over rank []) k said at)
  late_axiom Source.Nothing said since counts named = absurd since

  -- so what is entered for these rows is answered for them
  pub rows_answered : (below : ℕ) (facts : List Fact) → AreEntered (grounds_of case ranks) first below (RowsStartFrom case.over more) facts → AreAnsweredByRows (grounds_of case ranks) first below facts
  rows_answered below facts entered place under = (inclusions, roles)
    where
      inclusions : IsAnsweredFirst case.store.nodes (IsCountedSince (Some first) (grounds_of case ranks)) place facts Rule.Incl
      inclusions (Link a r b) some given = absurd given
      inclusions (Sub a d) some (c, said, (source, ((since, counts), named)), says, at) =
          let row = late_axiom source said since counts named in
          (entered place (Sub a c) under at (row.0, row.1, (said, row.2, (d, says)))).0 (Sub a d) some (c, said, (source, ((since, counts), named)), says, at)

      roles : IsAnsweredFirst case.store.nodes (IsCountedSince (Some first) (grounds_of case ranks)) place facts Rule.Role
      roles (Sub a d) some given = absurd given
      roles (Link a s b) some (r, said, (source, ((since, counts), named)), says, at) =
          let row = late_axiom source said since counts named in
          (entered place (Link a r b) under at (row.0, row.1, (said, row.2, (s, says)))).1 (Link a s b) some (r, said, (source, ((since, counts), named)), says, at)

module _ (table : TableView) (first : ℕ) (more ranks : List ℕ) (closed : IsClosedTable table) (added : AddsRanks table.ranks first more ranks) where
  -- the facts of the table follow from more rows too
  derived_old : (links : AreLinksWithin (length table.case.store.roles) (facts_of table.items)) (old : Topped) → whole old ≡ table.items → AreDerived (grounds_of table.case ranks) (whole old)
  derived_old links old same = subst (AreDerived (grounds_of table.case ranks)) (sym same) (record {
    follows = follows_more table.case.store.nodes (theory_of table.case) table.ranks ranks table.items added.kept closed.follow;
    links = links;
  })

  -- with nothing over them they have caught up
  caught_at : (links : AreLinksWithin (length table.case.store.roles) (facts_of table.items)) (old : Topped) → whole old ≡ table.items → old.top ≡ [] → IsCaughtUp (grounds_of table.case ranks) old
  caught_at links old same none = caught_none (grounds_of table.case ranks) old none (derived_old links old same)
      (table_live table.case (facts_in old) (length (facts_in old)) (λ node must. subst (λ (items : List _). ¬ (Contains (facts_of items) (Sub node 1))) (sym same) (closed.live node must)))

  pub caught_old : (grounds : GroundsView) (links : AreLinksWithin (length table.case.store.roles) (facts_of table.items)) (old : Topped) → grounds ≡ grounds_of table.case ranks → whole old ≡ table.items → old.top ≡ []
      → IsCaughtUp grounds old
  caught_old grounds links old is same none = subst (λ (g : GroundsView). IsCaughtUp g old) (sym is) (caught_at links old same none)

  module _ (step : (grounds : GroundsView) (p : ℕ) (facts : List Fact) → AreClosedBelow (nodes_of grounds) (IsCounted grounds) p facts → IsAnswered (nodes_of grounds) (IsCounted grounds) p facts
      → AreClosedBelow (nodes_of grounds) (IsCounted grounds) (p + 1) facts)
      (close : (news : List Fact) → AreAnsweredByRows (grounds_of table.case ranks) first (length (facts_of table.items)) (facts_of table.items ++ news)
      → AreClosedBelow table.case.store.nodes (IsCounted (grounds_of table.case ranks)) (length (facts_of table.items)) (facts_of table.items ++ news))
      (begin : (news : List Fact) → AreBegunBelow table.case.store.nodes (IsCounted (grounds_of table.case ranks)) (length table.case.store.nodes) (facts_of table.items ++ news))
      (to_end : (grounds : GroundsView) (facts : List Fact) → AreClosedBelow (nodes_of grounds) (IsCounted grounds) (length facts) facts
      → AreBegunBelow (nodes_of grounds) (IsCounted grounds) (length (nodes_of grounds)) facts → AreClosed (nodes_of grounds) (IsCounted grounds) facts) where
    -- once the rows are entered, no more follows
    live_at : (old new : Topped) (below : ℕ) → whole old ≡ table.items → old.top ≡ [] → below ≡ length (whole old) → HasGrown (grounds_of table.case ranks) old new → IsCaughtUp (grounds_of table.case ranks) new
        → AreEntered (grounds_of table.case ranks) first below (RowsStartFrom table.case.over more) (facts_in new) → IsLive (grounds_of table.case ranks) new
    live_at old new below same none count grown caught entered =
        let grounds = grounds_of table.case ranks in
        let facts = facts_of table.items in
        let longer = grown_facts grounds old new grown in
        let news = longer.0 in
        let is : facts_in new ≡ facts ++ news = longer.1 ∙ ap (λ items. facts_of items ++ news) same in
        let end : below ≡ length facts = count ∙ ap length same ∙ sym (facts_length table.items) in
        let base : length new.base ≡ below = ap length grown.base ∙ sym (count ∙ whole_length old none) in
        let long = grown_length grounds old new grown in
        let old_long = facts_length (whole old) in
        let rows = rows_answered table.case table.ranks first more ranks added below (facts_in new) entered in
        let first_closed : AreClosedBelow (nodes_of grounds) (IsCounted grounds) below (facts_in new) =
        subst (AreClosedBelow (nodes_of grounds) (IsCounted grounds) below) (sym is)
        (subst (λ n. AreClosedBelow (nodes_of grounds) (IsCounted grounds) n (facts ++ news)) (sym end)
        (close news (subst (λ n. AreAnsweredByRows grounds first n (facts ++ news)) end (subst (AreAnsweredByRows grounds first below) is rows)))) in
        record {
          closed = to_end grounds (facts_in new)
              (closed_on grounds (facts_in new) (λ p. step grounds p (facts_in new)) below (length (facts_in new)) (omega arith) first_closed
              (subst (λ n. AreAnsweredWithin grounds n (length (facts_in new)) (facts_in new)) base caught.answered))
              (subst (AreBegunBelow (nodes_of grounds) (IsCounted grounds) (length (nodes_of grounds))) (sym is) (begin news));
          live = caught.live;
        }
      where
        whole_length : (layers : Topped) → layers.top ≡ [] → length (whole layers) ≡ length layers.base
        whole_length layers empty = ap length (ap (λ (xs : List Proved). layers.base ++ xs) empty ∙ append-nil layers.base)

    pub live_after_rows : (grounds : GroundsView) (old new : Topped) (below : ℕ) → grounds ≡ grounds_of table.case ranks → whole old ≡ table.items → old.top ≡ [] → below ≡ length (whole old) → HasGrown grounds old new
        → IsCaughtUp grounds new → AreEntered grounds first below (RowsStartFrom grounds.case.over more) (facts_in new) → IsLive grounds new
    live_after_rows grounds old new below is same none count =
        subst (λ (g : GroundsView). HasGrown g old new → IsCaughtUp g new → AreEntered g first below (RowsStartFrom g.case.over more) (facts_in new) → IsLive g new) (sym is) (live_at old new below same none count)

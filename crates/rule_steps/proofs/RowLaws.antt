-- The axioms of rows, and what further rows give.
use Rattle.fact_table.specs.declared.types.Proved.{Proved}
use Rattle.el_rules.specs.Theories.{IsNamedBy}
use Rattle.el_rules.specs.Following.{FollowsByReason, IsEarlier}
use Rattle.rule_steps.specs.Growing.{AreDerived}
use Rattle.rule_steps.specs.Answering.{AreBegunBelow}
use Rattle.el_rules.specs.Saying.{MakesReflexive}
use Rattle.rule_steps.proofs.Giving.{gives_more}
use Rattle.std.proofs.Common.{◌≡◌, ℕ, ◌<◌, ◌≤◌, ◌⊎◌, List, [], ◌∷◌, length, map, get_or, Contains, Some, subst, sym, inl, ⊎_elim, arith, All}
use Rattle.std.specs.Prelude.{slice_get, slice_index_or}
use Rattle.std.proofs.lemmas.Bool.{cases_lt}
use Rattle.std.proofs.Math.ListN.{get_or-eq_default}
use Rattle.std.proofs.lemmas.List.{get_or-map, length-map}
use Rattle.std.proofs.lemmas.List.Elements.{All-nil, All-map, All-contains}
use Rattle.el_logic.specs.declared.types.Part.{Part}
use Rattle.el_logic.specs.declared.types.Axiom.{Axiom}
use Rattle.el_logic.specs.declared.types.Axiom.TheVariants as A
use Rattle.concept_store.specs.declared.types.NodeAxiom.{NodeAxiom}
use Rattle.concept_store.specs.declared.types.NodeAxiom.TheVariants.{SubClass, SubRole}
use Rattle.fact_table.specs.declared.types.Fact.{Fact}
use Rattle.fact_table.specs.declared.types.Fact.TheVariants.{Sub, Link}
use Rattle.fact_table.specs.declared.types.Rule.{Rule}
use Rattle.fact_table.specs.declared.types.Source.{Source}
use Rattle.el_rules.specs.Saying.{Separates, Joins, HasDomain}
use Rattle.el_rules.specs.Theories.{IsNamed, IsSourceOf}
use Rattle.case_file.specs.declared.types.CaseInput.{CaseInput}
use Rattle.case_file.specs.Cases.{IsCaseInput, IsRowAxiom, row_over, row_at, case_of, theory_of}
use Rattle.rule_steps.specs.Counted.{GroundsView, IsSince, IsCounted, IsCountedSince, nodes_of}
use Rattle.rule_steps.specs.Answering.{AreClosedBelow, IsAnsweredByInclusions}
use Rattle.rule_steps.specs.RowAxioms.{IsInclusion, HaveRowsInclusions}
use Rattle.rule_steps.proofs.PlaceLaws.{held_at}

-- an axiom of a row is an inclusion over nodes too
row_inclusion : (said : Axiom) → IsRowAxiom said → IsInclusion (row_over said)
row_inclusion (A.SubClass low high) is = tt
row_inclusion (A.SubRole [] role) is = absurd (omega (arith, is))
row_inclusion (A.SubRole (one ∷ []) role) is = tt
row_inclusion (A.SubRole (one ∷ two ∷ rest) role) is = absurd (omega (arith, is))
row_inclusion _ is = absurd is

-- the axioms of the row with an index
rows_axioms : (rows : List (List Axiom)) (index : ℕ) → All (All IsRowAxiom) rows → All IsRowAxiom (row_at rows index)
rows_axioms rows index each = ⊎_elim
    (λ within. each index [] within)
    (λ past. subst (All IsRowAxiom) (sym (get_or-eq_default rows [] past)) (All-nil IsRowAxiom))
    (cases_lt index (length rows))

-- those over nodes
row_inclusions : (axioms : List Axiom) → All IsRowAxiom axioms → All IsInclusion (map row_over axioms)
row_inclusions axioms each = All-map IsInclusion row_over axioms (λ k d within. row_inclusion (get_or axioms k d) (each k d within))

-- so each row of a case has only inclusions
pub rows_include : (input : CaseInput) → IsCaseInput input → HaveRowsInclusions (case_of input).over
rows_include input is rank = ⊎_elim
    (λ (within : rank < length input.order). subst (All IsInclusion)
    (sym (get_or-map (λ (index : ℕ). map row_over (row_at input.rows index)) input.order rank 0 [] within))
    (row_inclusions (row_at input.rows (get_or input.order rank 0)) (rows_axioms input.rows (get_or input.order rank 0) is.row_axioms)))
    (λ past. subst (All IsInclusion) (sym (get_or-eq_default (case_of input).over [] (omega (arith, length-map input.order (λ (index : ℕ). map row_over (row_at input.rows index)))))) (All-nil IsInclusion))
    (cases_lt rank (length input.order))

-- an inclusion says nothing else
joins_no : (said : NodeAxiom) (r s t : ℕ) → IsInclusion said → Joins said r s t → ⊥
joins_no (SubClass low high) r s t is says = says
joins_no (SubRole [] into first) r s t is says = says
joins_no (SubRole (role ∷ []) into first) r s t is says = says
joins_no (SubRole (role ∷ next ∷ rest) into first) r s t is says = is
joins_no _ r s t is says = is

separates_no : (said : NodeAxiom) (c d : ℕ) → IsInclusion said → Separates said c d → ⊥
separates_no (SubClass low high) c d is says = says
separates_no (SubRole chain into first) c d is says = says
separates_no _ c d is says = is

pub reflexive_no : (said : NodeAxiom) (r : ℕ) → IsInclusion said → MakesReflexive said r → ⊥
reflexive_no (SubClass low high) r is says = says
reflexive_no (SubRole chain into first) r is says = says
reflexive_no _ r is says = is

domain_no : (said : NodeAxiom) (r c : ℕ) → IsInclusion said → HasDomain said r c → ⊥
domain_no (SubClass low high) r c is says = says
domain_no (SubRole chain into first) r c is says = says
domain_no _ r c is says = is

module _ (grounds : GroundsView) (olds : List ℕ) (first : ℕ) where
  -- the grounds of the old rows
  abbrev old_grounds : GroundsView
  old_grounds = record grounds { ranks = olds }

  -- an axiom of a later row is an inclusion
  late_includes : (source : Source) (said : NodeAxiom) → HaveRowsInclusions grounds.case.over → IsSince (Some first) source → IsNamed (theory_of grounds.case) source said → IsInclusion said
  late_includes (Source.Left number) said rows since named = absurd since
  late_includes (Source.Right number) said rows since named = absurd since
  late_includes (Source.Row rank number) said rows since (k, same, at) =
      All-contains IsInclusion (slice_index_or grounds.case.over rank []) said (rows rank) (held_at (slice_index_or grounds.case.over rank []) k said at)
  late_includes Source.Nothing said rows since named = absurd since

  -- a source that counts counted before, or is a later row
  old_or_late : ((rank : ℕ) → Contains grounds.ranks rank → Contains olds rank ⊎ (first ≤ rank)) → (part : Part) (source : Source) → IsSourceOf part grounds.ranks source →
      IsSourceOf part olds source ⊎ IsSince (Some first) source
  old_or_late split Part.Left (Source.Left number) counts = inl counts
  old_or_late split Part.Both (Source.Left number) counts = inl counts
  old_or_late split Part.Right (Source.Left number) counts = inl counts
  old_or_late split Part.Left (Source.Right number) counts = inl counts
  old_or_late split Part.Both (Source.Right number) counts = inl counts
  old_or_late split Part.Right (Source.Right number) counts = inl counts
  old_or_late split Part.Left (Source.Row rank number) counts = split rank counts
  old_or_late split Part.Both (Source.Row rank number) counts = split rank counts
  old_or_late split Part.Right (Source.Row rank number) counts = split rank counts
  old_or_late split Part.Left Source.Nothing counts = absurd counts
  old_or_late split Part.Both Source.Nothing counts = absurd counts
  old_or_late split Part.Right Source.Nothing counts = absurd counts

  module _ (p : ℕ) (facts : List Fact) (rows : HaveRowsInclusions grounds.case.over) (split : (rank : ℕ) → Contains grounds.ranks rank → Contains olds rank ⊎ (first ≤ rank))
      (closed : AreClosedBelow (nodes_of grounds) (IsCounted old_grounds) p facts)
      (answered : (k : ℕ) → k < p → IsAnsweredByInclusions (nodes_of grounds) (IsCountedSince (Some first) grounds) k facts) where
    -- closed for the old rows, and answered by the inclusions of the later ones, is closed for both
    pub closed_later : AreClosedBelow (nodes_of grounds) (IsCounted grounds) p facts
    closed_later Rule.Incl (Sub a d) some (c, said, (source, (counts, named)), says, (k, below, at)) = ⊎_elim
        (λ old. closed Rule.Incl (Sub a d) some (c, said, (source, (old, named)), says, (k, below, at)))
        (λ late. (answered k below).0 (Sub a d) some (c, said, (source, ((late, counts), named)), says, at))
        (old_or_late split grounds.part source counts)
    closed_later Rule.Role (Link a s b) some (r, said, (source, (counts, named)), says, (k, below, at)) = ⊎_elim
        (λ old. closed Rule.Role (Link a s b) some (r, said, (source, (old, named)), says, (k, below, at)))
        (λ late. (answered k below).1 (Link a s b) some (r, said, (source, ((late, counts), named)), says, at))
        (old_or_late split grounds.part source counts)
    closed_later Rule.Chain (Link a t c) some (r, s, b, said, (source, (counts, named)), says, one, two) = ⊎_elim
        (λ old. closed Rule.Chain (Link a t c) some (r, s, b, said, (source, (old, named)), says, one, two))
        (λ late. absurd (joins_no said r s t (late_includes source said rows late named) says))
        (old_or_late split grounds.part source counts)
    closed_later Rule.Dom (Sub a c) some (r, b, said, (source, (counts, named)), says, one) = ⊎_elim
        (λ old. closed Rule.Dom (Sub a c) some (r, b, said, (source, (old, named)), says, one))
        (λ late. absurd (domain_no said r c (late_includes source said rows late named) says))
        (old_or_late split grounds.part source counts)
    closed_later Rule.Disj (Sub a n) some (c, d, said, same, (source, (counts, named)), says, one, two) = ⊎_elim
        (λ old. closed Rule.Disj (Sub a n) some (c, d, said, same, (source, (old, named)), says, one, two))
        (λ late. absurd (separates_no said c d (late_includes source said rows late named) says))
        (old_or_late split grounds.part source counts)
    closed_later Rule.Left (Sub a c) some given = closed Rule.Left (Sub a c) some given
    closed_later Rule.Right (Sub a c) some given = closed Rule.Right (Sub a c) some given
    closed_later Rule.Both (Sub a n) some given = closed Rule.Both (Sub a n) some given
    closed_later Rule.Out (Link a r c) some given = closed Rule.Out (Link a r c) some given
    closed_later Rule.Into (Sub a n) some given = closed Rule.Into (Sub a n) some given
    closed_later Rule.Void (Sub a n) some given = closed Rule.Void (Sub a n) some given
    closed_later Rule.Itself fact some given = absurd (omega arith)
    closed_later Rule.Top fact some given = absurd (omega arith)
    closed_later Rule.Refl fact some given = absurd (omega arith)
    closed_later _ fact some given = absurd given

  -- nor do later rows ask for more facts of the rules without premises
  pub begun_later : (n : ℕ) (facts : List Fact) → HaveRowsInclusions grounds.case.over → ((rank : ℕ) → Contains grounds.ranks rank → Contains olds rank ⊎ (first ≤ rank)) →
      AreBegunBelow (nodes_of grounds) (IsCounted old_grounds) n facts → AreBegunBelow (nodes_of grounds) (IsCounted grounds) n facts
  begun_later n facts rows split begun node below Rule.Itself (Sub a b) of_node given = begun node below Rule.Itself (Sub a b) of_node given
  begun_later n facts rows split begun node below Rule.Top (Sub a b) of_node given = begun node below Rule.Top (Sub a b) of_node given
  begun_later n facts rows split begun node below Rule.Refl (Link a r b) of_node (said, (source, (counts, named)), says, within, same) = ⊎_elim
      (λ old. begun node below Rule.Refl (Link a r b) of_node (said, (source, (old, named)), says, within, same))
      (λ late. absurd (reflexive_no said r (late_includes source said rows late named) says))
      (old_or_late split grounds.part source counts)
  begun_later n facts rows split begun node below Rule.Incl (Sub a d) of_node given = absurd given.4
  begun_later n facts rows split begun node below Rule.Left (Sub a c) of_node given = absurd given.3
  begun_later n facts rows split begun node below Rule.Right (Sub a c) of_node given = absurd given.3
  begun_later n facts rows split begun node below Rule.Both (Sub a m) of_node given = absurd given.3
  begun_later n facts rows split begun node below Rule.Out (Link a r c) of_node given = absurd given.2
  begun_later n facts rows split begun node below Rule.Into (Sub a m) of_node given = absurd given.4
  begun_later n facts rows split begun node below Rule.Void (Sub a m) of_node given = absurd given.3
  begun_later n facts rows split begun node below Rule.Role (Link a s b) of_node given = absurd given.4
  begun_later n facts rows split begun node below Rule.Chain (Link a t c) of_node given = absurd given.6
  begun_later n facts rows split begun node below Rule.Dom (Sub a c) of_node given = absurd given.5
  begun_later n facts rows split begun node below Rule.Disj (Sub a m) of_node given = absurd given.6
  begun_later n facts rows split begun node below _ fact of_node given = absurd given

-- a source that counts for some ranks counts for more
counts_for_more : (ranks more : List ℕ) → ((rank : ℕ) → Contains ranks rank → Contains more rank) → (part : Part) (source : Source) → IsSourceOf part ranks source → IsSourceOf part more source
counts_for_more ranks more wider Part.Left (Source.Left number) counts = counts
counts_for_more ranks more wider Part.Both (Source.Left number) counts = counts
counts_for_more ranks more wider Part.Right (Source.Left number) counts = counts
counts_for_more ranks more wider Part.Left (Source.Right number) counts = counts
counts_for_more ranks more wider Part.Both (Source.Right number) counts = counts
counts_for_more ranks more wider Part.Right (Source.Right number) counts = counts
counts_for_more ranks more wider Part.Left (Source.Row rank number) counts = wider rank counts
counts_for_more ranks more wider Part.Both (Source.Row rank number) counts = wider rank counts
counts_for_more ranks more wider Part.Right (Source.Row rank number) counts = wider rank counts
counts_for_more ranks more wider Part.Left Source.Nothing counts = absurd counts
counts_for_more ranks more wider Part.Both Source.Nothing counts = absurd counts
counts_for_more ranks more wider Part.Right Source.Nothing counts = absurd counts

-- what is derived for some ranks is derived for more
pub derived_for_more : (grounds : GroundsView) (more : List ℕ) (items : List Proved) → ((rank : ℕ) → Contains grounds.ranks rank → Contains more rank) → AreDerived grounds items → AreDerived (record grounds { ranks = more }) items
derived_for_more grounds more items wider derived = record { follows = follows; links = derived.links }
  where
    follows : (k : ℕ) (item : Proved) → slice_get items k ≡ Some item → FollowsByReason (nodes_of grounds) (theory_of grounds.case) grounds.part more items k item
    follows k item at =
        let Old : NodeAxiom → Type 0 = IsNamedBy (theory_of grounds.case) grounds.part grounds.ranks item.reason.source in
        let New : NodeAxiom → Type 0 = IsNamedBy (theory_of grounds.case) grounds.part more item.reason.source in
        let One : Fact → Type 0 = IsEarlier items k item.reason.first in
        let Two : Fact → Type 0 = IsEarlier items k item.reason.second in
        gives_more (nodes_of grounds) Old New One Two One Two
        (λ said is. (counts_for_more grounds.ranks more wider grounds.part item.reason.source is.0, is.1)) (λ f one. one) (λ f two. two) item.reason.rule item.fact (derived.follows k item at)

-- The axioms of a case are those that a source names.
use Rattle.std.proofs.Common.{◌≡◌, ℕ, zero, suc, ◌+◌, ◌<◌, ◌⊎◌, inl, inr, List, [], ◌++◌, Some, slice_get, slice_index_or, length, Contains, sym, subst, arith}
use Rattle.std.proofs.Math.Nat.{eq-or-lt_of_le}
use Rattle.std.proofs.lemmas.List.Elements.{Contains-append_left, Contains-append_right, Contains-append_cases}
use Rattle.concept_store.specs.declared.types.NodeAxiom.{NodeAxiom}
use Rattle.fact_table.specs.declared.types.Source.{Source}
use Rattle.case_file.specs.Cases.{CaseView}
use Rattle.case_tables.specs.Keyed.{numbered_from}
use Rattle.case_tables.specs.Tables.{rows_below, named_axioms}
use Rattle.case_tables.specs.Named.{IsNamedIn}
use Rattle.case_tables.proofs.Members.{none, in_numbered, numbered_in}

-- the axioms of the first rows
rows_has : (over : List (List NodeAxiom)) (count : ℕ) (source : Source) (said : NodeAxiom) → Contains (rows_below over count) (source, said) →
    (rank : ℕ) × (rank < count) × (k : ℕ) × (source ≡ Source.Row rank (1 + k)) × (slice_get (slice_index_or over rank []) k ≡ Some said)
rows_has over zero source said in' = absurd (none (source, said) in')
rows_has over (suc count) source said in' = by (Contains-append_cases (rows_below over count) (numbered_from (Source.Row count) 1 (slice_index_or over count [])) (source, said) in') (rows_has over count source said)
  where
    by : Contains (rows_below over count) (source, said) ⊎ Contains (numbered_from (Source.Row count) 1 (slice_index_or over count [])) (source, said)
        → (Contains (rows_below over count) (source, said) → (rank : ℕ) × (rank < count) × (k : ℕ) × (source ≡ Source.Row rank (1 + k)) × (slice_get (slice_index_or over rank []) k ≡ Some said))
        → (rank : ℕ) × (rank < suc count) × (k : ℕ) × (source ≡ Source.Row rank (1 + k)) × (slice_get (slice_index_or over rank []) k ≡ Some said)
    by (inl before) rest = let found = rest before in (found.0, omega (arith, found.1), found.2, found.3, found.4)
    by (inr last) rest =
        let found = in_numbered (Source.Row count) 1 (slice_index_or over count []) source said last in
        (count, omega arith, found.0, found.1, found.2)

has_rows : (over : List (List NodeAxiom)) (count rank k : ℕ) (said : NodeAxiom) → rank < count → slice_get (slice_index_or over rank []) k ≡ Some said → Contains (rows_below over count) (Source.Row rank (1 + k), said)
has_rows over zero rank k said below at = absurd (omega (arith, below))
has_rows over (suc count) rank k said below at = by (eq-or-lt_of_le (omega (arith, below))) (λ less. has_rows over count rank k said less at)
  where
    row : List (Source × NodeAxiom)
    row = numbered_from (Source.Row count) 1 (slice_index_or over count [])

    by : (rank ≡ count) ⊎ (rank < count) → (rank < count → Contains (rows_below over count) (Source.Row rank (1 + k), said)) → Contains (rows_below over count ++ row) (Source.Row rank (1 + k), said)
    by (inr less) rest = Contains-append_left (rows_below over count) row (Source.Row rank (1 + k), said) (rest less)
    by (inl same) rest = Contains-append_right (rows_below over count) row (Source.Row rank (1 + k), said)
        (subst (λ n. Contains (numbered_from (Source.Row n) 1 (slice_index_or over n [])) (Source.Row rank (1 + k), said)) same
        (numbered_in (Source.Row rank) 1 (slice_index_or over rank []) k said at))

module _ (case : CaseView) where
  abbrev lefts : List (Source × NodeAxiom)
  lefts = numbered_from Source.Left 1 case.store.left

  abbrev rights : List (Source × NodeAxiom)
  rights = numbered_from Source.Right 1 case.store.right

  abbrev rows : List (Source × NodeAxiom)
  rows = rows_below case.over (length case.order)

  -- an axiom of the case is named by its source
  pub has_source : (source : Source) (said : NodeAxiom) → Contains (named_axioms case) (source, said) → IsNamedIn case source said
  has_source source said in' = by (Contains-append_cases (lefts ++ rights) rows (source, said) in')
    where
      one : (k : ℕ) → 1 + k ≡ k + 1
      one k = omega arith

      document : Contains lefts (source, said) ⊎ Contains rights (source, said) → IsNamedIn case source said
      document (inl left) =
          let found = in_numbered Source.Left 1 case.store.left source said left in
          subst (λ s. IsNamedIn case s said) (sym found.1) ((found.0, one (found.0), found.2), tt)
      document (inr right) =
          let found = in_numbered Source.Right 1 case.store.right source said right in
          subst (λ s. IsNamedIn case s said) (sym found.1) ((found.0, one (found.0), found.2), tt)

      by : Contains (lefts ++ rights) (source, said) ⊎ Contains rows (source, said) → IsNamedIn case source said
      by (inl documents) = document (Contains-append_cases lefts rights (source, said) documents)
      by (inr row) =
          let found = rows_has case.over (length case.order) source said row in
          subst (λ s. IsNamedIn case s said) (sym found.3) ((found.2, one found.2, found.4), found.1)

  -- and an axiom that a source names is one of the case
  pub source_has : (source : Source) (said : NodeAxiom) → IsNamedIn case source said → Contains (named_axioms case) (source, said)
  source_has (Source.Left number) said ((k, is, at), ranked) =
      let e : 1 + k ≡ number = omega (arith, is) in
      Contains-append_left (lefts ++ rights) rows (Source.Left number, said)
      (Contains-append_left lefts rights (Source.Left number, said)
      (subst (λ n. Contains lefts (Source.Left n, said)) e (numbered_in Source.Left 1 case.store.left k said at)))
  source_has (Source.Right number) said ((k, is, at), ranked) =
      let e : 1 + k ≡ number = omega (arith, is) in
      Contains-append_left (lefts ++ rights) rows (Source.Right number, said)
      (Contains-append_right lefts rights (Source.Right number, said)
      (subst (λ n. Contains rights (Source.Right n, said)) e (numbered_in Source.Right 1 case.store.right k said at)))
  source_has (Source.Row rank number) said ((k, is, at), ranked) =
      let e : 1 + k ≡ number = omega (arith, is) in
      Contains-append_right (lefts ++ rights) rows (Source.Row rank number, said)
      (subst (λ n. Contains rows (Source.Row rank n, said)) e (has_rows case.over (length case.order) rank k said ranked at))
  source_has Source.Nothing said named = absurd named.0

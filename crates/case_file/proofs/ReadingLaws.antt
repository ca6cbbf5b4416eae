-- The axioms of a case hold in an interpretation where those over nodes hold in its readings.
use Rattle.std.proofs.Common.{◌≡◌, ℕ, List, [], ◌∷◌, map, All, Contains, Some, slice_get, sym, ap, subst, arith}
use Rattle.std.specs.Prelude.{slice_index_or}
use Rattle.std.proofs.lemmas.List.Elements.{All-nil, All-head, All-tail, All-cons, All-weaker}
use Rattle.el_logic.specs.declared.types.Interp.{Interp}
use Rattle.el_logic.specs.declared.types.Axiom.{Axiom}
use Rattle.el_logic.specs.declared.types.Axiom.TheVariants as A
use Rattle.el_logic.specs.declared.types.Part.{Part}
use Rattle.el_logic.specs.Meaning.{IsInterp, Holds}
use Rattle.el_logic.specs.Incoherent.{axioms_of_part}
use Rattle.concept_store.specs.declared.types.NodeAxiom.{NodeAxiom}
use Rattle.concept_store.specs.Roles.{Numbered, IsOver, AreOver, store_of}
use Rattle.concept_store.specs.Reading.{Reading, IsReadingOf, MeansTheSameIn, HoldsIn, ReadsParts}
use Rattle.fact_table.specs.declared.types.Source.{Source}
use Rattle.el_rules.specs.Theories.{IsSourceOf, IsNamed, IsStated}
use Rattle.el_rules.specs.Truth.{IsModelOf}
use Rattle.case_file.specs.Cases.{CaseView, IsCase, IsRowAxiom, row_at, row_over, theory_of}
use Rattle.case_file.specs.Incoherence.{axioms_of_ranks, axioms_for}
use Rattle.case_file.proofs.ListLaws.{all_at, all_first, all_second, all_of, row_has}
use Rattle.case_file.proofs.RowLaws.{row_means}
use Rattle.case_file.proofs.CaseLaws.{StoresInOrder, store_is, in_order, row_is, row_axioms}

-- the axioms of the row with a rank mean the same over nodes
pub rank_means : (case : CaseView) → IsCase case → (rank : ℕ) → MeansTheSameIn case.classes case.properties case.store.nodes (slice_index_or (map (row_at case.rows) case.order) rank []) (slice_index_or case.over rank [])
rank_means case is rank =
    let axioms = slice_index_or (map (row_at case.rows) case.order) rank [] in
    let names = row_has (All (IsOver case.classes case.properties)) case.rows (All-nil (IsOver case.classes case.properties))
    (All-weaker (AreOver case.classes case.properties) (All (IsOver case.classes case.properties)) (λ row over. over.each) case.rows is.given.row_names) case.order rank in
    subst (MeansTheSameIn case.classes case.properties case.store.nodes axioms) (sym (row_is case is rank))
    (row_means case.classes case.properties case.left case.right case.store.nodes axioms (ap (λ (store : Numbered). store.nodes) (store_is case is)) (row_axioms case is rank) names)

-- an axiom of a row has no part of a chain
row_parts : (m : Reading) (axiom' : Axiom) → IsRowAxiom axiom' → ReadsParts m (row_over axiom')
row_parts m (A.SubClass low high) row = tt
row_parts m (A.SubRole chain role) row = λ k x y longer. absurd (omega (arith, row, longer))
row_parts m _ row = absurd row

-- nor have those of a row
rows_parts : (m : Reading) (axioms : List Axiom) → All IsRowAxiom axioms → All (ReadsParts m) (map row_over axioms)
rows_parts m [] row = All-nil (ReadsParts m)
rows_parts m (axiom' ∷ axioms) row =
    All-cons (ReadsParts m) (row_over axiom') (map row_over axioms) (row_parts m axiom' (All-head IsRowAxiom axiom' axioms row))
    (rows_parts m axioms (All-tail IsRowAxiom axiom' axioms row))

-- what is known of stores
pub record StoreLaws : Type 0 where
  pub ordered : StoresInOrder
  pub left : (classes roles : ℕ) (left right : List Axiom) → AreOver classes roles left → AreOver classes roles right
      → MeansTheSameIn classes roles (store_of classes roles left right).nodes left (store_of classes roles left right).left
  pub right : (classes roles : ℕ) (left right : List Axiom) → AreOver classes roles left → AreOver classes roles right
      → MeansTheSameIn classes roles (store_of classes roles left right).nodes right (store_of classes roles left right).right
  pub readings : (classes roles : ℕ) (left right : List Axiom) (i : Interp) → AreOver classes roles left → AreOver classes roles right → IsInterp classes roles i
      → (m : Reading) × IsReadingOf (store_of classes roles left right).nodes roles i m
      × All (ReadsParts m) (store_of classes roles left right).left × All (ReadsParts m) (store_of classes roles left right).right

-- a reading of a store, in which the parts of chains are what they stand for
abbrev ReadsStore : ℕ → Interp → Reading → Numbered → Type 0
ReadsStore properties i m store = IsReadingOf store.nodes properties i m × All (ReadsParts m) store.left × All (ReadsParts m) store.right

module _ (laws : StoreLaws) (case : CaseView) (is : IsCase case) (part : Part) (ranks : List ℕ) (i : Interp) (interp : IsInterp case.classes case.properties i) (holds : All (Holds i) (axioms_for case part ranks)) where
  -- the reading of the case
  pub reading : (m : Reading) × ReadsStore case.properties i m case.store
  reading =
      let found = laws.readings case.classes case.properties case.left case.right i is.given.left is.given.right interp in
      (found.0, subst (ReadsStore case.properties i found.0) (sym (store_is case is)) (found.1, found.2, found.3))

  -- what is true of an axiom over nodes
  abbrev IsRight : NodeAxiom → Type 0
  IsRight said = HoldsIn reading.0 said × ReadsParts reading.0 said

  -- LEFT's axioms over nodes hold if LEFT's do
  left_right : All (Holds i) case.left → (k : ℕ) (said : NodeAxiom) → slice_get case.store.left k ≡ Some said → IsRight said
  left_right held k said at =
      let same = subst (λ (store : Numbered). MeansTheSameIn case.classes case.properties store.nodes case.left store.left) (sym (store_is case is))
      (laws.left case.classes case.properties case.left case.right is.given.left is.given.right) in
      (all_at (HoldsIn reading.0) case.store.left k said ((same i reading.0 interp reading.1.0).0 held) at, all_at (ReadsParts reading.0) case.store.left k said reading.1.1 at)

  -- and RIGHT's
  right_right : All (Holds i) case.right → (k : ℕ) (said : NodeAxiom) → slice_get case.store.right k ≡ Some said → IsRight said
  right_right held k said at =
      let same = subst (λ (store : Numbered). MeansTheSameIn case.classes case.properties store.nodes case.right store.right) (sym (store_is case is))
      (laws.right case.classes case.properties case.left case.right is.given.left is.given.right) in
      (all_at (HoldsIn reading.0) case.store.right k said ((same i reading.0 interp reading.1.0).0 held) at, all_at (ReadsParts reading.0) case.store.right k said reading.1.2 at)

  -- and those of the row with a rank
  rank_right : (rank : ℕ) → Contains ranks rank → (k : ℕ) (said : NodeAxiom) → slice_get (slice_index_or case.over rank []) k ≡ Some said → IsRight said
  rank_right rank there k said at =
      let row : ℕ → List Axiom = λ r. slice_index_or (map (row_at case.rows) case.order) r [] in
      let held = all_of (Holds i) row ranks rank there (all_second (Holds i) (axioms_of_part case.left case.right part) (axioms_of_ranks case ranks) holds) in
      let parts = subst (All (ReadsParts reading.0)) (sym (row_is case is rank)) (rows_parts reading.0 (row rank) (row_axioms case is rank)) in (
        all_at (HoldsIn reading.0) (slice_index_or case.over rank []) k said ((rank_means case is rank i reading.0 interp reading.1.0).0 held) at,
        all_at (ReadsParts reading.0) (slice_index_or case.over rank []) k said parts at,
      )

  -- the axioms of the part hold
  part_holds : All (Holds i) (axioms_of_part case.left case.right part)
  part_holds = all_first (Holds i) (axioms_of_part case.left case.right part) (axioms_of_ranks case ranks) holds

  -- so each axiom that a source of the part names is right
  source_right : (of : Part) → All (Holds i) (axioms_of_part case.left case.right of) → (source : Source) (said : NodeAxiom) → IsSourceOf of ranks source → IsNamed (theory_of case) source said → IsRight said
  source_right Part.Left held (Source.Left number) said from named = left_right held named.0 said named.2
  source_right Part.Left held (Source.Right number) said from named = absurd from
  source_right Part.Left held (Source.Row rank number) said from named = rank_right rank from named.0 said named.2
  source_right Part.Left held Source.Nothing said from named = absurd named
  source_right Part.Right held (Source.Left number) said from named = absurd from
  source_right Part.Right held (Source.Right number) said from named = right_right held named.0 said named.2
  source_right Part.Right held (Source.Row rank number) said from named = rank_right rank from named.0 said named.2
  source_right Part.Right held Source.Nothing said from named = absurd named
  source_right Part.Both held (Source.Left number) said from named = left_right (all_first (Holds i) case.left case.right held) named.0 said named.2
  source_right Part.Both held (Source.Right number) said from named = right_right (all_second (Holds i) case.left case.right held) named.0 said named.2
  source_right Part.Both held (Source.Row rank number) said from named = rank_right rank from named.0 said named.2
  source_right Part.Both held Source.Nothing said from named = absurd named

  -- and the reading is a model of what is stated
  pub is_model : IsModelOf case.store.nodes (IsStated (theory_of case) part ranks) reading.0
  is_model =
      let order = in_order laws.ordered case is in
      record {
        reading = reading.1.0.reading;
        thing = order.thing;
        nothing = order.nothing;
        holds = λ said stated. (source_right part part_holds stated.0 said stated.1.0 stated.1.1).0;
        parts = λ said stated. (source_right part part_holds stated.0 said stated.1.0 stated.1.1).1;
      }

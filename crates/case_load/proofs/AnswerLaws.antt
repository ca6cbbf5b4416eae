-- Texts have one case or one first fault.
use Rattle.std.proofs.Common.{◌≡◌, ℕ, ◌<◌, ◌≤◌, List, length, map, refl, sym, ap, subst, ◌∙◌, arith, rules, Result, Ok, Err}
use Rattle.std.specs.Prelude.{slice_index}
use Rattle.std.specs.Arc.{arc_value}
use Rattle.std.proofs.lemmas.List.{ext_get_or}
use Rattle.byte_words.specs.Fronts.{without_mark}
use Rattle.text_names.specs.declared.limits.Limits.{Limits}
use Rattle.el_logic.specs.declared.types.Side.{Side}
use Rattle.ofn_axiom.specs.declared.types.Document.{Document}
use Rattle.ofn_axiom.specs.declared.types.Names.{Names}
use Rattle.ofn_axiom.specs.declared.types.Mode.{Mode}
use Rattle.ofn_axiom.specs.declared.fault.DocFault.{DocFault}
use Rattle.ofn_axiom.specs.declared.fault.DocFault.TheVariants as doc
use Rattle.ofn_axiom.specs.Documents.{IsReading, IsDocFault}
use Rattle.sssom_rows.specs.declared.table.Table.{Table}
use Rattle.sssom_rows.specs.declared.fault.TableFault.{TableFault}
use Rattle.sssom_rows.specs.declared.fault.TableFault.TheVariants as table
use Rattle.sssom_rows.specs.Tables.{IsTableText}
use Rattle.sssom_rows.specs.Faults.{IsFirstTableFault, IsTableAnswer}
use Rattle.rank_order.specs.Order.{rank_of, IsRanking}
use Rattle.case_file.specs.Cases.{case_of}
use Rattle.case_load.specs.declared.documents.Documents.{Documents}
use Rattle.case_load.specs.declared.texts.Loaded.{Loaded}
use Rattle.case_load.specs.declared.fault.LoadFault.{LoadFault}
use Rattle.case_load.specs.declared.fault.LoadFault.TheVariants as load
use Rattle.case_load.specs.declared.fault.LimitKind.TheVariants as limit
use Rattle.case_load.specs.Loads.{Inputs, no_names, trees_in, roles_in, input_of, AreRead, IsCaseOf, IsLoaded, SayTheSame}
use Rattle.case_load.specs.Faults.{HasFault, IsFirstDocFault, IsMapFault, IsTooLarge, HaveManyNodes, HaveManyRoles, IsFirstLoadFault}
use Rattle.case_load.specs.Inside.Stops.{of_document, of_table}

-- what is known of documents, tables and rankings
pub record AnswerLaws : Type 0 where
  pub never_both : (text : List ℕ) (mode : Mode) (depth : ℕ) (old new : Names) (document : Document) (fault : DocFault) →
      IsReading text mode depth old new document → IsDocFault text mode depth old fault → ⊥
  pub one_reading : (text : List ℕ) (mode : Mode) (depth : ℕ) (old new other : Names) (document another : Document) →
      IsReading text mode depth old new document → IsReading text mode depth old other another → (document ≡ another) × (new ≡ other)
  pub one_fault : (text : List ℕ) (mode : Mode) (depth : ℕ) (old : Names) (fault other : DocFault) →
      IsDocFault text mode depth old fault → IsDocFault text mode depth old other → fault ≡ other
  pub one_table : (most : ℕ) (bytes : List ℕ) (one other : Result Table TableFault) → IsTableAnswer most bytes one → IsTableAnswer most bytes other → one ≡ other
  pub count : (confidences rows : List ℕ) → IsRanking confidences rows → length rows ≡ length confidences
  pub within : (confidences rows : List ℕ) (place : ℕ) → IsRanking confidences rows → place < length rows → slice_index rows place < length confidences
  pub rank_of_place : (confidences rows : List ℕ) (place : ℕ) → IsRanking confidences rows → place < length rows → rank_of confidences (slice_index rows place) ≡ place
  pub row_of_rank : (confidences rows : List ℕ) (row : ℕ) → IsRanking confidences rows → row < length confidences → slice_index rows (rank_of confidences row) ≡ row

-- where the first fault is found
data Stage : Type 0 where
  at_document : Side → DocFault → Stage
  at_map : TableFault → Stage
  at_nodes : Stage
  at_roles : Stage

abbrev fault_at : Stage → LoadFault
fault_at (at_document side fault) = of_document side fault
fault_at (at_map fault) = of_table fault
fault_at at_nodes = load.Limit limit.Nodes
fault_at at_roles = load.Limit limit.Roles

module _ (laws : AnswerLaws) (texts : Inputs) (mode : Mode) (limits : Limits) where
  -- the rows have one order
  one_order : (confidences one other : List ℕ) → IsRanking confidences one → IsRanking confidences other → one ≡ other
  one_order confidences one other first second =
      let long = laws.count confidences one first in
      let as_long = laws.count confidences other second in
      ext_get_or 0 one other (long ∙ sym as_long) (λ place below.
      let row = slice_index one place in
      let there = laws.row_of_rank confidences other row second (laws.within confidences one place first below) in
      sym (subst (λ rank. slice_index other rank ≡ row) (laws.rank_of_place confidences one place first below) there))

  -- the names of LEFT are one
  same_names : (documents : Documents) (read : AreRead texts.left texts.right mode limits documents) (names : Names) (document : Document) →
      IsReading (without_mark texts.left) mode limits.depth (no_names limits) names document → read.left_names ≡ names
  same_names documents read names document other =
      (laws.one_reading (without_mark texts.left) mode limits.depth (no_names limits) read.left_names names documents.left document read.left_read other).1

  -- both documents are one
  same_documents : (one other : Documents) → AreRead texts.left texts.right mode limits one → AreRead texts.left texts.right mode limits other → one ≡ other
  same_documents one other first second =
      let left = laws.one_reading (without_mark texts.left) mode limits.depth (no_names limits) first.left_names second.left_names one.left other.left first.left_read second.left_read in
      let read = subst (λ (names : Names). IsReading (without_mark texts.right) mode limits.depth names other.names other.right) (sym left.1) second.right_read in
      let right = laws.one_reading (without_mark texts.right) mode limits.depth first.left_names one.names other.names one.right other.right first.right_read read in
      λ i. record { left = left.0 i; right = right.0 i; names = right.1 i }

  -- the table is one
  same_table : (one other : Table) → IsTableText limits.rows texts.map one → IsTableText limits.rows texts.map other → one ≡ other
  same_table one other first second = let same = laws.one_table limits.rows texts.map (Ok one) (Ok other) first second in search (rules, same)

  -- no table that is read has a fault
  no_table_fault : (found : Table) (fault : TableFault) → IsTableText limits.rows texts.map found → IsFirstTableFault limits.rows texts.map fault → ⊥
  no_table_fault found fault read first = let same = laws.one_table limits.rows texts.map (Ok found) (Err fault) read first in absurd (search (rules, same))

  -- no documents that are read have a fault
  no_document_fault : (documents : Documents) (side : Side) (fault : DocFault) → AreRead texts.left texts.right mode limits documents → IsFirstDocFault texts.left texts.right mode limits side fault → ⊥
  no_document_fault documents Side.Left fault read first =
      laws.never_both (without_mark texts.left) mode limits.depth (no_names limits) read.left_names documents.left fault read.left_read first
  no_document_fault documents Side.Right fault read first =
      let same = same_names documents read first.left_names first.left_document first.left_read in
      let there = subst (λ (names : Names). HasFault texts.right mode limits names fault) (sym same) first.right_fault in
      laws.never_both (without_mark texts.right) mode limits.depth read.left_names documents.names documents.right fault read.right_read there

  -- the fault is that of the stage
  abbrev IsAt : Stage → Type 0
  IsAt (at_document side fault) = IsFirstDocFault texts.left texts.right mode limits side fault
  IsAt (at_map fault) = IsMapFault texts mode limits fault
  IsAt at_nodes = IsTooLarge texts mode limits (HaveManyNodes limits)
  IsAt at_roles = IsTooLarge texts mode limits (HaveManyRoles limits)

  -- a fault of the table is found there
  table_staged : (fault : TableFault) → IsFirstLoadFault texts mode limits (load.Table fault) → (stage : Stage) × IsAt stage × (fault_at stage ≡ load.Table fault)
  table_staged table.TooManyRows first = absurd first
  table_staged table.OutOfMemory first = absurd first.map_fault
  table_staged fault first = (at_map fault, first, refl)

  -- a first fault is found at a stage
  staged : (fault : LoadFault) → IsFirstLoadFault texts mode limits fault → (stage : Stage) × IsAt stage × (fault_at stage ≡ fault)
  staged (load.Syntax side place kind) first = (at_document side (doc.Syntax place kind), first, refl)
  staged (load.Profile side place head) first = (at_document side (doc.Profile place head), first, refl)
  staged (load.Limit (limit.Depth side)) first = (at_document side doc.TooDeep, first, refl)
  staged (load.Limit (limit.Classes side)) first = (at_document side doc.TooManyClasses, first, refl)
  staged (load.Limit (limit.Properties side)) first = (at_document side doc.TooManyProperties, first, refl)
  staged (load.Limit limit.Rows) first = (at_map table.TooManyRows, first, refl)
  staged (load.Limit limit.Nodes) first = (at_nodes, first, refl)
  staged (load.Limit limit.Roles) first = (at_roles, first, refl)
  staged (load.Limit (limit.Bytes file)) first = absurd first
  staged (load.Table fault) first = table_staged fault first
  staged (load.ReadFault file) first = absurd first
  staged load.OutOfMemory first = absurd first

  -- nodes that are too many are not few
  not_few : (one other : Documents) → AreRead texts.left texts.right mode limits one → AreRead texts.left texts.right mode limits other → HaveManyNodes limits one → length (trees_in other) ≤ limits.nodes → ⊥
  not_few one other first second many few =
      let same = ap (λ (documents : Documents). length (trees_in documents)) (same_documents one other first second) in omega (arith, many, few, same)

  -- nor are roles
  no_few_roles : (one other : Documents) → AreRead texts.left texts.right mode limits one → AreRead texts.left texts.right mode limits other → HaveManyRoles limits one → length (roles_in other) ≤ limits.roles → ⊥
  no_few_roles one other first second many few =
      let same = ap (λ (documents : Documents). length (roles_in documents)) (same_documents one other first second) in omega (arith, many.1, few, same)

  -- no fault is found where a case is made
  no_stage : (loaded : Loaded) → IsLoaded texts mode limits loaded → (stage : Stage) → IsAt stage → ⊥
  no_stage loaded is (at_document side fault) at = no_document_fault is.documents side fault is.read.documents_read at
  no_stage loaded is (at_map fault) at = no_table_fault is.table fault is.read.table_read at.map_fault
  no_stage loaded is at_nodes at = not_few at.documents is.documents at.read.documents_read is.read.documents_read at.too_large is.made.nodes
  no_stage loaded is at_roles at = no_few_roles at.documents is.documents at.read.documents_read is.read.documents_read at.too_large is.made.roles

  -- so a case and a first fault exclude each other
  pub no_fault : (loaded : Loaded) (fault : LoadFault) → IsLoaded texts mode limits loaded → IsFirstLoadFault texts mode limits fault → ⊥
  no_fault loaded fault is first = let found = staged fault first in no_stage loaded is found.0 found.1

  -- the first fault of a document is one
  one_document_fault : (side another : Side) (fault other : DocFault) → IsFirstDocFault texts.left texts.right mode limits side fault → IsFirstDocFault texts.left texts.right mode limits another other → at_document side fault ≡ at_document another other
  one_document_fault Side.Left Side.Left fault other first second =
      ap (at_document Side.Left) (laws.one_fault (without_mark texts.left) mode limits.depth (no_names limits) fault other first second)
  one_document_fault Side.Left Side.Right fault other first second =
      absurd (laws.never_both (without_mark texts.left) mode limits.depth (no_names limits) second.left_names second.left_document fault second.left_read first)
  one_document_fault Side.Right Side.Left fault other first second =
      absurd (laws.never_both (without_mark texts.left) mode limits.depth (no_names limits) first.left_names first.left_document other first.left_read second)
  one_document_fault Side.Right Side.Right fault other first second =
      let same = (laws.one_reading (without_mark texts.left) mode limits.depth (no_names limits) first.left_names second.left_names first.left_document second.left_document first.left_read second.left_read).1 in
      let there = subst (λ (names : Names). HasFault texts.right mode limits names other) (sym same) second.right_fault in
      ap (at_document Side.Right) (laws.one_fault (without_mark texts.right) mode limits.depth first.left_names fault other first.right_fault there)

  -- and so is that of the table
  one_map_fault : (fault other : TableFault) → IsMapFault texts mode limits fault → IsMapFault texts mode limits other → at_map fault ≡ at_map other
  one_map_fault fault other first second =
      let same = laws.one_table limits.rows texts.map (Err fault) (Err other) first.map_fault second.map_fault in
      let equal : fault ≡ other = search (rules, same) in ap at_map equal

  -- a first fault is found at one stage
  one_stage : (one other : Stage) → IsAt one → IsAt other → one ≡ other
  one_stage (at_document side fault) (at_document another other) first second = one_document_fault side another fault other first second
  one_stage (at_document side fault) (at_map other) first second = absurd (no_document_fault second.documents side fault second.documents_read first)
  one_stage (at_document side fault) at_nodes first second = absurd (no_document_fault second.documents side fault second.read.documents_read first)
  one_stage (at_document side fault) at_roles first second = absurd (no_document_fault second.documents side fault second.read.documents_read first)
  one_stage (at_map fault) (at_document side other) first second = absurd (no_document_fault first.documents side other first.documents_read second)
  one_stage (at_map fault) (at_map other) first second = one_map_fault fault other first second
  one_stage (at_map fault) at_nodes first second = absurd (no_table_fault second.table fault second.read.table_read first.map_fault)
  one_stage (at_map fault) at_roles first second = absurd (no_table_fault second.table fault second.read.table_read first.map_fault)
  one_stage at_nodes (at_document side other) first second = absurd (no_document_fault first.documents side other first.read.documents_read second)
  one_stage at_nodes (at_map other) first second = absurd (no_table_fault first.table other first.read.table_read second.map_fault)
  one_stage at_nodes at_nodes first second = refl
  one_stage at_nodes at_roles first second = absurd (not_few first.documents second.documents first.read.documents_read second.read.documents_read first.too_large second.too_large.0)
  one_stage at_roles (at_document side other) first second = absurd (no_document_fault first.documents side other first.read.documents_read second)
  one_stage at_roles (at_map other) first second = absurd (no_table_fault first.table other first.read.table_read second.map_fault)
  one_stage at_roles at_nodes first second = absurd (not_few second.documents first.documents second.read.documents_read first.read.documents_read second.too_large first.too_large.0)
  one_stage at_roles at_roles first second = refl

  -- so there is one first fault
  pub one_first : (one other : LoadFault) → IsFirstLoadFault texts mode limits one → IsFirstLoadFault texts mode limits other → one ≡ other
  one_first one other first second =
      let found = staged one first in
      let again = staged other second in
      sym found.2 ∙ ap fault_at (one_stage found.0 again.0 found.1 again.1) ∙ again.2

  -- and cases of the same documents and table say the same
  same_made : (documents : Documents) (found : Table) (one other : Loaded) → IsCaseOf limits documents found one → IsCaseOf limits documents found other → SayTheSame one other
  same_made documents found one other first second =
      let order = one_order (map (λ row. row.confidence) found.rows) first.order second.order first.ranking second.ranking in
      let left = first.left_omitted ∙ sym second.left_omitted in
      let right = first.right_omitted ∙ sym second.right_omitted in
      record {
        case = first.case ∙ ap (λ (rows : List ℕ). case_of (input_of documents found rows)) order ∙ sym second.case;
        names = first.names ∙ sym second.names;
        same_table = first.same_table ∙ sym second.same_table;
        omitted = λ i. record { left = left i; right = right i };
        inert = first.inert ∙ sym second.inert;
      }

  -- so do any two of the same texts
  pub one_case : (one other : Loaded) → IsLoaded texts mode limits one → IsLoaded texts mode limits other → SayTheSame one other
  one_case one other first second =
      let documents = same_documents second.documents first.documents second.read.documents_read first.read.documents_read in
      let found = same_table second.table first.table second.read.table_read first.read.table_read in
      let made = subst (λ (both : Documents). IsCaseOf limits both second.table other) documents second.made in
      same_made first.documents first.table one other first.made (subst (λ (rows : Table). IsCaseOf limits first.documents rows other) found made)

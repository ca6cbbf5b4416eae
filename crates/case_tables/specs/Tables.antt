-- The tables of a case.
use Rattle.std.specs.Prelude.{◌≡◌, ℕ, zero, suc, ◌++◌, List, [], length, flat_map, slice_index_or}
use Rattle.concept_store.specs.declared.types.Node.{Node}
use Rattle.concept_store.specs.declared.types.NodeAxiom.{NodeAxiom}
use Rattle.fact_table.specs.declared.types.Source.{Source}
use Rattle.case_file.specs.Cases.{CaseView}
use Rattle.case_tables.specs.declared.types.Inclusion.{Inclusion}
use Rattle.case_tables.specs.declared.types.RoleInclusion.{RoleInclusion}
use Rattle.case_tables.specs.declared.types.Operand.{Operand}
use Rattle.case_tables.specs.declared.types.Join.{Join}
use Rattle.case_tables.specs.declared.types.RoleDomain.{RoleDomain}
use Rattle.case_tables.specs.declared.types.Reflexive.{Reflexive}
use Rattle.case_tables.specs.declared.types.Whole.{Whole}
use Rattle.case_tables.specs.declared.types.Restriction.{Restriction}
use Rattle.case_tables.specs.Keyed.{at_key, of_key, numbered_from}
use Rattle.case_tables.specs.Entries.{inclusions_said, operands_said, role_inclusions_said, joins_said, by_second, domains_said, reflexive_said, wholes_held, restrictions_held, by_role}

-- the axioms of the rows with the first ranks, each with its source
abbrev pub rows_below : List (List NodeAxiom) → ℕ → List (Source × NodeAxiom)
rows_below over zero = []
rows_below over (suc rank) =
    rows_below over rank ++ numbered_from (Source.Row rank) 1 (slice_index_or over rank [])

-- the axioms of a case, each with its source: LEFT's, then RIGHT's, then those of the rows by rank
abbrev pub named_axioms : CaseView → List (Source × NodeAxiom)
named_axioms case =
    numbered_from Source.Left 1 case.store.left ++ numbered_from Source.Right 1 case.store.right
    ++ rows_below case.over (length case.order)

-- the entries of a table that is over axioms, with their keys
abbrev pub said_in : {T : Type 0} → (Source → NodeAxiom → List (ℕ × T)) → CaseView → List (ℕ × T)
said_in said case = flat_map (λ named. said named.0 named.1) (named_axioms case)

-- the entries of a table that is over nodes, with their keys
abbrev pub held_in : {T : Type 0} → (ℕ → Node → List (ℕ × T)) → CaseView → List (ℕ × T)
held_in held case =
    flat_map (λ node. held node.0 node.1) (numbered_from (λ n. n) 0 case.store.nodes)

-- the lists of each table, by key
pub record TableLists : Type 0 where
  pub inclusions : List (List Inclusion)
  pub operands : List (List Operand)
  pub wholes : List (List Whole)
  pub restrictions_into : List (List Restriction)
  pub role_inclusions : List (List RoleInclusion)
  pub joins_from : List (List Join)
  pub joins_by_second : List (List Join)
  pub domains : List (List RoleDomain)
  pub restrictions_over : List (List Restriction)
  pub reflexive : List (ℕ × Reflexive)

-- at each key a table has exactly the entries with this key, in their order
abbrev pub HasEntries : {T : Type 0} → List (List T) → List (ℕ × T) → Type 0
HasEntries lists entries = (key : ℕ) → at_key lists key ≡ of_key entries key

-- these are the tables of a case
pub record AreTablesOf (case : CaseView) (tables : TableLists) : Type 0 where
  pub inclusions : HasEntries tables.inclusions (said_in inclusions_said case)
  pub operands : HasEntries tables.operands (said_in operands_said case)
  pub wholes : HasEntries tables.wholes (held_in wholes_held case)
  pub restrictions_into : HasEntries tables.restrictions_into (held_in restrictions_held case)
  pub role_inclusions : HasEntries tables.role_inclusions (said_in role_inclusions_said case)
  pub joins_from : HasEntries tables.joins_from (said_in joins_said case)
  pub joins_by_second : HasEntries tables.joins_by_second (by_second (said_in joins_said case))
  pub domains : HasEntries tables.domains (said_in domains_said case)
  pub restrictions_over :
      HasEntries tables.restrictions_over (by_role (held_in restrictions_held case))
  pub reflexive : tables.reflexive ≡ said_in reflexive_said case

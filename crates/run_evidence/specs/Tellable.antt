-- What is loaded and has evidence.
use Rattle.std.specs.Prelude.{◌≡◌, ℕ, ◌<◌, ◌≤◌, List, length, slice_index, All, None}
use Rattle.std.specs.Arc.{arc_value}
use Rattle.case_load.specs.declared.texts.Loaded.{Loaded}
use Rattle.evidence_lines.specs.Omitted.{omitted_before}
use Rattle.evidence_text.specs.EvidenceText.{InOrder, omitted_list}
use Rattle.loaded_names.specs.Iris.{HaveIris}

-- each row has one rank
pub record IsEachOnce (order : List ℕ) : Type 0 where
  pub once : (one other : ℕ) → one < length order → other < length order
      → slice_index order one ≡ slice_index order other → one ≡ other
  pub each : (index : ℕ) → index < length order
      → (rank : ℕ) × (rank < length order) × (slice_index order rank ≡ index)
  pub within : (rank : ℕ) → rank < length order → slice_index order rank < length order

-- the case has the classes, the properties and the rows of the names and the table, a row has two
-- axioms at most, the names may stand in a line, and what is left out stands in order
pub record IsTellable (loaded : Loaded) : Type 0 where
  pub classes : (arc_value loaded.case).classes ≡ length loaded.names.classes.names
  pub properties : (arc_value loaded.case).properties ≡ length loaded.names.roles.names
  pub rows : length (arc_value loaded.case).order ≡ length loaded.table.rows
  pub order : IsEachOnce (arc_value loaded.case).order
  pub few : All (λ axioms. length axioms ≤ 2) (arc_value loaded.case).over
  pub iris : HaveIris loaded.names
  pub omitted : InOrder omitted_before None (omitted_list loaded.omitted)

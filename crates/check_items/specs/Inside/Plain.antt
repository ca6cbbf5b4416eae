-- What is known of each loaded case.
use Rattle.std.specs.Prelude.{◌≡◌, [], length}
use Rattle.case_load.specs.declared.texts.Loaded.{Loaded}
use Rattle.valid_evidence.specs.Items.{case_loaded}
use Rattle.valid_evidence.specs.Rows.{IsOnce}

-- the case excuses no class, has the names and the rows that are loaded, and has each row once
pub record IsPlain (loaded : Loaded) : Type 0 where
  pub excused : (case_loaded loaded).excused ≡ []
  pub classes : (case_loaded loaded).classes ≡ length loaded.names.classes.names
  pub properties : (case_loaded loaded).properties ≡ length loaded.names.roles.names
  pub rows : length (case_loaded loaded).order ≡ length loaded.table.rows
  pub once : IsOnce (case_loaded loaded).order

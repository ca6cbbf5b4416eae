-- Files that a map holds by their names.
use Rattle.std.specs.Prelude.{ℕ, List, String}
use Rattle.std.specs.BTreeMap.{BTreeMap, get_by_text}
use Rattle.io_edge.specs.Outside.{Files}

-- the bytes of each file that stands in the map
abbrev pub files_in : {A : Type 0} → BTreeMap (String A) (List ℕ) → Files
files_in map = λ name. get_by_text map name

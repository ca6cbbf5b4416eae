-- The records of a table, between tabs.
use Rattle.std.specs.Prelude.{ℕ, Bool, List}
use Rattle.std.specs.List.{list_all}
use Rattle.std.specs.Str.{is_utf8}
use Rattle.csv.specs.Reading.{AreRecords, default_config, strip_bom}
use Rattle.csv.specs.declared.parser.Config.{Config}
use Rattle.csv.specs.declared.parser.State.TheVariants as st

-- the fields of a record
abbrev pub FieldList : Type 0
FieldList = List (List ℕ)

-- a tab between the fields, and " as quote
abbrev pub tabbed : Config
tabbed = record default_config { delimiter = 9 }

-- every record of a text, without a byte order mark at its start
abbrev pub AreTabbed : List ℕ → List FieldList → Type 0
AreTabbed text records = AreRecords tabbed st.StartRecord (strip_bom text) records

-- each field is UTF-8
abbrev pub are_texts : FieldList → Bool
are_texts fields = list_all is_utf8 fields

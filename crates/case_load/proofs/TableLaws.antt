-- The fault of a table, as one of a case.
use Rattle.std.proofs.Common.{◌≡◌, ℕ, List, sym, subst}
use Rattle.byte_words.specs.Faults.{OrOutOfMemory}
use Rattle.sssom_rows.specs.declared.fault.TableFault.{TableFault}
use Rattle.sssom_rows.specs.declared.fault.TableFault.TheVariants as table
use Rattle.sssom_rows.specs.Faults.{IsFirstTableFault, table_ran_out}
use Rattle.case_load.specs.Faults.{load_ran_out}
use Rattle.case_load.specs.Inside.Stops.{of_table}
use Rattle.case_load.specs.Inside.Stages.{IsTableStop}
use Rattle.case_load.specs.declared.fault.LoadFault.{LoadFault}

-- the fault of a table
pub table_stops : (most : ℕ) (map : List ℕ) (fault : TableFault) → OrOutOfMemory table_ran_out (IsFirstTableFault most map) fault → OrOutOfMemory load_ran_out (IsTableStop most map) (of_table fault)
table_stops most map (table.MapForm line) is = is
table_stops most map (table.Again line) is = is
table_stops most map table.NoColumns is = is
table_stops most map (table.NotUtf8 row) is = is
table_stops most map (table.ColumnMissing column) is = is
table_stops most map (table.ColumnTwice column) is = is
table_stops most map table.TooManyRows is = is
table_stops most map (table.Ragged row) is = is
table_stops most map (table.Curie row column) is = is
table_stops most map (table.Confidence row) is = is
table_stops most map table.OutOfMemory is = tt

-- the same, in the words of the code
pub table_stop : (most : ℕ) (map : List ℕ) (fault : TableFault) (found : LoadFault) → found ≡ of_table fault → OrOutOfMemory table_ran_out (IsFirstTableFault most map) fault → OrOutOfMemory load_ran_out (IsTableStop most map) found
table_stop most map fault found same is = subst (OrOutOfMemory load_ran_out (IsTableStop most map)) (sym same) (table_stops most map fault is)

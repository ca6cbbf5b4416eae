-- Where axioms are from.
use Rattle.std.specs.Prelude.{ℕ}
use Rattle.fact_table.specs.declared.types.Source.{Source}
use Rattle.case_tables.specs.declared.collect.Origin.{Origin}

-- the axiom there with this number
abbrev pub source_at : Origin → ℕ → Source
source_at Origin.Left number = Source.Left number
source_at Origin.Right number = Source.Right number
source_at (Origin.Row rank) number = Source.Row rank number

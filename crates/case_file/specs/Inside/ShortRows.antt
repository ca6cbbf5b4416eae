-- Rows whose names have nodes that 32 bits number.
use Rattle.std.specs.Prelude.{◌^◌, ◌<◌, ⊤}
use Rattle.el_logic.specs.declared.types.Axiom.{Axiom}
use Rattle.el_logic.specs.declared.types.Axiom.TheVariants as A
use Rattle.case_file.specs.Cases.{name_node}

abbrev pub IsShortRow : Axiom → Type 0
IsShortRow (A.SubClass low high) = (name_node low < 2 ^ 32) × (name_node high < 2 ^ 32)
IsShortRow _ = ⊤

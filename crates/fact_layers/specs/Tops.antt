-- Facts over a shared base.
use Rattle.std.specs.Prelude.{ℕ, List, ◌++◌}
use Rattle.fact_table.specs.declared.types.Proved.{Proved}

-- the facts of the base, those of the top, and the number of further ones that there is room for
pub record Topped : Type 0 where
  pub base : List Proved
  pub top : List Proved
  pub spare : ℕ

-- the list of the base followed by the top
abbrev pub whole : Topped → List Proved
whole t = t.base ++ t.top

-- Places that are counted on from an earlier one.
use Rattle.std.specs.Prelude.{◌≡◌, ◌≤◌, ℕ, ◌+◌, ◌-◌, nat_eq, if◌then◌else◌, List, length, take, IsUtf8}
use Rattle.text_names.specs.Place.{in_64_bits, place_after}
use Rattle.text_names.specs.declared.place.Place.{Place}
use Rattle.ofn_axiom.specs.declared.marks.Mark.{Mark}

-- the place after some bytes and then others, from the place after each
abbrev pub onward : Place → Place → Place
onward before more =
    if nat_eq more.line 1 then
    record { line = before.line; column = in_64_bits (before.column + (more.column - 1)) } else
    record { line = in_64_bits (before.line + (more.line - 1)); column = more.column }

-- the mark is at a character of the text, and has its place
pub record IsMark (text : List ℕ) (mark : Mark) : Type 0 where
  pub within : mark.at ≤ length text
  pub utf8 : IsUtf8 (take mark.at text)
  pub there : mark.place ≡ place_after (take mark.at text)

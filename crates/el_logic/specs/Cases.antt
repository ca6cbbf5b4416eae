-- Interpretations to try axioms in.
use Rattle.std.specs.Prelude.{[], ◌∷◌}
use Rattle.el_logic.specs.declared.types.Interp.{Interp}

-- one element: class 0 has it and class 1 doesn't, property 0 relates it to itself and property 1
-- relates nothing
abbrev pub one_element : Interp
one_element = record { size = 1; classes = (0 ∷ []) ∷ [] ∷ []; roles = ((0, 0) ∷ []) ∷ [] ∷ [] }

-- three elements: property 0 leads from 0 to 1 and from 1 to 2
abbrev pub three_elements : Interp
three_elements = record { size = 3; classes = []; roles = ((0, 1) ∷ (1, 2) ∷ []) ∷ [] }

-- three elements. Class 0 has element 0, class 1 has 0 and 1, class 2 has 2, class 3 again has 0.
-- Property 0 leads from 0 to 1, 1 from 1 to 2, 2 from 0 to 2, 3 from 0 to 1 and to 2, 4 again from
-- 0 to 1. Property 5 relates each element to itself, 6 only element 0. Property 7 leads from 0 to
-- 1, from 1 to 2 and from 0 to 2.
abbrev pub steps : Interp
steps = record {
  size = 3;
  classes = (0 ∷ []) ∷ (0 ∷ 1 ∷ []) ∷ (2 ∷ []) ∷ (0 ∷ []) ∷ [];
  roles = ((0, 1) ∷ []) ∷ ((1, 2) ∷ []) ∷ ((0, 2) ∷ []) ∷ ((0, 1) ∷ (0, 2) ∷ []) ∷ ((0, 1) ∷ [])
      ∷ ((0, 0) ∷ (1, 1) ∷ (2, 2) ∷ []) ∷ ((0, 0) ∷ []) ∷ ((0, 1) ∷ (1, 2) ∷ (0, 2) ∷ []) ∷ [];
}

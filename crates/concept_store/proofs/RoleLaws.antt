-- Roles become no fewer, and so a fault stays one.
use Rattle.std.proofs.Common.{◌≡◌, ℕ, ◌+◌, ◌<◌, ◌≤◌, List, [], ◌∷◌, ◌++◌, length, map, arith, length-append, append_assoc, ap, sym, ◌∙◌}
use Rattle.std.specs.List.{range_with_len}
use Rattle.std.proofs.lemmas.List.FromFn.{length-map-range_with_len, map-range_with_len_more}
use Rattle.el_logic.specs.declared.types.Axiom.{Axiom}
use Rattle.el_logic.specs.declared.types.Side.{Side}
use Rattle.concept_store.specs.declared.types.RoleNode.{RoleNode}
use Rattle.concept_store.specs.declared.types.RoleNode.TheVariants.{Named, Part}
use Rattle.concept_store.specs.declared.types.StoreFault.{StoreFault}
use Rattle.concept_store.specs.declared.types.StoreFault.TheVariants as fault
use Rattle.concept_store.specs.Faults.{IsStoreFault}
use Rattle.concept_store.specs.Roles.{parts_in, roles_of}

-- too many of some is too many of more
pub fault_more : (most few many : ℕ) → few ≤ many → (found : StoreFault) → IsStoreFault ⊥ (most < few) found → IsStoreFault ⊥ (most < many) found
fault_more most few many more fault.Nodes h = h
fault_more most few many more fault.Roles h = omega arith
fault_more most few many more fault.OutOfMemory h = h

-- too many property names are too many roles
pub fault_names : (names : ℕ) (left right : List Axiom) (most : ℕ) (found : StoreFault) → IsStoreFault ⊥ (most < names) found → IsStoreFault ⊥ (most < length (roles_of names left right)) found
fault_names names left right most found =
    let all = map Named (range_with_len 0 names) in
    let one = parts_in Side.Left 1 left in
    fault_more most names (length (roles_of names left right))
    (omega (arith, length-map-range_with_len Named 0 names, length-append all one, length-append (all ++ one) (parts_in Side.Right 1 right)))
    found

-- and so are too many with the parts of LEFT
pub fault_left : (names : ℕ) (left right : List Axiom) (most : ℕ) (found : StoreFault) (roles : List RoleNode) → roles ≡ map Named (range_with_len 0 names) →
    IsStoreFault ⊥ (most < length (roles ++ parts_in Side.Left 1 left)) found → IsStoreFault ⊥ (most < length (roles_of names left right)) found
fault_left names left right most found roles same =
    let all = map Named (range_with_len 0 names) in
    let one = parts_in Side.Left 1 left in
    fault_more most (length (roles ++ one)) (length (roles_of names left right))
    (omega (arith, ap length same, length-append roles one, length-append all one, length-append (all ++ one) (parts_in Side.Right 1 right)))
    found

-- one more part of a chain
pub next_part : (initial now new : List RoleNode) (side : Side) (number k : ℕ) → now ≡ initial ++ map (Part side number) (range_with_len 2 k) → new ≡ now ++ Part side number (k + 2) ∷ [] →
    new ≡ initial ++ map (Part side number) (range_with_len 2 (k + 1))
next_part initial now new side number k so_far one_more =
    let at : 2 + k ≡ k + 2 = omega arith in
    one_more ∙ ap (λ (xs : List RoleNode). xs ++ Part side number (k + 2) ∷ []) so_far
    ∙ append_assoc initial (map (Part side number) (range_with_len 2 k)) (Part side number (k + 2) ∷ [])
    ∙ ap (λ (xs : List RoleNode). initial ++ xs) (sym (map-range_with_len_more (Part side number) 2 k (k + 2) at))

-- the list is full before the last part
pub full : (initial now : List RoleNode) (side : Side) (number k count most : ℕ) → now ≡ initial ++ map (Part side number) (range_with_len 2 k) → k < count → most ≤ length now →
    most < length (initial ++ map (Part side number) (range_with_len 2 count))
full initial now side number k count most so_far within no_room =
    omega (
      arith,
      ap length so_far,
      length-append initial (map (Part side number) (range_with_len 2 k)),
      length-append initial (map (Part side number) (range_with_len 2 count)),
      length-map-range_with_len (Part side number) 2 k,
      length-map-range_with_len (Part side number) 2 count,
    )

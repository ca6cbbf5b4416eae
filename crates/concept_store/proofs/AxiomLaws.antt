-- Numbering axioms one after the other: the nodes become no fewer, and so a fault stays one.
use Rattle.std.proofs.Common.{◌≡◌, ℕ, zero, suc, ◌+◌, ◌^◌, ◌<◌, ◌≤◌, List, [], ◌∷◌, length, drop, get_or, sym, ap, subst, arith, drop-cons, ◌∙◌}
use Rattle.std.proofs.lemmas.List.{drop_all}
use Rattle.el_logic.specs.declared.types.Expr.{Expr}
use Rattle.el_logic.specs.declared.types.Axiom.{Axiom}
use Rattle.el_logic.specs.declared.types.Axiom.TheVariants as A
use Rattle.concept_store.specs.declared.types.Node.{Node}
use Rattle.concept_store.specs.declared.types.StoreFault.{StoreFault}
use Rattle.concept_store.specs.Trees.{tree_of}
use Rattle.concept_store.specs.Nodes.{expressions, part_count, parts_within}
use Rattle.concept_store.specs.Faults.{IsStoreFault}
use Rattle.concept_store.specs.Inside.Numbering.{numbered, numbered_each, numbered_axiom, numbered_axioms, in_32_bits, AreNamesShort, AreAllShort, AreAxiomsShort}
use Rattle.concept_store.proofs.NumberLaws.{longer, fault_longer}

-- numbering expressions makes the nodes no fewer
pub longer_each : (exprs : List Expr) (nodes : List Node) → length nodes ≤ length (numbered_each exprs nodes).1
longer_each [] nodes = omega arith
longer_each (expr ∷ exprs) nodes = omega (arith, longer (tree_of expr) nodes, longer_each exprs (numbered (tree_of expr) nodes).1)

-- nor does numbering an axiom
pub longer_axiom : (axiom' : Axiom) (first : ℕ) (nodes : List Node) → length nodes ≤ length (numbered_axiom first axiom' nodes).1
longer_axiom (A.SubClass low high) first nodes = omega (arith, longer (tree_of low) nodes, longer (tree_of high) (numbered (tree_of low) nodes).1)
longer_axiom (A.Equivalent exprs) first nodes = longer_each exprs nodes
longer_axiom (A.Disjoint exprs) first nodes = longer_each exprs nodes
longer_axiom (A.SubRole chain role) first nodes = omega arith
longer_axiom (A.EquivalentRoles roles) first nodes = omega arith
longer_axiom (A.Transitive role) first nodes = omega arith
longer_axiom (A.Reflexive role) first nodes = omega arith
longer_axiom (A.Domain role expr) first nodes = longer (tree_of expr) nodes

-- nor does numbering axioms
pub longer_axioms : (axioms : List Axiom) (first : ℕ) (nodes : List Node) → length nodes ≤ length (numbered_axioms first axioms nodes).1
longer_axioms [] first nodes = omega arith
longer_axioms (axiom' ∷ axioms) first nodes =
    omega (arith, longer_axiom axiom' first nodes, longer_axioms axioms (in_32_bits (first + part_count axiom')) (numbered_axiom first axiom' nodes).1)

-- what is short in all is so at a place
short_expr : (exprs : List Expr) (i : ℕ) (expr : Expr) → AreAllShort exprs → i < length exprs → expr ≡ get_or exprs i expr → AreNamesShort (tree_of expr)
short_expr [] i expr short within at = absurd (omega arith)
short_expr (first ∷ exprs) zero expr short within at = subst (λ e. AreNamesShort (tree_of e)) (sym at) short.0
short_expr (first ∷ exprs) (suc i) expr short within at = short_expr exprs i expr short.1 (omega arith) at

-- and the names of an axiom
short_axiom : (axioms : List Axiom) (i : ℕ) (axiom' : Axiom) → AreAxiomsShort axioms → i < length axioms → axiom' ≡ get_or axioms i axiom' → AreAllShort (expressions axiom')
short_axiom [] i axiom' short within at = absurd (omega arith)
short_axiom (first ∷ axioms) zero axiom' short within at = subst (λ a. AreAllShort (expressions a)) (sym at) short.0
short_axiom (first ∷ axioms) (suc i) axiom' short within at = short_axiom axioms i axiom' short.1 (omega arith) at

-- the rest of a list begins with its element at the place
rest_at : {X : Type 0} (xs : List X) (i : ℕ) (x : X) → i < length xs → x ≡ get_or xs i x → drop i xs ≡ x ∷ drop (suc i) xs
rest_at xs i x within at = drop-cons xs i x within ∙ ap (λ y. y ∷ drop (suc i) xs) (sym at)

-- a fault at an expression is one of all expressions
pub fault_each : (exprs : List Expr) (i : ℕ) (expr : Expr) (start nodes : List Node) (most : ℕ) (found : StoreFault) → i < length exprs → expr ≡ get_or exprs i expr →
    (numbered_each exprs start).1 ≡ (numbered_each (drop i exprs) nodes).1 → AreAllShort exprs →
    (AreNamesShort (tree_of expr) → IsStoreFault (most < length (numbered (tree_of expr) nodes).1) ⊥ found) → IsStoreFault (most < length (numbered_each exprs start).1) ⊥ found
fault_each exprs i expr start nodes most found within at kept short faulty =
    let rest = ap (λ es. (numbered_each es nodes).1) (rest_at exprs i expr within at) in
    let all = ap length (kept ∙ rest) in
    let here = numbered (tree_of expr) nodes in
    let more : length here.1 ≤ length (numbered_each exprs start).1 = omega (arith, all, longer_each (drop (suc i) exprs) here.1) in
    fault_longer most here.1 (numbered_each exprs start).1 more found (faulty (short_expr exprs i expr short within at))

-- a fault at an axiom is one of all axioms
pub fault_axioms : (axioms : List Axiom) (i : ℕ) (axiom' : Axiom) (first here : ℕ) (start nodes : List Node) (most : ℕ) (found : StoreFault) → i < length axioms → axiom' ≡ get_or axioms i axiom' →
    (numbered_axioms first axioms start).1 ≡ (numbered_axioms here (drop i axioms) nodes).1 → AreAxiomsShort axioms →
    (AreAllShort (expressions axiom') → IsStoreFault (most < length (numbered_axiom here axiom' nodes).1) ⊥ found) → IsStoreFault (most < length (numbered_axioms first axioms start).1) ⊥ found
fault_axioms axioms i axiom' first here start nodes most found within at kept short faulty =
    let rest = ap (λ others. (numbered_axioms here others nodes).1) (rest_at axioms i axiom' within at) in
    let all = ap length (kept ∙ rest) in
    let one = numbered_axiom here axiom' nodes in
    let more : length one.1 ≤ length (numbered_axioms first axioms start).1 = omega (arith, all, longer_axioms (drop (suc i) axioms) (in_32_bits (here + part_count axiom')) one.1) in
    fault_longer most one.1 (numbered_axioms first axioms start).1 more found (faulty (short_axiom axioms i axiom' short within at))

-- a fault at the lower expression of an inclusion
pub fault_low : (axiom' : Axiom) (low high : Expr) (first : ℕ) (nodes : List Node) (most : ℕ) (found : StoreFault) → axiom' ≡ A.SubClass low high → AreAllShort (expressions axiom') →
    (AreNamesShort (tree_of low) → IsStoreFault (most < length (numbered (tree_of low) nodes).1) ⊥ found) → IsStoreFault (most < length (numbered_axiom first axiom' nodes).1) ⊥ found
fault_low axiom' low high first nodes most found same short faulty =
    subst (λ a. IsStoreFault (most < length (numbered_axiom first a nodes).1) ⊥ found) (sym same)
    (let one = numbered (tree_of low) nodes in
    fault_longer most one.1 (numbered (tree_of high) one.1).1 (longer (tree_of high) one.1) found (faulty (subst (λ a. AreAllShort (expressions a)) same short).0))

-- at the end the next role is the one after all parts
pub next_is : (axioms : List Axiom) (i first here : ℕ) → length axioms ≤ i → here < 2 ^ 32 → in_32_bits (first + parts_within axioms) ≡ in_32_bits (here + parts_within (drop i axioms)) → here ≡ in_32_bits (first + parts_within axioms)
next_is axioms i first here past small kept =
    let none = ap (λ others. in_32_bits (here + parts_within others)) (drop_all i axioms past) in
    omega (arith, kept, none)

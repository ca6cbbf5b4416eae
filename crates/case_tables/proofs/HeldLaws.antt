-- The entries of a key are what the nodes of a case are made of.
use Rattle.std.proofs.Common.{◌≡◌, ◌∙◌, ℕ, zero, suc, ◌+◌, Bool, true, false, List, Contains, refl, sym, ap, subst, arith}
use Rattle.concept_store.specs.declared.types.Node.{Node}
use Rattle.concept_store.specs.declared.types.Node.TheVariants as M
use Rattle.concept_store.specs.Nodes.{IsNode}
use Rattle.case_file.specs.Cases.{CaseView}
use Rattle.case_tables.specs.declared.types.Whole.{Whole}
use Rattle.case_tables.specs.declared.types.Restriction.{Restriction}
use Rattle.case_tables.specs.Keyed.{of_key, numbered_from}
use Rattle.case_tables.specs.Entries.{wholes_held, restrictions_held, by_role}
use Rattle.case_tables.specs.Tables.{held_in}
use Rattle.case_tables.specs.Named.{intersection_of}
use Rattle.case_tables.proofs.Members.{none, only, of_key_has, has_of_key, in_flat, flat_in, in_map, map_in, in_numbered, numbered_in}

-- a table over nodes, by what one node gives
module _ {T : Type 0} (held : ℕ → Node → List (ℕ × T)) (node_of : T → ℕ) (Says : Node → ℕ → T → Type 0) where
  pub held_has : ((number : ℕ) (node : Node) (key : ℕ) (entry : T) → Contains (held number node) (key, entry) → (number ≡ node_of entry) × Says node key entry) →
      (case : CaseView) (key : ℕ) (entry : T) → Contains (of_key (held_in held case) key) entry → (node : Node) × IsNode case.store.nodes (node_of entry) node × Says node key entry
  held_has one case key entry in' =
      let nodes = case.store.nodes in
      let found = in_flat (λ n. held n.0 n.1) (numbered_from (λ n. n) 0 nodes) (key, entry) (of_key_has (held_in held case) key entry in') in
      let place = in_numbered (λ n. n) 0 nodes found.0.0 found.0.1 found.1 in
      let says = one found.0.0 found.0.1 key entry found.2 in
      let e : place.0 ≡ node_of entry = omega (arith, place.1, says.0) in
      (found.0.1, subst (λ n. IsNode nodes n found.0.1) e place.2, says.1)

  pub has_held : ((node : Node) (key : ℕ) (entry : T) → Says node key entry → Contains (held (node_of entry) node) (key, entry)) →
      (case : CaseView) (key : ℕ) (entry : T) → (node : Node) × IsNode case.store.nodes (node_of entry) node × Says node key entry → Contains (of_key (held_in held case) key) entry
  has_held one case key entry (node, at, says) =
      let nodes = case.store.nodes in
      let e : 0 + node_of entry ≡ node_of entry = omega arith in
      let there : Contains (numbered_from (λ n. n) 0 nodes) (node_of entry, node) = subst (λ n. Contains (numbered_from (λ m. m) 0 nodes) (n, node)) e (numbered_in (λ n. n) 0 nodes (node_of entry) node at) in
      has_of_key (held_in held case) key entry
      (flat_in (λ n. held n.0 n.1) (numbered_from (λ n. n) 0 nodes) (key, entry) (node_of entry, node) there (one node key entry says))

-- wholes
whole_has : (number : ℕ) (node : Node) (key : ℕ) (entry : Whole) → Contains (wholes_held number node) (key, entry) → (number ≡ entry.node) × (node ≡ intersection_of key entry)
whole_has number (M.And left right) key entry (zero, within, same) = (ap (λ p. p.1.node) same, ap (λ p. intersection_of (p.0) (p.1)) same)
whole_has number (M.And left right) key entry (suc zero, within, same) = (ap (λ p. p.1.node) same, ap (λ p. intersection_of (p.0) (p.1)) same)
whole_has number (M.And left right) key entry (suc (suc k), within, same) = absurd (omega (arith, within))
whole_has number _ key entry in' = absurd (none (key, entry) in')

has_parts : (key number other : ℕ) (is_left : Bool) → Contains (wholes_held number (intersection_of key (record { node = number; other = other; is_left = is_left }))) (key, record { node = number; other = other; is_left = is_left })
has_parts key number other true = (0, omega arith, refl)
has_parts key number other false = (1, omega arith, refl)

has_whole : (node : Node) (key : ℕ) (entry : Whole) → node ≡ intersection_of key entry → Contains (wholes_held entry.node node) (key, entry)
has_whole node key entry same = subst (λ n. Contains (wholes_held entry.node n) (key, entry)) (sym same) (has_parts key entry.node entry.other entry.is_left)

pub wholes_has : (case : CaseView) (key : ℕ) (entry : Whole) → Contains (of_key (held_in wholes_held case) key) entry → IsNode case.store.nodes entry.node (intersection_of key entry)
wholes_has case key entry in' =
    let found = held_has wholes_held (λ e. e.node) (λ node k e. node ≡ intersection_of k e) whole_has case key entry in' in
    subst (IsNode case.store.nodes entry.node) found.2 found.1

pub has_wholes : (case : CaseView) (key : ℕ) (entry : Whole) → IsNode case.store.nodes entry.node (intersection_of key entry) → Contains (of_key (held_in wholes_held case) key) entry
has_wholes case key entry at = has_held wholes_held (λ e. e.node) (λ node k e. node ≡ intersection_of k e) has_whole case key entry (intersection_of key entry, at, refl)

-- restrictions
abbrev IsRestriction : Node → ℕ → Restriction → Type 0
IsRestriction node key entry = (key ≡ entry.filler) × (node ≡ M.Exists entry.role entry.filler)

restriction_has : (number : ℕ) (node : Node) (key : ℕ) (entry : Restriction) → Contains (restrictions_held number node) (key, entry) → (number ≡ entry.node) × IsRestriction node key entry
restriction_has number (M.Exists role filler) key entry in' =
    let same = only (filler, record { node = number; role = role; filler = filler }) (key, entry) in' in
    (ap (λ p. p.1.node) same, (sym (ap (λ p. p.0) same) ∙ ap (λ p. p.1.filler) same, ap (λ p. M.Exists (p.1.role) (p.1.filler)) same))
restriction_has number _ key entry in' = absurd (none (key, entry) in')

has_restriction : (node : Node) (key : ℕ) (entry : Restriction) → IsRestriction node key entry → Contains (restrictions_held entry.node node) (key, entry)
has_restriction node key entry (at, same) =
    subst (λ n. Contains (restrictions_held entry.node n) (key, entry)) (sym same) (0, omega arith, λ i. (sym at i, entry))

pub into_has : (case : CaseView) (key : ℕ) (entry : Restriction) → Contains (of_key (held_in restrictions_held case) key) entry → (key ≡ entry.filler) × IsNode case.store.nodes entry.node (M.Exists entry.role entry.filler)
into_has case key entry in' =
    let found = held_has restrictions_held (λ e. e.node) IsRestriction restriction_has case key entry in' in
    (found.2.0, subst (IsNode case.store.nodes entry.node) found.2.1 found.1)

pub has_into : (case : CaseView) (key : ℕ) (entry : Restriction) → (key ≡ entry.filler) × IsNode case.store.nodes entry.node (M.Exists entry.role entry.filler) → Contains (of_key (held_in restrictions_held case) key) entry
has_into case key entry (at, is) = has_held restrictions_held (λ e. e.node) IsRestriction has_restriction case key entry (M.Exists entry.role entry.filler, is, (at, refl))

-- the same restrictions by their role
pub over_has : (case : CaseView) (role : ℕ) (entry : Restriction) → Contains (of_key (by_role (held_in restrictions_held case)) role) entry → (role ≡ entry.role) × IsNode case.store.nodes entry.node (M.Exists entry.role entry.filler)
over_has case role entry in' =
    let pairs = held_in restrictions_held case in
    let found = in_map (λ pair. (pair.1.role, pair.1)) pairs (role, entry) (of_key_has (by_role pairs) role entry in') in
    let same = ap (λ p. p.1) found.2 in
    let key = found.0.0 in
    let there = subst (λ e. Contains pairs (key, e)) same found.1 in
    (sym (ap (λ p. p.0) found.2) ∙ ap (λ e. e.role) same, (into_has case key entry (has_of_key pairs key entry there)).1)

pub has_over : (case : CaseView) (role : ℕ) (entry : Restriction) → (role ≡ entry.role) × IsNode case.store.nodes entry.node (M.Exists entry.role entry.filler) → Contains (of_key (by_role (held_in restrictions_held case)) role) entry
has_over case role entry (at, is) =
    let pairs = held_in restrictions_held case in
    let there = of_key_has pairs entry.filler entry (has_into case entry.filler entry (refl, is)) in
    has_of_key (by_role pairs) role entry
    (subst (λ k. Contains (by_role pairs) (k, entry)) (sym at)
    (map_in (λ pair. (pair.1.role, pair.1)) pairs (entry.filler, entry) there))

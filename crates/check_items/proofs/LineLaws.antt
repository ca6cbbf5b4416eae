-- Lists that are compared place by place.
use Rattle.std.proofs.Common.{◌≡◌, ◌↔◌, IsTrue, Bool, ◌≤◌, ⊎_elim, ℕ, suc, ◌+◌, ◌<◌, List, [], ◌∷◌, ◌++◌, map, length, All, refl, ap, sym, subst, ◌∙◌, arith}
use Rattle.std.specs.Prelude.{Some, slice_get, ⊤}
use Rattle.std.specs.List.{range_with_len}
use Rattle.std.specs.Option.{option_map}
use Rattle.std.proofs.lemmas.Option.{slice_get-map, slice_get_within, get_or_from_slice_get}
use Rattle.std.proofs.lemmas.Bool.{cases_lt}
use Rattle.std.proofs.lemmas.List.Elements.{All-nil, All-append, All-get_or, All-map}
use Rattle.std.proofs.lemmas.List.FromFn.{length-range_with_len, get_or-range_with_len}
use Rattle.el_logic.specs.declared.types.Axiom.{Axiom}
use Rattle.el_logic.specs.declared.types.Side.{Side}
use Rattle.concept_store.specs.declared.types.Node.{Node}
use Rattle.concept_store.specs.declared.types.Node.TheVariants as NodeIs
use Rattle.concept_store.specs.declared.types.RoleNode.{RoleNode}
use Rattle.concept_store.specs.declared.types.RoleNode.TheVariants.{Named, Part}
use Rattle.concept_store.specs.Nodes.{part_count}
use Rattle.concept_store.specs.Roles.{parts_of, parts_in, roles_of}
use Rattle.evidence_lines.specs.declared.types.NodeLine.{NodeLine}
use Rattle.evidence_lines.specs.declared.types.NodeLine.TheVariants as LineIs
use Rattle.evidence_lines.specs.declared.types.RoleLine.{RoleLine}
use Rattle.evidence_lines.specs.declared.types.RoleLine.TheVariants as RoleLineIs
use Rattle.valid_evidence.specs.Items.{line_of_node, line_of_role}

-- what is there is one
some_is_one : {Y : Type 0} (x y : Y) → Some x ≡ Some y → x ≡ y
some_is_one x y h = cc

module _ {X Y : Type 0} (f : X → Y) where
  -- lines are those of a list if each is that of its place
  pub all_lines : (xs : List X) (ys : List Y) → length ys ≡ length xs
      → ((k : ℕ) (x : X) (y : Y) → k < length xs → slice_get xs k ≡ Some x → slice_get ys k ≡ Some y → y ≡ f x) → ys ≡ map f xs
  all_lines [] [] long same = refl
  all_lines [] (y ∷ ys) long same = absurd (omega (arith, long))
  all_lines (x ∷ xs) [] long same = absurd (omega (arith, long))
  all_lines (x ∷ xs) (y ∷ ys) long same =
      ap (λ (z : Y). z ∷ ys) (same 0 x y (omega arith) refl refl)
      ∙ ap (λ (zs : List Y). f x ∷ zs) (all_lines xs ys (omega (arith, long)) (λ k a b below. same (suc k) a b (omega (arith, below))))

  -- and then each is
  pub line_at : (xs : List X) (ys : List Y) → ys ≡ map f xs → (k : ℕ) (x : X) (y : Y) → slice_get xs k ≡ Some x → slice_get ys k ≡ Some y → y ≡ f x
  line_at xs ys is k x y there here =
      some_is_one y (f x) (sym here ∙ ap (λ (l : List Y). slice_get l k) is ∙ slice_get-map f xs k ∙ ap (option_map f) there)

-- one more line that is that of its place
pub line_more : {X Y : Type 0} (f : X → Y) (xs : List X) (ys : List Y) (n : ℕ) (one : X) (line : Y) → slice_get xs n ≡ Some one → slice_get ys n ≡ Some line
    → line ≡ f one → ((k : ℕ) (x : X) (y : Y) → k < n → slice_get xs k ≡ Some x → slice_get ys k ≡ Some y → y ≡ f x)
    → (k : ℕ) (x : X) (y : Y) → k < n + 1 → slice_get xs k ≡ Some x → slice_get ys k ≡ Some y → y ≡ f x
line_more f xs ys n one line there here is before k x y below x_there y_here = ⊎_elim
    (λ (early : k < n). before k x y early x_there y_here)
    (λ (late : n ≤ k).
    let same : k ≡ n = omega (arith, late, below) in
    some_is_one y line (sym y_here ∙ ap (slice_get ys) same ∙ here) ∙ is ∙ ap f (some_is_one one x (sym there ∙ ap (slice_get xs) (sym same) ∙ x_there)))
    (cases_lt k n)

-- the line of a class by its IRI
pub class_line : (names : List (List ℕ)) (n : Node) (line : NodeLine) (class : ℕ) (iri name : List ℕ) (eq : Bool) → n ≡ NodeIs.Class class → line ≡ LineIs.Class iri
    → slice_get names class ≡ Some name → IsTrue eq ↔ (name ≡ iri) → IsTrue eq ↔ (line ≡ line_of_node names n)
class_line names n line class iri name eq node_is line_is there decides =
    let whole : line_of_node names n ≡ LineIs.Class name = ap (line_of_node names) node_is ∙ ap (λ (i : List ℕ). LineIs.Class i) (get_or_from_slice_get names class name [] there) in (
      (λ same. line_is ∙ ap (λ (i : List ℕ). LineIs.Class i) (sym (decides.0 same)) ∙ sym whole),
      (λ same. decides.1 (one_iri (sym whole ∙ sym same ∙ line_is))),
    )
  where
    one_iri : LineIs.Class name ≡ LineIs.Class iri → name ≡ iri
    one_iri h = cc

-- the line of a property by its IRI
pub property_line : (names : List (List ℕ)) (n : RoleNode) (line : RoleLine) (property : ℕ) (iri name : List ℕ) (eq : Bool) → n ≡ Named property → line ≡ RoleLineIs.Property iri
    → slice_get names property ≡ Some name → IsTrue eq ↔ (name ≡ iri) → IsTrue eq ↔ (line ≡ line_of_role names n)
property_line names n line property iri name eq role_is line_is there decides =
    let whole : line_of_role names n ≡ RoleLineIs.Property name = ap (line_of_role names) role_is ∙ ap (λ (i : List ℕ). RoleLineIs.Property i) (get_or_from_slice_get names property name [] there) in (
      (λ same. line_is ∙ ap (λ (i : List ℕ). RoleLineIs.Property i) (sym (decides.0 same)) ∙ sym whole),
      (λ same. decides.1 (one_iri (sym whole ∙ sym same ∙ line_is))),
    )
  where
    one_iri : RoleLineIs.Property name ≡ RoleLineIs.Property iri → name ≡ iri
    one_iri h = cc

-- a role that is a property is one of so many
abbrev pub IsNamedWithin : ℕ → RoleNode → Type 0
IsNamedWithin properties (Named property) = property < properties
IsNamedWithin properties (Part side number length) = ⊤

parts_are_no_names : (properties : ℕ) (side : Side) (number : ℕ) (axioms : List Axiom) → All (IsNamedWithin properties) (parts_in side number axioms)
parts_are_no_names properties side number [] = All-nil (IsNamedWithin properties)
parts_are_no_names properties side number (one ∷ axioms) =
    All-append (IsNamedWithin properties) (parts_of side number one) (parts_in side (number + 1) axioms)
    (All-map (IsNamedWithin properties) (Part side number) (range_with_len 2 (part_count one)) (λ k d inside. tt))
    (parts_are_no_names properties side (number + 1) axioms)

-- the roles of a store have the names that there are
pub roles_are_named : (properties : ℕ) (left right : List Axiom) → All (IsNamedWithin properties) (roles_of properties left right)
roles_are_named properties left right =
    let names = map Named (range_with_len 0 properties) in
    let of_left = parts_in Side.Left 1 left in
    All-append (IsNamedWithin properties) (names ++ of_left) (parts_in Side.Right 1 right)
    (All-append (IsNamedWithin properties) names of_left (All-map (IsNamedWithin properties) Named (range_with_len 0 properties) below) (parts_are_no_names properties Side.Left 1 left))
    (parts_are_no_names properties Side.Right 1 right)
  where
    below : All (λ property. property < properties) (range_with_len 0 properties)
    below k d inside =
        let short : k < properties = omega (arith, inside, length-range_with_len 0 properties) in
        subst (λ n. n < properties) (sym (get_or-range_with_len 0 properties k d short)) (omega (arith, short))

-- a role that is read of a store is named within
pub role_is_named : (properties : ℕ) (roles : List RoleNode) (n property : ℕ) → All (IsNamedWithin properties) roles → slice_get roles n ≡ Some (Named property) → property < properties
role_is_named properties roles n property all there =
    subst (IsNamedWithin properties) (get_or_from_slice_get roles n (Named property) (Named property) there)
    (All-get_or (IsNamedWithin properties) roles n (Named property) (slice_get_within roles n (Named property) there) all)

-- What is found of a case, over its nodes and over its class names.
use Rattle.std.proofs.Common.{◌≡◌, ◌↔◌, ◌<◌, ℕ, zero, suc, List, [], length, get_or, inl, inr, refl, sym, ◌∙◌, ap, subst, Contains, arith}
use Rattle.std.specs.Prelude.{Option, Some, slice_get}
use Rattle.std.specs.Option.{option_map}
use Rattle.std.specs.List.{range_with_len}
use Rattle.std.proofs.lemmas.List.{append-nil}
use Rattle.std.proofs.lemmas.List.FromFn.{length-range_with_len, get_or-range_with_len}
use Rattle.std.proofs.lemmas.Option.{slice_get-map, slice_get-get_or}
use Rattle.el_logic.specs.declared.types.Expr.{Expr}
use Rattle.el_logic.specs.declared.types.Expr.TheVariants.{Top, Name}
use Rattle.el_logic.specs.declared.types.Axiom.{Axiom}
use Rattle.el_logic.specs.declared.types.Part.{Part}
use Rattle.el_logic.specs.Incoherent.{IsIncoherent, IsCoherent, IsEmptyClass, IsFirstEmpty, IsFirstIncoherent, axioms_of_part, must_have}
use Rattle.case_file.specs.Cases.{CaseView, IsMustHave}
use Rattle.case_file.specs.Incoherence.{IsEmptyFor, IsIncoherentFor, axioms_for, name_of}
use Rattle.saturate.specs.Decisions.{IsFirstEmptyFor, IsFirstIncoherentPart}
use Rattle.repair_run.specs.Outcomes.{iri_of_class}

-- a case that excuses no class is incoherent if its axioms are
abbrev pub ExcusingNone : Type 0
ExcusingNone = (case : CaseView) (part : Part) (ranks : List ℕ) → case.excused ≡ [] → IsIncoherentFor case part ranks
    ↔ IsIncoherent case.classes case.properties (axioms_for case part ranks)

-- where a class stands among those that must have a member
class_at : (classes class : ℕ) → class < classes → slice_get (must_have classes) (suc class) ≡ Some (Name class)
class_at classes class below =
    let range = range_with_len 0 classes in
    let within : class < length range = omega (arith, below, length-range_with_len 0 classes) in
    let is : get_or range class 0 ≡ class = omega (arith, get_or-range_with_len 0 classes class 0 below) in
    slice_get-map Name range class ∙ ap (option_map Name) (slice_get-get_or range class 0 within ∙ ap {B = Option ℕ} (λ (n : ℕ). Some n) is)

module _ (case : CaseView) (excused : case.excused ≡ []) where
  abbrev part_axioms : Part → List Axiom
  part_axioms part = axioms_of_part case.left case.right part

  -- without rows there are the axioms of the part
  no_ranks : (part : Part) → axioms_for case part [] ≡ part_axioms part
  no_ranks part = append-nil (part_axioms part)

  -- an empty node without rows is an empty class of the part, and the other way round
  empty_class : (part : Part) (node : ℕ) → IsEmptyFor case part [] node → IsEmptyClass case.classes case.properties (part_axioms part) (name_of node)
  empty_class part node h = subst (λ (axioms : List Axiom). IsEmptyClass case.classes case.properties axioms (name_of node)) (no_ranks part) h

  empty_node : (part : Part) (node : ℕ) → IsEmptyClass case.classes case.properties (part_axioms part) (name_of node) → IsEmptyFor case part [] node
  empty_node part node h = subst (λ (axioms : List Axiom). IsEmptyClass case.classes case.properties axioms (name_of node)) (sym (no_ranks part)) h

  -- no class is excused
  none_excused : (node : ℕ) → ¬ (Contains case.excused node)
  none_excused node held = let h = subst (λ (nodes : List ℕ). Contains nodes node) excused held in let l = h.1 in absurd (omega arith)

  -- a class that is not empty as a node
  not_empty : (part : Part) (node : ℕ) (class : ℕ) (other : Expr) → IsFirstEmptyFor case part [] node → class < case.classes → suc (suc class) < node
      → slice_get (must_have case.classes) (suc class) ≡ Some other → ¬ (IsEmptyClass case.classes case.properties (part_axioms part) other)
  not_empty part node class other f below before at empty =
      let both : Some other ≡ Some (Name class) = sym at ∙ class_at case.classes class below in
      let same : other ≡ Name class = cc in
      f.none_before (suc (suc class)) before (inr (class, below, omega arith, none_excused (suc (suc class))))
      (empty_node part (suc (suc class)) (subst (λ (c : Expr). IsEmptyClass case.classes case.properties (part_axioms part) c) same empty))

  -- the first empty node is the first empty class
  first_class : (part : Part) (node class : ℕ) → node ≡ suc (suc class) → class < case.classes → IsFirstEmptyFor case part [] node
      → IsFirstEmpty case.classes case.properties (part_axioms part) (name_of node)
  first_class part node class is below f = record {
    place = suc class;
    at = class_at case.classes class below ∙ ap {B = Option Expr} (λ (n : ℕ). Some (name_of n)) (sym is);
    empty = empty_class part node f.empty;
    none_before = none;
  }
    where
      none : (k : ℕ) (other : Expr) → k < suc class → slice_get (must_have case.classes) k ≡ Some other
          → ¬ (IsEmptyClass case.classes case.properties (part_axioms part) other)
      none zero other l at empty =
          let same : Top ≡ other = cc in
          f.none_before 0 (omega arith) (inl refl) (empty_node part 0 (subst (λ (c : Expr). IsEmptyClass case.classes case.properties (part_axioms part) c) (sym same) empty))
      none (suc k) other l at empty = not_empty part node k other f (omega arith) (omega arith) at empty

  first_thing : (part : Part) (node : ℕ) → node ≡ 0 → IsFirstEmptyFor case part [] node → IsFirstEmpty case.classes case.properties (part_axioms part) (name_of node)
  first_thing part node is f = record {
    place = 0;
    at = ap {B = Option Expr} (λ (n : ℕ). Some (name_of n)) (sym is);
    empty = empty_class part node f.empty;
    none_before = λ k other l. absurd (omega arith);
  }

  first_empty : (part : Part) (node : ℕ) → IsFirstEmptyFor case part [] node → IsFirstEmpty case.classes case.properties (part_axioms part) (name_of node)
  first_empty part node f = by f.must_have
    where
      by : IsMustHave case node → IsFirstEmpty case.classes case.properties (part_axioms part) (name_of node)
      by (inl is) = first_thing part node is f
      by (inr named) = first_class part node named.0 (omega (arith, named.2)) named.1 f

  module _ (law : ExcusingNone) where
    -- a part that is not incoherent is coherent
    pub coherent_part : (part : Part) → ¬ (IsIncoherentFor case part []) → IsCoherent case.classes case.properties (part_axioms part)
    coherent_part part coherent h =
        coherent ((law case part [] excused).1 (subst (λ (axioms : List Axiom). IsIncoherent case.classes case.properties axioms) (sym (no_ranks part)) h))

    -- the first incoherent part, with its first empty class
    pub first_part : (part : Part) (node : ℕ) → IsFirstIncoherentPart case part → IsFirstEmptyFor case part [] node
        → IsFirstIncoherent case.classes case.properties case.left case.right part (name_of node)
    first_part Part.Left node p f = first_empty Part.Left node f
    first_part Part.Right node p f = (coherent_part Part.Left p.0, first_empty Part.Right node f)
    first_part Part.Both node p f = (coherent_part Part.Left p.0, coherent_part Part.Right p.1, first_empty Part.Both node f)

-- the IRI of a node is that of its class
pub node_iri : (names : List (List ℕ)) (node number : ℕ) (iri : List ℕ) → suc (suc number) ≡ node → slice_get names number ≡ Some iri
    → iri_of_class names (name_of node) ≡ Some iri
node_iri names node number iri is at = subst (λ (n : ℕ). iri_of_class names (name_of n) ≡ Some iri) is at

-- When the axioms of a case leave a class without any member.
use Rattle.std.proofs.Common.{◌≡◌, ℕ, zero, suc, ◌+◌, ◌<◌, List, [], map, All, Contains, refl, sym, ap, subst, ◌∙◌, ⊎_elim, inl, inr, arith}
use Rattle.std.specs.Prelude.{slice_index_or}
use Rattle.std.proofs.lemmas.List.FromFn.{get_or-map-range_with_len, length-map-range_with_len}
use Rattle.std.proofs.lemmas.List.Elements.{All-append}
use Rattle.el_logic.specs.declared.types.Interp.{Interp}
use Rattle.el_logic.specs.declared.types.Expr.{Expr}
use Rattle.el_logic.specs.declared.types.Expr.TheVariants.{Top, Name}
use Rattle.el_logic.specs.declared.types.Axiom.{Axiom}
use Rattle.el_logic.specs.declared.types.Part.{Part}
use Rattle.el_logic.specs.Meaning.{Holds}
use Rattle.el_logic.specs.Incoherent.{must_have, axioms_of_part, IsEmptyClass, IsIncoherent}
use Rattle.case_file.specs.Cases.{CaseView, row_at}
use Rattle.case_file.specs.Incoherence.{name_of, axioms_of_ranks, axioms_for, IsIncoherentFor}
use Rattle.case_file.proofs.ListLaws.{all_first, all_second, all_of, all_each}

-- the name of the node of a class
name_of_class : (class : ℕ) → name_of (class + 2) ≡ Name class
name_of_class class = let two : class + 2 ≡ suc (suc class) = omega arith in ap name_of two

-- a class name must have a member
class_there : (classes class : ℕ) → class < classes → Contains (must_have classes) (Name class)
class_there classes class below =
    let same : 0 + class ≡ class = omega arith in
    (suc class, omega (arith, below, length-map-range_with_len Name 0 classes), get_or-map-range_with_len Name 0 classes class class (Name class) below same)

module _ (case : CaseView) (part : Part) (ranks : List ℕ) where
  -- what is said of a class that is empty
  abbrev IsEmpty : Expr → Type 0
  IsEmpty = IsEmptyClass case.classes case.properties (axioms_for case part ranks)

  -- a node that must have a member is a class that must
  pub to_class : IsIncoherentFor case part ranks → IsIncoherent case.classes case.properties (axioms_for case part ranks)
  to_class (node, must, empty) = ⊎_elim
      (λ first. (Top, (0, omega arith, refl), subst (λ n. IsEmpty (name_of n)) first empty))
      (λ named. (Name named.0, class_there case.classes named.0 named.1, subst IsEmpty (name_of_class named.0) (subst (λ n. IsEmpty (name_of n)) named.2 empty)))
      must

  -- and the other way round, if none is excused
  pub to_node : case.excused ≡ [] → IsIncoherent case.classes case.properties (axioms_for case part ranks) → IsIncoherentFor case part ranks
  to_node none (class, (zero, within, same), empty) = (0, inl refl, subst IsEmpty (sym same) empty)
  to_node none (class, (suc k, within, same), empty) =
      let below : k < case.classes = omega (arith, within, length-map-range_with_len Name 0 case.classes) in
      let start : 0 + k ≡ k = omega arith in
      let named : Name k ≡ class = sym (get_or-map-range_with_len Name 0 case.classes k k class below start) ∙ same in
      (k + 2, inr (k, below, refl, λ there. not_there (subst (λ (nodes : List ℕ). Contains nodes (k + 2)) none there)), subst IsEmpty (sym (name_of_class k ∙ named)) empty)
    where
      not_there : {n : ℕ} → Contains [] n → ⊥
      not_there there = let within = there.1 in omega arith

-- the axioms of fewer ranks hold where those of more do
fewer_hold : (case : CaseView) (part : Part) (ranks more : List ℕ) (i : Interp) → ((rank : ℕ) → Contains ranks rank → Contains more rank) → All (Holds i) (axioms_for case part more) → All (Holds i) (axioms_for case part ranks)
fewer_hold case part ranks more i kept holds =
    let documents = axioms_of_part case.left case.right part in
    let row : ℕ → List Axiom = λ rank. slice_index_or (map (row_at case.rows) case.order) rank [] in
    All-append (Holds i) documents (axioms_of_ranks case ranks) (all_first (Holds i) documents (axioms_of_ranks case more) holds)
    (all_each (Holds i) row ranks (λ rank there. all_of (Holds i) row more rank (kept rank there) (all_second (Holds i) documents (axioms_of_ranks case more) holds)))

-- so more ranks leave empty what fewer do
pub more_ranks : (case : CaseView) (part : Part) (ranks more : List ℕ) → ((rank : ℕ) → Contains ranks rank → Contains more rank) → IsIncoherentFor case part ranks → IsIncoherentFor case part more
more_ranks case part ranks more kept (node, must, empty) =
    (node, must, λ i model. empty i (record { fits = model.fits; holds = fewer_hold case part ranks more i kept model.holds }))

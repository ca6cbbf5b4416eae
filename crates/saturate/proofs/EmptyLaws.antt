-- A node that facts put within owl:Nothing is empty.
use Rattle.std.proofs.Common.{◌≡◌, ℕ, suc, ◌+◌, ◌<◌, sym, subst, ⊎_elim, arith}
use Rattle.el_logic.specs.declared.types.Interp.{Interp}
use Rattle.el_logic.specs.Meaning.{IsMember}
use Rattle.concept_store.specs.declared.types.Node.TheVariants.{Top, Class}
use Rattle.concept_store.specs.Nodes.{IsNode}
use Rattle.concept_store.specs.Reading.{Reading, IsReadingOf, IsIn}
use Rattle.case_file.specs.Cases.{CaseView, IsMustHave}
use Rattle.case_file.specs.Incoherence.{name_of}

module _ (case : CaseView) (i : Interp) (m : Reading) (reading : IsReadingOf case.store.nodes case.properties i m) where
  -- a member of a class name is in the class's node
  class_in : (names : (k : ℕ) → k < case.classes → IsNode case.store.nodes (k + 2) (Class k)) (k x : ℕ) → k < case.classes → IsMember i x (name_of (k + 2)) → IsIn m (k + 2) x
  class_in names k x below member =
      let two : suc (suc k) ≡ k + 2 = omega arith in
      (reading.classes (k + 2) k x (names k below)).1 (subst (λ n. IsMember i x (name_of n)) (sym two) member)

  -- a member of the name that a node stands for is in the node, if the node must have one
  pub member_in : IsNode case.store.nodes 0 Top → ((k : ℕ) → k < case.classes → IsNode case.store.nodes (k + 2) (Class k)) → (node x : ℕ) → IsMustHave case node → IsMember i x (name_of node) → IsIn m node x
  member_in thing names node x must = ⊎_elim
      (λ first. subst (λ n. IsMember i x (name_of n) → IsIn m n x) (sym first) (λ member. reading.reading.top 0 x thing (omega (arith, member, reading.size))))
      (λ class. subst (λ n. IsMember i x (name_of n) → IsIn m n x) (sym class.2) (class_in names class.0 x class.1))
      must

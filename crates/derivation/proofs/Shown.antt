-- A class that a good derivation shows is empty.
use Rattle.std.proofs.Common.{◌≡◌, ◌∙◌, ◌+◌, ◌<◌, ℕ, suc, sym, subst, ⊎_elim, arith}
use Rattle.el_logic.specs.declared.types.Interp.{Interp}
use Rattle.el_logic.specs.Meaning.{IsMember}
use Rattle.concept_store.specs.declared.types.Node.TheVariants.{Top, Class}
use Rattle.concept_store.specs.Nodes.{IsNode}
use Rattle.concept_store.specs.Reading.{Reading, IsReadingOf, IsIn}
use Rattle.case_file.specs.Cases.{CaseView, IsMustHave}
use Rattle.case_file.specs.Incoherence.{name_of}

-- a member of the name that a node stands for, if this must have one, is in the node
pub member_in : (case : CaseView) (i : Interp) (m : Reading) → IsReadingOf case.store.nodes case.properties i m → IsNode case.store.nodes 0 Top
    → ((k : ℕ) → k < case.classes → IsNode case.store.nodes (k + 2) (Class k)) → (node : ℕ) → IsMustHave case node
    → (x : ℕ) → IsMember i x (name_of node) → IsIn m node x
member_in case i m reading thing names node must x =
    ⊎_elim
    (λ first. subst (λ n. IsMember i x (name_of n) → IsIn m n x) (sym first) (λ member. reading.reading.top 0 x thing (omega (arith, member, reading.size))))
    (λ class. let two : class.0 + 2 ≡ suc (suc class.0) = omega arith in
    subst (λ n. IsMember i x (name_of n) → IsIn m n x) (sym (class.2 ∙ two))
    (λ member. (reading.classes (suc (suc class.0)) class.0 x (subst (λ n. IsNode case.store.nodes n (Class class.0)) two (names class.0 class.1))).1 member))
    must

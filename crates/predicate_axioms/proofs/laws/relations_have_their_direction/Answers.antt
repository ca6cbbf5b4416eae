use Rattle.std.proofs.Common.{[], ◌∷◌}
use Rattle.el_logic.specs.declared.types.Axiom.TheVariants.{SubClass, SubRole}
use Rattle.predicate_axioms.proofs.Directions.{one_holds, two_hold, first_holds, second_holds, pairs_of_role, role_of_pairs}
use Rattle.predicate_axioms.proofs.laws.relations_have_their_direction.Goals as goal

pub returns-clause-below : goal.returns-clause-below
returns-clause-below c = λ i s o. (first_holds i (SubClass s o) [], one_holds i (SubClass s o))

pub returns-clause-above : goal.returns-clause-above
returns-clause-above c = λ i s o. (first_holds i (SubClass o s) [], one_holds i (SubClass o s))

pub returns-clause-equal : goal.returns-clause-equal
returns-clause-equal c = λ i s o. (
  λ all. (first_holds i (SubClass s o) (SubClass o s ∷ []) all, second_holds i (SubClass s o) (SubClass o s) all),
  λ both. two_hold i (SubClass s o) (SubClass o s) both.0 both.1,
)

pub returns-clause-role_below : goal.returns-clause-role_below
returns-clause-role_below c = λ i s o. (
  λ all. pairs_of_role i s o (first_holds i (SubRole (s ∷ []) o) [] all),
  λ each. one_holds i (SubRole (s ∷ []) o) (role_of_pairs i s o each),
)

pub returns-clause-role_above : goal.returns-clause-role_above
returns-clause-role_above c = λ i s o. (
  λ all. pairs_of_role i o s (first_holds i (SubRole (o ∷ []) s) [] all),
  λ each. one_holds i (SubRole (o ∷ []) s) (role_of_pairs i o s each),
)

pub returns-clause-role_equal : goal.returns-clause-role_equal
returns-clause-role_equal c = λ i s o. (
  λ all. (
    pairs_of_role i s o (first_holds i (SubRole (s ∷ []) o) (SubRole (o ∷ []) s ∷ []) all),
    pairs_of_role i o s (second_holds i (SubRole (s ∷ []) o) (SubRole (o ∷ []) s) all),
  ),
  λ both. two_hold i (SubRole (s ∷ []) o) (SubRole (o ∷ []) s) (role_of_pairs i s o both.0) (role_of_pairs i o s both.1),
)

-- What the axioms of a row mean.
use Rattle.std.proofs.Common.{◌≡◌, ℕ, List, [], ◌∷◌, false, Some, refl, subst}
use Rattle.std.specs.Prelude.{All}
use Rattle.std.proofs.lemmas.List.Elements.{All-nil, All-cons, recursion_from_All}
use Rattle.el_logic.specs.declared.types.Axiom.{Axiom}
use Rattle.el_logic.specs.declared.types.Axiom.TheVariants.{SubRole}
use Rattle.el_logic.specs.declared.types.Interp.{Interp}
use Rattle.el_logic.specs.Meaning.{Holds, AreRelated}
use Rattle.sssom_rows.specs.declared.table.Row.{Row}
use Rattle.predicate_axioms.specs.RowAxioms.{axioms_between, row_axioms}

pub one_holds : (i : Interp) (a : Axiom) → Holds i a → All (Holds i) (a ∷ [])
one_holds i a holds = All-cons (Holds i) a [] holds (All-nil (Holds i))

pub two_hold : (i : Interp) (a b : Axiom) → Holds i a → Holds i b → All (Holds i) (a ∷ b ∷ [])
two_hold i a b holds also = All-cons (Holds i) a (b ∷ []) holds (one_holds i b also)

pub first_holds : (i : Interp) (a : Axiom) (rest : List Axiom) → All (Holds i) (a ∷ rest) → Holds i a
first_holds i a rest all = (recursion_from_All (Holds i) (a ∷ rest) all).0

pub second_holds : (i : Interp) (a b : Axiom) → All (Holds i) (a ∷ b ∷ []) → Holds i b
second_holds i a b all = (recursion_from_All (Holds i) (a ∷ b ∷ []) all).1.0

-- one property below another, by their pairs
pub pairs_of_role : (i : Interp) (s o : ℕ) → Holds i (SubRole (s ∷ []) o) → (x y : ℕ) → AreRelated i s x y → AreRelated i o x y
pairs_of_role i s o holds x y related = holds x y (y, related, refl)

pub role_of_pairs : (i : Interp) (s o : ℕ) → ((x y : ℕ) → AreRelated i s x y → AreRelated i o x y) → Holds i (SubRole (s ∷ []) o)
role_of_pairs i s o each x y chain = each x y (subst (λ (z : ℕ). AreRelated i s x z) chain.2 chain.1)

-- the axioms of a row whose ids are these
pub row_axioms_are : (classes roles : List (List ℕ)) (row : Row) (predicate subject object : List ℕ) → row.modified ≡ false → row.predicate ≡ Some predicate
    → row.subject ≡ Some subject → row.object ≡ Some object → axioms_between classes roles predicate subject object ≡ row_axioms classes roles row
row_axioms_are classes roles row predicate subject object modified p s o = rw (modified, p, s, o) refl

-- When axioms leave a class without any possible member.
use Rattle.std.specs.Prelude.{◌≡◌, ℕ, ◌<◌, List, ◌∷◌, ◌++◌, map, slice_get, Some, All, Contains}
use Rattle.std.specs.List.{range_with_len}
use Rattle.el_logic.specs.declared.types.Expr.{Expr}
use Rattle.el_logic.specs.declared.types.Expr.TheVariants.{Top, Name}
use Rattle.el_logic.specs.declared.types.Axiom.{Axiom}
use Rattle.el_logic.specs.declared.types.Interp.{Interp}
use Rattle.el_logic.specs.declared.types.Part.{Part}
use Rattle.el_logic.specs.Meaning.{IsInterp, IsMember, Holds}

-- the classes that must have a member: owl:Thing, and every class name of both documents in the
-- order of their numbers, which is that of first occurrence
abbrev pub must_have : ℕ → List Expr
must_have classes = Top ∷ map Name (range_with_len 0 classes)

-- an interpretation of so many classes and roles in which all axioms hold
pub record IsModel (classes roles : ℕ) (axioms : List Axiom) (i : Interp) : Type 0 where
  pub fits : IsInterp classes roles i
  pub holds : All (Holds i) axioms

-- no interpretation in which the axioms hold has a member of the class
abbrev pub IsEmptyClass : ℕ → ℕ → List Axiom → Expr → Type 0
IsEmptyClass classes roles axioms class =
    (i : Interp) → IsModel classes roles axioms i → (x : ℕ) → ¬ (IsMember i x class)

-- some class that must have a member is empty
abbrev pub IsIncoherent : ℕ → ℕ → List Axiom → Type 0
IsIncoherent classes roles axioms =
    (class : Expr) × Contains (must_have classes) class × IsEmptyClass classes roles axioms class

abbrev pub IsCoherent : ℕ → ℕ → List Axiom → Type 0
IsCoherent classes roles axioms = ¬ (IsIncoherent classes roles axioms)

-- of the classes that must have a member this is the first that is empty
pub record IsFirstEmpty (classes roles : ℕ) (axioms : List Axiom) (class : Expr) : Type 0 where
  pub place : ℕ
  pub at : slice_get (must_have classes) place ≡ Some class
  pub empty : IsEmptyClass classes roles axioms class
  pub none_before : (k : ℕ) (other : Expr) → k < place
      → slice_get (must_have classes) k ≡ Some other → ¬ (IsEmptyClass classes roles axioms other)

-- the axioms of a part
abbrev pub axioms_of_part : List Axiom → List Axiom → Part → List Axiom
axioms_of_part left right Part.Left = left
axioms_of_part left right Part.Right = right
axioms_of_part left right Part.Both = left ++ right

-- this is the first part, in the order LEFT, RIGHT, both, that is incoherent, and its first empty
-- class
abbrev pub IsFirstIncoherent : ℕ → ℕ → List Axiom → List Axiom → Part → Expr → Type 0
IsFirstIncoherent classes roles left right Part.Left class = IsFirstEmpty classes roles left class
IsFirstIncoherent classes roles left right Part.Right class =
    IsCoherent classes roles left × IsFirstEmpty classes roles right class
IsFirstIncoherent classes roles left right Part.Both class =
    IsCoherent classes roles left × IsCoherent classes roles right
    × IsFirstEmpty classes roles (left ++ right) class

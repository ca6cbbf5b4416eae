-- When the axioms of a case leave a class without any possible member.
use Rattle.std.specs.Prelude.{ℕ, zero, suc, List, [], ◌++◌, map, flat_map, slice_index_or}
use Rattle.el_logic.specs.declared.types.Expr.{Expr}
use Rattle.el_logic.specs.declared.types.Expr.TheVariants.{Top, Bottom, Name}
use Rattle.el_logic.specs.declared.types.Axiom.{Axiom}
use Rattle.el_logic.specs.declared.types.Part.{Part}
use Rattle.el_logic.specs.Incoherent.{IsEmptyClass, axioms_of_part}
use Rattle.case_file.specs.Cases.{CaseView, IsMustHave, row_at}

-- the name that a node stands for
abbrev pub name_of : ℕ → Expr
name_of zero = Top
name_of (suc zero) = Bottom
name_of (suc (suc class)) = Name class

-- the axioms of the rows with these ranks
abbrev pub axioms_of_ranks : CaseView → List ℕ → List Axiom
axioms_of_ranks case ranks =
    flat_map (λ rank. slice_index_or (map (row_at case.rows) case.order) rank []) ranks

-- the axioms of a part of the documents and of the rows with these ranks
abbrev pub axioms_for : CaseView → Part → List ℕ → List Axiom
axioms_for case part ranks = axioms_of_part case.left case.right part ++ axioms_of_ranks case ranks

-- no interpretation in which these axioms hold has a member of the name that the node stands for
abbrev pub IsEmptyFor : CaseView → Part → List ℕ → ℕ → Type 0
IsEmptyFor case part ranks node =
    IsEmptyClass case.classes case.properties (axioms_for case part ranks) (name_of node)

-- these axioms leave a node empty that must have a member
abbrev pub IsIncoherentFor : CaseView → Part → List ℕ → Type 0
IsIncoherentFor case part ranks =
    (node : ℕ) × IsMustHave case node × IsEmptyFor case part ranks node

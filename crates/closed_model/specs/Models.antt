-- Models of a case, and the model that a closed table says.
use Rattle.std.specs.Prelude.{◌≡◌, ◌↔◌, ℕ, ◌+◌, ◌<◌, List, All, Contains, ◌⊎◌}
use Rattle.std.specs.List.{AllPairs}
use Rattle.std.specs.List.Sorted.{IsStrictlyIncreasing}
use Rattle.el_logic.specs.declared.types.Interp.{Interp}
use Rattle.el_logic.specs.declared.types.Part.{Part}
use Rattle.el_logic.specs.Meaning.{IsInterp, IsMember, AreRelated, Holds, members_of}
use Rattle.concept_store.specs.Reading.{Reading, IsIn, AreLinked}
use Rattle.fact_table.specs.Lists.{facts_of}
use Rattle.el_rules.specs.Closing.{said_by}
use Rattle.case_file.specs.Cases.{CaseView, IsMustHave}
use Rattle.case_file.specs.Incoherence.{name_of, axioms_for}
use Rattle.closed_model.specs.ClosedTables.{TableView}

-- an interpretation of the names of the case in which both documents and the rows with these ranks
-- hold, and each class that must have a member has one
pub record IsModelFor (case : CaseView) (ranks : List ℕ) (i : Interp) : Type 0 where
  pub fits : IsInterp case.classes case.properties i
  pub holds : All (Holds i) (axioms_for case Part.Both ranks)
  pub members : (node : ℕ) → IsMustHave case node → (x : ℕ) × IsMember i x (name_of node)

-- the reading of the case's nodes that the facts say: its elements are the nodes that they do not
-- put within owl:Nothing, in order
abbrev pub reading_of : TableView → Reading
reading_of table = said_by table.case.store.nodes (facts_of table.items)

-- an interpretation with the elements, members and pairs of that reading
pub record IsSaidBy (table : TableView) (i : Interp) : Type 0 where
  pub fits : IsInterp table.case.classes table.case.properties i
  pub size : i.size ≡ (reading_of table).size
  pub classes : (k x : ℕ) → k < table.case.classes
      → Contains (members_of i k) x ↔ IsIn (reading_of table) (k + 2) x
  pub properties : (r x y : ℕ) → r < table.case.properties
      → AreRelated i r x y ↔ AreLinked (reading_of table) r x y

-- by the first number, and then by the second
abbrev pub ComesBefore : ℕ × ℕ → ℕ × ℕ → Type 0
ComesBefore (a, b) (c, d) = (a < c) ⊎ ((a ≡ c) × (b < d))

-- the lists of members and of pairs ascend without repeats
pub record HasOrderedLists (i : Interp) : Type 0 where
  pub members : All IsStrictlyIncreasing i.classes
  pub pairs : All (AllPairs ComesBefore) i.roles

-- the same elements
abbrev pub HaveTheSame : {X : Type 0} → List X → List X → Type 0
HaveTheSame {X} one other = (x : X) → Contains one x ↔ Contains other x

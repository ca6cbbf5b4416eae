-- Lists by keys, and what is read off facts.
use Rattle.std.specs.Prelude.{◌≡◌, ◌↔◌, ◌<◌, ℕ, List, [], length, Contains, slice_index_or}
use Rattle.std.specs.List.{AllZip, filter_map}
use Rattle.el_logic.specs.declared.types.Interp.{Interp}
use Rattle.fact_table.specs.declared.types.Fact.{Fact}
use Rattle.case_file.specs.Cases.{CaseView}
use Rattle.closed_model.specs.Models.{HaveTheSame}
use Rattle.closed_model.specs.Inside.Elements.{live_count, numbers_of}
use Rattle.closed_model.specs.Inside.Entries.{member_said, pair_said}

-- each list has the same elements as the other's at its place
abbrev pub AreTheSame : {X : Type 0} → List (List X) → List (List X) → Type 0
AreTheSame one other = AllZip HaveTheSame one other

-- a list for each key below a number, with the values of the entries with the key
pub record AreListsOf {T : Type 0} (keys : ℕ) (entries : List (ℕ × T)) (lists : List (List T)) : Type 0 where
  pub each : length lists ≡ keys
  pub values : (key : ℕ) (value : T) → key < keys
      → Contains (slice_index_or lists key []) value ↔ Contains entries (key, value)

-- the size and the lists that facts say of the names of a case
pub record IsReadOff (case : CaseView) (facts : List Fact) (i : Interp) : Type 0 where
  pub size : i.size ≡ live_count facts (length case.store.nodes)
  pub members : AreListsOf case.classes
      (filter_map (member_said (numbers_of facts (length case.store.nodes)) case.classes) facts) i.classes
  pub pairs : AreListsOf case.properties
      (filter_map (pair_said (numbers_of facts (length case.store.nodes)) case.properties) facts) i.roles

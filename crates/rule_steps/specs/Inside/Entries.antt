-- Entries of a table, and how far a loop over them came.
use Rattle.std.specs.Prelude.{◌≡◌, ◌<◌, ◌↔◌, ℕ, List, Some, Contains, slice_get}
use Rattle.concept_store.specs.declared.types.NodeAxiom.{NodeAxiom}
use Rattle.fact_table.specs.declared.types.Source.{Source}
use Rattle.el_rules.specs.Theories.{IsNamed}
use Rattle.case_file.specs.Cases.{theory_of}
use Rattle.rule_steps.specs.Counted.{GroundsView, IsCounting}

-- an entry of a source that counts is there exactly if an axiom that the source names says it
abbrev pub AreEntriesOf : {T : Type 0} → GroundsView → (T → Source) → (T → NodeAxiom → Type 0)
    → List T → Type 0
AreEntriesOf grounds source_of Says entries = (entry : _) → IsCounting grounds (source_of entry)
    → Contains entries entry
    ↔ ((said : NodeAxiom) × IsNamed (theory_of grounds.case) (source_of entry) said
    × Says entry said)

-- each of the first elements is so
abbrev pub EachBelow : {T : Type 0} → List T → ℕ → (T → Type 0) → Type 0
EachBelow xs n P = (k : ℕ) (x : _) → k < n → slice_get xs k ≡ Some x → P x

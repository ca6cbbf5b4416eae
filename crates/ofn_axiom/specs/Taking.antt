-- What a direct item adds to a document and its names.
use Rattle.std.specs.Prelude.{◌≡◌, ℕ, List, [], ◌∷◌, ◌++◌, Result, Ok, Err}
use Rattle.text_names.specs.declared.place.Place.{Place}
use Rattle.text_names.specs.Place.{place_after}
use Rattle.text_names.specs.Names.{Numbering}
use Rattle.ofn_heads.specs.Names.{piece}
use Rattle.ofn_axiom.specs.declared.fault.OffsetFault.{OffsetFault}
use Rattle.ofn_axiom.specs.declared.fault.OffsetFault.TheVariants as fault
use Rattle.ofn_axiom.specs.declared.types.Direct.{Direct}
use Rattle.ofn_axiom.specs.declared.types.Direct.TheVariants as direct
use Rattle.ofn_axiom.specs.declared.types.Document.{Document}
use Rattle.ofn_axiom.specs.declared.types.Omitted.{Omitted}
use Rattle.ofn_axiom.specs.declared.types.Names.{Names}
use Rattle.ofn_axiom.specs.declared.types.Mode.{Mode}
use Rattle.ofn_axiom.specs.declared.types.Mode.TheVariants.{Strict, ElPart}
use Rattle.ofn_axiom.specs.Steps.{◌>>=◌}
use Rattle.ofn_axiom.specs.Numbers.{direct_mentions, with_mentions, axiom_over}

-- what is read of a document so far, and the names that are held
abbrev pub State : Type 0
State = Document × Names

-- the place of an offset in a text
abbrev pub place_at : List ℕ → ℕ → Place
place_at text at = place_after (piece text 0 at)

-- the document with what a direct item says, over these names
abbrev pub with_direct : Names → Direct → Document → Document
with_direct names (direct.Axiom a) document =
    record { axioms = document.axioms ++ axiom_over names a ∷ []; omitted = document.omitted }
with_direct names _ document = document

abbrev pub added : Direct → Document → Names → Result State OffsetFault
added d document names = Ok (with_direct names d document, names)

-- the document with one more omitted item
abbrev pub with_omitted : Omitted → Document → Document
with_omitted entry document =
    record { axioms = document.axioms; omitted = document.omitted ++ entry ∷ [] }

-- a direct item with a fault: if only the part in the profile is asked for, what is outside is
-- omitted
abbrev pub passed_over : List ℕ → Mode → OffsetFault → State → Result State OffsetFault
passed_over text ElPart (fault.Profile at head) state =
    Ok (with_omitted (record { place = place_at text at; head = head }) state.0, state.1)
passed_over text ElPart other state = Err other
passed_over text Strict other state = Err other

-- a direct item without a fault: its names are numbered, then its axiom is over these numbers
abbrev pub taken_in : Direct → Document → Names → Result State OffsetFault
taken_in d document names = with_mentions (direct_mentions d) names >>= added d document

-- a direct item is read whole, then taken in
abbrev pub taken : List ℕ → Mode → Result Direct OffsetFault → State → Result State OffsetFault
taken text mode (Ok d) state = taken_in d state.0 state.1
taken text mode (Err other) state = passed_over text mode other state

-- the table begins with the names that the other holds, and may hold as many
pub record IsTableBefore (old new : Numbering) : Type 0 where
  pub more : List (List ℕ)
  pub names : new.names ≡ old.names ++ more
  pub most : new.most ≡ old.most

-- no name is lost and none gets another number
pub record IsNamesBefore (old new : Names) : Type 0 where
  pub classes : IsTableBefore old.classes new.classes
  pub roles : IsTableBefore old.roles new.roles

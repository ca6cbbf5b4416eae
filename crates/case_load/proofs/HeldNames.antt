-- Names that are held, whatever names come later.
use Rattle.std.proofs.Common.{◌≡◌, ◌≤◌, ◌<◌, ℕ, Bool, true, false, cond, List, [], ◌∷◌, ◌++◌, length, sym, ap, subst, ◌∙◌, arith, length-append}
use Rattle.std.specs.Prelude.{Some, Option, bytes_eq, unwrap_or, Ok, ⊤}
use Rattle.std.proofs.lemmas.List.{append-nil}
use Rattle.std.proofs.lemmas.List.Quantifiers.{position-Some}
use Rattle.text_names.specs.Names.{Numbering, number_of, number_or_next, is_held, with_name}
use Rattle.ofn_axiom.specs.declared.fault.OffsetFault.TheVariants as fault
use Rattle.ofn_axiom.specs.declared.types.Mention.{Mention}
use Rattle.ofn_axiom.specs.declared.types.Mention.TheVariants as mention
use Rattle.ofn_axiom.specs.declared.types.Names.{Names}
use Rattle.ofn_axiom.specs.Numbers.{is_full_for, held_in, with_mention, with_mentions, number_in}
use Rattle.case_load.proofs.Cited.{Cited}
use Rattle.case_load.proofs.Steps.{same_value, both_steps, tested}

-- the name has a number
abbrev pub IsIn : Numbering → List ℕ → Type 0
IsIn table name = (k : ℕ) × (number_of table.names name ≡ Some k)

-- a class name or a property name is held
abbrev pub IsHeldIn : Names → Mention → Type 0
IsHeldIn names (mention.Class name) = IsIn names.classes name
IsHeldIn names (mention.Property name) = IsIn names.roles name

-- each of these is
abbrev pub AllHeld : Names → List Mention → Type 0
AllHeld names [] = ⊤
AllHeld names (m ∷ ms) = IsHeldIn names m × AllHeld names ms

-- no fewer names, and each that was held still is
pub record IsLater (old new : Names) : Type 0 where
  pub classes : length old.classes.names ≤ length new.classes.names
  pub roles : length old.roles.names ≤ length new.roles.names
  pub held : (m : Mention) → IsHeldIn old m → IsHeldIn new m

-- names are later than themselves
pub later_same : (names : Names) → IsLater names names
later_same names = record { classes = omega arith; roles = omega arith; held = λ m h. h }

-- and than what those before them are later than
pub later_still : (a b c : Names) → IsLater a b → IsLater b c → IsLater a c
later_still a b c one other = record {
  classes = omega (arith, one.classes, other.classes);
  roles = omega (arith, one.roles, other.roles);
  held = λ m h. other.held m (one.held m h);
}

-- names of a front and of the rest
pub held_parts : (names : Names) (ms more : List Mention) → AllHeld names (ms ++ more) → AllHeld names ms × AllHeld names more
held_parts names [] more h = (tt, h)
held_parts names (m ∷ ms) more h = let rest = held_parts names ms more h.1 in ((h.0, rest.0), rest.1)

-- the number of a name that is held is one of the table
pub number_below : (table : Numbering) (name : List ℕ) → IsIn table name → number_in table name < length table.names
number_below table name h =
    let there = position-Some (bytes_eq name) table.names h.0 [] h.1 in
    let is : number_in table name ≡ h.0 = ap (λ (o : Option ℕ). unwrap_or o 0) h.1 in
    omega (arith, there.0, is)

-- one more name makes the table no shorter
longer : (names : List (List ℕ)) (name : List ℕ) → length names ≤ length (with_name names name)
longer names name = by (is_held names name)
  where
    by : (b : Bool) → length names ≤ length (cond b names (names ++ name ∷ []))
    by true = omega arith
    by false = omega (arith, length-append names (name ∷ []))

module _ (cited : Cited) where
  -- a name that was added is held
  added_in : (table : Numbering) (name : List ℕ) → IsIn (held_in table name) name
  added_in table name = (
    number_or_next table.names name,
    ap (λ (l : List (List ℕ)). number_of l name) (sym (append-nil (with_name table.names name))) ∙ cited.adds table.names [] name,
  )

  -- and so are those that were
  kept_in : (table : Numbering) (name other : List ℕ) → IsIn table other → IsIn (held_in table name) other
  kept_in table name other h = (h.0, cited.keeps table.names name other h.0 h.1)

  -- the names with one more class name are later ones
  class_added : (names : Names) (name : List ℕ) → IsLater names (record { classes = held_in names.classes name; roles = names.roles })
  class_added names name = record {
    classes = longer names.classes.names name;
    roles = omega arith;
    held = kept;
  }
    where
      kept : (m : Mention) → IsHeldIn names m → IsHeldIn (record { classes = held_in names.classes name; roles = names.roles }) m
      kept (mention.Class other) h = kept_in names.classes name other h
      kept (mention.Property other) h = h

  -- and so are those with one more property name
  property_added : (names : Names) (name : List ℕ) → IsLater names (record { classes = names.classes; roles = held_in names.roles name })
  property_added names name = record {
    classes = omega arith;
    roles = longer names.roles.names name;
    held = kept;
  }
    where
      kept : (m : Mention) → IsHeldIn names m → IsHeldIn (record { classes = names.classes; roles = held_in names.roles name }) m
      kept (mention.Class other) h = h
      kept (mention.Property other) h = kept_in names.roles name other h

  -- a name that was taken is held, and the names are later ones
  taken_one : (m : Mention) (old new : Names) → with_mention m old ≡ Ok new → IsLater old new × IsHeldIn new m
  taken_one (mention.Class name) old new e =
      let same = tested (is_full_for old.classes name) fault.TooManyClasses (record { classes = held_in old.classes name; roles = old.roles }) new e in (
        subst (IsLater old) same (class_added old name),
        subst (λ (n : Names). IsHeldIn n (mention.Class name)) same (added_in old.classes name),
      )
  taken_one (mention.Property name) old new e =
      let same = tested (is_full_for old.roles name) fault.TooManyProperties (record { classes = old.classes; roles = held_in old.roles name }) new e in (
        subst (IsLater old) same (property_added old name),
        subst (λ (n : Names). IsHeldIn n (mention.Property name)) same (added_in old.roles name),
      )

  -- the same of several
  pub taken_all : (ms : List Mention) (old new : Names) → with_mentions ms old ≡ Ok new → IsLater old new × AllHeld new ms
  taken_all [] old new e = (subst (IsLater old) (same_value old new e) (later_same old), tt)
  taken_all (m ∷ ms) old new e =
      let first = both_steps (with_mention m old) (λ more. with_mentions ms more) new e in
      let one = taken_one m old first.0 first.1 in
      let rest = taken_all ms first.0 new first.2 in
      (later_still old first.0 new one.0 rest.0, (rest.0.held m one.1, rest.1))

-- The names of a run, and the commands of the checks that they are.
use Rattle.std.proofs.Common.{◌≡◌, ℕ, Bool, true, false, cond, List, [], ◌∷◌, Option, Some, None, refl, sym, ap, subst, true≢false}
use Rattle.std.specs.Prelude.{◌||◌, ◌&&◌, not, bytes_eq, option_map, codes, length, ◌==◌}
use Rattle.std.proofs.lemmas.Bool.{and_parts, and_from, not-true}
use Rattle.std.specs.List.{list_all}
use Rattle.command_words.specs.declared.types.Program.TheVariants as program
use Rattle.command_words.specs.declared.types.FileNames.{FileNames}
use Rattle.command_words.specs.declared.types.Flag.TheVariants as flag
use Rattle.command_words.specs.declared.types.CheckWords.{CheckWords}
use Rattle.command_words.specs.declared.types.CheckWords.TheVariants as check
use Rattle.command_words.specs.declared.types.RepairWords.{RepairWords}
use Rattle.command_words.specs.declared.types.RepairWords.TheVariants as repair
use Rattle.command_words.specs.Words.{Given, Reads, names_only, option, nothing_given, with_flag, with_names, with_options}
use Rattle.command_words.specs.Commands.{IsCheck, IsRepair, files_named, has_own_outputs, is_filled, is_input, only_if, repair_of, workers_of}
use Rattle.whole_run.specs.Checks.{check_of, check_words, refusal_check_of, refusal_words}

-- the names of OUT and EVIDENCE are none of the others
pub record AreApart (names : FileNames) : Type 0 where
  pub out_left : bytes_eq names.out names.left ≡ false
  pub out_right : bytes_eq names.out names.right ≡ false
  pub out_map : bytes_eq names.out names.map ≡ false
  pub evidence_left : bytes_eq names.evidence names.left ≡ false
  pub evidence_right : bytes_eq names.evidence names.right ≡ false
  pub evidence_map : bytes_eq names.evidence names.map ≡ false
  pub out_evidence : bytes_eq names.out names.evidence ≡ false

-- a test that fails fails in each part
neither : (x y : Bool) → (x || y) ≡ false → (x ≡ false) × (y ≡ false)
neither true y h = absurd (true≢false h)
neither false y h = (refl, h)

apart : (names : FileNames) → has_own_outputs names ≡ true → AreApart names
apart names h =
    let both = and_parts (not (is_input names.out names || is_input names.evidence names)) (not (bytes_eq names.out names.evidence)) h in
    let inputs = neither (is_input names.out names) (is_input names.evidence names) (not-true (is_input names.out names || is_input names.evidence names) both.0) in
    let out_front = neither (bytes_eq names.out names.left || bytes_eq names.out names.right) (bytes_eq names.out names.map) inputs.0 in
    let evidence_front = neither (bytes_eq names.evidence names.left || bytes_eq names.evidence names.right) (bytes_eq names.evidence names.map) inputs.1 in
    let out_two = neither (bytes_eq names.out names.left) (bytes_eq names.out names.right) out_front.0 in
    let evidence_two = neither (bytes_eq names.evidence names.left) (bytes_eq names.evidence names.right) evidence_front.0 in
    record {
      out_left = out_two.0;
      out_right = out_two.1;
      out_map = out_front.1;
      evidence_left = evidence_two.0;
      evidence_right = evidence_two.1;
      evidence_map = evidence_front.1;
      out_evidence = not-true (bytes_eq names.out names.evidence) both.1;
    }

-- the five names in their order
abbrev given_of : FileNames → List (List ℕ)
given_of names = names.left ∷ names.right ∷ names.map ∷ names.out ∷ names.evidence ∷ []

-- names that are a command: none is empty, and the outputs are apart
record AreGiven (names : FileNames) : Type 0 where
  filled : list_all is_filled (given_of names) ≡ true
  apart_are : AreApart names

none_named : (names : FileNames) → None ≡ Some names → ⊥
none_named names e = cc

-- names that are given are not empty
filled_named : (given : List (List ℕ)) (names : FileNames) → files_named given ≡ Some names → list_all is_filled (given_of names) ≡ true
filled_named [] names h = absurd (none_named names h)
filled_named (a ∷ []) names h = absurd (none_named names h)
filled_named (a ∷ b ∷ []) names h = absurd (none_named names h)
filled_named (a ∷ b ∷ c ∷ []) names h = absurd (none_named names h)
filled_named (a ∷ b ∷ c ∷ d ∷ []) names h = absurd (none_named names h)
filled_named (a ∷ b ∷ c ∷ d ∷ e ∷ f ∷ more) names h = absurd (none_named names h)
filled_named (a ∷ b ∷ c ∷ d ∷ e ∷ []) names h = by (list_all is_filled (a ∷ b ∷ c ∷ d ∷ e ∷ [])) refl h
  where
    files : FileNames
    files = record { left = a; right = b; map = c; out = d; evidence = e }

    by : (t : Bool) → list_all is_filled (a ∷ b ∷ c ∷ d ∷ e ∷ []) ≡ t → cond t (Some files) None ≡ Some names → list_all is_filled (given_of names) ≡ true
    by false is e' = absurd (none_named names e')
    by true is e' = let same : files ≡ names = cc in subst (λ (n : FileNames). list_all is_filled (given_of n) ≡ true) same is

-- what a command asks for is given
module _ (given : Given) (el_part : Bool) (workers : ℕ) (names : FileNames) where
  abbrev command : RepairWords
  command = repair.Files el_part workers names

  abbrev asked_for : FileNames → RepairWords
  asked_for files = repair.Files given.options.el_part (workers_of given.options) files

  made_otherwise : (size : ℕ) (t : Bool) → cond t (Some (repair.Made size (workers_of given.options))) None ≡ Some command → ⊥
  made_otherwise size true e = cc
  made_otherwise size false e = cc

  with_outputs : (files : FileNames) → files_named given.names ≡ Some files → (t : Bool) → has_own_outputs files ≡ t
      → option_map asked_for (cond t (Some files) None) ≡ Some command → AreGiven names
  with_outputs files named false own e = let none : None ≡ Some command = e in absurd cc
  with_outputs files named true own e =
      let same : files ≡ names = cc in
      record {
        filled = filled_named given.names names (subst (λ (n : FileNames). files_named given.names ≡ Some n) same named);
        apart_are = apart names (subst (λ (n : FileNames). has_own_outputs n ≡ true) same own);
      }

  with_names_given : (o : Option FileNames) → files_named given.names ≡ o → option_map asked_for (only_if has_own_outputs o) ≡ Some command → AreGiven names
  with_names_given None named e = let none : None ≡ Some command = e in absurd cc
  with_names_given (Some files) named e = with_outputs files named (has_own_outputs files) refl e

  are_given : (made : Option ℕ) → repair_of made given ≡ Some command → AreGiven names
  are_given None e = with_names_given (files_named given.names) refl e
  are_given (Some size) e = absurd (made_otherwise size (not given.options.el_part && length given.names == 0) e)

pub names_are_apart : (words : List (List ℕ)) (el_part : Bool) (workers : ℕ) (names : FileNames) → IsRepair words (repair.Files el_part workers names) → AreApart names
names_are_apart words el_part workers names h = (are_given h.given el_part workers names h.given.options.made h.asks).apart_are

names_are_filled : (words : List (List ℕ)) (el_part : Bool) (workers : ℕ) (names : FileNames) → IsRepair words (repair.Files el_part workers names)
    → list_all is_filled (given_of names) ≡ true
names_are_filled words el_part workers names h = (are_given h.given el_part workers names h.given.options.made h.asks).filled

-- the five names of a run are a command of the check
pub names_are_check : (words : List (List ℕ)) (el_part : Bool) (workers : ℕ) (names : FileNames) → IsRepair words (repair.Files el_part workers names)
    → IsCheck (check_words el_part names) (check_of el_part names)
names_are_check words el_part workers names h = by el_part
  where
    filled : list_all is_filled (given_of names) ≡ true
    filled = names_are_filled words el_part workers names h

    by : (mode : Bool) → IsCheck (check_words mode names) (check_of mode names)
    by false = record {
      given = with_names (given_of names) nothing_given;
      reads = names_only nothing_given (given_of names);
      asks = ap (λ (t : Bool). option_map (λ files. check.Repair false files) (cond t (Some names) None)) filled;
    }
    by true =
        let mode = with_options (with_flag flag.ElPart nothing_given.options) nothing_given in
        record {
          given = with_names (given_of names) mode;
          reads = option nothing_given (with_names (given_of names) mode) flag.ElPart (codes "--" ∷ given_of names) refl refl (names_only mode (given_of names));
          asks = ap (λ (t : Bool). option_map (λ files. check.Repair true files) (cond t (Some names) None)) filled;
        }

-- three of the names are a command of the check of a refusal
pub names_are_refusal_check : (words : List (List ℕ)) (el_part : Bool) (workers : ℕ) (names : FileNames) → IsRepair words (repair.Files el_part workers names)
    → IsCheck (refusal_words el_part names) (refusal_check_of el_part names)
names_are_refusal_check words el_part workers names h = by el_part
  where
    three : List (List ℕ)
    three = names.left ∷ names.right ∷ names.evidence ∷ []

    filled : list_all is_filled three ≡ true
    filled =
        let all = names_are_filled words el_part workers names h in
        let first = and_parts (is_filled names.left) (list_all is_filled (names.right ∷ names.map ∷ names.out ∷ names.evidence ∷ [])) all in
        let second = and_parts (is_filled names.right) (list_all is_filled (names.map ∷ names.out ∷ names.evidence ∷ [])) first.1 in
        let third = and_parts (is_filled names.map) (list_all is_filled (names.out ∷ names.evidence ∷ [])) second.1 in
        let fourth = and_parts (is_filled names.out) (list_all is_filled (names.evidence ∷ [])) third.1 in
        and_from (is_filled names.left) (list_all is_filled (names.right ∷ names.evidence ∷ [])) first.0
        (and_from (is_filled names.right) (list_all is_filled (names.evidence ∷ [])) second.0 fourth.1)

    refused : Given
    refused = with_options (with_flag flag.Refused nothing_given.options) nothing_given

    by : (mode : Bool) → IsCheck (refusal_words mode names) (refusal_check_of mode names)
    by false = record {
      given = with_names three refused;
      reads = option nothing_given (with_names three refused) flag.Refused (codes "--" ∷ three) refl refl (names_only refused three);
      asks = ap (λ (t : Bool). cond t (Some (refusal_check_of false names)) None) filled;
    }
    by true =
        let mode = with_options (with_flag flag.ElPart refused.options) refused in
        record {
          given = with_names three mode;
          reads = option nothing_given (with_names three mode) flag.Refused (codes "--el-part" ∷ codes "--" ∷ three) refl refl
              (option refused (with_names three mode) flag.ElPart (codes "--" ∷ three) refl refl (names_only mode three));
          asks = ap (λ (t : Bool). cond t (Some (refusal_check_of true names)) None) filled;
        }

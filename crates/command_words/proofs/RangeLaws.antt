-- The numbers that are read are within their bounds.
use Rattle.std.proofs.Common.{◌≡◌, ◌≤◌, ◌<◌, ℕ, Bool, true, false, cond, not, ◌&&◌, List, [], ◌∷◌, length, refl, ap, sym, subst, arith, rules, option_map, Option, Some, None, IfSome, nat_le, nat_lt, ◌==◌, unwrap_or}
use Rattle.std.proofs.lemmas.Bool.{and_parts, leb-true, ltb-true}
use Rattle.std.specs.List.{list_all}
use Rattle.std.specs.Str.Parse.{digits_value}
use Rattle.byte_words.specs.Bytes.{is_digit}
use Rattle.command_words.specs.declared.types.Program.{Program}
use Rattle.command_words.specs.declared.types.Program.TheVariants as program
use Rattle.command_words.specs.declared.types.Flag.{Flag}
use Rattle.command_words.specs.declared.types.Flag.TheVariants as flag
use Rattle.command_words.specs.declared.types.Setting.{Setting}
use Rattle.command_words.specs.declared.types.Setting.TheVariants as setting
use Rattle.command_words.specs.declared.types.Options.{Options}
use Rattle.command_words.specs.declared.types.FileNames.{FileNames}
use Rattle.command_words.specs.declared.types.RepairWords.{RepairWords}
use Rattle.command_words.specs.declared.types.RepairWords.TheVariants as repair
use Rattle.command_words.specs.Words.{Given, Reads, nothing_given, number_up_to, most_of, setting_read, with_setting, with_flag, with_names, with_options}
use Rattle.command_words.specs.Commands.{IsRepair, IsFromOneTo, HasNumbersInRange, repair_of, workers_of, only_if, has_own_outputs, files_named}

-- a number that is read is one from 1 to the most
number_within : (most : ℕ) (text : List ℕ) (value : ℕ) → number_up_to most text ≡ Some value → IsFromOneTo most value
number_within most text value read = by (digits_value 10 text) (nat_le (length text) 9 && list_all is_digit text) read
  where
    by : (number : ℕ) (digits : Bool) → cond (digits && nat_lt 0 number && nat_le number most) (Some number) None ≡ Some value → IsFromOneTo most value
    by number digits read = by_test (digits && nat_lt 0 number && nat_le number most) refl read
      where
        by_test : (b : Bool) → (digits && nat_lt 0 number && nat_le number most) ≡ b → cond b (Some number) None ≡ Some value → IsFromOneTo most value
        by_test false is read = absurd cc
        by_test true is read =
            let same : number ≡ value = cc in
            let last = and_parts (digits && nat_lt 0 number) (nat_le number most) is in
            let first = and_parts digits (nat_lt 0 number) last.0 in
            let above : 0 < number = search (rules, arith) in
            let below : number ≤ most = search (rules, arith) in
            (omega arith, omega arith)

-- each option that was read has a number within its bounds
abbrev InRange : Options → Type 0
InRange options = IfSome options.workers (IsFromOneTo (most_of setting.Workers)) × IfSome options.made (IsFromOneTo (most_of setting.Made))

set_in_range : (s : Setting) (value : ℕ) (options : Options) → IsFromOneTo (most_of s) value → InRange options → InRange (with_setting s value options)
set_in_range setting.Workers value options within so_far = (within, so_far.1)
set_in_range setting.Made value options within so_far = (so_far.0, within)

flag_in_range : (f : Flag) (options : Options) → InRange options → InRange (with_flag f options)
flag_in_range flag.ElPart options so_far = so_far
flag_in_range flag.Refused options so_far = so_far

-- what is read goes on within bounds
reads_in_range : (p : Program) (given : Given) (words : List (List ℕ)) (last : Given) → Reads p given words last → InRange given.options → InRange last.options
reads_in_range p given [] last (Reads.no_more _) so_far = so_far
reads_in_range p given _ last (Reads.names_only _ words) so_far = so_far
reads_in_range p given _ last (Reads.name _ _ word words plain rest) so_far =
    reads_in_range p (with_names (word ∷ []) given) words last rest so_far
reads_in_range p given _ last (Reads.option _ _ f words has fresh rest) so_far =
    reads_in_range p (with_options (with_flag f given.options) given) words last rest (flag_in_range f given.options so_far)
reads_in_range p given _ last (Reads.value_next _ _ s word value words has fresh number rest) so_far =
    reads_in_range p (with_options (with_setting s value given.options) given) words last rest
    (set_in_range s value given.options (number_within (most_of s) word value number) so_far)
reads_in_range p given _ last (Reads.value_joined _ _ s text value words has fresh number rest) so_far =
    reads_in_range p (with_options (with_setting s value given.options) given) words last rest
    (set_in_range s value given.options (number_within (most_of s) text value number) so_far)

-- so are four workers, if no number of workers was read
workers_within : (read : Option ℕ) → IfSome read (IsFromOneTo (most_of setting.Workers)) → IsFromOneTo (most_of setting.Workers) (unwrap_or read 4)
workers_within None so_far = (omega arith, omega arith)
workers_within (Some workers) so_far = so_far

abbrev AreInRange : Option RepairWords → Type 0
AreInRange asked = IfSome asked HasNumbersInRange

asked_in_range : (made : Option ℕ) (given : Given) → InRange given.options → IfSome made (IsFromOneTo (most_of setting.Made)) → AreInRange (repair_of made given)
asked_in_range None given so_far size = by (only_if has_own_outputs (files_named given.names))
  where
    by : (names : Option FileNames) → AreInRange (option_map (λ names. repair.Files given.options.el_part (workers_of given.options) names) names)
    by None = tt
    by (Some names) = workers_within given.options.workers so_far.0
asked_in_range (Some made) given so_far size = by (not given.options.el_part && length given.names == 0)
  where
    by : (b : Bool) → AreInRange (cond b (Some (repair.Made made (workers_of given.options))) None)
    by false = tt
    by true = (size, workers_within given.options.workers so_far.0)

pub commands_in_range : (words : List (List ℕ)) (command : RepairWords) → IsRepair words command → HasNumbersInRange command
commands_in_range words command is =
    let last = reads_in_range program.Repair nothing_given words is.given is.reads (tt, tt) in
    subst AreInRange is.asks (asked_in_range is.given.options.made is.given last last.1)

-- What `clap` found in the words: the text of each option, and the names.
use Rattle.std.specs.Prelude.{◌≡◌, ◌⊎◌, ℕ, Bool, true, false, List, [], Option, Some, None, option_map, unwrap_or, codes}
use Rattle.clap.specs.Words.{Text, first_value, matched_of, one_text, raw_values}
use Rattle.clap.specs.declared.parser.matches.Found.{Found}
use Rattle.command_words.specs.declared.types.Setting.{Setting}
use Rattle.command_words.specs.declared.types.Setting.TheVariants as setting
use Rattle.command_words.specs.declared.types.Options.{Options}
use Rattle.command_words.specs.Words.{most_of, number_up_to}

-- the flag whose text is given
abbrev pub FlagIs : Option Text → Bool → Type 0
FlagIs None flag = flag ≡ false
FlagIs (Some text) flag = (text ≡ codes "true" → flag ≡ true) × (text ≡ codes "false" → flag ≡ false)

abbrev pub setting_name : Setting → Text
setting_name setting.Workers = codes "workers"
setting_name setting.Made = codes "made"

-- the value of an option whose text is given; none where the text is no such number
abbrev pub value_read : Setting → Option Text → Option (Option ℕ)
value_read s None = Some None
value_read s (Some text) = option_map (λ value. Some value) (number_up_to (most_of s) text)

abbrev pub value_found : Found → Setting → Option (Option ℕ)
value_found found s = value_read s (first_value found (setting_name s))

-- the options that were found
pub record OptionsIn (found : Found) (options : Options) : Type 0 where
  pub el_part : FlagIs (one_text found (codes "el-part")) options.el_part
  pub refused : FlagIs (one_text found (codes "refused")) options.refused
  pub workers : value_found found setting.Workers ≡ Some options.workers
  pub made : value_found found setting.Made ≡ Some options.made

-- the text of an option is no number up to its greatest value
abbrev pub HasNoNumber : Found → Type 0
HasNoNumber found =
    (value_found found setting.Workers ≡ None) ⊎ (value_found found setting.Made ≡ None)

-- the names that were found
abbrev pub names_found : Found → List Text
names_found found = unwrap_or (option_map raw_values (matched_of found (codes "names"))) []

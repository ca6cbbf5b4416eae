-- How words are read from left to right: options, their values, and names.
use Rattle.std.specs.Prelude.{◌≡◌, ℕ, Bool, true, false, not, ◌&&◌, ◌||◌, ◌==◌, nat_le, nat_lt, if◌then◌else◌, List, [], ◌∷◌, ◌++◌, length, Option, Some, None, codes}
use Rattle.std.specs.List.{list_all}
use Rattle.std.specs.Str.Parse.{digits_value}
use Rattle.byte_words.specs.Bytes.{is_digit}
use Rattle.command_words.specs.declared.types.Program.{Program}
use Rattle.command_words.specs.declared.types.Program.TheVariants as program
use Rattle.command_words.specs.declared.types.Flag.{Flag}
use Rattle.command_words.specs.declared.types.Flag.TheVariants as flag
use Rattle.command_words.specs.declared.types.Setting.{Setting}
use Rattle.command_words.specs.declared.types.Setting.TheVariants as setting
use Rattle.command_words.specs.declared.types.Options.{Options}

abbrev pub flag_text : Flag → List ℕ
flag_text flag.ElPart = codes "--el-part"
flag_text flag.Refused = codes "--refused"

abbrev pub setting_text : Setting → List ℕ
setting_text setting.Workers = codes "--workers"
setting_text setting.Made = codes "--made"

-- the greatest value of an option
abbrev pub most_of : Setting → ℕ
most_of setting.Workers = 16
most_of setting.Made = 10000

-- which options a program has
abbrev pub has_flag : Program → Flag → Bool
has_flag _ flag.ElPart = true
has_flag program.Repair flag.Refused = false
has_flag program.Check flag.Refused = true

abbrev pub has_setting : Program → Setting → Bool
has_setting program.Repair _ = true
has_setting program.Check _ = false

-- a word that is a name before `--` too: it is `-`, or does not begin with a hyphen
abbrev pub is_plain : List ℕ → Bool
is_plain [] = true
is_plain (b ∷ bs) = not (b == 45) || length bs == 0

-- the number from 1 to `most` that one to nine digits write
abbrev pub number_up_to : ℕ → List ℕ → Option ℕ
number_up_to most text =
    let number = digits_value 10 text in
    if nat_le (length text) 9 && list_all is_digit text && nat_lt 0 number && nat_le number most
    then Some number else None

-- ---- options that were read

abbrev pub no_options : Options
no_options = record { el_part = false; refused = false; workers = None; made = None }

abbrev pub flag_read : Flag → Options → Bool
flag_read flag.ElPart options = options.el_part
flag_read flag.Refused options = options.refused

abbrev pub with_flag : Flag → Options → Options
with_flag flag.ElPart options = record options { el_part = true }
with_flag flag.Refused options = record options { refused = true }

abbrev pub setting_read : Setting → Options → Option ℕ
setting_read setting.Workers options = options.workers
setting_read setting.Made options = options.made

abbrev pub with_setting : Setting → ℕ → Options → Options
with_setting setting.Workers value options = record options { workers = Some value }
with_setting setting.Made value options = record options { made = Some value }

-- ---- the reading

-- the options and the names of the words so far
pub record Given : Type 0 where
  pub options : Options
  pub names : List (List ℕ)

abbrev pub nothing_given : Given
nothing_given = record { options = no_options; names = [] }

abbrev pub with_options : Options → Given → Given
with_options options given = record { options = options; names = given.names }

abbrev pub with_names : List (List ℕ) → Given → Given
with_names names given = record { options = given.options; names = given.names ++ names }

-- words are read from left to right: from what is given before them to what is given after them
pub data Reads (program : Program) : Given → List (List ℕ) → Given → Type 0 where
  no_more : (given : Given) → Reads program given [] given
  -- after `--` all words are names
  names_only : (given : Given) (words : List (List ℕ)) →
      Reads program given (codes "--" ∷ words) (with_names words given)
  -- a name, which goes after the names so far
  name : (given last : Given) (word : List ℕ) (words : List (List ℕ)) → is_plain word ≡ true →
      Reads program (with_names (word ∷ []) given) words last →
      Reads program given (word ∷ words) last
  -- an option without a value, for the first time
  option : (given last : Given) (f : Flag) (words : List (List ℕ)) → has_flag program f ≡ true →
      flag_read f given.options ≡ false →
      Reads program (with_options (with_flag f given.options) given) words last →
      Reads program given (flag_text f ∷ words) last
  -- an option for the first time, and its value in the next word
  value_next : (given last : Given) (s : Setting) (word : List ℕ) (value : ℕ)
      (words : List (List ℕ)) → has_setting program s ≡ true →
      setting_read s given.options ≡ None → number_up_to (most_of s) word ≡ Some value →
      Reads program (with_options (with_setting s value given.options) given) words last →
      Reads program given (setting_text s ∷ word ∷ words) last
  -- the same, with the value after an equals sign
  value_joined : (given last : Given) (s : Setting) (text : List ℕ) (value : ℕ)
      (words : List (List ℕ)) → has_setting program s ≡ true →
      setting_read s given.options ≡ None → number_up_to (most_of s) text ≡ Some value →
      Reads program (with_options (with_setting s value given.options) given) words last →
      Reads program given ((setting_text s ++ codes "=" ++ text) ∷ words) last

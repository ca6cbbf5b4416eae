-- The commands of `clap` that read the words.
use Rattle.std.specs.Prelude.{true, Some, codes}
use Rattle.clap.specs.Words.{App, Rule, Text, new_app, new_rule, with_rule}
use Rattle.clap.specs.Simple.{on_top}
use Rattle.clap.specs.declared.builder.action.ArgAction.TheVariants.{Append, Set, SetTrue}
use Rattle.command_words.specs.declared.types.Program.{Program}
use Rattle.command_words.specs.declared.types.Program.TheVariants as program

-- an option without a value
abbrev pub flag_rule : Text → Rule
flag_rule name = record (new_rule name) { long = Some name; action = Some SetTrue }

-- an option with a value
abbrev pub setting_rule : Text → Rule
setting_rule name = record (new_rule name) { long = Some name; action = Some Set }

-- the names
abbrev pub names_rule : Rule
names_rule = record (new_rule (codes "names")) { action = Some Append }

-- no word is the program's name, and none asks for help
abbrev pub bare_app : App
bare_app = on_top (λ s. record s {
  no_binary_name = true;
  disable_help_flag = true;
  disable_version_flag = true;
}) (new_app (codes "alod"))

abbrev pub app : Program → App
app program.Repair =
    with_rule
    (with_rule
    (with_rule
    (with_rule bare_app (setting_rule (codes "workers")))
    (setting_rule (codes "made")))
    (flag_rule (codes "el-part"))) names_rule
app program.Check =
    with_rule
    (with_rule
    (with_rule bare_app (flag_rule (codes "refused")))
    (flag_rule (codes "el-part"))) names_rule

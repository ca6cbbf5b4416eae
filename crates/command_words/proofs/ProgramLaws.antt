-- The commands of the two programs, and what a walk over all words leaves.
use Rattle.std.proofs.Common.{◌≡◌, ◌∙◌, ℕ, ◌||◌, Bool, true, false, cond, List, [], ◌∷◌, refl, ap, ap₂, sym, subst, Option, Some, None, option_map, codes, bytes_eq}
use Rattle.std.specs.Prelude.{fold}
use Rattle.clap.specs.Words.{Row, Rule, Text, fault_of, matches_of}
use Rattle.clap.specs.Simple.{App, argument_words, built, names_of}
use Rattle.clap.specs.Kinds.{Kinds, or_else}
use Rattle.clap.specs.Faults.{built_fault, check_fault, default_fault, defaults_fault, given_default_fault, is_simple_and_free, level_fault, settle_fault, walk_fault}
use Rattle.clap.specs.Walk.{arg_by_id, arg_by_index, arg_by_long, arg_by_short, finished, has_row, idle, rows_after, settled, with_default, with_values}
use Rattle.clap.proofs.FaultLemmas.{leaf_fault}
use Rattle.clap.proofs.OnLiterals.{clap_on_literals}
use Rattle.clap.specs.Walk.{nothing_held as nothing_walked}
use Rattle.clap.specs.declared.parser.matches.ValueSource.TheVariants.{DefaultValue}
use Rattle.clap.specs.declared.builder.value_parser.Reading.TheVariants.{AsWritten}
use Rattle.command_words.specs.declared.types.Program.{Program}
use Rattle.command_words.specs.declared.types.Program.TheVariants as program
use Rattle.command_words.specs.declared.types.Flag.{Flag}
use Rattle.command_words.specs.declared.types.Flag.TheVariants as flag_is
use Rattle.command_words.specs.declared.types.Setting.{Setting}
use Rattle.command_words.specs.declared.types.Setting.TheVariants as setting_is
use Rattle.command_words.specs.Inside.Rules.{app}
use Rattle.command_words.specs.Inside.Found.{setting_name}
use Rattle.command_words.proofs.RowLaws.{Hold, Table, is_used, more_held, nothing_held, row_held, with_texts}
use Rattle.command_words.proofs.WalkLaws.{AllUtf8, Ends, Long, faults, flag, flag_name, held, names_arg, names_id, nothing, or_none, read, rule_of, setting, shape, standing, state, walk_on, command_ends}

-- the options of a program by their names
abbrev pub named : Program → Text → Option Long
named program.Repair name =
    cond (bytes_eq (codes "workers") name) (Some (setting setting_is.Workers))
    (cond (bytes_eq (codes "made") name) (Some (setting setting_is.Made))
    (cond (bytes_eq (codes "el-part") name) (Some (flag flag_is.ElPart)) None))
named program.Check name =
    cond (bytes_eq (codes "refused") name) (Some (flag flag_is.Refused))
    (cond (bytes_eq (codes "el-part") name) (Some (flag flag_is.ElPart)) None)

abbrev pub rules : Program → List Rule
rules program.Repair = rule_of (setting setting_is.Workers) ∷ rule_of (setting setting_is.Made) ∷ rule_of (flag flag_is.ElPart) ∷ names_arg ∷ []
rules program.Check = rule_of (flag flag_is.Refused) ∷ rule_of (flag flag_is.ElPart) ∷ names_arg ∷ []

at_long : (p : Program) (name : Text) → arg_by_long (rules p) name ≡ option_map rule_of (named p name)
at_long program.Repair name = by (bytes_eq (codes "workers") name) (bytes_eq (codes "made") name) (bytes_eq (codes "el-part") name)
  where
    by : (a b c : Bool)
        → cond (a || false) (Some (rule_of (setting setting_is.Workers))) (cond (b || false) (Some (rule_of (setting setting_is.Made))) (cond (c || false) (Some (rule_of (flag flag_is.ElPart))) None))
        ≡ option_map rule_of (cond a (Some (setting setting_is.Workers)) (cond b (Some (setting setting_is.Made)) (cond c (Some (flag flag_is.ElPart)) None)))
    by true b c = refl
    by false true c = refl
    by false false true = refl
    by false false false = refl
at_long program.Check name = by (bytes_eq (codes "refused") name) (bytes_eq (codes "el-part") name)
  where
    by : (a b : Bool)
        → cond (a || false) (Some (rule_of (flag flag_is.Refused))) (cond (b || false) (Some (rule_of (flag flag_is.ElPart))) None)
        ≡ option_map rule_of (cond a (Some (flag flag_is.Refused)) (cond b (Some (flag flag_is.ElPart)) None))
    by true b = refl
    by false true = refl
    by false false = refl

no_short : (p : Program) (x : ℕ) → arg_by_short (rules p) x ≡ None
no_short program.Repair x = refl
no_short program.Check x = refl

at_one : (p : Program) → arg_by_index (rules p) 1 ≡ Some names_arg
at_one program.Repair = refl
at_one program.Check = refl

at_names : (p : Program) → arg_by_id (rules p) names_id ≡ Some names_arg
at_names program.Repair = refl
at_names program.Check = refl

at_id : (p : Program) (name : Text) (s : Setting) → named p name ≡ Some (setting s) → arg_by_id (rules p) (setting_name s) ≡ Some (rule_of (setting s))
at_id program.Repair name setting_is.Workers e = refl
at_id program.Repair name setting_is.Made e = refl
at_id program.Check name s e = absurd (by (bytes_eq (codes "refused") name) (bytes_eq (codes "el-part") name) e)
  where
    by : (a b : Bool) → cond a (Some (flag flag_is.Refused)) (cond b (Some (flag flag_is.ElPart)) None) ≡ Some (setting s) → ⊥
    by true b e = absurd cc
    by false true e = absurd cc
    by false false e = absurd cc

pub is_plain_command : (p : Program) → is_simple_and_free (app p) ≡ true
unfolding clap_on_literals
is_plain_command program.Repair = refl
is_plain_command program.Check = refl

-- the walk over all words, and the reading
pub program_ends : (p : Program) (words : List Text) → AllUtf8 words → Ends (rules p) (read (named p) (state nothing_held nothing) words) (standing (held [] None) idle false) words
program_ends p words utf8 = command_ends (rules p) (named p) (at_long p) (no_short p) (at_one p) (at_names p) (at_id p) words utf8

-- ---- after the walk

abbrev pub rows_left : Program → List Text → List Row
rows_left p words = (settled (rules p) (walk_on (rules p) (standing (held [] None) idle false) words).held).rows

abbrev pub faults_of : Program → List Text → Kinds
faults_of p words = faults (rules p) (standing (held [] None) idle false) words

-- the text of a flag that does not stand
abbrev pub false_text : Text
false_text = codes "false"

none_of : (a b : Kinds) → a ≡ [] → b ≡ [] → or_else a b ≡ []
none_of a b e f = ap₂ or_else e f

no_default_fault : (l : Long) (rows : List Row) → default_fault rows (rule_of l) ≡ []
no_default_fault (flag f) rows = by (has_row (flag_name f) rows)
  where
    by : (b : Bool) → cond (b || false) [] (given_default_fault (rule_of (flag f)) (false_text ∷ [])) ≡ []
    by true = refl
    by false = refl
no_default_fault (setting s) rows = by (has_row (setting_name s) rows)
  where
    by : (b : Bool) → cond {A = Kinds} (b || true) [] (given_default_fault (rule_of (setting s)) []) ≡ []
    by true = refl
    by false = refl

no_names_fault : (rows : List Row) → default_fault rows names_arg ≡ []
no_names_fault rows = by (has_row names_id rows)
  where
    by : (b : Bool) → cond {A = Kinds} (b || true) [] (given_default_fault names_arg []) ≡ []
    by true = refl
    by false = refl

no_defaults_fault : (p : Program) (rows : List Row) → defaults_fault rows (rules p) ≡ []
unfolding defaults_fault
no_defaults_fault program.Repair rows =
    none_of _ _ (no_default_fault (setting setting_is.Workers) rows)
    (none_of _ _ (no_default_fault (setting setting_is.Made) (with_default rows (rule_of (setting setting_is.Workers))))
    (none_of _ _ (no_default_fault (flag flag_is.ElPart) (with_default (with_default rows (rule_of (setting setting_is.Workers))) (rule_of (setting setting_is.Made))))
    (none_of _ _ (no_names_fault (with_default (with_default (with_default rows (rule_of (setting setting_is.Workers))) (rule_of (setting setting_is.Made))) (rule_of (flag flag_is.ElPart)))) refl)))
no_defaults_fault program.Check rows =
    none_of _ _ (no_default_fault (flag flag_is.Refused) rows)
    (none_of _ _ (no_default_fault (flag flag_is.ElPart) (with_default rows (rule_of (flag flag_is.Refused))))
    (none_of _ _ (no_names_fault (with_default (with_default rows (rule_of (flag flag_is.Refused))) (rule_of (flag flag_is.ElPart)))) refl))

no_check_fault : (p : Program) (rows : List Row) → check_fault (shape (rules p)) rows false ≡ []
no_check_fault program.Repair rows = refl
no_check_fault program.Check rows = refl

level_is : (rules : List Rule) (words : List Text) → ((rows : List Row) → defaults_fault rows rules ≡ []) → ((rows : List Row) → check_fault (shape rules) rows false ≡ [])
    → level_fault (shape rules) [] nothing_walked words false [] ≡ faults rules (standing (held [] None) idle false) words
level_is rules words defaults check =
    let start = standing (held [] None) idle false in
    let end = (walk_on rules start words).held in
    let first = walk_fault (shape rules) [] start words in
    let last = settle_fault rules false end in
    ap (λ (k : Kinds). or_else first (or_else last k)) (none_of _ _ (defaults (settled rules end).rows) (check (finished rules end)))
    ∙ ap (or_else first) (or_none last)

built_is : (p : Program) → built (app p) ≡ record { top = shape (rules p); subs = [] }
built_is program.Repair = refl
built_is program.Check = refl

words_are : (p : Program) (words : List Text) → argument_words (app p) words ≡ words
words_are program.Repair words = refl
words_are program.Check words = refl

pub fault_is : (p : Program) (words : List Text) → fault_of (app p) words ≡ faults_of p words
fault_is p words =
    ap₂ (λ (a : App) (ws : List Text). built_fault a nothing_walked ws) (built_is p) (words_are p words)
    ∙ leaf_fault (record { top = shape (rules p); subs = [] }) nothing_walked words refl
    ∙ level_is (rules p) words (no_defaults_fault p) (no_check_fault p)

pub matches_are : (p : Program) (words : List Text) → matches_of (app p) words ≡ fold with_default (rows_left p words) (rules p)
matches_are p words = ap₂ (λ (a : App) (ws : List Text). rows_after a.top.rules (names_of a) ws) (built_is p) (words_are p words)

-- ---- the rows with the defaults of the flags

abbrev pub default_table : Text → Table → Table
default_table id table = cond (is_used (table id)) table (with_texts id (false_text ∷ []) table)

flag_default : (f : Flag) (table : Table) (rows : List Row) → Hold table rows → Hold (default_table (flag_name f) table) (with_default rows (rule_of (flag f)))
flag_default f table rows hold =
    subst (λ (b : Bool). Hold (default_table (flag_name f) table) (cond b rows more)) (sym (row_held table rows (flag_name f) hold)) (by (is_used (table (flag_name f))))
  where
    more : List Row
    more = with_values (flag_name f) AsWritten DefaultValue (false_text ∷ []) rows

    by : (b : Bool) → Hold (cond b table (with_texts (flag_name f) (false_text ∷ []) table)) (cond b rows more)
    by true = hold
    by false = more_held table rows (flag_name f) AsWritten DefaultValue false_text [] hold

cond_same : (b : Bool) (rows : List Row) → cond b rows rows ≡ rows
cond_same true rows = refl
cond_same false rows = refl

no_value_default : (s : Setting) (rows : List Row) → with_default rows (rule_of (setting s)) ≡ rows
no_value_default s rows = cond_same (has_row (setting_name s) rows) rows

no_names_default : (rows : List Row) → with_default rows names_arg ≡ rows
no_names_default rows = cond_same (has_row names_id rows) rows

-- the texts that the matches of a program hold
abbrev pub left_table : Program → Table → Table
left_table program.Repair table = default_table (codes "el-part") table
left_table program.Check table = default_table (codes "el-part") (default_table (codes "refused") table)

pub left_held : (p : Program) (table : Table) (rows : List Row) → Hold table rows → Hold (left_table p table) (fold with_default rows (rules p))
left_held program.Repair table rows hold =
    let first = with_default rows (rule_of (setting setting_is.Workers)) in
    let same : with_default first (rule_of (setting setting_is.Made)) ≡ rows = no_value_default setting_is.Made first ∙ no_value_default setting_is.Workers rows in
    subst (Hold (default_table (codes "el-part") table))
    (sym (no_names_default (with_default (with_default first (rule_of (setting setting_is.Made))) (rule_of (flag flag_is.ElPart)))
    ∙ ap (λ (rs : List Row). with_default rs (rule_of (flag flag_is.ElPart))) same))
    (flag_default flag_is.ElPart table rows hold)
left_held program.Check table rows hold =
    let first = with_default rows (rule_of (flag flag_is.Refused)) in
    subst (Hold (default_table (codes "el-part") (default_table (codes "refused") table)))
    (sym (no_names_default (with_default first (rule_of (flag flag_is.ElPart)))))
    (flag_default flag_is.ElPart (default_table (codes "refused") table) first (flag_default flag_is.Refused table rows hold))

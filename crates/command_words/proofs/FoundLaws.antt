-- What `clap` finds in the words is what the definition reads in them.
use Rattle.std.proofs.Common.{◌≡◌, ◌⊎◌, inl, inr, ◌∙◌, ℕ, Bool, true, false, cond, List, [], ◌∷◌, ◌++◌, refl, ap, ap₂, sym, subst, arith, Option, Some, None, option_map, unwrap_or, codes, bytes_eq}
use Rattle.std.specs.Prelude.{slice_get}
use Rattle.std.specs.List.{All}
use Rattle.std.specs.Str.{IsUtf8}
use Rattle.std.proofs.lemmas.List.Elements.{All-get_or, All-drop}
use Rattle.clap.specs.Values.{read_as}
use Rattle.clap.specs.Words.{Row, Text, fault_of, first_value, matches_of, one_text, rows_of}
use Rattle.clap.specs.Walk.{one_of, idle}
use Rattle.clap.proofs.WalkLemmas.{first_value-rows, one_text-rows, raw_values-rows}
use Rattle.clap.specs.declared.builder.value_parser.Reading.{Reading}
use Rattle.clap.specs.declared.builder.value_parser.Reading.TheVariants as reading
use Rattle.clap.specs.declared.parser.matches.Found.{Found}
use Rattle.command_words.specs.declared.types.Program.{Program}
use Rattle.command_words.specs.declared.types.Program.TheVariants as program
use Rattle.command_words.specs.declared.types.Flag.{Flag}
use Rattle.command_words.specs.declared.types.Flag.TheVariants as flag_is
use Rattle.command_words.specs.declared.types.Setting.{Setting}
use Rattle.command_words.specs.declared.types.Setting.TheVariants as setting_is
use Rattle.command_words.specs.declared.types.Options.{Options}
use Rattle.command_words.specs.Words.{Given, Reads, flag_read, most_of, nothing_given, number_up_to, setting_read}
use Rattle.command_words.specs.Inside.Rules.{app}
use Rattle.command_words.specs.Inside.Found.{FlagIs, HasNoNumber, OptionsIn, names_found, setting_name, value_found}
use Rattle.command_words.specs.Inside.Found.{value_read as value_of}
use Rattle.command_words.proofs.RowLaws.{Hold, Table, first_held, is_used, none_held, nothing_held, one_held, same_text, some_if_any, with_texts}
use Rattle.command_words.proofs.WalkLaws.{AllUtf8, Ends, flag_name, held, names_id, nothing, read, standing, state, true_text}
use Rattle.command_words.proofs.ProgramLaws.{default_table, false_text, fault_is, left_held, left_table, matches_are, named, program_ends, rows_left, rules}
use Rattle.command_words.proofs.ReadingLaws.{Fits, HasNumbers, Stands, ValueIs, complete, nothing_stands, sound}

pub all_utf8 : (words : List Text) → All IsUtf8 words → AllUtf8 words
all_utf8 [] all = tt
all_utf8 (word ∷ words) all = (All-get_or IsUtf8 (word ∷ words) 0 word (omega arith) all, all_utf8 words (All-drop IsUtf8 1 (word ∷ words) all))

-- ---- the texts of the rows that are left

-- a default changes no other texts
default_other : (id i : Text) (table : Table) → bytes_eq id i ≡ false → default_table id table i ≡ table i
default_other id i table apart = by (is_used (table id))
  where
    by : (b : Bool) → cond b table (with_texts id (false_text ∷ []) table) i ≡ table i
    by true = refl
    by false = ap (λ (b : Bool). cond b (table i ++ false_text ∷ []) (table i)) apart

default_own : (id : Text) (table : Table) (stands : Bool) → table id ≡ cond stands (true_text ∷ []) [] → default_table id table id ≡ cond stands (true_text ∷ []) (false_text ∷ [])
default_own id table true e = ap (λ (ts : List Text). cond (is_used ts) table (with_texts id (false_text ∷ []) table) id) e ∙ e
default_own id table false e =
    ap (λ (ts : List Text). cond (is_used ts) table (with_texts id (false_text ∷ []) table) id) e
    ∙ ap₂ (λ (b : Bool) (ts : List Text). cond b (ts ++ false_text ∷ []) ts) (same_text id) e

setting_left : (p : Program) (s : Setting) (table : Table) → left_table p table (setting_name s) ≡ table (setting_name s)
setting_left program.Repair setting_is.Workers table = default_other (codes "el-part") (codes "workers") table refl
setting_left program.Repair setting_is.Made table = default_other (codes "el-part") (codes "made") table refl
setting_left program.Check setting_is.Workers table = default_other (codes "el-part") (codes "workers") (default_table (codes "refused") table) refl ∙ default_other (codes "refused") (codes "workers") table refl
setting_left program.Check setting_is.Made table = default_other (codes "el-part") (codes "made") (default_table (codes "refused") table) refl ∙ default_other (codes "refused") (codes "made") table refl

names_left : (p : Program) (table : Table) → left_table p table names_id ≡ table names_id
names_left program.Repair table = default_other (codes "el-part") names_id table refl
names_left program.Check table = default_other (codes "el-part") names_id (default_table (codes "refused") table) refl ∙ default_other (codes "refused") names_id table refl

-- the text of a flag, by whether it stands
abbrev FlagTexts : List Text → Bool → Type 0
FlagTexts texts stands = (texts ≡ cond stands (true_text ∷ []) []) ⊎ (texts ≡ cond stands (true_text ∷ []) (false_text ∷ []))

flag_left : (p : Program) (f : Flag) (table : Table) (stands : Bool) → table (flag_name f) ≡ cond stands (true_text ∷ []) [] → FlagTexts (left_table p table (flag_name f)) stands
flag_left program.Repair flag_is.ElPart table stands e = inr (default_own (codes "el-part") table stands e)
flag_left program.Repair flag_is.Refused table stands e = inl (default_other (codes "el-part") (codes "refused") table refl ∙ e)
flag_left program.Check flag_is.ElPart table stands e =
    inr (default_own (codes "el-part") (default_table (codes "refused") table) stands (default_other (codes "refused") (codes "el-part") table refl ∙ e))
flag_left program.Check flag_is.Refused table stands e =
    inr (default_other (codes "el-part") (codes "refused") (default_table (codes "refused") table) refl ∙ default_own (codes "refused") table stands e)

read_true : (how : Reading) → read_as how true_text ≡ true_text
read_true reading.AsWritten = refl
read_true reading.WithoutMinus = refl
read_true reading.Boolish = refl
read_true reading.Falsey = refl

read_false : (how : Reading) → read_as how false_text ≡ false_text
read_false reading.AsWritten = refl
read_false reading.WithoutMinus = refl
read_false reading.Boolish = refl
read_false reading.Falsey = refl

flag_found : (table : Table) (rows : List Row) (id : Text) (stands flag : Bool) → Hold table rows → FlagTexts (table id) stands → FlagIs (one_of id rows) flag → flag ≡ stands
flag_found table rows id true flag hold (inl e) is = (subst (λ (o : Option Text). FlagIs o flag) (one_held table rows id true_text [] read_true hold e) is).0 refl
flag_found table rows id true flag hold (inr e) is = (subst (λ (o : Option Text). FlagIs o flag) (one_held table rows id true_text [] read_true hold e) is).0 refl
flag_found table rows id false flag hold (inl e) is = subst (λ (o : Option Text). FlagIs o flag) (none_held table rows id hold e) is
flag_found table rows id false flag hold (inr e) is = (subst (λ (o : Option Text). FlagIs o flag) (one_held table rows id false_text [] read_false hold e) is).1 refl

module _ (p : Program) (after : Table) (found : Found) (hold : Hold (left_table p after) (rows_of found)) where
  -- the text of an option is the first of its texts
  text_found : (s : Setting) → first_value found (setting_name s) ≡ slice_get (after (setting_name s)) 0
  text_found s =
      first_value-rows found (setting_name s)
      ∙ first_held (left_table p after) (rows_of found) (setting_name s) hold
      ∙ ap (λ (ts : List Text). slice_get ts 0) (setting_left p s after)

  value_stands : (last : Given) → Stands after last → (s : Setting) → value_found found s ≡ Some (setting_read s last.options)
  value_stands last stands s = ap (value_of s) (text_found s) ∙ by (after (setting_name s)) (setting_read s last.options) (stands.settings s)
    where
      by : (ts : List Text) (o : Option ℕ) → ValueIs s ts o → value_of s (slice_get ts 0) ≡ Some o
      by [] None v = refl
      by [] (Some n) v = absurd v
      by (t ∷ ts) None v = absurd v
      by (t ∷ ts) (Some n) v = ap (option_map (λ (m : ℕ). Some m)) v

  has_numbers : (options : Options) → OptionsIn found options → HasNumbers after
  has_numbers options is s = by (after (setting_name s)) (ap (value_of s) (sym (text_found s)) ∙ known s)
    where
      known : (s : Setting) → value_found found s ≡ Some (setting_read s options)
      known setting_is.Workers = is.workers
      known setting_is.Made = is.made

      number : (t : Text) (o : Option ℕ) → number_up_to (most_of s) t ≡ o → option_map (λ (m : ℕ). Some m) o ≡ Some (setting_read s options) → (n : ℕ) × (number_up_to (most_of s) t ≡ Some n)
      number t None e bad = absurd cc
      number t (Some n) e is = (n, e)

      by : (ts : List Text) → value_of s (slice_get ts 0) ≡ Some (setting_read s options) → Fits s ts
      by [] e = tt
      by (t ∷ ts) e = number t (number_up_to (most_of s) t) refl e

  names_stand : (last : Given) → Stands after last → names_found found ≡ last.names
  names_stand last stands =
      ap (λ (o : Option (List Text)). unwrap_or o []) (raw_values-rows found names_id ∙ hold names_id)
      ∙ by (left_table p after names_id) ∙ names_left p after ∙ stands.names
    where
      by : (ts : List Text) → unwrap_or (some_if_any ts) [] ≡ ts
      by [] = refl
      by (t ∷ ts) = refl

  options_stand : (last : Given) (options : Options) → Stands after last → OptionsIn found options → options ≡ last.options
  options_stand last options stands is = λ i. record { el_part = el_part i; refused = refused i; workers = workers i; made = made i }
    where
      flag_stands : (f : Flag) (b : Bool) → FlagIs (one_text found (flag_name f)) b → b ≡ flag_read f last.options
      flag_stands f b given =
          flag_found (left_table p after) (rows_of found) (flag_name f) (flag_read f last.options) b hold
          (flag_left p f after (flag_read f last.options) (stands.flags f))
          (subst (λ (o : Option Text). FlagIs o b) (one_text-rows found (flag_name f)) given)

      el_part : options.el_part ≡ last.options.el_part
      el_part = flag_stands flag_is.ElPart options.el_part is.el_part

      refused : options.refused ≡ last.options.refused
      refused = flag_stands flag_is.Refused options.refused is.refused

      both : (a b : Option ℕ) (o : Option (Option ℕ)) → o ≡ Some a → o ≡ Some b → a ≡ b
      both a b o e f = let same : Some a ≡ Some b = sym e ∙ f in cc

      workers : options.workers ≡ last.options.workers
      workers = both options.workers last.options.workers (value_found found setting_is.Workers) is.workers (value_stands last stands setting_is.Workers)

      made : options.made ≡ last.options.made
      made = both options.made last.options.made (value_found found setting_is.Made) is.made (value_stands last stands setting_is.Made)

module _ (p : Program) (words : List Text) (utf8 : All IsUtf8 words) where
  abbrev table_read : Option Table
  table_read = read (named p) (state nothing_held nothing) words

  ending : Ends (rules p) table_read (standing (held [] None) idle false) words
  ending = program_ends p words (all_utf8 words utf8)

  -- words that are read have no fault
  faultless : (after : Table) → table_read ≡ Some after → (fault_of (app p) words ≡ []) × Hold after (rows_left p words)
  faultless after e =
      let ends = subst (λ (o : Option Table). Ends (rules p) o (standing (held [] None) idle false) words) e ending in
      (fault_is p words ∙ ends.0, ends.1)

  -- words with a fault are not read
  pub fault_unread : (fault_of (app p) words ≡ [] → ⊥) → (given : Given) → Reads p nothing_given words given → ⊥
  fault_unread fault given reads =
      let r = complete p nothing_given given words reads nothing_held nothing_stands in
      fault (faultless r.after r.is).0

  module _ (found : Found) (rows : rows_of found ≡ matches_of (app p) words) where
    held_rows : (after : Table) → table_read ≡ Some after → Hold (left_table p after) (rows_of found)
    held_rows after e = subst (Hold (left_table p after)) (sym (rows ∙ matches_are p words)) (left_held p after (rows_left p words) (faultless after e).1)

    -- nor are words with an option whose text is no number
    pub unnumbered_unread : HasNoNumber found → (given : Given) → Reads p nothing_given words given → ⊥
    unnumbered_unread none given reads =
        let r = complete p nothing_given given words reads nothing_held nothing_stands in
        let values = value_stands p r.after found (held_rows r.after r.is) given r.stands in
        bad values none
      where
        clash : (o : Option (Option ℕ)) (v : Option ℕ) → o ≡ Some v → o ≡ None → ⊥
        clash o v e f = let bad : Some v ≡ None = sym e ∙ f in absurd cc

        bad : ((s : Setting) → value_found found s ≡ Some (setting_read s given.options)) → HasNoNumber found → ⊥
        bad values (inl e) = clash (value_found found setting_is.Workers) given.options.workers (values setting_is.Workers) e
        bad values (inr e) = clash (value_found found setting_is.Made) given.options.made (values setting_is.Made) e

    -- what is found in words without a fault is read in them
    pub found_read : (options : Options) (ns : List Text) → fault_of (app p) words ≡ [] → OptionsIn found options → ns ≡ names_found found
        → Reads p nothing_given words (record { options = options; names = ns })
    found_read options ns faultless is all = by table_read refl
      where
        by : (o : Option Table) → table_read ≡ o → Reads p nothing_given words (record { options = options; names = ns })
        by None e = absurd (subst (λ (o : Option Table). Ends (rules p) o (standing (held [] None) idle false) words) e ending (sym (fault_is p words) ∙ faultless))
        by (Some after) e =
            let hold = held_rows after e in
            let s = sound p words after (has_numbers p after found hold options is) nothing_held nothing nothing_given e nothing_stands in
            let same_options = options_stand p after found hold s.last options s.stands is in
            let same_names = all ∙ names_stand p after found hold s.last s.stands in
            subst (Reads p nothing_given words) (λ i. record { options = sym same_options i; names = sym same_names i }) s.goes_on

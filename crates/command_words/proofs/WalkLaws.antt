-- The walk of `clap` over the words, as a reading of texts by their ids.
use Rattle.std.proofs.Common.{◌≡◌, ◌∙◌, ℕ, ◌==◌, ◌&&◌, ◌||◌, Bool, true, false, cond, List, [], ◌∷◌, length, drop, refl, ap, ap₂, sym, subst, Option, Some, None, option_map, option_and_then, is_some, nat_lt, codes, bytes_eq}
use Rattle.std.specs.Prelude.{fold, slice_get}
use Rattle.std.specs.Option.{option_map_or}
use Rattle.std.specs.Str.{IsUtf8, chars, encode_utf8_all}
use Rattle.std.specs.Char.{encode_utf8}
use Rattle.std.proofs.lemmas.Str.{encodes-chars}
use Rattle.std.proofs.lemmas.Bool.{eqb-true}
use Rattle.clap.specs.Lexer.{long_of, short_of, short_of_rest}
use Rattle.clap.specs.Simple.{Shape, filled, new_shape, with_index}
use Rattle.clap.specs.Walk.{Held, Row, Rule, Step, Text, Waiting, Walk, after_flag, after_step, arg_by_id, arg_by_index, arg_by_long, arg_by_short, idle, is_pending, long_met, long_or_other, long_word, option, option_word, plain_word, positional, next, value as step_value, trailing, pushed, to_positional, used_by_id, settled, short_or_plain, subcommand_or_other, takes_values, used, walked, with_values, without}
use Rattle.clap.specs.Kinds.{Kinds, or_else}
use Rattle.clap.specs.Faults.{bundle_fault, bundle_step_fault, stray_fault, flag_word_fault, flags_fault, long_fault, option_fault, other_fault, positional_fault, react_fault, repeat_fault, short_fault, settle_fault, step_fault, turn_fault, use_fault, walk_fault}
use Rattle.clap.specs.declared.builder.value_parser.Reading.TheVariants.{AsWritten}
use Rattle.clap.specs.declared.parser.matches.ValueSource.TheVariants.{CommandLine}
use Rattle.clap.specs.declared.error.kind.ErrorKind.TheVariants.{ArgumentConflict, InvalidValue, TooManyValues, UnknownArgument}
use Rattle.command_words.specs.declared.types.Flag.{Flag}
use Rattle.command_words.specs.declared.types.Flag.TheVariants as flag_is
use Rattle.command_words.specs.declared.types.Setting.{Setting}
use Rattle.command_words.specs.Inside.Rules.{flag_rule, names_rule, setting_rule}
use Rattle.command_words.specs.Inside.Found.{setting_name}
use Rattle.command_words.proofs.RowLaws.{Hold, Table, is_used, more_held, nothing_held, row_held, same_text, some_if_any, with_texts, without_none}

-- ---- the reading

-- an option
pub data Long : Type 0 where
  flag : Flag → Long
  setting : Setting → Long

-- what the next word is to be: an option or a name, the value of an option, or a name
pub data Waits : Type 0 where
  nothing : Waits
  value : Setting → Waits
  names : Waits

pub record State : Type 0 where
  pub table : Table
  pub waits : Waits

abbrev pub state : Table → Waits → State
state table w = record { table = table; waits = w }

abbrev pub flag_name : Flag → Text
flag_name flag_is.ElPart = codes "el-part"
flag_name flag_is.Refused = codes "refused"

abbrev pub name_of : Long → Text
name_of (flag f) = flag_name f
name_of (setting s) = setting_name s

abbrev pub names_id : Text
names_id = codes "names"

-- the text of a flag that stands
abbrev pub true_text : Text
true_text = codes "true"

-- the text of an option for the first time
abbrev pub used_text : Text → Text → Table → Option State
used_text id text table = cond (is_used (table id)) None (Some (state (with_texts id (text ∷ []) table) nothing))

abbrev pub long_read : Table → Option Long → Option Text → Option State
long_read table None v = None
long_read table (Some (flag f)) None = used_text (flag_name f) true_text table
long_read table (Some (flag f)) (Some v) = None
long_read table (Some (setting s)) None = Some (state table (value s))
long_read table (Some (setting s)) (Some v) = used_text (setting_name s) v table

abbrev pub named_word : Table → Text → State
named_word table word = state (with_texts names_id (word ∷ []) table) nothing

abbrev pub short_read : Table → Text → Option Text → Option State
short_read table word (Some flags) = None
short_read table word None = Some (named_word table word)

-- a word that is not `--`
abbrev pub other_read : (Text → Option Long) → Table → Text → Option (Text × Option Text) → Option State
other_read named table word (Some p) = long_read table (named p.0) p.1
other_read named table word None = short_read table word (short_of word)

abbrev pub free_read : (Text → Option Long) → Table → Text → Option State
free_read named table word = cond (bytes_eq word (codes "--")) (Some (state table names)) (other_read named table word (long_of word))

-- the value of an option
abbrev pub short_value : Table → Setting → Text → Option Text → Option State
short_value table s word (Some flags) = None
short_value table s word None = used_text (setting_name s) word table

abbrev pub other_value : Table → Setting → Text → Option (Text × Option Text) → Option State
other_value table s word (Some p) = None
other_value table s word None = short_value table s word (short_of word)

abbrev pub value_read : Table → Setting → Text → Option State
value_read table s word = cond (bytes_eq word (codes "--")) None (other_value table s word (long_of word))

abbrev pub word_read : (Text → Option Long) → State → Text → Option State
word_read named st word = by st.waits
  where
    by : Waits → Option State
    by nothing = free_read named st.table word
    by (value s) = value_read st.table s word
    by names = Some (state (with_texts names_id (word ∷ []) st.table) names)

abbrev pub end_read : Table → Waits → Option Table
end_read table (value s) = None
end_read table _ = Some table

abbrev pub read : (Text → Option Long) → State → List Text → Option Table
read named st [] = end_read st.table st.waits
read named st (word ∷ words) = option_and_then (λ next. read named next words) (word_read named st word)

-- ---- the command

abbrev pub rule_of : Long → Rule
rule_of (flag f) = filled (flag_rule (flag_name f))
rule_of (setting s) = filled (setting_rule (setting_name s))

abbrev pub names_arg : Rule
names_arg = with_index 1 (filled names_rule)

abbrev pub shape : List Rule → Shape
shape rules = record (new_shape (codes "alod")) {
  rules = rules;
  no_binary_name = true;
  disable_help_flag = true;
  disable_version_flag = true;
  disable_help_subcommand = true;
  is_built = true;
}

-- where the walk stands
abbrev pub standing : Held → Waiting → Bool → Walk
standing h w t = record { held = h; waiting = w; position = 1; is_trailing = t; stopped = None }

abbrev pub held : List Row → Option (Text × List Text) → Held
held rows pending = record { rows = rows; pending = pending; skip = 0 }

abbrev IsIdle : Waiting → Type 0
IsIdle idle = Unit {0}
IsIdle positional = Unit {0}
IsIdle (option id) = ⊥

-- all words are texts
abbrev pub AllUtf8 : List Text → Type 0
AllUtf8 [] = Unit {0}
AllUtf8 (word ∷ words) = IsUtf8 word × AllUtf8 words

-- the first of two lists of kinds is not empty, or the second
left_fault : (a b : Kinds) → (a ≡ [] → ⊥) → or_else a b ≡ [] → ⊥
left_fault [] b some e = some refl
left_fault (k ∷ ks) b some e = some e

right_fault : (a b : Kinds) → (b ≡ [] → ⊥) → or_else a b ≡ [] → ⊥
right_fault [] b some e = some e
right_fault (k ∷ ks) b some e = absurd cc

pub or_none : (a : Kinds) → or_else a [] ≡ a
or_none [] = refl
or_none (k ∷ ks) = refl

and_false : (b : Bool) → (b && false) ≡ false
and_false true = refl
and_false false = refl

-- a word of one hyphen and more has a character after the hyphen
bundle_begins : (b : ℕ) (bs : List ℕ) → IsUtf8 (45 ∷ b ∷ bs) → (x : ℕ) × (slice_get (chars (b ∷ bs)) 0 ≡ Some x)
unfolding chars encode_utf8
bundle_begins b bs utf8 = by (chars (b ∷ bs)) refl
  where
    by : (cs : List ℕ) → chars (b ∷ bs) ≡ cs → (x : ℕ) × (slice_get cs 0 ≡ Some x)
    by (c ∷ cs) e = (c, refl)
    by [] e =
        let whole : chars (45 ∷ b ∷ bs) ≡ 45 ∷ [] = ap (λ (cs : List ℕ). 45 ∷ cs) e in
        let bad = sym (encodes-chars (45 ∷ b ∷ bs) utf8) ∙ ap encode_utf8_all whole in
        cc

-- one use of an option, whose text this is
record Use (l : Long) (values : List Text) (text : Text) : Type 0 where
  fault : (rows : List Row) → use_fault false (rule_of l) values rows ≡ repeat_fault false (name_of l) rows
  rows : (rows : List Row) → used (rule_of l) values rows ≡ with_values (name_of l) AsWritten CommandLine (text ∷ []) (without (name_of l) rows)

flag_use : (f : Flag) → Use (flag f) [] true_text
flag_use f = record { fault = λ rows. or_none (repeat_fault false (flag_name f) rows); rows = λ rows. refl }

setting_use : (s : Setting) (v : Text) → Use (setting s) (v ∷ []) v
setting_use s v = record { fault = λ rows. or_none (repeat_fault false (setting_name s) rows); rows = λ rows. refl }

module _ (table : Table) (rows : List Row) (l : Long) (values : List Text) (text : Text) (use_of : Use l values text) (hold : Hold table rows) where
  -- the first use has no fault, and then the rows hold the text too
  first_use : is_used (table (name_of l)) ≡ false → use_fault false (rule_of l) values rows ≡ []
  first_use fresh =
      use_of.fault rows ∙ ap (λ (b : Bool). cond (b && true) (ArgumentConflict ∷ []) []) (row_held table rows (name_of l) hold ∙ fresh)

  first_held : table (name_of l) ≡ [] → Hold (with_texts (name_of l) (text ∷ []) table) (used (rule_of l) values rows)
  first_held none =
      let alone = without_none (name_of l) rows (hold (name_of l) ∙ ap some_if_any none) in
      subst (λ (rs : List Row). Hold (with_texts (name_of l) (text ∷ []) table) rs)
      (ap (with_values (name_of l) AsWritten CommandLine (text ∷ [])) (sym alone) ∙ sym (use_of.rows rows))
      (more_held table rows (name_of l) AsWritten CommandLine text [] hold)

  -- a second one fails
  next_use : is_used (table (name_of l)) ≡ true → use_fault false (rule_of l) values rows ≡ [] → ⊥
  next_use again none =
      let bad : ArgumentConflict ∷ [] ≡ [] =
      ap (λ (b : Bool). cond (b && true) (ArgumentConflict ∷ []) []) (sym (row_held table rows (name_of l) hold ∙ again)) ∙ sym (use_of.fault rows) ∙ none in
      absurd cc

abbrev pub walk_on : List Rule → Walk → List Text → Walk
walk_on rules w words = fold (walked rules []) w words

-- the faults from here on
abbrev pub faults : List Rule → Walk → List Text → Kinds
faults rules w words = or_else (walk_fault (shape rules) [] w words) (settle_fault rules false (walk_on rules w words).held)

-- the reading and the walk come to one end
abbrev pub Ends : List Rule → Option Table → Walk → List Text → Type 0
Ends rules (Some table) w words = (faults rules w words ≡ []) × Hold table (settled rules (walk_on rules w words).held).rows × ((walk_on rules w words).stopped ≡ None)
Ends rules None w words = faults rules w words ≡ [] → ⊥

module _ (rules : List Rule) (named : Text → Option Long)
    (at_long : (name : Text) → arg_by_long rules name ≡ option_map rule_of (named name))
    (no_short : (x : ℕ) → arg_by_short rules x ≡ None)
    (at_one : arg_by_index rules 1 ≡ Some names_arg)
    (at_names : arg_by_id rules names_id ≡ Some names_arg)
    (at_id : (name : Text) (s : Setting) → named name ≡ Some (setting s) → arg_by_id rules (setting_name s) ≡ Some (rule_of (setting s))) where
  -- the pending argument is used without a fault, and then the rows hold the texts
  record Settles (table : Table) (h : Held) : Type 0 where
    fault : settle_fault rules false h ≡ []
    rows : Hold table (settled rules h).rows
    skip : h.skip ≡ 0

  -- ---- one word

  goes_on : (o : Option Table) (w : Walk) (word : Text) (words : List Text) → turn_fault (shape rules) [] w word ≡ [] → Ends rules o (walked rules [] w word) words → Ends rules o w (word ∷ words)
  unfolding walk_fault
  goes_on (Some table) w word words e ends =
      let same : faults rules w (word ∷ words) ≡ faults rules (walked rules [] w word) words =
      ap (λ (k : Kinds). or_else (or_else k (walk_fault (shape rules) [] (walked rules [] w word) words)) (settle_fault rules false (walk_on rules (walked rules [] w word) words).held)) e in
      (same ∙ ends.0, ends.1, ends.2)
  goes_on None w word words e ends =
      let same : faults rules w (word ∷ words) ≡ faults rules (walked rules [] w word) words =
      ap (λ (k : Kinds). or_else (or_else k (walk_fault (shape rules) [] (walked rules [] w word) words)) (settle_fault rules false (walk_on rules (walked rules [] w word) words).held)) e in
      λ none. ends (sym same ∙ none)

  -- the same to a walk that is known
  goes_to : (o : Option Table) (w after : Walk) (word : Text) (words : List Text) → turn_fault (shape rules) [] w word ≡ [] → walked rules [] w word ≡ after → Ends rules o after words → Ends rules o w (word ∷ words)
  goes_to o w after word words e is ends = goes_on o w word words e (subst (λ (n : Walk). Ends rules o n words) (sym is) ends)

  stops : (w : Walk) (word : Text) (words : List Text) → (turn_fault (shape rules) [] w word ≡ [] → ⊥) → faults rules w (word ∷ words) ≡ [] → ⊥
  unfolding walk_fault
  stops w word words some = left_fault _ _ (left_fault _ _ some)

  -- a word before `--`: whether it is `--`, what it is as a long option, and as a short one
  abbrev fault_by : Bool → Option (Text × Option Text) → Option Text → Held → Kinds
  fault_by true p q h = []
  fault_by false (Some p) q h = long_fault rules false (arg_by_long rules p.0) p.1 h
  fault_by false None q h = option_map_or (λ flags. bundle_fault rules false flags h) q []

  abbrev met_by : Bool → Option (Text × Option Text) → Option Text → Waiting → Text → Held → Held × Step
  met_by true p q w word h = (h, trailing 1)
  met_by false (Some p) q w word h = long_word rules w word p.0 p.1 h
  met_by false None q w word h = short_or_plain rules w word q h

  abbrev turn_by : Bool → Option (Text × Option Text) → Option Text → Waiting → Text → Held → Kinds
  turn_by b p q w word h = or_else (fault_by b p q h) (step_fault (shape rules) 1 (met_by b p q w word h).0 (met_by b p q w word h).1)

  abbrev walk_by : Bool → Option (Text × Option Text) → Option Text → Waiting → Text → Held → Walk
  walk_by b p q w word h = after_step rules word (standing h w false) (met_by b p q w word h).0 (met_by b p q w word h).1

  met_is : (h : Held) (w : Waiting) (word : Text) → subcommand_or_other rules None w 1 word h ≡ met_by (bytes_eq word (codes "--")) (long_of word) (short_of word) w word h
  met_is h w word = by (bytes_eq word (codes "--")) (long_of word)
    where
      by : (b : Bool) (p : Option (Text × Option Text)) → cond b (h, trailing 1) (long_or_other rules w word p h) ≡ met_by b p (short_of word) w word h
      by true p = refl
      by false (Some p) = refl
      by false None = refl

  fault_is : (h : Held) (word : Text) → other_fault (shape rules) None word h ≡ fault_by (bytes_eq word (codes "--")) (long_of word) (short_of word) h
  fault_is h word = by (bytes_eq word (codes "--")) (long_of word)
    where
      by : (b : Bool) (p : Option (Text × Option Text)) → cond b [] (flag_word_fault rules false p word h) ≡ fault_by b p (short_of word) h
      by true p = refl
      by false (Some p) = refl
      by false None = refl

  turn_is : (h : Held) (w : Waiting) (word : Text) → turn_fault (shape rules) [] (standing h w false) word ≡ turn_by (bytes_eq word (codes "--")) (long_of word) (short_of word) w word h
  turn_is h w word = by w ∙ ap₂ (λ (k : Kinds) (m : Held × Step). or_else k (step_fault (shape rules) 1 m.0 m.1)) (fault_is h word) (met_is h w word)
    where
      by : (w : Waiting) → turn_fault (shape rules) [] (standing h w false) word
          ≡ or_else (other_fault (shape rules) None word h) (step_fault (shape rules) 1 (subcommand_or_other rules None w 1 word h).0 (subcommand_or_other rules None w 1 word h).1)
      by idle = refl
      by positional = refl
      by (option id) = refl

  walked_is : (h : Held) (w : Waiting) (word : Text) → walked rules [] (standing h w false) word ≡ walk_by (bytes_eq word (codes "--")) (long_of word) (short_of word) w word h
  unfolding walked
  walked_is h w word = by w ∙ ap (λ (m : Held × Step). after_step rules word (standing h w false) m.0 m.1) (met_is h w word)
    where
      by : (w : Waiting) → walked rules [] (standing h w false) word
          ≡ after_step rules word (standing h w false) (subcommand_or_other rules None w 1 word h).0 (subcommand_or_other rules None w 1 word h).1
      by idle = refl
      by positional = refl
      by (option id) = refl

  -- a word that is no option stays one for the names
  plain_is : (h : Held) (w : Waiting) (word : Text) → IsIdle w → plain_word rules w word h ≡ (h, step_value)
  plain_is h idle word free = refl
  plain_is h positional word free = refl
  plain_is h (option id) word free = absurd free

  -- ---- an argument that is pending and fails

  settle_first : (h : Held) (o : Option Rule) (v : Option Text) → (settle_fault rules false h ≡ [] → ⊥) → long_fault rules false o v h ≡ [] → ⊥
  settle_first h None v some = λ e. absurd cc
  settle_first h (Some a) v some = by (takes_values a) v
    where
      by : (takes : Bool) (v : Option Text) → cond takes (option_fault rules false a v h) (cond (is_some v) (TooManyValues ∷ []) (react_fault rules false a [] h)) ≡ [] → ⊥
      by true None = some
      by true (Some t) = left_fault _ _ some
      by false (Some t) = λ e. absurd cc
      by false None = left_fault _ _ some

  -- a word that goes to the names
  to_names : (h : Held) → option_map_or (λ a. positional_fault rules false a h) (arg_by_index rules 1) (stray_fault (shape rules)) ≡ settle_fault rules false h
  to_names h =
      ap (λ (o : Option Rule). option_map_or (λ a. positional_fault rules false a h) o (stray_fault (shape rules))) at_one
      ∙ ap (λ (b : Bool). cond b [] (settle_fault rules false h)) (and_false (is_pending names_arg h.pending))

  -- a word of one hyphen and more is no option
  no_bundle : (rows : List Row) (pending : Option (Text × List Text)) (b : ℕ) (bs : Text) → IsUtf8 (45 ∷ b ∷ bs) → bundle_fault rules false (b ∷ bs) (held rows pending) ≡ UnknownArgument ∷ []
  unfolding flags_fault
  no_bundle rows pending b bs utf8 =
      let begins = bundle_begins b bs utf8 in
      let h = held rows pending in
      ap (λ (o : Option ℕ). bundle_step_fault rules false o (b ∷ bs) 0 h (flags_fault rules false (length bs))) begins.1
      ∙ ap (λ (o : Option Rule). short_fault rules false o (drop (length (encode_utf8 begins.0)) (b ∷ bs)) h (flags_fault rules false (length bs) (drop (length (encode_utf8 begins.0)) (b ∷ bs)) 0)) (no_short begins.0)

  -- nor is it anything else
  short_stops : (rows : List Row) (pending : Option (Text × List Text)) (word flags : Text) → IsUtf8 word → short_of word ≡ Some flags
      → flag_word_fault rules false None word (held rows pending) ≡ [] → ⊥
  short_stops rows pending [] flags utf8 e = absurd cc
  short_stops rows pending (x ∷ word) flags utf8 e = by (x == 45) refl e
    where
      more : (word : Text) → IsUtf8 (45 ∷ word) → short_of_rest word ≡ Some flags → option_map_or (λ fs. bundle_fault rules false fs (held rows pending)) (short_of_rest word) [] ≡ [] → ⊥
      more [] utf8 e = absurd cc
      more (b ∷ bs) utf8 e = hyphen (b == 45) e
        where
          hyphen : (t : Bool) → cond t None (Some (b ∷ bs)) ≡ Some flags → option_map_or (λ fs. bundle_fault rules false fs (held rows pending)) (cond t None (Some (b ∷ bs))) [] ≡ [] → ⊥
          hyphen true e none = absurd cc
          hyphen false e none = let bad : UnknownArgument ∷ [] ≡ [] = sym (no_bundle rows pending b bs utf8) ∙ none in absurd cc

      by : (t : Bool) → (x == 45) ≡ t → option_and_then short_of_rest (cond t (Some word) None) ≡ Some flags
          → option_map_or (λ fs. bundle_fault rules false fs (held rows pending)) (option_and_then short_of_rest (cond (x == 45) (Some word) None)) [] ≡ [] → ⊥
      by false t e = absurd cc
      by true t e =
          let same : x ≡ 45 = eqb-true x 45 t in
          let utf8 : IsUtf8 (45 ∷ word) = subst (λ (c : ℕ). IsUtf8 (c ∷ word)) same utf8 in
          rw t (more word utf8 e)

  -- ---- an argument that fails at its next use

  -- a word at which it is used, unless that is `--`
  fails_by : (rows : List Row) (pending : Option (Text × List Text)) (w : Waiting) (word : Text) (p : Option (Text × Option Text)) → IsUtf8 word → IsIdle w
      → (settle_fault rules false (held rows pending) ≡ [] → ⊥) → turn_by false p (short_of word) w word (held rows pending) ≡ [] → ⊥
  fails_by rows pending w word (Some p) utf8 free some = left_fault _ _ (settle_first (held rows pending) (arg_by_long rules p.0) p.1 some)
  fails_by rows pending w word None utf8 free some = by (short_of word) refl
    where
      by : (q : Option Text) → short_of word ≡ q → turn_by false None q w word (held rows pending) ≡ [] → ⊥
      by (Some flags) e none = left_fault _ _ (λ none. short_stops rows pending word flags utf8 e (ap (λ (q : Option Text). option_map_or (λ fs. bundle_fault rules false fs (held rows pending)) q []) e ∙ none)) none
      by None e none = some (sym (to_names (held rows pending)) ∙ ap (λ (m : Held × Step). step_fault (shape rules) 1 m.0 m.1) (sym (plain_is (held rows pending) w word free)) ∙ none)

  -- before that the walk goes on, but not without a fault
  fails : (rows : List Row) (pending : Option (Text × List Text)) (w : Waiting) (t : Bool) (words : List Text) → AllUtf8 words → (t ≡ false → IsIdle w)
      → (settle_fault rules false (held rows pending) ≡ [] → ⊥) → faults rules (standing (held rows pending) w t) words ≡ [] → ⊥
  unfolding walk_fault
  fails rows pending w t [] utf8 free some = some
  fails rows pending w true (word ∷ words) utf8 free some =
      stops (standing (held rows pending) w true) word words (λ e. some (sym (to_names (held rows pending)) ∙ e))
  fails rows pending w false (word ∷ words) utf8 free some = by (bytes_eq word (codes "--")) refl (fails rows pending w true words utf8.1 (λ e. absurd cc) some)
    where
      by : (b : Bool) → bytes_eq word (codes "--") ≡ b → (faults rules (standing (held rows pending) w true) words ≡ [] → ⊥) → faults rules (standing (held rows pending) w false) (word ∷ words) ≡ [] → ⊥
      by true e later =
          goes_to None (standing (held rows pending) w false) (standing (held rows pending) w true) word words
          (turn_is (held rows pending) w word ∙ ap (λ (b : Bool). turn_by b (long_of word) (short_of word) w word (held rows pending)) e)
          (walked_is (held rows pending) w word ∙ ap (λ (b : Bool). walk_by b (long_of word) (short_of word) w word (held rows pending)) e) later
      by false e later =
          stops (standing (held rows pending) w false) word words (λ none. fails_by rows pending w word (long_of word) utf8.0 (free refl) some
          (ap (λ (b : Bool). turn_by b (long_of word) (short_of word) w word (held rows pending)) (sym e) ∙ sym (turn_is (held rows pending) w word) ∙ none))

  -- ---- the reading goes with the walk

  -- what holds of the words that are left
  record Later (words : List Text) : Type 0 where
    free : (table : Table) (rows : List Row) (pending : Option (Text × List Text)) (w : Waiting) → Settles table (held rows pending) → IsIdle w
        → Ends rules (read named (state table nothing) words) (standing (held rows pending) w false) words
    valued : (table : Table) (rows : List Row) (s : Setting) → arg_by_id rules (setting_name s) ≡ Some (rule_of (setting s)) → Hold table rows
        → Ends rules (read named (state table (value s)) words) (standing (held rows (Some (setting_name s, []))) (option (setting_name s)) false) words
    trailed : (table : Table) (rows : List Row) (pending : Option (Text × List Text)) (w : Waiting) → Settles table (held rows pending)
        → Ends rules (read named (state table names) words) (standing (held rows pending) w true) words

  -- a name
  named_held : (table : Table) (rows : List Row) (word : Text) → Hold table rows → Settles (with_texts names_id (word ∷ []) table) (held rows (Some (names_id, word ∷ [])))
  named_held table rows word hold = record {
    fault = ap (λ (o : Option Rule). option_map_or (λ a. use_fault false a (word ∷ []) rows) o []) at_names;
    rows = subst (λ (rs : List Row). Hold (with_texts names_id (word ∷ []) table) rs) (sym (ap (λ (o : Option Rule). used_by_id o (word ∷ []) rows) at_names))
        (more_held table rows names_id AsWritten CommandLine word [] hold);
    skip = refl;
  }

  named_walk : (rows : List Row) (pending : Option (Text × List Text)) (w : Waiting) (t : Bool) (word : Text)
      → to_positional rules (arg_by_index rules 1) word (standing (held rows pending) w t) (held rows pending)
      ≡ standing (held (settled rules (held rows pending)).rows (Some (names_id, word ∷ []))) positional (t || false)
  named_walk rows pending w t word =
      ap (λ (o : Option Rule). to_positional rules o word (standing (held rows pending) w t) (held rows pending)) at_one
      ∙ ap (λ (b : Bool). standing (pushed names_id word (cond b (held rows pending) (settled rules (held rows pending)))) positional (t || false)) (and_false (is_pending names_arg pending))

  -- an option with its text in the same word, or a flag
  module _ (table : Table) (rows : List Row) (pending : Option (Text × List Text)) (settles : Settles table (held rows pending)) (words : List Text) (later : Later words) where
    abbrev here : Held
    here = held rows pending

    abbrev now : List Row
    now = (settled rules here).rows

    trailed_word : (w : Waiting) (word : Text) → Ends rules (read named (state table names) (word ∷ words)) (standing here w true) (word ∷ words)
    unfolding walked
    trailed_word w word =
        goes_to (read named (state (with_texts names_id (word ∷ []) table) names) words) (standing here w true) (standing (held now (Some (names_id, word ∷ []))) positional true) word words
        (to_names here ∙ settles.fault) (named_walk rows pending w true word)
        (later.trailed (with_texts names_id (word ∷ []) table) now (Some (names_id, word ∷ [])) positional (named_held table now word settles.rows))

    abbrev then_read : Option State → Option Table
    then_read o = option_and_then (λ st. read named st words) o

    used_ends : (w : Waiting) (word : Text) (l : Long) (values : List Text) (text : Text) → Use l values text
        → turn_fault (shape rules) [] (standing here w false) word ≡ or_else (react_fault rules false (rule_of l) values here) []
        → walked rules [] (standing here w false) word ≡ standing (held (used (rule_of l) values now) None) idle false
        → Ends rules (then_read (used_text (name_of l) text table)) (standing here w false) (word ∷ words)
    used_ends w word l values text use_of turn walk = by (table (name_of l)) refl
      where
        more : Table
        more = with_texts (name_of l) (text ∷ []) table

        by : (ts : List Text) → table (name_of l) ≡ ts → Ends rules (then_read (cond (is_used ts) None (Some (state more nothing)))) (standing here w false) (word ∷ words)
        by [] none =
            let fresh = first_use table now l values text use_of settles.rows (ap is_used none) in
            goes_to (read named (state more nothing) words) (standing here w false) (standing (held (used (rule_of l) values now) None) idle false) word words
            (turn ∙ ap₂ (λ (a b : Kinds). or_else (or_else a b) []) settles.fault fresh) walk
            (later.free more (used (rule_of l) values now) None idle
            (record { fault = refl; rows = first_held table now l values text use_of settles.rows none; skip = refl }) tt)
        by (t ∷ ts) again =
            stops (standing here w false) word words
            (λ none. left_fault (react_fault rules false (rule_of l) values here) [] (right_fault (settle_fault rules false here) _ (next_use table now l values text use_of settles.rows (ap is_used again))) (sym turn ∙ none))

    -- a word of two hyphens and more
    abbrev long_step : Option Rule → Option Text → Waiting → Text → Held × Step
    long_step o v w word = after_flag rules w word (long_met rules o v here).0 (long_met rules o v here).1

    abbrev long_turn : Option Rule → Option Text → Waiting → Text → Kinds
    long_turn o v w word = or_else (long_fault rules false o v here) (step_fault (shape rules) 1 (long_step o v w word).0 (long_step o v w word).1)

    abbrev long_walk : Option Rule → Option Text → Waiting → Text → Walk
    long_walk o v w word = after_step rules word (standing here w false) (long_step o v w word).0 (long_step o v w word).1

    long_ends : (w : Waiting) (word name : Text) (v : Option Text) → bytes_eq word (codes "--") ≡ false → long_of word ≡ Some (name, v)
        → Ends rules (then_read (long_read table (named name) v)) (standing here w false) (word ∷ words)
    long_ends w word name v apart is = by (named name) v refl turn walk
      where
        turn : turn_fault (shape rules) [] (standing here w false) word ≡ long_turn (option_map rule_of (named name)) v w word
        turn =
            turn_is here w word
            ∙ ap₂ (λ (b : Bool) (p : Option (Text × Option Text)). turn_by b p (short_of word) w word here) apart is
            ∙ ap (λ (o : Option Rule). long_turn o v w word) (at_long name)

        walk : walked rules [] (standing here w false) word ≡ long_walk (option_map rule_of (named name)) v w word
        walk =
            walked_is here w word
            ∙ ap₂ (λ (b : Bool) (p : Option (Text × Option Text)). walk_by b p (short_of word) w word here) apart is
            ∙ ap (λ (o : Option Rule). long_walk o v w word) (at_long name)

        by : (o : Option Long) (v : Option Text) → named name ≡ o
            → turn_fault (shape rules) [] (standing here w false) word ≡ long_turn (option_map rule_of o) v w word
            → walked rules [] (standing here w false) word ≡ long_walk (option_map rule_of o) v w word
            → Ends rules (then_read (long_read table o v)) (standing here w false) (word ∷ words)
        by None v e turn walk = stops (standing here w false) word words (λ none. let bad : UnknownArgument ∷ [] ≡ [] = sym turn ∙ none in absurd cc)
        by (Some (flag f)) (Some t) e turn walk = stops (standing here w false) word words (λ none. let bad : TooManyValues ∷ [] ≡ [] = sym turn ∙ none in absurd cc)
        by (Some (flag f)) None e turn walk = used_ends w word (flag f) [] true_text (flag_use f) turn walk
        by (Some (setting s)) (Some t) e turn walk = used_ends w word (setting s) (t ∷ []) t (setting_use s t) turn walk
        by (Some (setting s)) None e turn walk =
            goes_to (read named (state table (value s)) words) (standing here w false) (standing (held now (Some (setting_name s, []))) (option (setting_name s)) false) word words
            (turn ∙ ap (λ (k : Kinds). or_else k []) settles.fault) walk (later.valued table now s (at_id name s e) settles.rows)

    -- any other word
    other_ends : (w : Waiting) (word : Text) (q : Option Text) → IsUtf8 word → IsIdle w → bytes_eq word (codes "--") ≡ false → long_of word ≡ None → short_of word ≡ q
        → Ends rules (then_read (short_read table word q)) (standing here w false) (word ∷ words)
    other_ends w word (Some flags) utf8 free apart is short =
        stops (standing here w false) word words
        (λ none. left_fault (fault_by (bytes_eq word (codes "--")) (long_of word) (short_of word) here) _
        (λ empty. short_stops rows pending word flags utf8 short
        (sym (ap₂ (λ (b : Bool) (p : Option (Text × Option Text)). fault_by b p (short_of word) here) apart is) ∙ empty))
        (sym (turn_is here w word) ∙ none))
    other_ends w word None utf8 free apart is short =
        goes_to (read named (named_word table word) words) (standing here w false) (standing (held now (Some (names_id, word ∷ []))) positional false) word words
        (turn_is here w word
        ∙ ap₂ (λ (b : Bool) (p : Option (Text × Option Text)). turn_by b p (short_of word) w word here) apart is
        ∙ ap (λ (q : Option Text). turn_by false None q w word here) short
        ∙ ap (λ (m : Held × Step). step_fault (shape rules) 1 m.0 m.1) (plain_is here w word free)
        ∙ to_names here ∙ settles.fault)
        (walked_is here w word
        ∙ ap₂ (λ (b : Bool) (p : Option (Text × Option Text)). walk_by b p (short_of word) w word here) apart is
        ∙ ap (λ (q : Option Text). walk_by false None q w word here) short
        ∙ ap (λ (m : Held × Step). after_step rules word (standing here w false) m.0 m.1) (plain_is here w word free)
        ∙ named_walk rows pending w false word)
        (later.free (with_texts names_id (word ∷ []) table) now (Some (names_id, word ∷ [])) positional (named_held table now word settles.rows) tt)

    free_ends : (w : Waiting) (word : Text) → IsUtf8 word → IsIdle w → Ends rules (then_read (free_read named table word)) (standing here w false) (word ∷ words)
    free_ends w word utf8 free = by (bytes_eq word (codes "--")) refl
      where
        by_long : (p : Option (Text × Option Text)) → bytes_eq word (codes "--") ≡ false → long_of word ≡ p → Ends rules (then_read (other_read named table word p)) (standing here w false) (word ∷ words)
        by_long (Some p) apart is = long_ends w word p.0 p.1 apart is
        by_long None apart is = other_ends w word (short_of word) utf8 free apart is refl

        by : (b : Bool) → bytes_eq word (codes "--") ≡ b → Ends rules (then_read (cond b (Some (state table names)) (other_read named table word (long_of word)))) (standing here w false) (word ∷ words)
        by true is =
            goes_to (read named (state table names) words) (standing here w false) (standing here w true) word words
            (turn_is here w word ∙ ap (λ (b : Bool). turn_by b (long_of word) (short_of word) w word here) is)
            (walked_is here w word ∙ ap (λ (b : Bool). walk_by b (long_of word) (short_of word) w word here) is)
            (later.trailed table rows pending w settles)
        by false apart = by_long (long_of word) apart refl

  -- an option without a value fails
  unsettled : (rows : List Row) (s : Setting) → arg_by_id rules (setting_name s) ≡ Some (rule_of (setting s)) → settle_fault rules false (held rows (Some (setting_name s, []))) ≡ [] → ⊥
  unsettled rows s known none =
      let bad : InvalidValue ∷ [] ≡ [] = sym (ap (λ (o : Option Rule). option_map_or (λ a. use_fault false a [] rows) o []) known) ∙ none in absurd cc

  -- the value of an option
  module _ (table : Table) (rows : List Row) (s : Setting) (known : arg_by_id rules (setting_name s) ≡ Some (rule_of (setting s))) (hold : Hold table rows) (words : List Text) (utf8 : AllUtf8 words) (later : Later words) where
    abbrev unfilled : Held
    unfilled = held rows (Some (setting_name s, []))

    abbrev waits_for : Waiting
    waits_for = option (setting_name s)

    -- with one it is used as it is
    filled_held : (word : Text) → option_word (arg_by_id rules (setting_name s)) (setting_name s) word unfilled ≡ (held rows (Some (setting_name s, word ∷ [])), idle)
    filled_held word =
        ap (λ (o : Option Rule). option_word o (setting_name s) word unfilled) known
        ∙ ap (λ (b : Bool). (held rows (Some (setting_name s, word ∷ [])), cond (nat_lt (cond b 1 0) 1) (option (setting_name s)) idle)) (same_text (setting_name s))

    filled_fault : (word : Text) → settle_fault rules false (held rows (Some (setting_name s, word ∷ []))) ≡ use_fault false (rule_of (setting s)) (word ∷ []) rows
    filled_fault word = ap (λ (o : Option Rule). option_map_or (λ a. use_fault false a (word ∷ []) rows) o []) known

    filled_ends : (word : Text) → Ends rules (option_and_then (λ st. read named st words) (used_text (setting_name s) word table)) (standing (held rows (Some (setting_name s, word ∷ []))) idle false) words
    filled_ends word = by (table (setting_name s)) refl
      where
        more : Table
        more = with_texts (setting_name s) (word ∷ []) table

        by : (ts : List Text) → table (setting_name s) ≡ ts
            → Ends rules (option_and_then (λ st. read named st words) (cond (is_used ts) None (Some (state more nothing)))) (standing (held rows (Some (setting_name s, word ∷ []))) idle false) words
        by [] none =
            later.free more rows (Some (setting_name s, word ∷ [])) idle
            (record {
              fault = filled_fault word ∙ first_use table rows (setting s) (word ∷ []) word (setting_use s word) hold (ap is_used none);
              rows = subst (λ (rs : List Row). Hold more rs) (sym (ap (λ (o : Option Rule). used_by_id o (word ∷ []) rows) known)) (first_held table rows (setting s) (word ∷ []) word (setting_use s word) hold none);
              skip = refl;
            }) tt
        by (t ∷ ts) again =
            fails rows (Some (setting_name s, word ∷ [])) idle false words utf8 (λ e. tt)
            (λ none. next_use table rows (setting s) (word ∷ []) word (setting_use s word) hold (ap is_used again) (sym (filled_fault word) ∙ none))

    value_ends : (word : Text) → IsUtf8 word → Ends rules (option_and_then (λ st. read named st words) (value_read table s word)) (standing unfilled waits_for false) (word ∷ words)
    value_ends word text = by (bytes_eq word (codes "--")) refl
      where
        by_short : (q : Option Text) → bytes_eq word (codes "--") ≡ false → long_of word ≡ None → short_of word ≡ q
            → Ends rules (option_and_then (λ st. read named st words) (short_value table s word q)) (standing unfilled waits_for false) (word ∷ words)
        by_short (Some flags) apart is short =
            stops (standing unfilled waits_for false) word words
            (λ none. left_fault (fault_by (bytes_eq word (codes "--")) (long_of word) (short_of word) unfilled) _
            (λ empty. short_stops rows (Some (setting_name s, [])) word flags text short
            (sym (ap₂ (λ (b : Bool) (p : Option (Text × Option Text)). fault_by b p (short_of word) unfilled) apart is) ∙ empty))
            (sym (turn_is unfilled waits_for word) ∙ none))
        by_short None apart is short =
            let step : (short_or_plain rules waits_for word None unfilled) ≡ (held rows (Some (setting_name s, word ∷ [])), next idle) =
            ap (λ (m : Held × Waiting). (m.0, next m.1)) (filled_held word) in
            goes_to (option_and_then (λ st. read named st words) (used_text (setting_name s) word table)) (standing unfilled waits_for false) (standing (held rows (Some (setting_name s, word ∷ []))) idle false) word words
            (turn_is unfilled waits_for word
            ∙ ap₂ (λ (b : Bool) (p : Option (Text × Option Text)). turn_by b p (short_of word) waits_for word unfilled) apart is
            ∙ ap (λ (q : Option Text). turn_by false None q waits_for word unfilled) short
            ∙ ap (λ (m : Held × Step). step_fault (shape rules) 1 m.0 m.1) step)
            (walked_is unfilled waits_for word
            ∙ ap₂ (λ (b : Bool) (p : Option (Text × Option Text)). walk_by b p (short_of word) waits_for word unfilled) apart is
            ∙ ap (λ (q : Option Text). walk_by false None q waits_for word unfilled) short
            ∙ ap (λ (m : Held × Step). after_step rules word (standing unfilled waits_for false) m.0 m.1) step)
            (filled_ends word)

        by_long : (p : Option (Text × Option Text)) → bytes_eq word (codes "--") ≡ false → long_of word ≡ p
            → Ends rules (option_and_then (λ st. read named st words) (other_value table s word p)) (standing unfilled waits_for false) (word ∷ words)
        by_long (Some p) apart is =
            stops (standing unfilled waits_for false) word words
            (λ none. left_fault (fault_by (bytes_eq word (codes "--")) (long_of word) (short_of word) unfilled) _
            (λ empty. settle_first unfilled (arg_by_long rules p.0) p.1 (unsettled rows s known)
            (sym (ap₂ (λ (b : Bool) (p : Option (Text × Option Text)). fault_by b p (short_of word) unfilled) apart is) ∙ empty))
            (sym (turn_is unfilled waits_for word) ∙ none))
        by_long None apart is = by_short (short_of word) apart is refl

        by : (b : Bool) → bytes_eq word (codes "--") ≡ b
            → Ends rules (option_and_then (λ st. read named st words) (cond b None (other_value table s word (long_of word)))) (standing unfilled waits_for false) (word ∷ words)
        by true is =
            goes_to None (standing unfilled waits_for false) (standing unfilled waits_for true) word words
            (turn_is unfilled waits_for word ∙ ap (λ (b : Bool). turn_by b (long_of word) (short_of word) waits_for word unfilled) is)
            (walked_is unfilled waits_for word ∙ ap (λ (b : Bool). walk_by b (long_of word) (short_of word) waits_for word unfilled) is)
            (fails rows (Some (setting_name s, [])) waits_for true words utf8 (λ e. absurd cc) (unsettled rows s known))
        by false apart = by_long (long_of word) apart refl

  -- ---- all words

  settled_ends : (table : Table) (h : Held) (w : Waiting) (t : Bool) → Settles table h → Ends rules (Some table) (standing h w t) []
  unfolding walk_fault
  settled_ends table h w t settles = (settles.fault, settles.rows, refl)

  open_value : (table : Table) (rows : List Row) (s : Setting) → arg_by_id rules (setting_name s) ≡ Some (rule_of (setting s)) → (w : Waiting) (t : Bool)
      → Ends rules None (standing (held rows (Some (setting_name s, []))) w t) []
  unfolding walk_fault
  open_value table rows s known w t = unsettled rows s known

  ends : (words : List Text) → AllUtf8 words → Later words
  ends [] utf8 = record {
    free = λ table rows pending w settles idle. settled_ends table (held rows pending) w false settles;
    valued = λ table rows s known hold. open_value table rows s known (option (setting_name s)) false;
    trailed = λ table rows pending w settles. settled_ends table (held rows pending) w true settles;
  }
  ends (word ∷ words) utf8 = record {
    free = λ table rows pending w settles free. free_ends table rows pending settles words (ends words utf8.1) w word utf8.0 free;
    valued = λ table rows s known hold. value_ends table rows s known hold words utf8.1 (ends words utf8.1) word utf8.0;
    trailed = λ table rows pending w settles. trailed_word table rows pending settles words (ends words utf8.1) w word;
  }

  -- what the whole command finds in the words
  pub command_ends : (words : List Text) → AllUtf8 words → Ends rules (read named (state nothing_held nothing) words) (standing (held [] None) idle false) words
  command_ends words utf8 = (ends words utf8).free nothing_held [] None idle (record { fault = refl; rows = λ i. refl; skip = refl }) tt

-- The reading of texts by their ids is the reading of the definition.
use Rattle.std.proofs.Common.{◌≡◌, ◌∙◌, ℕ, Bool, true, false, cond, List, [], ◌∷◌, ◌++◌, refl, ap, ap₂, sym, subst, append-nil, append_assoc, Option, Some, None, option_and_then, codes, bytes_eq}
use Rattle.std.proofs.lemmas.Slice.Eq.{bytes_eq-Decides}
use Rattle.clap.specs.Lexer.{long_of, short_of}
use Rattle.clap.specs.Walk.{Text}
use Rattle.command_words.specs.declared.types.Program.{Program}
use Rattle.command_words.specs.declared.types.Program.TheVariants as program
use Rattle.command_words.specs.declared.types.Flag.{Flag}
use Rattle.command_words.specs.declared.types.Flag.TheVariants as flag_is
use Rattle.command_words.specs.declared.types.Setting.{Setting}
use Rattle.command_words.specs.declared.types.Setting.TheVariants as setting_is
use Rattle.command_words.specs.Words.{Given, Reads, no_more, names_only, name, option, value_next, value_joined, flag_read, flag_text, has_flag, has_setting, is_plain, most_of, nothing_given, number_up_to, setting_read, setting_text, with_flag, with_names, with_options, with_setting}
use Rattle.command_words.specs.Inside.Found.{setting_name}
use Rattle.command_words.proofs.RowLaws.{Table, is_used, nothing_held, same_text, with_texts}
use Rattle.command_words.proofs.WalkLaws.{Long, State, Waits, end_read, flag, flag_name, free_read, long_read, named_word, names, names_id, nothing, other_read, other_value, read, setting, short_read, short_value, state, true_text, used_text, value, value_read, word_read}
use Rattle.command_words.proofs.LexLaws.{is_other, joined, long_is, number_is_plain, plain_if}
use Rattle.command_words.proofs.ProgramLaws.{named}

-- ---- the options of a program

named_flag : (p : Program) (text : Text) (f : Flag) → named p text ≡ Some (flag f) → (text ≡ flag_name f) × (has_flag p f ≡ true)
named_flag program.Repair text f e = by (bytes_eq (codes "workers") text) (bytes_eq (codes "made") text) (bytes_eq (codes "el-part") text) refl e
  where
    by : (a b c : Bool) → bytes_eq (codes "el-part") text ≡ c → cond a (Some (setting setting_is.Workers)) (cond b (Some (setting setting_is.Made)) (cond c (Some (flag flag_is.ElPart)) None)) ≡ Some (flag f)
        → (text ≡ flag_name f) × (has_flag program.Repair f ≡ true)
    by true b c s e = absurd cc
    by false true c s e = absurd cc
    by false false true s e =
        let same : flag_is.ElPart ≡ f = cc in
        (sym ((bytes_eq-Decides (codes "el-part") text).0 s) ∙ ap flag_name same, ap (has_flag program.Repair) (sym same))
    by false false false s e = absurd cc
named_flag program.Check text f e = by (bytes_eq (codes "refused") text) (bytes_eq (codes "el-part") text) refl refl e
  where
    by : (a b : Bool) → bytes_eq (codes "refused") text ≡ a → bytes_eq (codes "el-part") text ≡ b → cond a (Some (flag flag_is.Refused)) (cond b (Some (flag flag_is.ElPart)) None) ≡ Some (flag f)
        → (text ≡ flag_name f) × (has_flag program.Check f ≡ true)
    by true b s t e =
        let same : flag_is.Refused ≡ f = cc in
        (sym ((bytes_eq-Decides (codes "refused") text).0 s) ∙ ap flag_name same, ap (has_flag program.Check) (sym same))
    by false true s t e =
        let same : flag_is.ElPart ≡ f = cc in
        (sym ((bytes_eq-Decides (codes "el-part") text).0 t) ∙ ap flag_name same, ap (has_flag program.Check) (sym same))
    by false false s t e = absurd cc

named_setting : (p : Program) (text : Text) (s : Setting) → named p text ≡ Some (setting s) → (text ≡ setting_name s) × (has_setting p s ≡ true)
named_setting program.Repair text s e = by (bytes_eq (codes "workers") text) (bytes_eq (codes "made") text) (bytes_eq (codes "el-part") text) refl refl e
  where
    by : (a b c : Bool) → bytes_eq (codes "workers") text ≡ a → bytes_eq (codes "made") text ≡ b
        → cond a (Some (setting setting_is.Workers)) (cond b (Some (setting setting_is.Made)) (cond c (Some (flag flag_is.ElPart)) None)) ≡ Some (setting s)
        → (text ≡ setting_name s) × (has_setting program.Repair s ≡ true)
    by true b c t u e =
        let same : setting_is.Workers ≡ s = cc in
        (sym ((bytes_eq-Decides (codes "workers") text).0 t) ∙ ap setting_name same, refl)
    by false true c t u e =
        let same : setting_is.Made ≡ s = cc in
        (sym ((bytes_eq-Decides (codes "made") text).0 u) ∙ ap setting_name same, refl)
    by false false true t u e = absurd cc
    by false false false t u e = absurd cc
named_setting program.Check text s e = absurd (by (bytes_eq (codes "refused") text) (bytes_eq (codes "el-part") text) e)
  where
    by : (a b : Bool) → cond a (Some (flag flag_is.Refused)) (cond b (Some (flag flag_is.ElPart)) None) ≡ Some (setting s) → ⊥
    by true b e = absurd cc
    by false true e = absurd cc
    by false false e = absurd cc

flag_named : (p : Program) (f : Flag) → has_flag p f ≡ true → named p (flag_name f) ≡ Some (flag f)
flag_named program.Repair flag_is.ElPart has = refl
flag_named program.Repair flag_is.Refused has = absurd cc
flag_named program.Check flag_is.ElPart has = refl
flag_named program.Check flag_is.Refused has = refl

setting_named : (p : Program) (s : Setting) → has_setting p s ≡ true → named p (setting_name s) ≡ Some (setting s)
setting_named program.Repair setting_is.Workers has = refl
setting_named program.Repair setting_is.Made has = refl
setting_named program.Check s has = absurd cc

flag_word : (f : Flag) → codes "--" ++ flag_name f ++ joined None ≡ flag_text f
flag_word flag_is.ElPart = refl
flag_word flag_is.Refused = refl

setting_word : (s : Setting) → codes "--" ++ setting_name s ++ joined None ≡ setting_text s
setting_word setting_is.Workers = refl
setting_word setting_is.Made = refl

joined_word : (s : Setting) (text : Text) → codes "--" ++ setting_name s ++ joined (Some text) ≡ setting_text s ++ codes "=" ++ text
joined_word setting_is.Workers text = refl
joined_word setting_is.Made text = refl

-- ---- what is given, by the texts

-- the value of an option with these texts
abbrev pub ValueIs : Setting → List Text → Option ℕ → Type 0
ValueIs s [] None = Unit {0}
ValueIs s [] (Some n) = ⊥
ValueIs s (t ∷ ts) None = ⊥
ValueIs s (t ∷ ts) (Some n) = number_up_to (most_of s) t ≡ Some n

pub record Stands (table : Table) (given : Given) : Type 0 where
  pub flags : (f : Flag) → table (flag_name f) ≡ cond (flag_read f given.options) (true_text ∷ []) []
  pub settings : (s : Setting) → ValueIs s (table (setting_name s)) (setting_read s given.options)
  pub names : table names_id ≡ given.names

pub nothing_stands : Stands nothing_held nothing_given
nothing_stands = record { flags = no_flag; settings = no_value; names = refl }
  where
    no_flag : (f : Flag) → [] ≡ cond (flag_read f nothing_given.options) (true_text ∷ []) []
    no_flag flag_is.ElPart = refl
    no_flag flag_is.Refused = refl

    no_value : (s : Setting) → ValueIs s [] (setting_read s nothing_given.options)
    no_value setting_is.Workers = tt
    no_value setting_is.Made = tt

module _ (table : Table) (given : Given) (stands : Stands table given) where
  name_stands : (word : Text) → Stands (with_texts names_id (word ∷ []) table) (with_names (word ∷ []) given)
  name_stands word = record { flags = flags; settings = settings; names = ap (λ (ns : List Text). ns ++ word ∷ []) stands.names }
    where
      flags : (f : Flag) → with_texts names_id (word ∷ []) table (flag_name f) ≡ cond (flag_read f given.options) (true_text ∷ []) []
      flags flag_is.ElPart = stands.flags flag_is.ElPart
      flags flag_is.Refused = stands.flags flag_is.Refused

      settings : (s : Setting) → ValueIs s (with_texts names_id (word ∷ []) table (setting_name s)) (setting_read s given.options)
      settings setting_is.Workers = stands.settings setting_is.Workers
      settings setting_is.Made = stands.settings setting_is.Made

  flag_stands : (f : Flag) → table (flag_name f) ≡ [] → Stands (with_texts (flag_name f) (true_text ∷ []) table) (with_options (with_flag f given.options) given)
  flag_stands flag_is.ElPart none = record { flags = flags; settings = settings; names = stands.names }
    where
      flags : (f : Flag) → with_texts (codes "el-part") (true_text ∷ []) table (flag_name f) ≡ cond (flag_read f (with_flag flag_is.ElPart given.options)) (true_text ∷ []) []
      flags flag_is.ElPart = ap (λ (ts : List Text). ts ++ true_text ∷ []) none
      flags flag_is.Refused = stands.flags flag_is.Refused

      settings : (s : Setting) → ValueIs s (with_texts (codes "el-part") (true_text ∷ []) table (setting_name s)) (setting_read s (with_flag flag_is.ElPart given.options))
      settings setting_is.Workers = stands.settings setting_is.Workers
      settings setting_is.Made = stands.settings setting_is.Made
  flag_stands flag_is.Refused none = record { flags = flags; settings = settings; names = stands.names }
    where
      flags : (f : Flag) → with_texts (codes "refused") (true_text ∷ []) table (flag_name f) ≡ cond (flag_read f (with_flag flag_is.Refused given.options)) (true_text ∷ []) []
      flags flag_is.ElPart = stands.flags flag_is.ElPart
      flags flag_is.Refused = ap (λ (ts : List Text). ts ++ true_text ∷ []) none

      settings : (s : Setting) → ValueIs s (with_texts (codes "refused") (true_text ∷ []) table (setting_name s)) (setting_read s (with_flag flag_is.Refused given.options))
      settings setting_is.Workers = stands.settings setting_is.Workers
      settings setting_is.Made = stands.settings setting_is.Made

  value_stands : (s : Setting) (text : Text) (n : ℕ) → table (setting_name s) ≡ [] → number_up_to (most_of s) text ≡ Some n
      → Stands (with_texts (setting_name s) (text ∷ []) table) (with_options (with_setting s n given.options) given)
  value_stands setting_is.Workers text n none number = record { flags = flags; settings = settings; names = stands.names }
    where
      flags : (f : Flag) → with_texts (codes "workers") (text ∷ []) table (flag_name f) ≡ cond (flag_read f (with_setting setting_is.Workers n given.options)) (true_text ∷ []) []
      flags flag_is.ElPart = stands.flags flag_is.ElPart
      flags flag_is.Refused = stands.flags flag_is.Refused

      settings : (s : Setting) → ValueIs s (with_texts (codes "workers") (text ∷ []) table (setting_name s)) (setting_read s (with_setting setting_is.Workers n given.options))
      settings setting_is.Workers = subst (λ (ts : List Text). ValueIs setting_is.Workers (ts ++ text ∷ []) (Some n)) (sym none) number
      settings setting_is.Made = stands.settings setting_is.Made
  value_stands setting_is.Made text n none number = record { flags = flags; settings = settings; names = stands.names }
    where
      flags : (f : Flag) → with_texts (codes "made") (text ∷ []) table (flag_name f) ≡ cond (flag_read f (with_setting setting_is.Made n given.options)) (true_text ∷ []) []
      flags flag_is.ElPart = stands.flags flag_is.ElPart
      flags flag_is.Refused = stands.flags flag_is.Refused

      settings : (s : Setting) → ValueIs s (with_texts (codes "made") (text ∷ []) table (setting_name s)) (setting_read s (with_setting setting_is.Made n given.options))
      settings setting_is.Workers = stands.settings setting_is.Workers
      settings setting_is.Made = subst (λ (ts : List Text). ValueIs setting_is.Made (ts ++ text ∷ []) (Some n)) (sym none) number

  -- an option that was not read has no text, and the other way round
  fresh_flag : (f : Flag) → flag_read f given.options ≡ false → table (flag_name f) ≡ []
  fresh_flag f fresh = stands.flags f ∙ ap (λ (b : Bool). cond b (true_text ∷ []) []) fresh

  flag_fresh : (f : Flag) → table (flag_name f) ≡ [] → flag_read f given.options ≡ false
  flag_fresh f none = by (flag_read f given.options) (sym (stands.flags f) ∙ none)
    where
      by : (b : Bool) → cond b (true_text ∷ []) [] ≡ [] → b ≡ false
      by true e = absurd cc
      by false e = refl

  fresh_value : (s : Setting) → setting_read s given.options ≡ None → table (setting_name s) ≡ []
  fresh_value s fresh = by (table (setting_name s)) (subst (ValueIs s (table (setting_name s))) fresh (stands.settings s))
    where
      by : (ts : List Text) → ValueIs s ts None → ts ≡ []
      by [] v = refl
      by (t ∷ ts) v = absurd v

  value_fresh : (s : Setting) → table (setting_name s) ≡ [] → setting_read s given.options ≡ None
  value_fresh s none = by (setting_read s given.options) (subst (λ (ts : List Text). ValueIs s ts (setting_read s given.options)) none (stands.settings s))
    where
      by : (o : Option ℕ) → ValueIs s [] o → o ≡ None
      by None v = refl
      by (Some n) v = absurd v

-- these options and names
abbrev with_all : Given → List Text → Given
with_all given ns = record { options = given.options; names = ns }

used_fresh : (id text : Text) (table : Table) → table id ≡ [] → used_text id text table ≡ Some (state (with_texts id (text ∷ []) table) nothing)
used_fresh id text table none = ap (λ (ts : List Text). cond (is_used ts) None (Some (state (with_texts id (text ∷ []) table) nothing))) none

-- the first text of an option is a number
abbrev pub Fits : Setting → List Text → Type 0
Fits s [] = Unit {0}
Fits s (t ∷ ts) = (n : ℕ) × (number_up_to (most_of s) t ≡ Some n)

abbrev pub HasNumbers : Table → Type 0
HasNumbers table = (s : Setting) → Fits s (table (setting_name s))

module _ (p : Program) where
  abbrev pub reads : State → List Text → Option Table
  reads = read (named p)

  abbrev after_word : List Text → Option State → Option Table
  after_word words o = option_and_then (λ st. reads st words) o

  -- ---- what the definition reads is read

  pub record Reaches (st : State) (words : List Text) (last : Given) : Type 0 where
    pub after : Table
    pub is : reads st words ≡ Some after
    pub stands : Stands after last

  -- after words that lead to another state
  goes : (st next : State) (word : Text) (words : List Text) (last : Given) → word_read (named p) st word ≡ Some next → Reaches next words last → Reaches st (word ∷ words) last
  goes st next word words last e r = record { after = r.after; is = ap (after_word words) e ∙ r.is; stands = r.stands }

  names_reached : (words : List Text) (table : Table) (given : Given) → Stands table given → Reaches (state table names) words (with_names words given)
  names_reached [] table given stands = record {
    after = table;
    is = refl;
    stands = subst (Stands table) (ap (with_all given) (sym (append-nil given.names))) stands;
  }
  names_reached (word ∷ words) table given stands =
      let r = names_reached words (with_texts names_id (word ∷ []) table) (with_names (word ∷ []) given) (name_stands table given stands word) in
      record { after = r.after; is = r.is; stands = subst (Stands r.after) (ap (with_all given) (append_assoc given.names (word ∷ []) words)) r.stands }

  name_read : (table : Table) (word : Text) → is_plain word ≡ true → free_read (named p) table word ≡ Some (named_word table word)
  name_read table word plain =
      let other = is_other word plain in
      ap₂ (λ (b : Bool) (o : Option (Text × Option Text)). cond b (Some (state table names)) (other_read (named p) table word o)) other.0 other.1
      ∙ ap (short_read table word) other.2

  value_is_read : (table : Table) (s : Setting) (word : Text) → is_plain word ≡ true → value_read table s word ≡ used_text (setting_name s) word table
  value_is_read table s word plain =
      let other = is_other word plain in
      ap₂ (λ (b : Bool) (o : Option (Text × Option Text)). cond b None (other_value table s word o)) other.0 other.1
      ∙ ap (short_value table s word) other.2

  flag_free : (table : Table) (f : Flag) → free_read (named p) table (flag_text f) ≡ long_read table (named p (flag_name f)) None
  flag_free table flag_is.ElPart = refl
  flag_free table flag_is.Refused = refl

  setting_free : (table : Table) (s : Setting) → free_read (named p) table (setting_text s) ≡ long_read table (named p (setting_name s)) None
  setting_free table setting_is.Workers = refl
  setting_free table setting_is.Made = refl

  joined_free : (table : Table) (s : Setting) (text : Text) → free_read (named p) table (setting_text s ++ codes "=" ++ text) ≡ long_read table (named p (setting_name s)) (Some text)
  joined_free table setting_is.Workers text = refl
  joined_free table setting_is.Made text = refl

  pub complete : (given last : Given) (words : List Text) → Reads p given words last → (table : Table) → Stands table given → Reaches (state table nothing) words last
  complete _ _ _ (no_more given) table stands = record { after = table; is = refl; stands = stands }
  complete _ _ _ (names_only given words) table stands = goes (state table nothing) (state table names) (codes "--") words (with_names words given) refl (names_reached words table given stands)
  complete _ _ _ (name given last word words plain rest) table stands =
      goes (state table nothing) (named_word table word) word words last (name_read table word plain)
      (complete (with_names (word ∷ []) given) last words rest (with_texts names_id (word ∷ []) table) (name_stands table given stands word))
  complete _ _ _ (option given last f words has fresh rest) table stands =
      let none = fresh_flag table given stands f fresh in
      goes (state table nothing) (state (with_texts (flag_name f) (true_text ∷ []) table) nothing) (flag_text f) words last
      (flag_free table f ∙ ap (λ (o : Option Long). long_read table o None) (flag_named p f has) ∙ used_fresh (flag_name f) true_text table none)
      (complete (with_options (with_flag f given.options) given) last words rest (with_texts (flag_name f) (true_text ∷ []) table) (flag_stands table given stands f none))
  complete _ _ _ (value_next given last s word n words has fresh number rest) table stands =
      let none = fresh_value table given stands s fresh in
      goes (state table nothing) (state table (value s)) (setting_text s) (word ∷ words) last
      (setting_free table s ∙ ap (λ (o : Option Long). long_read table o None) (setting_named p s has))
      (goes (state table (value s)) (state (with_texts (setting_name s) (word ∷ []) table) nothing) word words last
      (value_is_read table s word (number_is_plain (most_of s) n word number) ∙ used_fresh (setting_name s) word table none)
      (complete (with_options (with_setting s n given.options) given) last words rest (with_texts (setting_name s) (word ∷ []) table) (value_stands table given stands s word n none number)))
  complete _ _ _ (value_joined given last s text n words has fresh number rest) table stands =
      let none = fresh_value table given stands s fresh in
      goes (state table nothing) (state (with_texts (setting_name s) (text ∷ []) table) nothing) (setting_text s ++ codes "=" ++ text) words last
      (joined_free table s text ∙ ap (λ (o : Option Long). long_read table o (Some text)) (setting_named p s has) ∙ used_fresh (setting_name s) text table none)
      (complete (with_options (with_setting s n given.options) given) last words rest (with_texts (setting_name s) (text ∷ []) table) (value_stands table given stands s text n none number))

  -- ---- what is read stands in the definition

  -- the first text of an id stays
  abbrev First : Table → Text → Text → Type 0
  First table id t = (ts : List Text) × (table id ≡ t ∷ ts)

  first_more : (table : Table) (i t id text : Text) → First table i t → First (with_texts id (text ∷ []) table) i t
  first_more table i t id text first = by (bytes_eq id i)
    where
      by : (b : Bool) → (ts : List Text) × (cond b (table i ++ text ∷ []) (table i) ≡ t ∷ ts)
      by true = (first.0 ++ text ∷ [], ap (λ (ts : List Text). ts ++ text ∷ []) first.1)
      by false = first

  abbrev Stays : Text → Text → Option State → Type 0
  Stays i t None = Unit {0}
  Stays i t (Some next) = First next.table i t

  module _ (table : Table) (i t : Text) (first : First table i t) where
    used_stays : (id text : Text) → Stays i t (used_text id text table)
    used_stays id text = by (is_used (table id))
      where
        by : (b : Bool) → Stays i t (cond b None (Some (state (with_texts id (text ∷ []) table) nothing)))
        by true = tt
        by false = first_more table i t id text first

    long_stays : (o : Option Long) (v : Option Text) → Stays i t (long_read table o v)
    long_stays None v = tt
    long_stays (Some (flag f)) None = used_stays (flag_name f) true_text
    long_stays (Some (flag f)) (Some v) = tt
    long_stays (Some (setting s)) None = first
    long_stays (Some (setting s)) (Some v) = used_stays (setting_name s) v

    other_stays : (word : Text) (o : Option (Text × Option Text)) → Stays i t (other_read (named p) table word o)
    other_stays word (Some q) = long_stays (named p q.0) q.1
    other_stays word None = by (short_of word)
      where
        by : (q : Option Text) → Stays i t (short_read table word q)
        by (Some flags) = tt
        by None = first_more table i t names_id word first

    value_stays : (s : Setting) (word : Text) (o : Option (Text × Option Text)) → Stays i t (other_value table s word o)
    value_stays s word (Some q) = tt
    value_stays s word None = by (short_of word)
      where
        by : (q : Option Text) → Stays i t (short_value table s word q)
        by (Some flags) = tt
        by None = used_stays (setting_name s) word

    word_stays : (w : Waits) (word : Text) → Stays i t (word_read (named p) (state table w) word)
    word_stays nothing word = by (bytes_eq word (codes "--"))
      where
        by : (b : Bool) → Stays i t (cond b (Some (state table names)) (other_read (named p) table word (long_of word)))
        by true = first
        by false = other_stays word (long_of word)
    word_stays (value s) word = by (bytes_eq word (codes "--"))
      where
        by : (b : Bool) → Stays i t (cond b None (other_value table s word (long_of word)))
        by true = tt
        by false = value_stays s word (long_of word)
    word_stays names word = first_more table i t names_id word first

  -- a table that is left
  abbrev FirstLeft : Text → Text → Option Table → Type 0
  FirstLeft i t None = Unit {0}
  FirstLeft i t (Some table) = First table i t

  first_stays : (words : List Text) (st : State) (after : Table) (i t : Text) → First st.table i t → reads st words ≡ Some after → First after i t
  first_stays [] st after i t first e = by st.waits e
    where
      by : (w : Waits) → end_read st.table w ≡ Some after → First after i t
      by nothing e = subst (FirstLeft i t) e first
      by (value s) e = absurd cc
      by names e = subst (FirstLeft i t) e first
  first_stays (word ∷ words) st after i t first e =
      by (word_read (named p) st word) (word_stays st.table i t first st.waits word) e (λ next stays e. first_stays words next after i t stays e)
    where
      by : (o : Option State) → Stays i t o → after_word words o ≡ Some after → ((next : State) → First next.table i t → reads next words ≡ Some after → First after i t) → First after i t
      by None stays e later = absurd cc
      by (Some next) stays e later = later next stays e

  -- the definition goes on from here; an option whose value waits stands before the words
  abbrev pub Continues : Waits → Given → List Text → Given → Type 0
  Continues nothing given words last = Reads p given words last
  Continues (value s) given words last = has_setting p s ≡ true → Reads p given (setting_text s ∷ words) last
  Continues names given words last = last ≡ with_names words given

  pub record Sounds (w : Waits) (given : Given) (words : List Text) (after : Table) : Type 0 where
    pub last : Given
    pub goes_on : Continues w given words last
    pub stands : Stands after last

  module _ (after : Table) (numbers : HasNumbers after) (word : Text) (words : List Text)
      (later : (table : Table) (w : Waits) (given : Given) → reads (state table w) words ≡ Some after → Stands table given → Sounds w given words after) where
    -- a value, which stands for the first time
    record HasValue (table : Table) (given : Given) (s : Setting) (text : Text) : Type 0 where
      n : ℕ
      fresh : setting_read s given.options ≡ None
      number : number_up_to (most_of s) text ≡ Some n
      rest : Sounds nothing (with_options (with_setting s n given.options) given) words after

    has_value : (table : Table) (given : Given) (s : Setting) (text : Text) → Stands table given → after_word words (used_text (setting_name s) text table) ≡ Some after → HasValue table given s text
    has_value table given s text stands e = by (table (setting_name s)) refl e
      where
        more : Table
        more = with_texts (setting_name s) (text ∷ []) table

        fit : (ts : List Text) → Fits s ts → (t : Text) → (us : List Text) × (ts ≡ t ∷ us) → (n : ℕ) × (number_up_to (most_of s) t ≡ Some n)
        fit ts fits t is = subst (Fits s) is.1 fits

        by : (ts : List Text) → table (setting_name s) ≡ ts → after_word words (cond (is_used ts) None (Some (state more nothing))) ≡ Some after → HasValue table given s text
        by (t ∷ ts) again e = absurd cc
        by [] none e =
            let own : First more (setting_name s) text =
            ([], ap₂ (λ (b : Bool) (ts : List Text). cond b (ts ++ text ∷ []) ts) (same_text (setting_name s)) none) in
            let stays = first_stays words (state more nothing) after (setting_name s) text own e in
            let is = fit (after (setting_name s)) (numbers s) text stays in
            record {
              n = is.0;
              fresh = value_fresh table given stands s none;
              number = is.1;
              rest = later more nothing (with_options (with_setting s is.0 given.options) given) e (value_stands table given stands s text is.0 none is.1);
            }

    long_sounds : (table : Table) (given : Given) → Stands table given → (text : Text) (v : Option Text) → long_of word ≡ Some (text, v)
        → (o : Option Long) → named p text ≡ o → after_word words (long_read table o v) ≡ Some after → Sounds nothing given (word ∷ words) after
    long_sounds table given stands text v is None e r = absurd cc
    long_sounds table given stands text (Some v) is (Some (flag f)) e r = absurd cc
    long_sounds table given stands text None is (Some (flag f)) e r = by (table (flag_name f)) refl r
      where
        more : Table
        more = with_texts (flag_name f) (true_text ∷ []) table

        known : (text ≡ flag_name f) × (has_flag p f ≡ true)
        known = named_flag p text f e

        same : flag_text f ≡ word
        same = sym (long_is word text None is ∙ ap (λ (t : Text). codes "--" ++ t ++ joined None) known.0 ∙ flag_word f)

        by : (ts : List Text) → table (flag_name f) ≡ ts → after_word words (cond (is_used ts) None (Some (state more nothing))) ≡ Some after → Sounds nothing given (word ∷ words) after
        by (t ∷ ts) again r = absurd cc
        by [] none r =
            let rest = later more nothing (with_options (with_flag f given.options) given) r (flag_stands table given stands f none) in
            record {
              last = rest.last;
              goes_on = subst (λ (w : Text). Reads p given (w ∷ words) rest.last) same (option given rest.last f words known.1 (flag_fresh table given stands f none) rest.goes_on);
              stands = rest.stands;
            }
    long_sounds table given stands text None is (Some (setting s)) e r =
        let known = named_setting p text s e in
        let same = sym (long_is word text None is ∙ ap (λ (t : Text). codes "--" ++ t ++ joined None) known.0 ∙ setting_word s) in
        let rest = later table (value s) given r stands in
        record { last = rest.last; goes_on = subst (λ (w : Text). Reads p given (w ∷ words) rest.last) same (rest.goes_on known.1); stands = rest.stands }
    long_sounds table given stands text (Some v) is (Some (setting s)) e r =
        let known = named_setting p text s e in
        let same = sym (long_is word text (Some v) is ∙ ap (λ (t : Text). codes "--" ++ t ++ joined (Some v)) known.0 ∙ joined_word s v) in
        let h = has_value table given s v stands r in
        record {
          last = h.rest.last;
          goes_on = subst (λ (w : Text). Reads p given (w ∷ words) h.rest.last) same (value_joined given h.rest.last s v h.n words known.1 h.fresh h.number h.rest.goes_on);
          stands = h.rest.stands;
        }

    free_sounds : (table : Table) (given : Given) → Stands table given → after_word words (free_read (named p) table word) ≡ Some after → Sounds nothing given (word ∷ words) after
    free_sounds table given stands r = by (bytes_eq word (codes "--")) refl r
      where
        by_short : (q : Option Text) → short_of word ≡ q → bytes_eq word (codes "--") ≡ false → long_of word ≡ None → after_word words (short_read table word q) ≡ Some after
            → Sounds nothing given (word ∷ words) after
        by_short (Some flags) short apart is r = absurd cc
        by_short None short apart is r =
            let rest = later (with_texts names_id (word ∷ []) table) nothing (with_names (word ∷ []) given) r (name_stands table given stands word) in
            record { last = rest.last; goes_on = name given rest.last word words (plain_if word apart is short) rest.goes_on; stands = rest.stands }

        by_long : (o : Option (Text × Option Text)) → long_of word ≡ o → bytes_eq word (codes "--") ≡ false → after_word words (other_read (named p) table word o) ≡ Some after
            → Sounds nothing given (word ∷ words) after
        by_long (Some q) is apart r = long_sounds table given stands q.0 q.1 is (named p q.0) refl r
        by_long None is apart r = by_short (short_of word) refl apart is r

        by : (b : Bool) → bytes_eq word (codes "--") ≡ b → after_word words (cond b (Some (state table names)) (other_read (named p) table word (long_of word))) ≡ Some after
            → Sounds nothing given (word ∷ words) after
        by true is r =
            let rest = later table names given r stands in
            let end : Reads p given (codes "--" ∷ words) rest.last = subst (Reads p given (codes "--" ∷ words)) (sym rest.goes_on) (names_only given words) in
            record { last = rest.last; goes_on = subst (λ (w : Text). Reads p given (w ∷ words) rest.last) (sym ((bytes_eq-Decides word (codes "--")).0 is)) end; stands = rest.stands }
        by false apart r = by_long (long_of word) refl apart r

    value_sounds : (table : Table) (given : Given) (s : Setting) → Stands table given → after_word words (value_read table s word) ≡ Some after → Sounds (value s) given (word ∷ words) after
    value_sounds table given s stands r = by (bytes_eq word (codes "--")) r
      where
        by_short : (q : Option Text) → after_word words (short_value table s word q) ≡ Some after → Sounds (value s) given (word ∷ words) after
        by_short (Some flags) r = absurd cc
        by_short None r =
            let h = has_value table given s word stands r in
            record {
              last = h.rest.last;
              goes_on = λ has. value_next given h.rest.last s word h.n words has h.fresh h.number h.rest.goes_on;
              stands = h.rest.stands;
            }

        by_long : (o : Option (Text × Option Text)) → after_word words (other_value table s word o) ≡ Some after → Sounds (value s) given (word ∷ words) after
        by_long (Some q) r = absurd cc
        by_long None r = by_short (short_of word) r

        by : (b : Bool) → after_word words (cond b None (other_value table s word (long_of word))) ≡ Some after → Sounds (value s) given (word ∷ words) after
        by true r = absurd cc
        by false r = by_long (long_of word) r

    names_sound : (table : Table) (given : Given) → Stands table given → reads (state (with_texts names_id (word ∷ []) table) names) words ≡ Some after → Sounds names given (word ∷ words) after
    names_sound table given stands r =
        let rest = later (with_texts names_id (word ∷ []) table) names (with_names (word ∷ []) given) r (name_stands table given stands word) in
        record { last = rest.last; goes_on = rest.goes_on ∙ ap (with_all given) (append_assoc given.names (word ∷ []) words); stands = rest.stands }

    word_sounds : (table : Table) (w : Waits) (given : Given) → reads (state table w) (word ∷ words) ≡ Some after → Stands table given → Sounds w given (word ∷ words) after
    word_sounds table nothing given r stands = free_sounds table given stands r
    word_sounds table (value s) given r stands = value_sounds table given s stands r
    word_sounds table names given r stands = names_sound table given stands r

  abbrev StandsLeft : Given → Option Table → Type 0
  StandsLeft given None = Unit {0}
  StandsLeft given (Some table) = Stands table given

  pub sound : (words : List Text) (after : Table) → HasNumbers after → (table : Table) (w : Waits) (given : Given) → reads (state table w) words ≡ Some after → Stands table given → Sounds w given words after
  sound [] after numbers table nothing given r stands = record { last = given; goes_on = no_more given; stands = subst (StandsLeft given) r stands }
  sound [] after numbers table (value s) given r stands = absurd cc
  sound [] after numbers table names given r stands =
      record { last = given; goes_on = ap (with_all given) (sym (append-nil given.names)); stands = subst (StandsLeft given) r stands }
  sound (word ∷ words) after numbers table w given r stands =
      word_sounds after numbers word words (λ table w given r stands. sound words after numbers table w given r stands) table w given r stands

-- ---- words have one reading at most

module _ (table : Table) (first second : Given) (a : Stands table first) (b : Stands table second) where
  one_flag : (f : Flag) → flag_read f first.options ≡ flag_read f second.options
  one_flag f = by (flag_read f first.options) (flag_read f second.options) (sym (a.flags f) ∙ b.flags f)
    where
      by : (x y : Bool) → cond x (true_text ∷ []) [] ≡ cond y (true_text ∷ []) [] → x ≡ y
      by true true e = refl
      by true false e = absurd cc
      by false true e = absurd cc
      by false false e = refl

  one_value : (s : Setting) → setting_read s first.options ≡ setting_read s second.options
  one_value s = by (table (setting_name s)) (setting_read s first.options) (setting_read s second.options) (a.settings s) (b.settings s)
    where
      by : (ts : List Text) (x y : Option ℕ) → ValueIs s ts x → ValueIs s ts y → x ≡ y
      by [] None None v w = refl
      by [] None (Some m) v w = absurd w
      by [] (Some n) y v w = absurd v
      by (t ∷ ts) None y v w = absurd v
      by (t ∷ ts) (Some n) None v w = absurd w
      by (t ∷ ts) (Some n) (Some m) v w = sym v ∙ w

  one_given : first ≡ second
  one_given = λ i. record {
    options = record {
      el_part = one_flag flag_is.ElPart i;
      refused = one_flag flag_is.Refused i;
      workers = one_value setting_is.Workers i;
      made = one_value setting_is.Made i;
    };
    names = (sym a.names ∙ b.names) i;
  }

pub one_reading : (p : Program) (words : List Text) (first second : Given) → Reads p nothing_given words first → Reads p nothing_given words second → first ≡ second
one_reading p words first second a b =
    let x = complete p nothing_given first words a nothing_held nothing_stands in
    let y = complete p nothing_given second words b nothing_held nothing_stands in
    let same : Some x.after ≡ Some y.after = sym x.is ∙ y.is in
    one_given y.after first second (subst (StandsLeft p first) same x.stands) y.stands

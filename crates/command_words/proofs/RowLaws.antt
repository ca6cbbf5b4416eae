-- The texts that rows hold, by the ids of the rows.
use Rattle.std.proofs.Common.{◌≡◌, ◌∙◌, Bool, true, false, cond, List, [], ◌∷◌, ◌++◌, refl, ap, subst, Option, Some, None, option_map, option_and_then, unwrap_or, is_some, bytes_eq}
use Rattle.std.specs.Prelude.{find, slice_get}
use Rattle.std.proofs.lemmas.Slice.Eq.{bytes_eq-Decides}
use Rattle.clap.specs.Walk.{Row, Text, all_of, first_of, has_row, one_of, row_text, with_values, without}
use Rattle.clap.specs.Values.{read_as}
use Rattle.clap.specs.declared.builder.value_parser.Reading.{Reading}
use Rattle.clap.specs.declared.parser.matches.ValueSource.{ValueSource}

-- texts by ids
abbrev pub Table : Type 0
Table = Text → List Text

abbrev pub nothing_held : Table
nothing_held id = []

-- the table with more texts of one id
abbrev pub with_texts : Text → List Text → Table → Table
with_texts id texts table i = cond (bytes_eq id i) (table i ++ texts) (table i)

-- no texts, or these
abbrev pub some_if_any : List Text → Option (List Text)
some_if_any [] = None
some_if_any (t ∷ ts) = Some (t ∷ ts)

-- there are texts
abbrev pub is_used : List Text → Bool
is_used [] = false
is_used (t ∷ ts) = true

-- the rows hold the texts of the table
abbrev pub Hold : Table → List Row → Type 0
Hold table rows = (i : Text) → all_of i rows ≡ some_if_any (table i)

pub same_text : (id : Text) → bytes_eq id id ≡ true
same_text id = (bytes_eq-Decides id id).1 refl

any_more : (ts : List Text) (v : Text) (vs : List Text) → Some (unwrap_or (some_if_any ts) [] ++ v ∷ vs) ≡ some_if_any (ts ++ v ∷ vs)
any_more [] v vs = refl
any_more (t ∷ ts) v vs = refl

module _ (id : Text) (how : Reading) (source : ValueSource) (vs : List Text) where
  abbrev changed : List Row → List Row
  changed rows = with_values id how source vs rows

  -- the rows of other ids stay
  other_row : (i : Text) (rows : List Row) → bytes_eq id i ≡ false → all_of i (changed rows) ≡ all_of i rows
  other_row i [] e = rw e refl
  other_row i (r ∷ rs) e = by (bytes_eq r.id id) refl (other_row i rs e)
    where
      next : (b : Bool) → bytes_eq r.id i ≡ b → all_of i (changed rs) ≡ all_of i rs → all_of i (r ∷ changed rs) ≡ all_of i (r ∷ rs)
      next true t later = rw t refl
      next false t later = rw t later

      by : (b : Bool) → bytes_eq r.id id ≡ b → all_of i (changed rs) ≡ all_of i rs → all_of i (changed (r ∷ rs)) ≡ all_of i (r ∷ rs)
      by true t later =
          let no : bytes_eq r.id i ≡ false = ap (λ (x : Text). bytes_eq x i) ((bytes_eq-Decides r.id id).0 t) ∙ e in
          rw (t, no) refl
      by false t later = rw t (next (bytes_eq r.id i) refl later)

  -- the row of the id has these texts more
  own_row : (rows : List Row) → all_of id (changed rows) ≡ Some (unwrap_or (all_of id rows) [] ++ vs)
  own_row [] = rw (same_text id) refl
  own_row (r ∷ rs) = by (bytes_eq r.id id) refl (own_row rs)
    where
      by : (b : Bool) → bytes_eq r.id id ≡ b → all_of id (changed rs) ≡ Some (unwrap_or (all_of id rs) [] ++ vs)
          → all_of id (changed (r ∷ rs)) ≡ Some (unwrap_or (all_of id (r ∷ rs)) [] ++ vs)
      by true t later = rw t (rw t refl)
      by false t later = rw t (rw t later)

pub more_held : (table : Table) (rows : List Row) (id : Text) (how : Reading) (source : ValueSource) (v : Text) (vs : List Text) → Hold table rows
    → Hold (with_texts id (v ∷ vs) table) (with_values id how source (v ∷ vs) rows)
more_held table rows id how source v vs hold i = by (bytes_eq id i) refl
  where
    by : (b : Bool) → bytes_eq id i ≡ b → all_of i (with_values id how source (v ∷ vs) rows) ≡ some_if_any (cond b (table i ++ v ∷ vs) (table i))
    by true t =
        let same : id ≡ i = (bytes_eq-Decides id i).0 t in
        subst (λ (x : Text). all_of x (with_values id how source (v ∷ vs) rows) ≡ some_if_any (table x ++ v ∷ vs)) same
        (own_row id how source (v ∷ vs) rows
        ∙ ap (λ (o : Option (List Text)). Some (unwrap_or o [] ++ v ∷ vs)) (hold id)
        ∙ any_more (table id) v vs)
    by false t = other_row id how source (v ∷ vs) i rows t ∙ hold i

-- an id without texts has no row
pub without_none : (id : Text) (rows : List Row) → all_of id rows ≡ None → without id rows ≡ rows
without_none id [] e = refl
without_none id (r ∷ rs) e = by (bytes_eq r.id id) refl e (without_none id rs)
  where
    by : (b : Bool) → bytes_eq r.id id ≡ b → option_map (λ (x : Row). x.values) (cond b (Some r) (find (λ (x : Row). bytes_eq x.id id) rs)) ≡ None
        → (all_of id rs ≡ None → without id rs ≡ rs) → without id (r ∷ rs) ≡ r ∷ rs
    by true t none later = absurd cc
    by false t none later = rw t (ap (λ (xs : List Row). r ∷ xs) (later none))

has_row_is : (id : Text) (rows : List Row) → has_row id rows ≡ is_some (all_of id rows)
has_row_is id [] = refl
has_row_is id (r ∷ rs) = by (bytes_eq r.id id) refl (has_row_is id rs)
  where
    by : (b : Bool) → bytes_eq r.id id ≡ b → has_row id rs ≡ is_some (all_of id rs) → has_row id (r ∷ rs) ≡ is_some (all_of id (r ∷ rs))
    by true t later = rw t refl
    by false t later = rw t later

pub row_held : (table : Table) (rows : List Row) (id : Text) → Hold table rows → has_row id rows ≡ is_used (table id)
row_held table rows id hold = has_row_is id rows ∙ ap (λ (o : Option (List Text)). is_some o) (hold id) ∙ by (table id)
  where
    by : (ts : List Text) → is_some (some_if_any ts) ≡ is_used ts
    by [] = refl
    by (t ∷ ts) = refl

-- ---- what is read of them

pub first_held : (table : Table) (rows : List Row) (id : Text) → Hold table rows → first_of id rows ≡ slice_get (table id) 0
first_held table rows id hold = row (find (λ (r : Row). bytes_eq r.id id) rows) ∙ ap (option_and_then (λ (vs : List Text). slice_get vs 0)) (hold id) ∙ first (table id)
  where
    row : (o : Option Row) → option_and_then (λ (r : Row). slice_get r.values 0) o ≡ option_and_then (λ (vs : List Text). slice_get vs 0) (option_map (λ (r : Row). r.values) o)
    row None = refl
    row (Some r) = refl

    first : (ts : List Text) → option_and_then (λ (vs : List Text). slice_get vs 0) (some_if_any ts) ≡ slice_get ts 0
    first [] = refl
    first (t ∷ ts) = refl

pub none_held : (table : Table) (rows : List Row) (id : Text) → Hold table rows → table id ≡ [] → one_of id rows ≡ None
none_held table rows id hold none = by (find (λ (r : Row). bytes_eq r.id id) rows) (hold id ∙ ap some_if_any none)
  where
    by : (o : Option Row) → option_map (λ (r : Row). r.values) o ≡ None → option_and_then row_text o ≡ None
    by None e = refl
    by (Some r) e = absurd cc

-- a text that each parser reads as it is written
pub one_held : (table : Table) (rows : List Row) (id text : Text) (ts : List Text) → ((how : Reading) → read_as how text ≡ text) → Hold table rows
    → table id ≡ text ∷ ts → one_of id rows ≡ Some text
one_held table rows id text ts written hold one = by (find (λ (r : Row). bytes_eq r.id id) rows) (hold id ∙ ap some_if_any one)
  where
    by : (o : Option Row) → option_map (λ (r : Row). r.values) o ≡ Some (text ∷ ts) → option_and_then row_text o ≡ Some text
    by None e = absurd cc
    by (Some r) e =
        let same : r.values ≡ text ∷ ts = cc in
        ap (λ (vs : List Text). option_map (read_as r.reading) (slice_get vs 0)) same ∙ ap (λ (t : Text). Some t) (written r.reading)

-- How a header is read, line by line.
use Rattle.std.specs.Prelude.{ℕ, ◌+◌, ◌==◌, nat_le, Bool, true, false, not, ◌&&◌, if◌then◌else◌, List, [], ◌∷◌, take, drop, bytes_eq, Option, Some, None, Result, Ok, Err}
use Rattle.std.specs.List.{prefix_len}
use Rattle.std.specs.Str.{is_utf8}
use Rattle.text_names.specs.Prefixes.{Prefixes, iri_of, with_prefix}
use Rattle.sssom_head.specs.declared.head.HeadFault.{HeadFault}
use Rattle.sssom_head.specs.declared.head.HeadFault.TheVariants.{MapForm, Again}
use Rattle.sssom_head.specs.declared.place.MapPlace.{MapPlace}
use Rattle.sssom_head.specs.declared.place.MapPlace.TheVariants.{Before, Inside, Past}
use Rattle.sssom_head.specs.Lines.{begins_with_hash}
use Rattle.sssom_head.specs.Contents.{indentation, behind_spaces, is_empty_list, is_blank, map_text, is_empty_map}
use Rattle.sssom_head.specs.Entries.{is_quote, is_quoted_byte, is_key_byte, is_indicator, is_value_byte}

abbrev pub Pair : Type 0
Pair = List ℕ × List ℕ

-- a front of this length and what stands after it, where the front is not empty
abbrev pub split_some : ℕ → List ℕ → Option Pair
split_some n text = if n == 0 then None else Some (take n text, drop n text)

-- where the closing quote stands
abbrev pub quote_at : ℕ → ℕ → List ℕ → Option ℕ
quote_at quote n [] = None
quote_at quote n (b ∷ bs) = if b == quote then Some n else if is_quoted_byte quote b then quote_at quote (n + 1) bs else None

abbrev pub split_quote : List ℕ → Option ℕ → Option Pair
split_quote text None = None
split_quote text (Some n) = Some (take n text, drop (n + 1) text)

-- a key or a value at the front, and what stands after it
abbrev pub key_in : List ℕ → Option Pair
key_in [] = None
key_in (b ∷ bs) = if is_quote b then split_quote bs (quote_at b 0 bs) else split_some (prefix_len is_key_byte (b ∷ bs)) (b ∷ bs)

abbrev pub value_in : List ℕ → Option Pair
value_in [] = None
value_in (b ∷ bs) =
    if is_quote b then split_quote bs (quote_at b 0 bs) else
    if is_indicator b then None else split_some (prefix_len is_value_byte (b ∷ bs)) (b ∷ bs)

abbrev pub behind_some_spaces : List ℕ → Option (List ℕ)
behind_some_spaces [] = None
behind_some_spaces (b ∷ bs) = if b == 32 then Some (behind_spaces bs) else None

-- what stands after a colon and one space or more
abbrev pub behind_colon : List ℕ → Option (List ℕ)
behind_colon [] = None
behind_colon (b ∷ bs) = if b == 58 then behind_some_spaces bs else None

-- nothing, or a comment after one space or more
abbrev pub ends_entry : List ℕ → Bool
ends_entry [] = true
ends_entry (b ∷ bs) = b == 32 && begins_with_hash (behind_spaces bs)

abbrev pub entry_with_value : List ℕ → Option Pair → Option Pair
entry_with_value key None = None
entry_with_value key (Some value) = if ends_entry value.1 then Some (key, value.0) else None

abbrev pub entry_behind_colon : List ℕ → Option (List ℕ) → Option Pair
entry_behind_colon key None = None
entry_behind_colon key (Some rest) = entry_with_value key (value_in rest)

abbrev pub entry_with_key : Option Pair → Option Pair
entry_with_key None = None
entry_with_key (Some key) = entry_behind_colon key.0 (behind_colon key.1)

abbrev pub entry_in : List ℕ → Option Pair
entry_in text = entry_with_key (key_in text)

-- the key and the value of an entry
abbrev pub entry_of : List ℕ → Option Pair
entry_of content = if is_utf8 content then entry_in (behind_spaces content) else None

-- the lines so far lead to this place and have these entries
pub record State : Type 0 where
  pub place : MapPlace
  pub prefixes : Prefixes

abbrev pub Answer : Type 0
Answer = Result State HeadFault

abbrev pub at_place : MapPlace → Prefixes → Answer
at_place place prefixes = Ok (record { place = place; prefixes = prefixes })

-- the first line of a map
abbrev pub begun_by : ℕ → List ℕ → Prefixes → List ℕ → Answer
begun_by line content prefixes text =
    if is_empty_list text then at_place (Inside (indentation content) None) prefixes else
    if is_empty_map text then at_place Past prefixes else Err (MapForm line)

-- the entries before, if any, have the indentation n
abbrev pub has_indentation : Option ℕ → ℕ → Bool
has_indentation None n = true
has_indentation (Some m) n = m == n

abbrev pub is_other : Option (List ℕ) → List ℕ → Bool
is_other None iri = false
is_other (Some held) iri = not (bytes_eq held iri)

abbrev pub with_entry : ℕ → ℕ → ℕ → Prefixes → Option Pair → Answer
with_entry line map n prefixes None = Err (MapForm line)
with_entry line map n prefixes (Some entry) =
    if is_other (iri_of prefixes entry.0) entry.1 then Err (Again line) else at_place (Inside map (Some n)) (with_prefix prefixes entry.0 entry.1)

-- a line inside a map that is neither blank nor the first line of a map
abbrev pub inside_by : ℕ → ℕ → Option ℕ → Prefixes → List ℕ → Answer
inside_by line map entries prefixes content =
    if nat_le (indentation content) map then at_place Past prefixes else
    if has_indentation entries (indentation content) then with_entry line map (indentation content) prefixes (entry_of content) else Err (MapForm line)

-- a line that begins no map
abbrev pub other_line : ℕ → MapPlace → Prefixes → List ℕ → Answer
other_line line Before prefixes content = at_place Before prefixes
other_line line Past prefixes content = at_place Past prefixes
other_line line (Inside map entries) prefixes content =
    if is_blank content then at_place (Inside map entries) prefixes else inside_by line map entries prefixes content

-- a line that begins one
abbrev pub map_line : ℕ → MapPlace → Prefixes → List ℕ → List ℕ → Answer
map_line line Before prefixes content text = begun_by line content prefixes text
map_line line Past prefixes content text = Err (MapForm line)
map_line line (Inside map entries) prefixes content text = Err (MapForm line)

abbrev pub by_line : ℕ → MapPlace → Prefixes → List ℕ → Option (List ℕ) → Answer
by_line line place prefixes content None = other_line line place prefixes content
by_line line place prefixes content (Some text) = map_line line place prefixes content text

abbrev pub step : ℕ → State → List ℕ → Answer
step line state content = by_line line state.place state.prefixes content (map_text content)

-- the lines from the number `line` on, each with its content
abbrev pub run : ℕ → Answer → List (List ℕ) → Answer
run line (Err fault) contents = Err fault
run line (Ok state) [] = Ok state
run line (Ok state) (content ∷ contents) = run (line + 1) (step line state content) contents

abbrev pub start : Answer
start = at_place Before []

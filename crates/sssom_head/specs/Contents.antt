-- What the content of a header line is.
use Rattle.std.specs.Prelude.{ℕ, nat_le, Bool, true, false, ◌||◌, if◌then◌else◌, List, [], ◌∷◌, codes, bytes_eq, Option, None, is_some}
use Rattle.std.specs.List.{prefix_len}
use Rattle.byte_words.specs.Bytes.{is_space}
use Rattle.byte_words.specs.Fronts.{without_front}
use Rattle.sssom_head.specs.Lines.{begins_with_hash}

-- how many spaces a content begins with, and what follows them
abbrev pub indentation : List ℕ → ℕ
indentation content = prefix_len is_space content

abbrev pub behind_spaces : List ℕ → List ℕ
behind_spaces [] = []
behind_spaces (b ∷ bs) = if is_space b then behind_spaces bs else b ∷ bs

abbrev pub is_empty_list : List ℕ → Bool
is_empty_list [] = true
is_empty_list (b ∷ bs) = false

-- nothing, or a # after spaces
abbrev pub is_blank : List ℕ → Bool
is_blank content = is_empty_list content || begins_with_hash (behind_spaces content)

abbrev pub map_word : List ℕ
map_word = codes "curie_map:"

-- what follows the word and its colon, in the content of a line with which a map may begin
abbrev pub map_text : List ℕ → Option (List ℕ)
map_text content = if nat_le (indentation content) 1 then without_front map_word (behind_spaces content) else None

abbrev pub begins_map : List ℕ → Bool
begins_map content = is_some (map_text content)

-- {} after spaces or none
abbrev pub is_empty_map : List ℕ → Bool
is_empty_map text = bytes_eq (behind_spaces text) (codes "{}")

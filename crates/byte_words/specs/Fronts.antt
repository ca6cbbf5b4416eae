-- What a text begins with, and the text without it.
use Rattle.std.specs.Prelude.{ℕ, if◌then◌else◌, List, [], ◌∷◌, length, take, drop, bytes_eq, Option, Some, None, unwrap_or}

-- what follows a front, if the text begins with it
abbrev pub without_front : List ℕ → List ℕ → Option (List ℕ)
without_front front text = if bytes_eq (take (length front) text) front then Some (drop (length front) text) else None

-- the byte order mark U+FEFF in UTF-8
abbrev pub byte_order_mark : List ℕ
byte_order_mark = 239 ∷ 187 ∷ 191 ∷ []

-- the text without its byte order mark, if it begins with one
abbrev pub without_mark : List ℕ → List ℕ
without_mark text = unwrap_or (without_front byte_order_mark text) text

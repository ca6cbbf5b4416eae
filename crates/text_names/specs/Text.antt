-- When bytes are a text.
use Rattle.std.specs.Prelude.{◌≡◌, ℕ, List, Result, Ok, Err, IsUtf8}
use Rattle.std.specs.Str.{IsValidUpTo}
use Rattle.text_names.specs.declared.text.TextFault.{TextFault}
use Rattle.text_names.specs.declared.text.TextFault.TheVariants.{NotUtf8, OutOfMemory}

-- the text has these very bytes, or they are not UTF-8 past the offset; memory is short only where they are
abbrev pub IsTextOf : List ℕ → Result (List ℕ) TextFault → Type 0
IsTextOf bytes (Ok text) = (text ≡ bytes) × IsUtf8 bytes
IsTextOf bytes (Err (NotUtf8 offset)) = ¬ (IsUtf8 bytes) × IsValidUpTo bytes offset
IsTextOf bytes (Err OutOfMemory) = IsUtf8 bytes

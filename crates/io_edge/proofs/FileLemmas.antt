-- A map of files after one was inserted.
use Rattle.std.proofs.Common.{◌≡◌, ℕ, List, Some}
use Rattle.std.proofs.Math.Path.{fun_ext}
use Rattle.std.proofs.lemmas.Map.Text.{btree_map_updates_text}
use Rattle.std.specs.Prelude.{String}
use Rattle.std.specs.String.{string_bytes, string_cmp}
use Rattle.std.specs.BTreeMap.{BTreeMap, Updates}
use Rattle.io_edge.specs.Files.{files_in}
use Rattle.io_edge.specs.Outside.{with_file}

-- what an insert at a key leaves, by the key's bytes
pub inserted_file : {A : Type 0} (old new : BTreeMap (String A) (List ℕ)) (key : String A) (name bytes : List ℕ) → Updates string_cmp old new key (Some bytes) → string_bytes key ≡ name → files_in new ≡ with_file (files_in old) name bytes
inserted_file old new key name bytes updates same =
    rw (← same) (fun_ext (λ other. btree_map_updates_text (string_bytes key) old new (Some bytes) updates other))

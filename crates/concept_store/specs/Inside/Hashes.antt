-- What a node writes to a hasher.
use Rattle.std.specs.Prelude.{◌++◌}
use Rattle.std.specs.Hash as fed
use Rattle.std.specs.Hash.{HashWrites}
use Rattle.concept_store.specs.declared.types.Node.{Node}
use Rattle.concept_store.specs.declared.types.Node.TheVariants.{Top, Bottom, Class, And, Exists}

abbrev pub node_writes : Node → HashWrites
node_writes Top = fed.u8 0
node_writes Bottom = fed.u8 1
node_writes (Class class) = fed.u8 2 ++ fed.u32 class
node_writes (And one other) = fed.u8 3 ++ fed.u32 one ++ fed.u32 other
node_writes (Exists role filler) = fed.u8 4 ++ fed.u32 role ++ fed.u32 filler

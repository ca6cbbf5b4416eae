use Rattle.std.proofs.Common.{◌≡◌, ◌-◌, ◌≤◌}
use Rattle.indexmap.specs.IndexMap.{values}
use Rattle.text_names.specs.Names.{number_of}
use Rattle.text_names.specs.Inside.NameKeys.{hash_of, count_with_hash}
use Rattle.text_names.proofs.Lookups.{seek}
use Rattle.text_names.proofs.names.NameTable.search.Given as goal

abbrev pub invariant-loop-number : goal.invariant-loop-number
invariant-loop-number l = record {
  rest : seek 0 (hash_of l.name) l.clashes l.name (values l.self-inside.names) ≡ number_of (values l.self-inside.names) l.name;
  within : l.clashes ≤ count_with_hash (values l.self-inside.names) (hash_of l.name);
}

abbrev pub decreases-loop-number : goal.decreases-loop-number
decreases-loop-number l = count_with_hash (values l.self-inside.names) (hash_of l.name) - l.clashes

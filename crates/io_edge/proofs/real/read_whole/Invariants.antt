use Rattle.std.proofs.Common.{◌-◌, ◌≤◌, vec_len}
use Rattle.std.specs.Io.KnownBytes.{Consumes}
use Rattle.io_edge.proofs.real.read_whole.Given as goal

-- what was read is the front of what the reader had
abbrev pub invariant-loop-count : goal.invariant-loop-count
invariant-loop-count g l = (vec_len l.bytes ≤ l.max) × Consumes (g.R.Read.remaining l.fn.file) (g.R.Read.remaining l.file) l.bytes.items

abbrev pub decreases-loop-count : goal.decreases-loop-count
decreases-loop-count g l = l.max - vec_len l.bytes

use Rattle.std.proofs.Common.{◌≡◌, ◌++◌, length}
use Rattle.std.specs.Vec.Iter.{into_iter_items, into_iter_len}
use Rattle.diagnosis.specs.Inside.Parts.{HasJoined}
use Rattle.diagnosis.proofs.joining.join_parts.Given as goal

-- the parts so far are joined
abbrev pub invariant-loop-worked : goal.invariant-loop-worked
invariant-loop-worked l = record {
  rest : l.yielded ++ into_iter_items l.worked-iterator ≡ into_iter_items l.initial.worked-iterator;
  joined : HasJoined l.lock l.word l.yielded l.initial.first l.first;
  count : into_iter_len l.worked-iterator ≡ length (into_iter_items l.worked-iterator);
}

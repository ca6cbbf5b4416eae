use Rattle.std.proofs.Common.{◌≡◌, All, vec_len}
use Rattle.diagnosis.specs.Inside.Parts.{IsFresh, HasSplit}
use Rattle.diagnosis.proofs.splitting.split_parts.Given as goal

-- each part that was split off is fresh
abbrev pub invariant-loop : goal.invariant-loop
invariant-loop l = record {
  split : HasSplit l.lock l.word l.counter l.initial.first l.first;
  count : vec_len l.parts ≡ l.counter;
  fresh : All (IsFresh l.lock l.word) l.parts.items;
}

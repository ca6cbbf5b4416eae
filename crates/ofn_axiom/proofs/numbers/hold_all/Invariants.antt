use Rattle.std.proofs.Common.{◌≡◌, drop}
use Rattle.ofn_axiom.specs.Numbers.{with_mentions}
use Rattle.ofn_axiom.specs.Taking.{IsNamesBefore}
use Rattle.ofn_axiom.proofs.numbers.hold_all.Given as goal

abbrev pub invariant-loop-mention : goal.invariant-loop-mention
invariant-loop-mention l = record {
  same : with_mentions (drop l.mention-index l.mentions) l.names ≡ with_mentions l.mentions l.fn.names;
  grows : IsNamesBefore l.fn.names l.names;
}

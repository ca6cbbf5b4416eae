use Rattle.std.proofs.Common.{◌+◌, ◌≤◌, length}
use Rattle.el_rules.specs.Saying.{JoinsAlong}
use Rattle.derivation.proofs.saying.joins_along.Given as goal

abbrev pub invariant-loop-next : goal.invariant-loop-next
invariant-loop-next l = record {
  onward : JoinsAlong l.first l.rest l.first_part l.into l.r l.s l.t
      → JoinsAlong l.front l.later l.part l.into l.r l.s l.t;
  back : JoinsAlong l.front l.later l.part l.into l.r l.s l.t
      → JoinsAlong l.first l.rest l.first_part l.into l.r l.s l.t;
  few : l.part + length l.later ≤ l.first_part + length l.rest;
}

abbrev pub decreases-loop-next : goal.decreases-loop-next
decreases-loop-next l = length l.later

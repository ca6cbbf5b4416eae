use Rattle.std.proofs.Common.{◌≡◌, drop}
use Rattle.sssom_head.specs.HeaderSteps.{quote_at}
use Rattle.sssom_head.proofs.entry.quote_at.Given as goal

abbrev pub invariant-loop-i : goal.invariant-loop-i
invariant-loop-i l = quote_at l.quote l.i (drop l.i l.text) ≡ quote_at l.quote 0 l.text

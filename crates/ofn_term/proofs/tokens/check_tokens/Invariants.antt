use Rattle.std.proofs.Common.{◌-◌, length}
use Rattle.ofn_term.proofs.Checking.{AreTokensTo}
use Rattle.ofn_term.proofs.tokens.check_tokens.Given as goal

abbrev pub invariant-loop-next : goal.invariant-loop-next
invariant-loop-next l = AreTokensTo l.text l.at

abbrev pub decreases-loop-next : goal.decreases-loop-next
decreases-loop-next l = length l.text - l.at

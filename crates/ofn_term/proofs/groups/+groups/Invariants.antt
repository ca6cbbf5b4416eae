use Rattle.std.proofs.Common.{ℕ, ◌≤◌, ◌<◌, ◌+◌, ◌*◌, ◌-◌, List, length, IfSome}
use Rattle.ofn_lex.specs.declared.token.Token.{Token}
use Rattle.ofn_term.specs.Inside.TokenReading.{Begins}
use Rattle.ofn_term.specs.Inside.PieceReading.{IsReadTo}
use Rattle.ofn_term.proofs.Reading.{left}
use Rattle.ofn_term.proofs.groups.+groups.Given as goal

abbrev pub decreases-items_at : goal.decreases-items_at
decreases-items_at l = 2 * left l.text.now l.begin

abbrev pub decreases-group_at : goal.decreases-group_at
decreases-group_at l = 2 * (length l.text.now - l.bracket.end) + 1

abbrev pub invariant-items_at-loop-here : goal.invariant-items_at-loop-here
invariant-items_at-loop-here l = record {
  read : (tokens : List Token) → Begins l.text l.fn.begin tokens → IsReadTo l.text l.level.most l.level.depth l.level.first tokens l.items.items l.here;
  within : IfSome l.here (λ token. token.end ≤ length l.text);
  past : (n : ℕ) → IfSome l.fn.begin (λ token. n < token.end) → IfSome l.here (λ token. n < token.end);
  fewer : left l.text l.here ≤ left l.text l.fn.begin;
}

abbrev pub decreases-items_at-loop-here : goal.decreases-items_at-loop-here
decreases-items_at-loop-here l = left l.text l.here

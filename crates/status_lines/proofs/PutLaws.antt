-- Pieces that are put.
use Rattle.std.proofs.Common.{◌≡◌, ℕ, List, subst}
use Rattle.io_edge.specs.Outside.{SinkSeen, PutAnswers}
use Rattle.io_edge.specs.declared.outside.PutAnswer.{PutAnswer}

-- a piece that is the line was put
pub put_line : (old new : SinkSeen) (line piece : List ℕ) (answer : PutAnswer) → PutAnswers old new piece answer → piece ≡ line → PutAnswers old new line answer
put_line old new line piece answer put same = subst (λ (bytes : List ℕ). PutAnswers old new bytes answer) same put

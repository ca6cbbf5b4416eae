use Rattle.std.proofs.Common.{ℕ, ◌<◌, ◌^◌, length, get_or}
use Rattle.worked_derivations.proofs.setting.are_ranks.Given as goal

abbrev pub invariant-loop-rank : goal.invariant-loop-rank
invariant-loop-rank l = record {
  small : l.least < 2 ^ 33;
  below : (k : ℕ) → k < l.rank-index → get_or l.ranks k 0 < l.least;
  within : (k : ℕ) → k < l.rank-index → get_or l.ranks k 0 < length l.case.order;
  ascending : (j k : ℕ) → j < k → k < l.rank-index → get_or l.ranks j 0 < get_or l.ranks k 0;
}

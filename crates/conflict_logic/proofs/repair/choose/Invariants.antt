use Rattle.std.proofs.Common.{◌≡◌}
use Rattle.conflict_logic.specs.Repair.{IsRepair}
use Rattle.conflict_logic.proofs.repair.choose.Given as goal

abbrev pub invariant-loop-rank : goal.invariant-loop-rank
invariant-loop-rank g l = record {
  repair : IsRepair (g.T.Family.incoherent l.test) l.rank l.kept.items;
  state : g.T.CoherenceTest.belongs l.test l.state;
  same : g.T.CoherenceTest.taken l.state ≡ l.kept.items;
}

use Rattle.std.proofs.Common.{◌≤◌, length}
use Rattle.rule_steps.specs.Growing.{facts_in, HasGrown}
use Rattle.saturate.specs.Inside.Clashes.{AreLiveWithin}
use Rattle.saturate.specs.Inside.Saturated.{AreAnsweredWithin}
use Rattle.saturate.proofs.closing.close_until_clash.Given as goal

abbrev pub invariant-loop-place : goal.invariant-loop-place
invariant-loop-place l = record {
  grown : HasGrown l.grounds l.fn.layers l.layers;
  within : l.place ≤ length (facts_in l.layers);
  seen : l.seen ≤ length (facts_in l.layers);
  answered : AreAnsweredWithin l.grounds l.from l.place (facts_in l.layers);
  live : AreLiveWithin l.grounds.case 0 l.seen (facts_in l.layers);
}

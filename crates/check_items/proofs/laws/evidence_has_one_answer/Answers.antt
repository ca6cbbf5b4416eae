use Rattle.check_items.proofs.AnswerLaws.{never_both}
use Rattle.check_items.proofs.laws.evidence_has_one_answer.Goals as goal

pub returns : goal.returns
returns c = never_both

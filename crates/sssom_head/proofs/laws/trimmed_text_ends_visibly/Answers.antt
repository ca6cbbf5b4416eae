use Rattle.sssom_head.proofs.TextLines.{trims}
use Rattle.sssom_head.proofs.laws.trimmed_text_ends_visibly.Goals as goal

pub returns : goal.returns
returns c = trims

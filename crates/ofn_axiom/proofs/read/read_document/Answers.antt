use Rattle.ofn_axiom.proofs.ReadLaws.{no_text_here}
use Rattle.byte_words.specs.Fronts.{without_mark}
use Rattle.ofn_axiom.proofs.read.read_document.Goals as goal

pub returns-in-Err-clause-answer : goal.returns-in-Err-clause-answer
returns-in-Err-clause-answer c =
    no_text_here c.without_mark-text.result.now (without_mark c.args.bytes.now) c.args.mode c.args.limits.now.depth c.args.names.now c.valid_up_to.result c.place_of.result c.without_mark-text.ensures (rw c.valid_up_to.ensures c.in-Err.ensures.cases.1) c.place_of.ensures

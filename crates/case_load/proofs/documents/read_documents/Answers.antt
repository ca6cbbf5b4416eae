use Rattle.case_load.proofs.DocumentLaws.{document_over, axioms_over_later}
use Rattle.case_load.proofs.documents.read_documents.Goals as goal

pub returns-clause-over : goal.returns-clause-over
returns-clause-over c =
    let law = c.readings_are_over_their_names.ensures in
    let first = c.read_document.new.names in
    let both = c.read_document-2.new.names in
    let left = c.in-Ok.document in
    let right = c.in-Ok-read_document.document in (
      axioms_over_later first both left.axioms c.in-Ok-read_document.ensures.grows (document_over law c.args.left.now c.args.mode c.args.limits.now.depth _ first left c.requires.left c.in-Ok.ensures.answer),
      document_over law c.args.right.now c.args.mode c.args.limits.now.depth first both right c.requires.right c.in-Ok-read_document.ensures.answer,
    )

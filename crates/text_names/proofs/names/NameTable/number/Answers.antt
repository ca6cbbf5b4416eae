use Rattle.std.proofs.Common.{◌∙◌}
use Rattle.text_names.proofs.NameLaws.{next_number}
use Rattle.text_names.proofs.names.NameTable.number.Goals as goal

pub returns-in-Ok-add-clause-number : goal.returns-in-Ok-add-clause-number
returns-in-Ok-add-clause-number c = c.len-number.ensures.len ∙ next_number c.args.self.now.names c.args.name.now c.in-Err.ensures.missing

use Rattle.std.proofs.Common.{ap, ◌∙◌}
use Rattle.line_fields.specs.Reading.{is_end}
use Rattle.line_fields.proofs.PieceLaws.{line_has_field}
use Rattle.line_fields.proofs.fields.Fields.is_end.Goals as goal

pub returns : goal.returns
returns c = line_has_field c.self.inside.some c.self.inside.text.now ∙ ap is_end c.self.view_is

use Rattle.std.proofs.Common.{◌∙◌}
use Rattle.text_names.proofs.PrefixLaws.{found_by_bytes}
use Rattle.text_names.proofs.prefixes.PrefixMap.get.Goals as goal

pub returns : goal.returns
returns c = c.get.ensures.value ∙ found_by_bytes c.self.inside.iris.entries c.args.self.now _ c.args.prefix.now c.utf8_str.ensures c.self.view_is

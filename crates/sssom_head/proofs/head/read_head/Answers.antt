use Rattle.std.specs.Prelude.{Ok}
use Rattle.sssom_head.proofs.HeaderLaws.{header_is}
use Rattle.sssom_head.proofs.head.read_head.Goals as goal

pub returns-in-Ok-add_built_in-clause-header : goal.returns-in-Ok-add_built_in-clause-header
returns-in-Ok-add_built_in-clause-header c =
    header_is c.args.bytes.now (Ok (record { length = c.in-Ok.length; prefixes = c.add_built_in.new.prefixes }))
    (record { entries = c.read_lines.new.prefixes; map = c.in-Ok.ensures.answer; prefixes = c.in-Ok-add_built_in.ensures })

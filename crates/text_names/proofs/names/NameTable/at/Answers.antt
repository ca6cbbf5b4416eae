use Rattle.std.proofs.Common.{◌∙◌, sym, ap}
use Rattle.text_names.specs.Names.{number_of}
use Rattle.text_names.proofs.NameLaws.{name_at}
use Rattle.text_names.proofs.names.NameTable.at.Goals as goal

pub returns-clause-number : goal.returns-clause-number
returns-clause-number c =
    ap (λ t. number_of t.names c.in-Some.name.now) (sym c.self.view_is)
    ∙ c.self.invariant.distinct c.args.number c.in-Some.name.now (name_at c.self.inside.names.entries c.args.number _ c.in-Some.name.now c.in-Some.ensures.entry)

use Rattle.std.proofs.Common.{rules, ◌∙◌, ◌<◌, ◌++◌, List, Vec, Global, [], ◌∷◌, length, ap}
use Rattle.case_tables.specs.Keyed.{of_key}
use Rattle.case_tables.proofs.GroupLaws.{set_at}
use Rattle.case_tables.proofs.grouped.add.Goals as goal

pub returns : goal.returns
returns g c other =
    let within : c.args.key < length c.widen.new.lists.items = search rules in
    set_at (λ (list : Vec g.row.T.Denot Global). list.items) c.widen.new.lists.items c.args.key c.push.new.self c.index_mut.result.now c.args.entry within (search rules) (search rules) other
    ∙ ap (λ (before : List g.row.T.Denot). before ++ of_key ((c.args.key, c.args.entry) ∷ []) other) (c.in_ok-widen.ensures.same other)

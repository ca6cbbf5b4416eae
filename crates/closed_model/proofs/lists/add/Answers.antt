use Rattle.std.proofs.Common.{rules, Vec, Global}
use Rattle.closed_model.proofs.ListLaws.{longer_at}
use Rattle.closed_model.proofs.lists.add.Goals as goal

pub returns-clause-values : goal.returns-clause-values
returns-clause-values g c other =
    longer_at (λ (list : Vec g.row.T.Denot Global). list.items) c.args.lists.now.items c.args.key c.push.new.self c.index_mut.result.now c.args.value c.requires (search rules) (search rules) other

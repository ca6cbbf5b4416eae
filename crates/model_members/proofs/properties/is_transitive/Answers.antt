use Rattle.el_logic.specs.Meaning.{pairs_of}
use Rattle.model_members.proofs.PropertyLaws.{same_by, through, transitive_by}
use Rattle.model_members.proofs.properties.is_transitive.Goals as goal

pub returns : goal.returns
returns c =
    let all = c.pairs-all.result.now in
    let same = same_by all (pairs_of c.args.lists.now.ordered c.args.role) c.pairs-all.ensures.list in
    through c.joins_are_among.ensures (transitive_by c.args.lists.now.ordered c.args.role all all all same same same)

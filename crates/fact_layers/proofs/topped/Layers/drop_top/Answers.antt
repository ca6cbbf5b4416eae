use Rattle.fact_layers.proofs.Copied.{distinct_cut}
use Rattle.fact_layers.proofs.topped.Layers.drop_top.Goals as goal

pub invariant_of-self : goal.invariant_of-self
invariant_of-self c = rw c.cut.ensures.list (distinct_cut c.self.inside.base c.self.inside.top.list 0 c.self.invariant)

use Rattle.std.proofs.Common.{map}
use Rattle.case_file.specs.Cases.{theory_of}
use Rattle.derivation.proofs.Followed.{item_of, steps_follow, held_item}
use Rattle.derivation.proofs.laws.good_steps_are_true.Goals as goal

pub returns : goal.returns
returns c case part ranks m steps step model good held =
    c.what_follows_is_true.ensures case.store.nodes (theory_of case) part ranks m (map item_of steps) (item_of step) model
    (steps_follow case part ranks steps good) (held_item steps step held)

use Rattle.conflict_logic.specs.Greedy.{family_of}
use Rattle.accuse_core.proofs.JournalLaws.{allowed_at_rest, certified, refuted_by_spared}
use Rattle.accuse_core.proofs.laws.removed_ranks_are_accused.Goals as goal

pub returns : goal.returns
returns c = λ test ranks events closed nothing allowed rank gone.
    let r = allowed_at_rest (family_of test) nothing ranks events allowed in
    let exact = c.certified_ranks_are_an_exact_repair.ensures test _ _ closed (certified (family_of test) _ r.watched) in
    c.refuted_by_spared_is_accused.ensures test rank closed nothing (refuted_by_spared (family_of test) _ r.watched exact.repair rank gone)

use Rattle.std.proofs.Common.{◌++◌, ◌∷◌, [], subst}
use Rattle.commit_lock.specs.Seats.{seen}
use Rattle.saturate.specs.declared.types.Verdict.{Verdict}
use Rattle.saturate.specs.declared.types.Verdict.TheVariants.{Yes}
use Rattle.saturate.specs.Decisions.{IsVerdict}
use Rattle.spec_workers.specs.Books.{lock_case}
use Rattle.spec_workers.proofs.AheadLemmas.{no_holds, yes_holds}
use Rattle.spec_workers.proofs.ahead.settle.Goals as goal

pub tell-requires-clause-verdict : goal.tell-requires-clause-verdict
tell-requires-clause-verdict g c =
    let case = lock_case c.args.lock.now in
    let found = c.requires.ahead in
    let first = c.args.ahead.taken in
    let verdict = subst (λ (v : Verdict). IsVerdict case (first.snapshot.ranks ++ first.rank ∷ []) v) c.in-No.is found.verdict in
    no_holds case found.earlier (seen c.args.seat.now) first c.args.taken.now found.taken c.requires.taken
    (c.requires.first found.earlier found.begins) c.requires.all found.rank_is
    c.more_rows_stay_incoherent.ensures c.good_derivations_stay_good_for_more_ranks.ensures.derivation c.in-No.why verdict

pub tell-requires-then-before-taken-clause-verdict : goal.tell-requires-then-before-taken-clause-verdict
tell-requires-then-before-taken-clause-verdict g c =
    let case = lock_case c.args.lock.now in
    let found = c.requires.ahead in
    let first = c.args.ahead.taken in
    let verdict = subst (λ (v : Verdict). IsVerdict case (first.snapshot.ranks ++ first.rank ∷ []) v) c.in-Yes.is found.verdict in
    yes_holds case found.earlier (seen c.args.seat.now) first c.args.taken.now found.taken c.requires.taken
    (c.requires.first found.earlier found.begins) c.requires.all found.rank_is
    c.if-before-taken.true (Yes c.in-Yes.table) verdict

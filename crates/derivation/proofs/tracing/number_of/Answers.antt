use Rattle.std.proofs.Common.{◌≡◌, Some, MatchResult, slice_get, Contains, refl, subst}
use Rattle.derivation.proofs.RankLaws.{found, found_at}
use Rattle.derivation.proofs.tracing.number_of.Goals as goal

pub returns : goal.returns
returns c = (
  c.in-Ok.k,
  refl,
  subst (λ r. MatchResult r (λ k. slice_get c.args.places.now k ≡ Some c.args.place) (λ _. Unit {0})) c.in-Ok.is
      (found_at c.args.places.now c.args.place c.binary_search.result c.binary_search.ensures.position c.requires.ascending),
)

pub unreachable-requires : goal.unreachable-requires
unreachable-requires c =
    subst (λ r. MatchResult r (λ _. Contains c.args.places.now c.args.place) (λ _. ¬ (Contains c.args.places.now c.args.place))) c.in-Err.is
    (found c.args.places.now c.args.place c.binary_search.result c.binary_search.ensures.position c.requires.ascending) c.requires.held

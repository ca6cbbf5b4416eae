use Rattle.std.proofs.Common.{◌≡◌, ◌<◌, ◌≤◌, ℕ, true, false, take, drop, All, subst, sym, rules}
use Rattle.std.specs.Prelude.{nat_lt}
use Rattle.std.proofs.lemmas.Bool.{ltb-true, ltb-false}
use Rattle.std.proofs.lemmas.List.Elements.{All-weaker}
use Rattle.std.proofs.lemmas.List.Sorted.{IsPartitionPoint-from_clause, IsPartitionedBy-ltb}
use Rattle.model_members.proofs.PairSteps.{front_all, back_all}
use Rattle.model_members.proofs.pairs.split_below.Goals as goal

pub returns-clause-below : goal.returns-clause-below
returns-clause-below c =
    let pairs = c.args.pairs.now in
    let limit = c.args.limit in
    let count = c.partition_point-count.result in
    let point = IsPartitionPoint-from_clause (λ (p : ℕ × ℕ). nat_lt p.0 limit) pairs count c.partition_point-count.ensures.partitioned
    (IsPartitionedBy-ltb (λ (p : ℕ × ℕ). p.0) pairs limit c.requires) (λ a r f q. search rules) in
    subst (All (λ (p : ℕ × ℕ). p.0 < limit)) (sym c.split_at.ensures.front)
    (All-weaker (λ p. nat_lt p.0 limit ≡ true) (λ p. p.0 < limit) (λ p. ltb-true p.0 limit) (take count pairs)
    (front_all (λ (p : ℕ × ℕ). nat_lt p.0 limit ≡ true) pairs count c.partition_point-count.ensures.bound point.0))

pub returns-clause-above : goal.returns-clause-above
returns-clause-above c =
    let pairs = c.args.pairs.now in
    let limit = c.args.limit in
    let count = c.partition_point-count.result in
    let point = IsPartitionPoint-from_clause (λ (p : ℕ × ℕ). nat_lt p.0 limit) pairs count c.partition_point-count.ensures.partitioned
    (IsPartitionedBy-ltb (λ (p : ℕ × ℕ). p.0) pairs limit c.requires) (λ a r f q. search rules) in
    subst (All (λ (p : ℕ × ℕ). limit ≤ p.0)) (sym c.split_at.ensures.back)
    (All-weaker (λ p. nat_lt p.0 limit ≡ false) (λ p. limit ≤ p.0) (λ p. ltb-false p.0 limit) (drop count pairs)
    (back_all (λ (p : ℕ × ℕ). nat_lt p.0 limit ≡ false) pairs count point.1))

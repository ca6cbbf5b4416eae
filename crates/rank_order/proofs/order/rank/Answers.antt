use Rattle.std.proofs.Common.{rules, ◌≡◌, List, length, map, sym, subst}
use Rattle.std.specs.List.{range_with_len}
use Rattle.std.specs.List.Sorted.{IsPermutation}
use Rattle.std.proofs.lemmas.Fn.{always_returns_same}
use Rattle.rank_order.specs.declared.order.RankKey.{RankKey}
use Rattle.rank_order.specs.Order.{is_before, key_at, IsRanking}
use Rattle.rank_order.proofs.OrderLaws.{in_one_order, ranking_from_sort}
use Rattle.rank_order.proofs.order.rank.Goals as goal

pub returns : goal.returns
returns c =
    let confidences = c.args.confidences.now in
    let keys = c.sort_by.new.self.items in
    let sort = c.in_ok-sort_by.ensures in
    let all : c.in_ok-keys.keys.items ≡ map (key_at confidences) (range_with_len 0 (length confidences)) = search rules in
    let rows : c.from_vec.result ≡ map (λ (key : RankKey). key.row) keys = search rules in
    subst (IsRanking confidences) (sym rows)
    (ranking_from_sort confidences keys
    (subst (λ (ks : List RankKey). IsPermutation ks keys) all sort.permutation)
    (sort.sorted is_before in_one_order (always_returns_same _ _ _ (λ a r f called. search rules))))

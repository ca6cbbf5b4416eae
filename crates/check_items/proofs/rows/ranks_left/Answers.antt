use Rattle.std.proofs.Common.{◌≡◌, ◌∙◌, ◌<◌, ◌++◌, ◌∷◌, [], cond, length, get_or, true, false, ap, sym, arith, rules}
use Rattle.std.proofs.lemmas.List.{append-nil}
use Rattle.std.proofs.lemmas.Option.{get_or_from_slice_get}
use Rattle.check_items.specs.Inside.Tables.{ranks_by}
use Rattle.check_items.proofs.TableLaws.{ranks_by_more}
use Rattle.std.specs.Prelude.{take}
use Rattle.check_items.proofs.rows.ranks_left.Goals as goal

pub loop-rank-preserved-then-not-keep-row_of : goal.loop-rank-preserved-then-not-keep-row_of
loop-rank-preserved-then-not-keep-row_of c =
    let keep = c.args.keep.now in
    let order = c.args.case.now.order in
    let rank = c.loop-rank.rank in
    let inside : rank < length order = omega (arith, c.loop-rank-test.true, c.loop-rank.auto.rank-end, c.ranks-rank-end.ensures.ranks) in
    let value : get_or keep c.row_of.result false ≡ false = search rules in
    let left = ap (λ n. get_or keep n false) (get_or_from_slice_get order rank c.row_of.result 0 c.row_of.ensures) ∙ value in
    c.loop-rank.invariant
    ∙ sym (ranks_by_more keep order rank inside ∙ ap (λ b. ranks_by keep (take rank order) ++ cond b (rank ∷ []) []) left ∙ append-nil (ranks_by keep (take rank order)))

pub loop-rank-preserved : goal.loop-rank-preserved
loop-rank-preserved c =
    let keep = c.args.keep.now in
    let order = c.args.case.now.order in
    let rank = c.loop-rank.rank in
    let inside : rank < length order = omega (arith, c.loop-rank-test.true, c.loop-rank.auto.rank-end, c.ranks-rank-end.ensures.ranks) in
    let value : get_or keep c.row_of.result false ≡ true = search rules in
    let left = ap (λ n. get_or keep n false) (get_or_from_slice_get order rank c.row_of.result 0 c.row_of.ensures) ∙ value in
    let pushed : c.push.new.self.items ≡ c.loop-rank.kept.items ++ rank ∷ [] = search rules in
    pushed ∙ ap (λ ranks. ranks ++ rank ∷ []) c.loop-rank.invariant
    ∙ sym (ranks_by_more keep order rank inside ∙ ap (λ b. ranks_by keep (take rank order) ++ cond b (rank ∷ []) []) left)

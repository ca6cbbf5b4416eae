use Rattle.std.proofs.Common.{◌≡◌, ◌∙◌, ℕ, ◌<◌, length, get_or, slice_index, set, true, false, ap, arith, rules}
use Rattle.std.specs.Prelude.{replicate}
use Rattle.std.proofs.lemmas.Option.{get_or_from_slice_get}
use Rattle.std.proofs.lemmas.List.Elements.{All-get_or}
use Rattle.diagnosis.proofs.RowLaws.{none_marked, one_more_marked}
use Rattle.diagnosis.proofs.rows.marked.Goals as goal

pub loop-rank-init : goal.loop-rank-init
loop-rank-init c =
    let items : c.in_ok-keep.keep.items ≡ replicate c.ranks.result false = search rules in
    items ∙ ap (λ n. replicate n false) c.ranks.ensures.ranks ∙ none_marked c.args.case.now.order

pub loop-rank-preserved : goal.loop-rank-preserved
loop-rank-preserved c =
    let order = c.args.case.now.order in
    let given = c.store-case.ensures.case.given in
    let ranks = c.args.ranks.now in
    let i = c.loop-rank.rank-index in
    let within : i < length ranks = search rules in
    let rank = get_or ranks i 0 in
    let row = c.row_of-row.result in
    let row_is : slice_index order rank ≡ row = get_or_from_slice_get order rank row 0 c.row_of-row.ensures in
    let rank_within : rank < length order = All-get_or (λ (r : ℕ). r < length order) ranks i 0 within c.requires in
    let at : slice_index order rank < length c.args.case.now.rows = All-get_or (λ (r : ℕ). r < length c.args.case.now.rows) order rank 0 rank_within given.indexes in
    let row_within : row < length order = omega (arith, given.ranks) in
    ap (λ keep. set keep row true) c.loop-rank.invariant ∙ one_more_marked order ranks i within row row_is row_within

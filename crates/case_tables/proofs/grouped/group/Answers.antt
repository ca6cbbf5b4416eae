use Rattle.std.proofs.Common.{rules, ◌∙◌, ◌≤◌, ◌++◌, List, [], ◌∷◌, length, ap, sym, arith}
use Rattle.std.proofs.lemmas.List.{take_all}
use Rattle.case_tables.specs.Keyed.{of_key}
use Rattle.case_tables.proofs.GroupLaws.{of_key_more}
use Rattle.case_tables.proofs.grouped.group.Goals as goal

pub loop-pair-preserved : goal.loop-pair-preserved
loop-pair-preserved g c key =
    c.in_ok-add.ensures key
    ∙ ap (λ (before : List g.row.T.Denot). before ++ of_key (c.pair-item.result ∷ []) key) (c.loop-pair.invariant key)
    ∙ sym (of_key_more c.args.pairs.now c.loop-pair.pair-index c.pair-item.result c.loop-pair-test.true (search rules) key)

pub returns : goal.returns
returns g c key =
    let ended : length c.args.pairs.now ≤ c.loop-pair.pair-index = omega (arith, c.loop-pair-test.false) in
    c.loop-pair.invariant key ∙ ap (λ front. of_key front key) (take_all c.loop-pair.pair-index c.args.pairs.now ended)

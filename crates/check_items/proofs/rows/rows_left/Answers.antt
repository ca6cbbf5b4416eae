use Rattle.std.proofs.Common.{◌≡◌, ◌∙◌, ◌≤◌, Bool, List, length, set, true, false, ap, sym, subst, arith, rules}
use Rattle.std.specs.Prelude.{◌-◌, replicate}
use Rattle.std.proofs.lemmas.List.Elements.{All-get_or}
use Rattle.evidence_text.specs.declared.types.Removed.{Removed}
use Rattle.check_items.proofs.TableLaws.{none_out, length-rows_left, one_more_out}
use Rattle.check_items.proofs.rows.rows_left.Goals as goal

pub loop-one-init : goal.loop-one-init
loop-one-init c =
    let items : c.in_ok-keep.keep.items ≡ replicate c.args.rows true = search rules in
    items ∙ none_out c.args.rows

pub index_mut-requires : goal.index_mut-requires
index_mut-requires c =
    let row = subst (λ (r : Removed). (1 ≤ r.row) × (r.row ≤ c.args.rows)) (sym c.one-item.is)
    (All-get_or (λ (r : Removed). (1 ≤ r.row) × (r.row ≤ c.args.rows)) c.args.removed.now c.loop-one.one-index c.one-item.result c.loop-one-test.true c.requires) in
    let long = ap (λ (keep : List Bool). length keep) c.loop-one.invariant ∙ length-rows_left _ c.args.rows in
    omega (arith, row.0, row.1, long)

pub loop-one-preserved : goal.loop-one-preserved
loop-one-preserved c =
    let row = subst (λ (r : Removed). (1 ≤ r.row) × (r.row ≤ c.args.rows)) (sym c.one-item.is)
    (All-get_or (λ (r : Removed). (1 ≤ r.row) × (r.row ≤ c.args.rows)) c.args.removed.now c.loop-one.one-index c.one-item.result c.loop-one-test.true c.requires) in
    ap (λ keep. set keep (c.one-item.result.row - 1) false) c.loop-one.invariant
    ∙ one_more_out c.args.removed.now c.loop-one.one-index c.one-item.result c.loop-one-test.true c.one-item.is c.args.rows row.0 row.1

use Rattle.std.proofs.Common.{◌∙◌, refl, sym, arith}
use Rattle.std.proofs.lemmas.List.{ext_get_or, get_or-map, length-map}
use Rattle.accuse_core.specs.declared.mark.Mark.TheVariants as M
use Rattle.check_items.specs.Inside.Tables.{mark_by, marks_by}
use Rattle.check_items.proofs.journal.is_decided.Goals as goal

pub returns : goal.returns
returns c =
    let order = c.args.case.now.order in
    let keep = c.args.keep.now in (
      (λ _. ext_get_or M.Open c.args.core.now (marks_by keep order) (c.requires.ranks ∙ sym (length-map order (mark_by keep)))
          (λ rank inside.
          c.loop-rank.invariant rank (omega (arith, inside, c.requires.ranks, c.loop-rank-test.false, c.loop-rank.auto.rank-end, c.ranks-rank-end.ensures.ranks))
          ∙ sym (get_or-map (mark_by keep) order rank 0 M.Open (omega (arith, inside, c.requires.ranks))))),
      (λ _. refl),
    )

use Rattle.std.proofs.Common.{◌≡◌, ◌∙◌, ◌<◌, ℕ, Bool, List, All, length, get_or, ap, sym, subst}
use Rattle.std.specs.List.Sorted.{IsStrictlyIncreasing}
use Rattle.std.proofs.lemmas.List.Elements.{All-get_or, Contains-get_or}
use Rattle.accuse_core.specs.Marks.{kept_of}
use Rattle.valid_evidence.specs.Rows.{rows_left, ranks_left}
use Rattle.check_items.specs.Inside.Tables.{ranks_by}
use Rattle.check_items.proofs.TableLaws.{length-rows_left, marks_are_decided}
use Rattle.check_items.proofs.rows.row_tables.Goals as goal

pub ranks_left-requires : goal.ranks_left-requires
ranks_left-requires c =
    ap (λ (keep : List Bool). length keep) (c.as_slice.ensures.value ∙ c.in_ok-keep.ensures) ∙ length-rows_left c.args.removed.now c.ranks.result ∙ c.ranks.ensures.ranks

pub returns : goal.returns
returns c =
    let removed = c.args.removed.now in
    let order = c.args.case.now.order in
    let given = c.store-case.ensures.case.given in
    let law = c.rows_have_their_ranks.ensures in
    let keep : c.in_ok-keep.keep.items ≡ rows_left removed (length order) = c.in_ok-keep.ensures ∙ ap (rows_left removed) c.ranks.ensures.ranks in
    let kept : c.in_ok-kept.kept.items ≡ ranks_left removed order =
    c.in_ok-kept.ensures ∙ ap (λ (k : List Bool). ranks_by k order) (c.as_slice.ensures.value ∙ keep)
    ∙ ap kept_of (marks_are_decided removed order (length order)
    (λ k inside. subst (λ n. get_or order k 0 < n) (sym given.ranks) (All-get_or (λ (r : ℕ). r < length c.args.case.now.rows) order k 0 inside given.indexes))) in
    record {
      keep = keep;
      kept = kept;
      ranks = c.in_ok-ranks.ensures;
      are_ranks = record {
        ascending = subst IsStrictlyIncreasing (sym kept) (law.ascending removed order);
        below = subst (All (λ rank. rank < length order)) (sym kept) (λ k d inside. law.within removed order (get_or (ranks_left removed order) k d) (Contains-get_or (ranks_left removed order) k d inside));
      };
    }

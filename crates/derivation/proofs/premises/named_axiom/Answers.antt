use Rattle.std.proofs.Common.{◌∙◌, ap, subst, slice_index_or, [], length, ◌<◌}
use Rattle.std.specs.Option.{option_copied}
use Rattle.std.proofs.lemmas.List.Elements.{All-contains}
use Rattle.fact_table.specs.declared.types.Source.{Source}
use Rattle.el_rules.specs.Theories.{IsSourceOf}
use Rattle.case_file.specs.Cases.{theory_of}
use Rattle.derivation.proofs.RankLaws.{numbered_named, row_ranks}
use Rattle.derivation.proofs.premises.named_axiom.Goals as goal

pub returns-in-Left : goal.returns-in-Left
returns-in-Left c =
    numbered_named (theory_of c.args.case.now) c.args.part c.args.ranks.now c.args.source (Source.Left c.in-Left.number)
    c.left.result.now c.args.case.now.store.left c.in-Left.number (option_copied c.numbered.result)
    c.in-Left.is (c.left.ensures ∙ ap (λ s. s.left) c.store.ensures.store)
    (c.is_source.ensures.0 c.if-not-is_source.false) (λ the. the) c.numbered.ensures

pub returns-in-Right : goal.returns-in-Right
returns-in-Right c =
    numbered_named (theory_of c.args.case.now) c.args.part c.args.ranks.now c.args.source (Source.Right c.in-Right.number)
    c.right.result.now c.args.case.now.store.right c.in-Right.number (option_copied c.numbered-in-Right.result)
    c.in-Right.is (c.right.ensures ∙ ap (λ s. s.right) c.store-in-Right.ensures.store)
    (c.is_source.ensures.0 c.if-not-is_source.false) (λ the. the) c.numbered-in-Right.ensures

pub over_of-requires : goal.over_of-requires
over_of-requires c =
    All-contains (λ rank. rank < length c.args.case.now.order) c.args.ranks.now c.in-Row.rank c.requires.below
    (row_ranks c.args.part c.args.ranks.now c.in-Row.rank c.in-Row.number
    (subst (IsSourceOf c.args.part c.args.ranks.now) c.in-Row.is (c.is_source.ensures.0 c.if-not-is_source.false)))

pub returns-in-Row : goal.returns-in-Row
returns-in-Row c =
    numbered_named (theory_of c.args.case.now) c.args.part c.args.ranks.now c.args.source (Source.Row c.in-Row.rank c.in-Row.number)
    c.over_of.result.now (slice_index_or c.args.case.now.over c.in-Row.rank []) c.in-Row.number (option_copied c.numbered-in-Row.result)
    c.in-Row.is c.over_of.ensures
    (c.is_source.ensures.0 c.if-not-is_source.false) (λ the. the) c.numbered-in-Row.ensures

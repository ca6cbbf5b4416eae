use Rattle.std.proofs.Common.{[], sym, subst}
use Rattle.std.proofs.lemmas.List.Elements.{All-nil}
use Rattle.std.specs.Prelude.{Contains}
use Rattle.el_logic.specs.declared.types.Part.{Part}
use Rattle.case_file.specs.Cases.{CaseView, IsCase}
use Rattle.case_file.specs.Incoherence.{IsIncoherentFor}
use Rattle.commit_book.proofs.laws.family_laws.Goals as goal

pub returns-clause-closed : goal.returns-clause-closed
returns-clause-closed c part whole within incoherent = c.more_rows_stay_incoherent.ensures c.args.book.now.case Part.Both part whole within incoherent

pub returns-clause-none : goal.returns-clause-none
returns-clause-none c =
    let book = c.journal.ensures.book in
    let same = book.table.case_is in
    subst (λ (of : CaseView). ¬ (IsIncoherentFor of Part.Both [])) same
    (c.a_closed_table_shows_coherence.ensures c.args.book.now.table Part.Both [] (subst IsCase (sym same) book.case_is) book.closed (All-nil (Contains c.args.book.now.table.ranks)))

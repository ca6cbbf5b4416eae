use Rattle.std.proofs.Common.{◌<◌, Contains, length, sym, subst}
use Rattle.std.proofs.lemmas.List.Elements.{All-contains_itself, All-weaker}
use Rattle.el_logic.specs.declared.types.Part.{Part}
use Rattle.case_file.specs.Cases.{CaseView, IsCase}
use Rattle.case_file.specs.Incoherence.{IsIncoherentFor}
use Rattle.commit_book.proofs.laws.verdict_laws.Goals as goal

pub returns : goal.returns
returns c =
    let case = c.args.book.now.case in
    let is_case = c.journal.ensures.book.case_is in
    record {
      no = λ ranks steps below good. c.good_derivations_show_incoherence.ensures case Part.Both ranks steps is_case
          (All-weaker (Contains ranks) (λ rank. rank < length case.order) below ranks (All-contains_itself ranks)) good;
      yes = λ table same closed. subst (λ (of : CaseView). ¬ (IsIncoherentFor of Part.Both table.ranks)) same
          (c.a_closed_table_shows_coherence.ensures table Part.Both table.ranks (subst IsCase (sym same) is_case) closed
          (All-contains_itself table.ranks));
      more = λ ranks more steps within good. c.good_derivations_stay_good_for_more_ranks.ensures.derivation case Part.Both ranks more steps within good;
    }

use Rattle.std.proofs.Common.{◌≡◌, ◌≤◌, List, take, sym, subst, ap, ◌∙◌}
use Rattle.el_logic.specs.declared.types.Part.{Part}
use Rattle.case_file.specs.Incoherence.{IsIncoherentFor}
use Rattle.accuse_core.specs.declared.mark.Mark.{Mark}
use Rattle.accuse_core.specs.declared.journal.Entry.{Entry}
use Rattle.accuse_core.specs.Marks.{opening, kept_of, number_kept}
use Rattle.accuse_core.specs.Journal.{AreAllowed, events_of, replayed}
use Rattle.commit_book.specs.Books.{ranks_of}
use Rattle.commit_book.proofs.OpeningLaws.{opening_ahead}
use Rattle.commit_book.proofs.GrowthLaws.{first_stay}
use Rattle.commit_book.proofs.laws.kept_ranks_stay_first.Goals as goal

pub returns : goal.returns
returns c earlier more seen is few =
    let case = c.args.book.now.case in
    let ranks = ranks_of case in
    let book = c.journal.ensures.book in
    let allowed = subst (λ (entries : List Entry). AreAllowed (IsIncoherentFor case Part.Both) (opening ranks) (events_of entries)) is book.journal.allowed in
    let marks_are = book.core ∙ ap (replayed ranks) is in
    subst (λ (marks : List Mark). (seen ≤ number_kept marks) × (take seen (kept_of marks) ≡ take seen (kept_of (replayed ranks earlier)))) (sym marks_are)
    (first_stay c.kept_laws.ensures c.block_laws.ensures (IsIncoherentFor case Part.Both) (opening ranks) earlier more seen (opening_ahead ranks) allowed few)

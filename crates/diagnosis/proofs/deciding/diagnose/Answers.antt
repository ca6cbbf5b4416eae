use Rattle.std.proofs.Common.{ℕ, ap, subst}
use Rattle.std.proofs.lemmas.Result.{IfOk-weaker}
use Rattle.commit_book.specs.Books.{BookView, ranks_of}
use Rattle.finish_book.specs.Finishing.{IsFinishedBy}
use Rattle.diagnosis.specs.Shares.{IsShared}
use Rattle.diagnosis.proofs.PartLaws.{share_finished}
use Rattle.diagnosis.proofs.deciding.diagnose.Goals as goal

pub returns-clause-shared : goal.returns-clause-shared
returns-clause-shared g c =
    let told = c.in_ok-book-2.book.entries in
    let same = ap (λ (book : BookView). ranks_of book.case) c.in_ok-book.ensures in
    let n = ranks_of c.args.base.case in
    let share : IsShared n told = subst (λ (k : ℕ). IsShared k told) same c.in_ok-book-2.ensures.shared in
    IfOk-weaker c.finished.result (λ (after : BookView). IsFinishedBy told after.entries) (λ (after : BookView). IsShared n after.entries)
    (λ after finished. share_finished n told after.entries share finished)
    c.finished.ensures.entries

use Rattle.std.proofs.Common.{◌≡◌, List, sym, subst, rules}
use Rattle.std.proofs.lemmas.Result.{IfOk-weaker}
use Rattle.accuse_core.specs.declared.journal.Entry.{Entry}
use Rattle.commit_book.specs.Books.{BookView, ranks_of}
use Rattle.commit_lock.specs.Seats.{seen}
use Rattle.diagnosis.specs.Shares.{IsShared}
use Rattle.diagnosis.proofs.PartLaws.{share_of_all}
use Rattle.diagnosis.proofs.deciding.share_work.Goals as goal

pub returns-clause-shared : goal.returns-clause-shared
returns-clause-shared g c =
    let first = c.in_ok-lock.first in
    let last = c.join_parts.new.first in
    let n = ranks_of c.args.book.case in
    let ranks : c.ranks-ranks.result ≡ n = search rules in
    let share : IsShared n (seen last.seat) =
    share_of_all c.in_ok-lock.lock c.in_ok-lock.word c.args.book c.args.workers c.in_ok-all.all.items first c.split_parts.new.first last
    c.in_ok-lock.ensures c.in_ok-parts.ensures.left c.in_ok-join_parts.ensures (search rules)
    c.ranks-ranks.result ranks c.requires.workers.0 c.in_ok-all.ensures.worked in
    IfOk-weaker c.closed.result (λ (after : BookView). after.entries ≡ seen last.seat) (λ (after : BookView). IsShared n after.entries)
    (λ after same. subst (λ (l : List Entry). IsShared n l) (sym same) share)
    c.closed.ensures.entries

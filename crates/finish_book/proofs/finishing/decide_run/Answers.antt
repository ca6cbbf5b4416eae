use Rattle.std.proofs.Common.{◌≡◌, ℕ, ◌+◌, ◌++◌, ◌∷◌, [], false, List, length, take, ap, sym, subst, ◌∙◌, arith}
use Rattle.el_logic.specs.declared.types.Part.{Part}
use Rattle.derivation.specs.Steps.{IsGoodDerivation}
use Rattle.accuse_core.specs.Marks.{is_decided, mark_at, front_of, kept_of}
use Rattle.commit_book.specs.Books.{ranks_of}
use Rattle.finish_book.proofs.MarkLemmas.{ascending_are_few}
use Rattle.finish_book.proofs.EndLemmas.{ends_last, next_open, why_good}
use Rattle.finish_book.proofs.TellLemmas.{last_round, one_round}
use Rattle.finish_book.proofs.finishing.decide_run.Goals as goal

pub overflow_cast-seen : goal.overflow_cast-seen
overflow_cast-seen c =
    let closed = c.case.ensures.closed in
    let few = ascending_are_few c.args.run.table.ranks (length c.args.run.table.case.order) closed.ranks.ascending closed.ranks.below in
    let ranks : length c.args.run.table.case.order ≡ ranks_of c.args.book.now.case = ap ranks_of c.requires.run.table.case_is in
    let count : length c.ranks.result.now ≡ length c.args.run.table.ranks = ap (λ (l : List ℕ). length l) c.ranks.ensures in
    omega (arith, few, ranks, count)

pub remove_rank-requires-clause-undecided : goal.remove_rank-requires-clause-undecided
remove_rank-requires-clause-undecided c =
    let book = c.args.book.now in
    let front : c.front.result ≡ front_of book.marks = c.front.ensures ∙ ap front_of c.core.ensures in
    subst (λ n. is_decided (mark_at c.keep_run.new.book.marks n) ≡ false) (sym (ap (λ n. n + c.args.run.known) front))
    (next_open book c.keep_run.new.book c.args.run c.in-Some.why c.requires.run c.requires.longest c.in-Some.is c.in_ok-keep_run.ensures c.journal.ensures.book.ranks
    c.more_rows_stay_incoherent.ensures c.books_are_sound.ensures.kept_is_coherent (λ rank kept. (c.kept_ranks_have_the_mark.ensures c.keep_run.new.book.marks rank).1 kept))

pub remove_rank-requires-clause-good : goal.remove_rank-requires-clause-good
remove_rank-requires-clause-good c =
    let book = c.args.book.now in
    let kept = c.keep_run.new.book in
    let front : c.front.result ≡ front_of book.marks = c.front.ensures ∙ ap front_of c.core.ensures in
    let count : length c.ranks.result.now ≡ length c.args.run.table.ranks = ap (λ (l : List ℕ). length l) c.ranks.ensures in
    subst (λ n. IsGoodDerivation kept.case Part.Both (take (length c.ranks.result.now) (kept_of kept.marks) ++ n ∷ []) c.in-Some.why) (sym (ap (λ n. n + c.args.run.known) front))
    (why_good book kept c.args.run c.in-Some.why c.requires.run c.requires.longest c.in-Some.is c.in_ok-keep_run.ensures c.journal.ensures.book.ranks
    c.more_rows_stay_incoherent.ensures c.books_are_sound.ensures.kept_is_coherent (λ rank held. (c.kept_ranks_have_the_mark.ensures kept.marks rank).1 held)
    (length c.ranks.result.now) count)

pub returns-in-None : goal.returns-in-None
returns-in-None c =
    last_round c.args.book.now c.keep_run.new.book c.args.run.known c.in_ok-keep_run.ensures c.requires.front
    (ends_last c.args.book.now c.args.run c.requires.run c.requires.longest c.in-None.is) c.journal.ensures.book.ranks
    (c.front_is_the_least_undecided_rank.ensures.within c.keep_run.new.book.marks)

pub returns-in_ok-remove_rank-in-Some : goal.returns-in_ok-remove_rank-in-Some
returns-in_ok-remove_rank-in-Some c =
    let book = c.args.book.now in
    let front : c.front.result ≡ front_of book.marks = c.front.ensures ∙ ap front_of c.core.ensures in
    one_round book c.keep_run.new.book c.remove_rank.new.book c.args.run.known (c.front.result + c.args.run.known) (ap (λ n. n + c.args.run.known) front)
    c.in_ok-keep_run.ensures c.in_ok-remove_rank-in-Some.ensures c.requires.front c.journal.ensures.book.ranks

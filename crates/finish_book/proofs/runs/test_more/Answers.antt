use Rattle.std.proofs.Common.{◌≡◌, ℕ, ◌+◌, ◌≤◌, IfOk, List, length, ap, subst, ◌∙◌, arith}
use Rattle.case_file.specs.Cases.{CaseView}
use Rattle.saturate.specs.Decisions.{IsVerdict}
use Rattle.accuse_core.specs.Marks.{front_of, kept_of}
use Rattle.commit_book.specs.Books.{ranks_of}
use Rattle.finish_book.specs.Inside.Runs.{with_run}
use Rattle.finish_book.proofs.RunLemmas.{ranks_ascend, ranks_inside, ranks_after, ranks_follow}
use Rattle.finish_book.proofs.runs.test_more.Goals as goal

pub test_block-requires-clause-ascending : goal.test_block-requires-clause-ascending
test_block-requires-clause-ascending g c =
    let book = c.args.book.now in
    let run = c.args.run.now in
    let front : c.front.result ≡ front_of book.marks = c.front.ensures ∙ ap front_of c.core.ensures in
    ranks_ascend book.marks (front_of book.marks) (c.front.result + run.known) run.known c.args.count (kept_of book.marks) run.table.ranks c.as_slice.result.now
    (ap (λ n. n + run.known) front) c.requires.run.table.ranks_are (c.as_slice.ensures.value ∙ c.in_ok-ranks.ensures)

pub test_block-requires-clause-below : goal.test_block-requires-clause-below
test_block-requires-clause-below g c =
    let book = c.args.book.now in
    let run = c.args.run.now in
    let front : c.front.result ≡ front_of book.marks = c.front.ensures ∙ ap front_of c.core.ensures in
    let ranks : length run.table.case.order ≡ ranks_of book.case = ap ranks_of c.requires.run.table.case_is in
    let inside : c.front.result + run.known + c.args.count ≤ length run.table.case.order = omega (arith, front, ranks, c.requires.run.inside, c.requires.count) in
    ranks_inside book.marks (front_of book.marks) (c.front.result + run.known) run.known c.args.count (kept_of book.marks) run.table.ranks c.as_slice.result.now
    (ap (λ n. n + run.known) front) c.requires.run.table.ranks_are (c.as_slice.ensures.value ∙ c.in_ok-ranks.ensures) (length run.table.case.order) inside

pub test_block-requires-clause-after : goal.test_block-requires-clause-after
test_block-requires-clause-after g c =
    let book = c.args.book.now in
    let run = c.args.run.now in
    let front : c.front.result ≡ front_of book.marks = c.front.ensures ∙ ap front_of c.core.ensures in
    ranks_after book.marks (front_of book.marks) (c.front.result + run.known) run.known c.args.count (kept_of book.marks) run.table.ranks c.as_slice.result.now
    (ap (λ n. n + run.known) front) c.requires.run.table.ranks_are (c.as_slice.ensures.value ∙ c.in_ok-ranks.ensures) c.books_are_sound.ensures.kept_before_front

pub returns-clause-verdict : goal.returns-clause-verdict
returns-clause-verdict g c =
    let book = c.args.book.now in
    let run = c.args.run.now in
    let front : c.front.result ≡ front_of book.marks = c.front.ensures ∙ ap front_of c.core.ensures in
    let inside : front_of book.marks + run.known ≤ length book.marks = omega (arith, c.journal.ensures.book.ranks, c.requires.run.inside) in
    let ranks = ranks_follow book.marks (front_of book.marks) (c.front.result + run.known) run.known c.args.count (kept_of book.marks) run.table.ranks c.as_slice.result.now
    (ap (λ n. n + run.known) front) c.requires.run.table.ranks_are (c.as_slice.ensures.value ∙ c.in_ok-ranks.ensures) inside in
    subst (λ (case : CaseView). IfOk c.test_block.result (IsVerdict case (with_run book (run.known + c.args.count)))) c.requires.run.table.case_is
    (subst (λ (all : List ℕ). IfOk c.test_block.result (IsVerdict run.table.case all)) ranks c.test_block.ensures)

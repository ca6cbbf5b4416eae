use Rattle.std.proofs.Common.{◌≡◌, ◌⊎◌, ℕ, length, List, refl, ap, ◌∙◌, subst, arith}
use Rattle.accuse_core.specs.declared.mark.Mark.{Mark}
use Rattle.accuse_core.specs.declared.mark.Mark.TheVariants.{Open, Yes}
use Rattle.accuse_core.specs.Marks.{is_kept, kept_of, mark_at}
use Rattle.commit_book.proofs.RankLaws.{few_ranks}
use Rattle.spec_workers.proofs.AheadLemmas.{newest_given}
use Rattle.spec_workers.proofs.ahead.newest.Goals as goal

pub overflow_cast-seen : goal.overflow_cast-seen
overflow_cast-seen c =
    let core = ap (λ (marks : List Mark). length marks) c.core-core.ensures in
    let few = few_ranks is_kept 0 c.core-core.result.now in
    let ranks = c.journal.ensures.book.ranks in
    let counted = c.ranks-ranks.ensures.ranks in
    rw c.kept.ensures (omega (arith, few, core, ranks, counted, c.ranks-ranks.type_inv))

pub returns : goal.returns
returns c =
    let core = c.core-core.ensures in
    let mark = c.mark.ensures ∙ ap (λ (marks : List Mark). mark_at marks c.args.rank) core in
    let undecided = subst (λ (m : Mark). (m ≡ Open) ⊎ ((yes : ℕ) × (m ≡ Yes yes))) mark c.in-Open.is in
    let seen = ap length c.kept.ensures ∙ ap (λ (marks : List Mark). length (kept_of marks)) core in (
      refl,
      newest_given c.args.book.now c.args.rank (length c.kept.result.now) c.in_ok-snapshot.snapshot c.journal.ensures.book
          c.books_are_sound.ensures.kept_before_front c.books_are_sound.ensures.decided_before_front c.requires.inside undecided
          seen (c.in_ok-snapshot.ensures ∙ c.table.ensures),
    )

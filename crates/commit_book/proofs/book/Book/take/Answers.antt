use Rattle.std.proofs.Common.{◌∷◌, ◌++◌, [], refl, sym, subst, ap, take, ◌∙◌}
use Rattle.accuse_core.specs.declared.event.Event.TheVariants as E
use Rattle.accuse_core.specs.Marks.{kept_of}
use Rattle.accuse_core.specs.Events.{on_take}
use Rattle.commit_book.specs.Books.{BookView, IsTableFor, entry_of}
use Rattle.commit_book.specs.Inside.Holdings.{IsReady, spare_of}
use Rattle.commit_book.proofs.PutLaws.{take_over, take_seen, snapshot_for}
use Rattle.commit_book.proofs.CallLaws.{called, take_keeps}
use Rattle.commit_book.proofs.book.Book.take.Goals as goal

pub invariant_of-self : goal.invariant_of-self
invariant_of-self c =
    let call = called _ _ _ _ c.self.view_is c.laws.ensures.laws c.laws.ensures.ahead c.self.invariant.0 in (
      take_keeps call c.args.worker c.args.rank c.enter.new.core c.enter.new.journal.entries c.requires.rank c.enter.ensures.marks c.enter.ensures.entries,
      subst (IsReady c.self.inside.table c.enter.new.journal.room) (sym c.take.ensures.after) tt,
    )

pub returns-in_default-enter : goal.returns-in_default-enter
returns-in_default-enter c = record {
  told = record {
    case = ap (λ (b : BookView). b.case) c.self.view_is;
    marks = c.enter.ensures.marks ∙ ap (λ (b : BookView). (on_take b.marks c.args.rank).marks) c.self.view_is;
    entries = c.enter.ensures.entries
        ∙ ap (λ (b : BookView). b.entries ++ entry_of b.marks (E.Take c.args.worker c.args.rank) ∷ []) c.self.view_is;
    spare = ap spare_of c.take.ensures.after;
  };
  reply = sym (take_over c.self.inside.core c.args.rank (λ seen is. c.in_default-enter.not-Seen seen (c.enter.ensures.reply ∙ is)))
      ∙ ap (λ (b : BookView). (on_take b.marks c.args.rank).reply) c.self.view_is;
  given = tt;
}

pub invariant_of-self-2 : goal.invariant_of-self-2
invariant_of-self-2 c =
    let call = called _ _ _ _ c.self.view_is c.laws.ensures.laws c.laws.ensures.ahead c.self.invariant.0 in (
      take_keeps call c.args.worker c.args.rank c.enter.new.core c.enter.new.journal.entries c.requires.rank c.enter.ensures.marks c.enter.ensures.entries,
      subst (IsReady c.self.inside.table c.enter.new.journal.room) (sym c.take.ensures.after) tt,
    )

pub returns-clause-given : goal.returns-clause-given
returns-clause-given c = (
  refl,
  subst (λ (b : BookView). IsTableFor b.case (take c.in-Seen.seen (kept_of b.marks)) c.in-Some.snapshot) c.self.view_is
      (snapshot_for c.self.inside.case.value (kept_of c.self.inside.core) c.self.inside.table c.in-Some.snapshot c.self.inside.journal.room
      c.in-Seen.seen c.self.inside.next c.self.invariant.0.settled.is_for c.self.invariant.1 (sym c.take.ensures.value ∙ c.in-Some.is)
      (take_seen c.self.inside.core c.args.rank c.in-Seen.seen (sym c.enter.ensures.reply ∙ c.in-Seen.is))),
)

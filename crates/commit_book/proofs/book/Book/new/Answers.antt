use Rattle.std.proofs.Common.{◌≡◌, map, ap, sym, subst, ◌∙◌}
use Rattle.std.specs.Prelude.{replicate}
use Rattle.case_file.specs.Cases.{IsCase}
use Rattle.accuse_core.specs.Marks.{opening}
use Rattle.commit_book.specs.declared.held.Held.TheVariants.{Nothing}
use Rattle.commit_book.specs.Books.{ranks_of}
use Rattle.commit_book.specs.Inside.Holdings.{why_of}
use Rattle.commit_book.proofs.OpeningLaws.{no_whys, opening_kept}
use Rattle.commit_book.proofs.book.Book.new.Goals as goal

pub invariant_of-result : goal.invariant_of-result
invariant_of-result c =
    let ranks : c.ranks-ranks.result ≡ ranks_of c.args.case.value = c.ranks-ranks.ensures.ranks ∙ ap ranks_of c.deref-2.ensures in (
      opening_kept c.args.case.value c.in_ok-core.core c.new-2.result.entries c.in_ok-held.held.items c.args.base
          (subst IsCase c.deref.ensures c.store.ensures.case) c.case.ensures.closed c.requires.case c.requires.none
          (c.in_ok-core.ensures ∙ ap opening ranks) c.new-2.ensures (c.in_ok-held.ensures ∙ ap (λ n. replicate n Nothing) ranks),
      tt,
    )

pub returns : goal.returns
returns c =
    let ranks : c.ranks-ranks.result ≡ ranks_of c.args.base.case = c.ranks-ranks.ensures.ranks ∙ ap ranks_of (c.deref-2.ensures ∙ sym c.requires.case) in
    let marks = c.in_ok-core.ensures ∙ ap opening ranks in
    let whys = ap (map why_of) (c.in_ok-held.ensures ∙ ap (λ n. replicate n Nothing) ranks) ∙ no_whys (ranks_of c.args.base.case) in
    λ i. record {
      case = sym c.requires.case i;
      marks = marks i;
      entries = c.new-2.ensures i;
      table = c.args.base;
      whys = whys i;
      spare = 0;
    }

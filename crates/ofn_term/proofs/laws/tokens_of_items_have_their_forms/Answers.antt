use Rattle.std.proofs.Common.{All, subst, sym}
use Rattle.std.specs.Prelude.{None}
use Rattle.ofn_lex.specs.Texts.{IsTokenOf, StandInOrder}
use Rattle.ofn_term.proofs.laws.tokens_of_items_have_their_forms.Goals as goal

pub returns-clause-each : goal.returns-clause-each
returns-clause-each c = λ text most items has.
    subst (All (IsTokenOf text)) (sym has.stand.written) (c.tokens_have_their_forms.ensures.each text 0 has.tokens None has.read)

pub returns-clause-in_order : goal.returns-clause-in_order
returns-clause-in_order c = λ text most items has.
    subst StandInOrder (sym has.stand.written) (c.tokens_have_their_forms.ensures.in_order text 0 has.tokens None has.read)

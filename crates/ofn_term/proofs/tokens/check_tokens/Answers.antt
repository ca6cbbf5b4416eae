use Rattle.std.proofs.Common.{◌≤◌, ◌<◌, length, IsUtf8, IsCharBoundary, subst}
use Rattle.std.specs.Prelude.{Option, Some, Ok, IfSome}
use Rattle.ofn_lex.specs.declared.token.Token.{Token}
use Rattle.ofn_lex.specs.Texts.{IsAnswer, IsNext, CutsAtCharacters}
use Rattle.ofn_term.specs.Texts.{IsOfCharacters}
use Rattle.ofn_term.proofs.Checking.{none_passed, one_more_passed, all_passed, to_the_end}
use Rattle.ofn_term.proofs.tokens.check_tokens.Goals as goal

pub loop-next-init : goal.loop-next-init
loop-next-init c = none_passed c.args.text.now

pub loop-next-preserved : goal.loop-next-preserved
loop-next-preserved c =
    let text = c.args.text.now in
    let token = c.in-Some.token in
    let next : IsNext text c.loop-next.at token = subst (λ (o : Option Token). IsAnswer text c.loop-next.at (Ok o)) c.in-Some.is c.in-Ok.ensures.format in
    let past = subst (λ (o : Option Token). IfSome o (λ t. (c.loop-next.at ≤ t.start) × (t.start < t.end))) c.in-Some.is c.in-Ok.ensures.past in
    let within = subst (λ (o : Option Token). IfSome o (λ t. t.end ≤ length text)) c.in-Some.is c.in-Ok.ensures.within in
    let cut = λ (utf8 : IsUtf8 text) (at : IsCharBoundary text c.loop-next.at). let is : IsOfCharacters text token = subst (λ (o : Option Token). CutsAtCharacters text (Ok o)) c.in-Some.is (c.in-Ok.ensures.characters utf8 at) in is in
    one_more_passed text c.loop-next.at token c.loop-next.invariant next past within cut

pub returns-in-Err-clause-err : goal.returns-in-Err-clause-err
returns-in-Err-clause-err c =
    let to = c.loop-next.invariant in
    (to.tokens, all_passed c.args.text.now c.loop-next.at (Some c.in-Err.field-0) to c.in-Err.ensures.format)

pub returns-in_default-clause-ok : goal.returns-in_default-clause-ok
returns-in_default-clause-ok c =
    let done = subst (λ (next : Option Token). IsAnswer c.args.text.now c.loop-next.at (Ok next)) c.in_default.is c.in-Ok.ensures.format in
    to_the_end c.args.text.now c.loop-next.at c.loop-next.invariant done

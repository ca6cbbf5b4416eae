use Rattle.std.proofs.Common.{◌≡◌, ◌∙◌, ℕ, List, Bor, Err, ap, map, sym, subst}
use Rattle.std.specs.List.{All}
use Rattle.std.specs.Str.{IsUtf8}
use Rattle.std.proofs.lemmas.Result.{IfOk-weaker}
use Rattle.command_words.specs.declared.types.WordsFault.TheVariants.{Usage}
use Rattle.command_words.specs.Inside.Seen.{seen}
use Rattle.command_words.proofs.CommandLaws.{check_stands, unread_is_no_check, unasked_is_no_check}
use Rattle.command_words.proofs.check.read_check_words.Goals as goal

abbrev texts : List (Bor (List ℕ)) → List (List ℕ)
texts items = map (λ (text : Bor (List ℕ)). text.now) items

pub read_given-requires : goal.read_given-requires
read_given-requires c = subst (λ (items : List (Bor (List ℕ))). All IsUtf8 (texts items)) (sym c.as_slice.ensures.value) c.in-Ok.ensures.utf8

pub returns-in-Err-clause-usage : goal.returns-in-Err-clause-usage
returns-in-Err-clause-usage c = λ e command.
    let fault : c.in-Err.fault ≡ Usage = cc in
    unread_is_no_check c.args.words.now (texts c.as_slice.result.now) (ap texts c.as_slice.ensures.value ∙ c.in-Ok.ensures.same) command (c.in-Err.ensures.err (ap (λ fault. Err fault) fault))

pub returns-clause-ok : goal.returns-clause-ok
returns-clause-ok c = IfOk-weaker c.check_of.result _ _
    (λ command asks. check_stands c.args.words.now (texts c.as_slice.result.now) (ap texts c.as_slice.ensures.value ∙ c.in-Ok.ensures.same)
    (seen c.in-Ok-read_given.given) command c.in-Ok-read_given.ensures.ok asks) c.check_of.ensures.ok

pub returns-clause-usage : goal.returns-clause-usage
returns-clause-usage c = λ e command.
    unasked_is_no_check c.args.words.now (texts c.as_slice.result.now) (ap texts c.as_slice.ensures.value ∙ c.in-Ok.ensures.same)
    (seen c.in-Ok-read_given.given) command c.in-Ok-read_given.ensures.ok (c.check_of.ensures.err e)

use Rattle.std.specs.Prelude.{MatchOption, Option}
use Rattle.std.proofs.lemmas.Result.{IfOk-weaker}
use Rattle.valid_evidence.specs.Items.{case_loaded, IsPartShownEmpty}
use Rattle.check_items.specs.declared.item.BadItem.{BadItem}
use Rattle.check_items.specs.Bad.{IsBadPart, IsRefusalAnswer}
use Rattle.check_items.proofs.WholeLaws.{refusal_answer}
use Rattle.check_items.proofs.check.check_refusal.Goals as goal

pub returns : goal.returns
returns c =
    let loaded = c.args.loaded.now in
    let part = c.in-Refusal.part in
    let given = c.as_slice.result.now in
    IfOk-weaker c.bad_part.result (λ (found : Option BadItem). MatchOption found (IsPartShownEmpty (case_loaded loaded) part given) (IsBadPart (case_loaded loaded) part given))
    (IsRefusalAnswer loaded c.args.evidence.now)
    (λ found h. refusal_answer loaded c.args.evidence.now part c.in-Refusal-body.steps given c.in-Refusal.is c.in-Refusal-body.is c.as_slice.ensures c.in-None.ensures found h)
    c.bad_part.ensures

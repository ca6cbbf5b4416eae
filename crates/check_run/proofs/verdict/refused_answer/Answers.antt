use Rattle.std.proofs.Common.{◌≡◌, ℕ, List, subst}
use Rattle.std.specs.Prelude.{Ok}
use Rattle.std.proofs.lemmas.Result.{IfOk-weaker}
use Rattle.evidence_text.specs.EvidenceText.{plain}
use Rattle.evidence_text.specs.Reading.{text_read}
use Rattle.check_items.specs.Bad.{IsRefusalAnswer}
use Rattle.check_run.specs.Inside.Stages.{IsRefusedAnswer}
use Rattle.check_run.proofs.PlainLaws.{refused_answer_of}
use Rattle.check_run.proofs.verdict.refused_answer.Goals as goal

pub returns-in-Ok : goal.returns-in-Ok
returns-in-Ok c =
    let loaded = c.args.loaded.now in
    let texts = c.args.texts.now in
    let e = c.in-Ok.evidence in
    let read = subst (λ (t : List ℕ). text_read t ≡ Ok (plain e)) c.as_slice.ensures c.in-Ok.ensures.exact in
    IfOk-weaker c.check_refusal.result (IsRefusalAnswer loaded e) (IsRefusedAnswer loaded texts)
    (λ found h. refused_answer_of loaded texts e found read h) c.check_refusal.ensures

use Rattle.std.proofs.Common.{◌≡◌, ℕ, List, subst}
use Rattle.std.specs.Prelude.{Ok}
use Rattle.std.proofs.lemmas.Result.{IfOk-weaker}
use Rattle.evidence_text.specs.EvidenceText.{plain}
use Rattle.evidence_text.specs.Reading.{text_read}
use Rattle.check_items.specs.Bad.{IsItemAnswer}
use Rattle.check_run.specs.Inside.Stages.{IsRunAnswer}
use Rattle.check_run.proofs.PlainLaws.{run_answer_of}
use Rattle.check_run.proofs.verdict.run_answer.Goals as goal

pub returns-in-Ok : goal.returns-in-Ok
returns-in-Ok c =
    let loaded = c.args.loaded.now in
    let texts = c.args.texts.now in
    let e = c.in-Ok.evidence in
    let read = subst (λ (t : List ℕ). text_read t ≡ Ok (plain e)) c.as_slice.ensures c.in-Ok.ensures.exact in
    IfOk-weaker c.check_diagnosis.result (IsItemAnswer loaded c.as_slice-in-Ok.result.now e) (IsRunAnswer loaded texts)
    (λ found h. run_answer_of loaded texts e found read (subst (λ (out : List ℕ). IsItemAnswer loaded out e found) c.as_slice-in-Ok.ensures h)) c.check_diagnosis.ensures

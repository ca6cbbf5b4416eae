use Rattle.std.specs.Prelude.{MatchOption, Option}
use Rattle.std.proofs.lemmas.Result.{IfOk-weaker}
use Rattle.valid_evidence.specs.Valid.{IsValidDiagnosis}
use Rattle.check_items.specs.declared.item.BadItem.{BadItem}
use Rattle.check_items.specs.Bad.{IsBadDiagnosis, IsItemAnswer}
use Rattle.check_items.proofs.WholeLaws.{diagnosis_answer}
use Rattle.check_items.proofs.check.check_diagnosis.Goals as goal

pub returns : goal.returns
returns c =
    let loaded = c.args.loaded.now in
    let out = c.args.out.now in
    let given = c.as_slice-removed.result.now in
    let entries = c.as_slice-entries.result.now in
    let model = c.in-Diagnosis-body.model in
    IfOk-weaker c.bad_diagnosis.result
    (λ (found : Option BadItem). MatchOption found (IsValidDiagnosis loaded out given model entries) (IsBadDiagnosis loaded out given model entries))
    (IsItemAnswer loaded out c.args.evidence.now)
    (λ found h. diagnosis_answer loaded out c.args.evidence.now c.in-Diagnosis-body.removed given model c.in-Diagnosis-body.journal entries c.in-Diagnosis.is c.in-Diagnosis-body.is
    c.as_slice-removed.ensures c.as_slice-entries.ensures c.in-None.ensures found h)
    c.bad_diagnosis.ensures

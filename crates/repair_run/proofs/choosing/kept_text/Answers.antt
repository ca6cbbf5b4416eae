use Rattle.std.specs.Prelude.{length}
use Rattle.repair_run.specs.Outcomes.{case_in}
use Rattle.repair_run.proofs.ChoiceLaws.{shares_in}
use Rattle.repair_run.proofs.choosing.kept_text.Goals as goal

pub returns : goal.returns
returns c =
    let e = c.in_ok-evidence.evidence in
    let book = c.args.book.now in
    let shares = shares_in (length (case_in c.args.loaded.now).order) book.entries e.body c.in_ok-evidence.ensures.journal c.requires.book.shared in
    (e, c.in_ok-evidence.ensures.valid, c.in_ok-evidence.ensures.text, c.evidence_is_a_value.ensures, c.in_ok-text.ensures, shares)

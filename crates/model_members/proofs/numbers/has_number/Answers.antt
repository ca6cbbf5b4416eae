use Rattle.std.proofs.Common.{◌∙◌, sym, rules}
use Rattle.std.proofs.lemmas.Bool.{false≢true}
use Rattle.model_members.proofs.SearchLaws.{search_found, search_missed, finds, found}
use Rattle.model_members.proofs.numbers.has_number.Goals as goal

pub returns-in-Ok-clause-value : goal.returns-in-Ok-clause-value
returns-in-Ok-clause-value c = search_found c.args.numbers.now c.args.x c.in-Ok.field-0 c.requires c.in-Ok.ensures.position

pub returns-in-Ok-clause-there : goal.returns-in-Ok-clause-there
returns-in-Ok-clause-there c = (
  (λ yes. found c.args.numbers.now c.args.x (sym (search_found c.args.numbers.now c.args.x c.in-Ok.field-0 c.requires c.in-Ok.ensures.position))),
  (λ there. search rules),
)

pub returns-in-Err-clause-value : goal.returns-in-Err-clause-value
returns-in-Err-clause-value c = search_missed c.args.numbers.now c.args.x c.in-Err.field-0 c.requires c.in-Err.ensures.position

pub returns-in-Err-clause-there : goal.returns-in-Err-clause-there
returns-in-Err-clause-there c = (
  (λ yes. absurd (false≢true yes)),
  (λ there. search_missed c.args.numbers.now c.args.x c.in-Err.field-0 c.requires c.in-Err.ensures.position ∙ finds c.args.numbers.now c.args.x there),
)

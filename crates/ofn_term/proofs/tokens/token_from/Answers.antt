use Rattle.ofn_term.proofs.Checking.{first_is_read, no_fault_is_read}
use Rattle.ofn_term.proofs.tokens.token_from.Goals as goal

pub returns-in-Ok-clause-begins : goal.returns-in-Ok-clause-begins
returns-in-Ok-clause-begins c = λ tokens has.
    first_is_read c.args.text.now c.args.at c.in-Ok.next tokens (c.what_is_read_is_what_the_format_has.ensures.alone c.args.text.now c.args.at) c.in-Ok.ensures.answer has

pub returns-in-Err-clause-begins : goal.returns-in-Err-clause-begins
returns-in-Err-clause-begins c = λ tokens has.
    absurd (no_fault_is_read c.args.text.now c.args.at c.in-Err.field-0 tokens (c.what_is_read_is_what_the_format_has.ensures.alone c.args.text.now c.args.at) c.in-Err.ensures.answer has)

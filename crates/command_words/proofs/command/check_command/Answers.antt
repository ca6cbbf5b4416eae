use Rattle.std.proofs.Common.{◌∙◌, ap₂}
use Rattle.std.proofs.lemmas.Result.{IfOk-weaker}
use Rattle.clap.specs.Words.{with_rule}
use Rattle.clap.specs.Built.{AddsArg}
use Rattle.clap.specs.declared.builder.command.Command.{Command}
use Rattle.command_words.proofs.command.check_command.Goals as goal

pub returns : goal.returns
returns c =
    let refused = c.in_ok-command.ensures.shape c.flag-refused.ensures.local ∙ ap₂ with_rule c.bare_command.ensures c.flag-refused.ensures.rule in
    let el_part = c.in_ok-command-2.ensures.shape c.flag-el_part.ensures.local ∙ ap₂ with_rule refused c.flag-el_part.ensures.rule in
    IfOk-weaker c.arg-3.result _ _
    (λ (r : Command) (adds : AddsArg c.in_ok-command-2.command c.names-names.result r). adds.shape c.names-names.ensures.local ∙ ap₂ with_rule el_part c.names-names.ensures.rule) c.arg-3.ensures

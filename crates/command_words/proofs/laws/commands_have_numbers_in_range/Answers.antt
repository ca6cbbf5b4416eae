use Rattle.command_words.proofs.RangeLaws.{commands_in_range}
use Rattle.command_words.proofs.laws.commands_have_numbers_in_range.Goals as goal

pub returns : goal.returns
returns c = commands_in_range

use Rattle.ofn_term.proofs.TextLaws.{one_list_stands}
use Rattle.ofn_term.proofs.laws.tokens_have_one_list_of_items.Goals as goal

pub returns : goal.returns
returns c = one_list_stands

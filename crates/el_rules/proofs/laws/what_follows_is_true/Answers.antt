use Rattle.el_rules.proofs.Followed.{true_item}
use Rattle.el_rules.proofs.laws.what_follows_is_true.Goals as goal

pub returns : goal.returns
returns c nodes theory part ranks m items item model each held =
    true_item nodes theory part ranks m model items each item held

use Rattle.std.proofs.Common.{Contains}
use Rattle.std.proofs.lemmas.List.Elements.{All-contains}
use Rattle.el_rules.specs.Truth.{IsTrueIn}
use Rattle.el_rules.proofs.Sound.{sound_rule}
use Rattle.el_rules.proofs.laws.rules_keep_facts_true.Goals as goal

pub returns : goal.returns
returns c nodes axioms m ones twos rule fact model true_ones true_twos given =
    sound_rule nodes (Contains axioms) m model (Contains ones) (Contains twos)
    (λ one held. All-contains (IsTrueIn m) ones one true_ones held) (λ two held. All-contains (IsTrueIn m) twos two true_twos held) rule fact given

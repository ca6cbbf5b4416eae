use Rattle.ofn_axiom.proofs.ChainLaws.{chain_read, chain_stands}
use Rattle.ofn_axiom.proofs.laws.chains_are_what_stands_for_them.Goals as goal

pub returns : goal.returns
returns c = record { read = λ text prefixes item iris is. (chain_read text prefixes item iris is).0; stands = chain_stands }

use Rattle.ofn_axiom.proofs.AxiomLaws.{axiom_read}
use Rattle.ofn_axiom.proofs.AxiomBack.{axiom_stands}
use Rattle.ofn_axiom.proofs.laws.axioms_are_what_states_them.Goals as goal

pub returns : goal.returns
returns c = record { read = axiom_read; stands = axiom_stands }

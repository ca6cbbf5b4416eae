use Rattle.el_logic.proofs.laws.a_model_with_members_shows_coherence.Goals as goal

pub returns : goal.returns
returns c classes roles axioms i model members = λ broken. let m = members broken.0 broken.1 in broken.2 i model m.0 m.1

use Rattle.ofn_lex.proofs.ByteForms.{form_of_bytes}
use Rattle.ofn_lex.proofs.CharacterForms.{form_of_characters}
use Rattle.ofn_lex.proofs.laws.forms_are_the_same_for_characters_and_bytes.Goals as goal

pub returns-clause-bytes : goal.returns-clause-bytes
returns-clause-bytes c = form_of_bytes

pub returns-clause-characters : goal.returns-clause-characters
returns-clause-characters c = form_of_characters
